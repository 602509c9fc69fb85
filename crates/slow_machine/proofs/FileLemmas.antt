-- Files stay in ascending identifiers, and within the capacity.
use Rattle.std.proofs.Common.{◌≡◌, ℕ, zero, suc, ◌+◌, ◌-◌, ◌<◌, ◌≤◌, Bool, true, false, cond, List, [], ◌∷◌, ◌++◌, map, filter, length, take, replicate, Option, Some, None, refl, sym, ap, subst, arith}
use Rattle.std.proofs.lemmas.Bool.Decides.{nat_tests}
use Rattle.std.specs.Prelude.{nat_lt, IfSome, is_none, option_and_then, ◌==◌, if◌then◌else◌}
use Rattle.std.specs.List.{AllByRecursion}
use Rattle.std.specs.Bool.{then_some}
use Rattle.std.specs.Option.{option_map_or}
use Rattle.labelled_disk.specs.Ascending.{AreAscending}
use Rattle.flat_machine.specs.declared.call.Call.TheVariants.{SetSize}
use Rattle.flat_machine.specs.declared.call.Refusal.TheVariants as why
use Rattle.flat_machine.specs.File.{File, Page, size, room_of, total_room, file_at, zero_page}
use Rattle.flat_machine.specs.declared.space.Space.{Space}
use Rattle.flat_machine.specs.declared.space.Window.{Window}
use Rattle.flat_machine.specs.At.{Spot, spot_at}
use Rattle.flat_machine.specs.Machine.{Machine, is_anonymous}
use Rattle.flat_machine.specs.Refusal.{Test, first_of, refusal, no_file, is_immutable, cut_while_mapped, no_room_as}
use Rattle.flat_machine.specs.Next.{change_file, without_file, resized, with_byte, store_byte, store_bytes, killed_file, without_anonymous}
use Rattle.slow_machine.proofs.RoomLemmas.{room_from, from_more, replicated}

-- Ascending order.

same_ids : (g : File → File) → ((f : File) → (g f).id ≡ f.id) → (fs : List File) → map (λ f. f.id) (map g fs) ≡ map (λ f. f.id) fs
same_ids g k [] = refl
same_ids g k (f ∷ fs) = λ t. k f t ∷ same_ids g k fs t

pub ascending_map : (g : File → File) → ((f : File) → (g f).id ≡ f.id) → (fs : List File) → AreAscending fs → AreAscending (map g fs)
ascending_map g k fs h = rw (same_ids g k fs) h

pub one_id : (id : ℕ) (g : File → File) → ((f : File) → (g f).id ≡ f.id) → (f : File) → (if f.id == id then g f else f).id ≡ f.id
one_id id g k f = either (f.id == id)
  where
    either : (b : Bool) → (cond b (g f) f).id ≡ f.id
    either true = k f
    either false = refl

above_filter : (p : File → Bool) (low : ℕ) (fs : List File) → AllByRecursion (λ y. low < y) (map (λ f. f.id) fs) → AllByRecursion (λ y. low < y) (map (λ f. f.id) (filter p fs))
above_filter p low [] h = tt
above_filter p low (f ∷ fs) h = kept (p f) (above_filter p low fs h.1)
  where
    kept : (b : Bool) → AllByRecursion (λ y. low < y) (map (λ f. f.id) (filter p fs)) → AllByRecursion (λ y. low < y) (map (λ f. f.id) (cond b (f ∷ filter p fs) (filter p fs)))
    kept true t = (h.0, t)
    kept false t = t

pub ascending_filter : (p : File → Bool) (fs : List File) → AreAscending fs → AreAscending (filter p fs)
ascending_filter p [] h = tt
ascending_filter p (f ∷ fs) h = kept (p f) (ascending_filter p fs h.1)
  where
    kept : (b : Bool) → AreAscending (filter p fs) → AreAscending (cond b (f ∷ filter p fs) (filter p fs))
    kept true t = (above_filter p f.id fs h.0, t)
    kept false t = t

pub ascending_changed : (id : ℕ) (g : File → File) → ((f : File) → (g f).id ≡ f.id) → (fs : List File) → AreAscending fs → AreAscending (change_file id g fs)
ascending_changed id g k fs h = ascending_map (λ f. if f.id == id then g f else f) (one_id id g k) fs h

pub ascending_killed : (ss : List Space) (range : Space) (fs : List File) → AreAscending fs → AreAscending (map (killed_file ss range) fs)
ascending_killed ss range fs h = ascending_map (killed_file ss range) (λ f. refl) fs h

pub ascending_without : (o : Option Window) (fs : List File) → AreAscending fs → AreAscending (option_map_or (λ w. without_anonymous w fs) o fs)
ascending_without None fs h = h
ascending_without (Some w) fs h = either w.anonymous
  where
    either : (b : Bool) → AreAscending (cond b (without_file w.file fs) fs)
    either true = ascending_filter _ fs h
    either false = h

byte_ascending : (o : Option Spot) (b : ℕ) (fs : List File) → AreAscending fs → AreAscending (option_map_or (λ spot. change_file spot.file (with_byte spot b) fs) o fs)
byte_ascending None b fs h = h
byte_ascending (Some spot) b fs h = ascending_map _ (one_id spot.file (with_byte spot b) (λ f. refl)) fs h

pub ascending_stored : (spaces : List Space) (address : ℕ) (bytes : List ℕ) (fs : List File) → AreAscending fs → AreAscending (store_bytes spaces address bytes fs)
ascending_stored spaces address [] fs h = h
ascending_stored spaces address (b ∷ bs) fs h = ascending_stored spaces (address + 1) bs (store_byte spaces address b fs) (byte_ascending (spot_at spaces address) b fs h)

-- A file that gets another size.

size_resized : (n : ℕ) (ps : List Page) → length (take n ps ++ replicate (n - length ps) zero_page) ≡ n
size_resized zero [] = refl
size_resized zero (p ∷ ps) = let e : 0 - suc (length ps) ≡ 0 = omega arith in rw e refl
size_resized (suc n) [] = let e : suc n - 0 ≡ suc n = omega arith in rw e (replicated zero_page (suc n))
size_resized (suc n) (p ∷ ps) = let e : suc n - suc (length ps) ≡ n - length ps = omega arith in rw e (ap suc (size_resized n ps))

other_above : (id low y : ℕ) → id ≤ low → low < y → y == id ≡ false
other_above id low y l h = grind (arith, nat_tests)

none_above : (id low : ℕ) (g : File → File) (fs : List File) → id ≤ low → AllByRecursion (λ y. low < y) (map (λ f. f.id) fs) → change_file id g fs ≡ fs
none_above id low g [] l h = refl
none_above id low g (f ∷ fs) l h = rw (other_above id low f.id l h.0) (ap (λ r. f ∷ r) (none_above id low g fs l h.1))

id_of : (a b : ℕ) → a == b ≡ true → b ≤ a
id_of a b e = grind (arith, nat_tests)

resized_from : (id pages : ℕ) (fs : List File) (a : ℕ) → AreAscending fs
    → IfSome (file_at fs id) (λ f. room_from a (change_file id (resized pages) fs) + size f ≡ room_from a fs + pages)
resized_from id pages [] a r = tt
resized_from id pages (f ∷ fs) a r = either (f.id == id) refl (resized_from id pages fs (a + room_of f) r.1)
  where
    either : (b : Bool) → f.id == id ≡ b
        → IfSome (file_at fs id) (λ g. room_from (a + room_of f) (change_file id (resized pages) fs) + size g ≡ room_from (a + room_of f) fs + pages)
        → IfSome (cond b (Some f) (file_at fs id)) (λ g. room_from (a + room_of (cond b (resized pages f) f)) (change_file id (resized pages) fs) + size g ≡ room_from (a + room_of f) fs + pages)
    either true e h =
        let rest : change_file id (resized pages) fs ≡ fs = none_above id f.id (resized pages) fs (id_of f.id id e) r.0 in
        rw rest (omega (arith, from_more fs a (room_of (resized pages f)), from_more fs a (room_of f), size_resized pages f.pages))
    either false e h = h

four_none : (a b c d : Test) → first_of (a ∷ b ∷ c ∷ d ∷ []) ≡ None → (a ≡ None) × (b ≡ None) × (c ≡ None) × (d ≡ None)
four_none None None None None e = (refl, refl, refl, refl)
four_none (Some w) b c d e = absurd (cc)
four_none None (Some w) c d e = absurd (cc)
four_none None None (Some w) d e = absurd (cc)
four_none None None None (Some w) e = absurd (cc)

pub fits_none : (n capacity : ℕ) → then_some (nat_lt capacity n) why.Full ≡ None → n ≤ capacity
fits_none n capacity e = either (nat_lt capacity n) refl e
  where
    either : (b : Bool) → nat_lt capacity n ≡ b → then_some b why.Full ≡ None → n ≤ capacity
    either true t g = absurd (cc)
    either false t g = grind (arith, nat_tests)

named : (b : Bool) (o : Option File) → then_some (is_none (if b then None else o)) why.File ≡ None → (o ≡ None → ⊥)
named true None e n = cc
named true (Some f) e n = cc
named false None e n = cc
named false (Some f) e n = cc

pub room_resized : (m : Machine) (id pages : ℕ) → AreAscending m.files → refusal m (SetSize id pages) ≡ None
    → total_room (change_file id (resized pages) m.files) ≤ m.capacity
room_resized m id pages r e =
    let p = four_none (no_file m id) (is_immutable m id) (cut_while_mapped m id pages) (no_room_as m id pages) e in
    found (file_at m.files id) refl (named (is_anonymous m.spaces id) (file_at m.files id) p.0) p.3 (resized_from id pages m.files 0 r)
  where
    found : (o : Option File) → file_at m.files id ≡ o → (o ≡ None → ⊥)
        → option_and_then (λ f. then_some (nat_lt m.capacity (total_room m.files + pages - size f)) why.Full) o ≡ None
        → IfSome o (λ f. total_room (change_file id (resized pages) m.files) + size f ≡ total_room m.files + pages)
        → total_room (change_file id (resized pages) m.files) ≤ m.capacity
    found None q n f h = absurd (n refl)
    found (Some f) q n k h = omega (arith, fits_none _ _ k, h)

-- The same of a list that is the changed one.

pub ascending_stored_by : (gs : List File) (spaces : List Space) (address : ℕ) (bytes : List ℕ) (fs : List File)
    → gs ≡ store_bytes spaces address bytes fs → AreAscending fs → AreAscending gs
ascending_stored_by gs spaces address bytes fs e h = subst (λ (l : List File). AreAscending l) (sym e) (ascending_stored spaces address bytes fs h)

pub ascending_killed_by : (gs : List File) (ss : List Space) (range : Space) (fs : List File)
    → gs ≡ map (killed_file ss range) fs → AreAscending fs → AreAscending gs
ascending_killed_by gs ss range fs e h = subst (λ (l : List File). AreAscending l) (sym e) (ascending_killed ss range fs h)

pub ascending_resized_by : (gs : List File) (id pages : ℕ) (fs : List File) → gs ≡ change_file id (resized pages) fs → AreAscending fs → AreAscending gs
ascending_resized_by gs id pages fs e h = subst (λ (l : List File). AreAscending l) (sym e) (ascending_changed id (resized pages) (λ f. refl) fs h)

pub room_resized_by : (n m : Machine) (gs : List File) (id pages : ℕ) → n ≡ m → gs ≡ change_file id (resized pages) n.files → AreAscending n.files
    → refusal m (SetSize id pages) ≡ None → total_room gs ≤ n.capacity
room_resized_by n m gs id pages v e h r =
    let k : refusal n (SetSize id pages) ≡ None = subst (λ (l : Machine). refusal l (SetSize id pages) ≡ None) (sym v) r in
    subst (λ (l : List File). total_room l ≤ n.capacity) (sym e) (room_resized n id pages h k)
