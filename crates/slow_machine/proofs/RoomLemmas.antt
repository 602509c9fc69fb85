-- The sectors of all files, before and after a change.
use Rattle.std.proofs.Common.{◌≡◌, ℕ, zero, suc, ◌+◌, ◌<◌, ◌≤◌, Bool, true, false, cond, List, [], ◌∷◌, map, filter, length, replicate, Option, Some, None, refl, sym, ◌∙◌, ap, subst, arith, Bor, length-set}
use Rattle.std.specs.Prelude.{nat_lt, fold, IfSome, ◌==◌, if◌then◌else◌, option_copied}
use Rattle.std.specs.Option.{option_map_or}
use Rattle.flat_machine.specs.File.{File, Page, size, room_of, total_room, file_at, put_file, any_page}
use Rattle.flat_machine.specs.declared.space.Space.{Space}
use Rattle.flat_machine.specs.declared.space.Window.{Window}
use Rattle.flat_machine.specs.At.{Spot, spot_at}
use Rattle.flat_machine.specs.Next.{change_file, without_file, with_byte, store_byte, store_bytes, killed_file, without_anonymous}
use Rattle.std.specs.List.{enumerate_from}

-- the sectors of the files, counted from a on
abbrev pub room_from : ℕ → List File → ℕ
room_from a fs = fold (λ n f. n + room_of f) a fs

pub from_more : (fs : List File) (a b : ℕ) → room_from (a + b) fs ≡ room_from a fs + b
from_more [] a b = refl
from_more (f ∷ fs) a b =
    let e : a + b + room_of f ≡ a + room_of f + b = omega arith in
    ap (λ n. room_from n fs) e ∙ from_more fs (a + room_of f) b

-- A file that is put in.

put_from : (file : File) (fs : List File) (a : ℕ) → room_from a (put_file file fs) ≤ room_from a fs + room_of file
put_from file [] a = omega arith
put_from file (f ∷ fs) a = either (nat_lt file.id f.id) (file.id == f.id) (put_from file fs (a + room_of f))
  where
    either : (b c : Bool) → room_from (a + room_of f) (put_file file fs) ≤ room_from (a + room_of f) fs + room_of file
        → room_from a (cond b (file ∷ f ∷ fs) (cond c (file ∷ fs) (f ∷ put_file file fs))) ≤ room_from (a + room_of f) fs + room_of file
    either true c h =
        let q : a + room_of file + room_of f ≡ a + room_of f + room_of file = omega arith in
        let e : room_from (a + room_of file + room_of f) fs ≡ room_from (a + room_of f) fs + room_of file = ap (λ n. room_from n fs) q ∙ from_more fs (a + room_of f) (room_of file) in
        omega (arith, e)
    either false true h = omega (arith, from_more fs a (room_of file), from_more fs a (room_of f))
    either false false h = h

pub room_put : (file : File) (fs : List File) (pages capacity : ℕ) → size file ≡ pages → total_room fs + (pages + 1) ≤ capacity
    → total_room (put_file file fs) ≤ capacity
room_put file fs pages capacity e h = omega (arith, put_from file fs 0, e, h)

pub replicated : {X : Type 0} (x : X) (n : ℕ) → length (replicate n x) ≡ n
replicated x zero = refl
replicated x (suc n) = ap suc (replicated x n)

-- Files that go.

sum_grows : (fs : List File) (a b : ℕ) → a ≤ b → room_from a fs ≤ room_from b fs
sum_grows [] a b h = h
sum_grows (f ∷ fs) a b h = sum_grows fs (a + room_of f) (b + room_of f) (omega arith)

sum_filter : (p : File → Bool) (fs : List File) (a : ℕ) → room_from a (filter p fs) ≤ room_from a fs
sum_filter p [] a = omega arith
sum_filter p (f ∷ fs) a = kept (p f) (sum_filter p fs (a + room_of f)) (sum_filter p fs a)
  where
    kept : (b : Bool) → room_from (a + room_of f) (filter p fs) ≤ room_from (a + room_of f) fs → room_from a (filter p fs) ≤ room_from a fs
        → room_from a (cond b (f ∷ filter p fs) (filter p fs)) ≤ room_from (a + room_of f) fs
    kept true l r = l
    kept false l r = let more : room_from a fs ≤ room_from (a + room_of f) fs = sum_grows fs a (a + room_of f) (omega arith) in omega (arith, r, more)

pub room_filter : (p : File → Bool) (fs : List File) (capacity : ℕ) → total_room fs ≤ capacity → total_room (filter p fs) ≤ capacity
room_filter p fs capacity h = omega (arith, sum_filter p fs 0, h)

-- Files that keep their sizes.

same_from : (g : File → File) → ((f : File) → size (g f) ≡ size f) → (fs : List File) (a : ℕ) → room_from a (map g fs) ≡ room_from a fs
same_from g k [] a = refl
same_from g k (f ∷ fs) a = ap (λ n. room_from (a + (n + 1)) (map g fs)) (k f) ∙ same_from g k fs (a + room_of f)

pub room_map : (g : File → File) → ((f : File) → size (g f) ≡ size f) → (fs : List File) → total_room (map g fs) ≡ total_room fs
room_map g k fs = same_from g k fs 0

pub one_changed : (id : ℕ) (g : File → File) → ((f : File) → size (g f) ≡ size f) → (f : File) → size (if f.id == id then g f else f) ≡ size f
one_changed id g k f = either (f.id == id)
  where
    either : (b : Bool) → size (cond b (g f) f) ≡ size f
    either true = k f
    either false = refl

byte_size : (spot : Spot) (b : ℕ) (f : File) → size (with_byte spot b f) ≡ size f
byte_size spot b f = length-set f.pages spot.page _

byte_room : (o : Option Spot) (b : ℕ) (fs : List File) → total_room (option_map_or (λ spot. change_file spot.file (with_byte spot b) fs) o fs) ≡ total_room fs
byte_room None b fs = refl
byte_room (Some spot) b fs = room_map _ (one_changed spot.file (with_byte spot b) (byte_size spot b)) fs

stored : (spaces : List Space) (address : ℕ) (bytes : List ℕ) (fs : List File) → total_room (store_bytes spaces address bytes fs) ≡ total_room fs
stored spaces address [] fs = refl
stored spaces address (b ∷ bs) fs = stored spaces (address + 1) bs (store_byte spaces address b fs) ∙ byte_room (spot_at spaces address) b fs

pub room_stored : (spaces : List Space) (address : ℕ) (bytes : List ℕ) (fs : List File) (capacity : ℕ) → total_room fs ≤ capacity
    → total_room (store_bytes spaces address bytes fs) ≤ capacity
room_stored spaces address bytes fs capacity h = omega (arith, stored spaces address bytes fs, h)

pub room_changed : (id : ℕ) (g : File → File) → ((f : File) → size (g f) ≡ size f) → (fs : List File) (capacity : ℕ) → total_room fs ≤ capacity
    → total_room (change_file id g fs) ≤ capacity
room_changed id g k fs capacity h = omega (arith, room_map (λ f. if f.id == id then g f else f) (one_changed id g k) fs, h)

same_length : (test : ℕ → Bool) (n : ℕ) (ps : List Page) → length (map (λ e. if test e.0 then any_page else e.1) (enumerate_from n ps)) ≡ length ps
same_length test n [] = refl
same_length test n (p ∷ ps) = ap suc (same_length test (n + 1) ps)

pub room_killed : (ss : List Space) (range : Space) (fs : List File) (capacity : ℕ) → total_room fs ≤ capacity
    → total_room (map (killed_file ss range) fs) ≤ capacity
room_killed ss range fs capacity h = omega (arith, room_map (killed_file ss range) (λ f. same_length _ 0 f.pages) fs, h)

pub room_without : (o : Option Window) (fs : List File) (capacity : ℕ) → total_room fs ≤ capacity
    → total_room (option_map_or (λ w. without_anonymous w fs) o fs) ≤ capacity
room_without None fs capacity h = h
room_without (Some w) fs capacity h = either w.anonymous
  where
    either : (b : Bool) → total_room (cond b (without_file w.file fs) fs) ≤ capacity
    either true = room_filter _ fs capacity h
    either false = h

-- A file that is found.

at_least : (gs : List File) (b : ℕ) → b ≤ room_from b gs
at_least [] b = omega arith
at_least (g ∷ gs) b = omega (arith, at_least gs (b + room_of g))

found_from : (fs : List File) (id a : ℕ) → IfSome (file_at fs id) (λ f. size f + a ≤ room_from a fs)
found_from [] id a = tt
found_from (f ∷ fs) id a = either (f.id == id) (found_from fs id (a + room_of f))
  where
    either : (b : Bool) → IfSome (file_at fs id) (λ g. size g + (a + room_of f) ≤ room_from (a + room_of f) fs)
        → IfSome (cond b (Some f) (file_at fs id)) (λ g. size g + a ≤ room_from (a + room_of f) fs)
    either true h = omega (arith, at_least fs (a + room_of f))
    either false h = weaken (file_at fs id) h
      where
        weaken : (o : Option File) → IfSome o (λ g. size g + (a + room_of f) ≤ room_from (a + room_of f) fs) → IfSome o (λ g. size g + a ≤ room_from (a + room_of f) fs)
        weaken None k = tt
        weaken (Some g) k = omega arith

pub found_size : (fs : List File) (id : ℕ) (f : File) → file_at fs id ≡ Some f → size f ≤ total_room fs
found_size fs id f e = let P : Option File → Type 0 = λ o. IfSome o (λ g. size g + 0 ≤ total_room fs) in
    let h : size f + 0 ≤ total_room fs = subst P e (found_from fs id 0) in omega arith

-- what a look-up lends is no larger than all files together
pub small_if : (r : Option (Bor File)) (fs : List File) (id limit : ℕ) → option_copied r ≡ file_at fs id → total_room fs < limit → IfSome r (λ f. size f.now < limit)
small_if None fs id limit e h = tt
small_if (Some f) fs id limit e h = omega (arith, found_size fs id f.now (sym e))

-- The same of a list that is the changed one.

pub room_stored_by : (gs : List File) (spaces : List Space) (address : ℕ) (bytes : List ℕ) (fs : List File) (capacity : ℕ)
    → gs ≡ store_bytes spaces address bytes fs → total_room fs ≤ capacity → total_room gs ≤ capacity
room_stored_by gs spaces address bytes fs capacity e h = subst (λ (l : List File). total_room l ≤ capacity) (sym e) (room_stored spaces address bytes fs capacity h)

pub room_killed_by : (gs : List File) (ss : List Space) (range : Space) (fs : List File) (capacity : ℕ)
    → gs ≡ map (killed_file ss range) fs → total_room fs ≤ capacity → total_room gs ≤ capacity
room_killed_by gs ss range fs capacity e h = subst (λ (l : List File). total_room l ≤ capacity) (sym e) (room_killed ss range fs capacity h)
