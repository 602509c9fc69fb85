-- Calls that change files alone, or cells, keep a machine.
use Rattle.std.proofs.Common.{◌≡◌, ◌≢◌, ◌⊎◌, inl, inr, ℕ, ◌+◌, ◌-◌, ◌<◌, ◌≤◌, Bool, true, false, not, List, [], ◌∷◌, map, Option, Some, None, refl, sym, ◌∙◌, ap, subst, arith, eqb}
use Rattle.std.specs.Prelude.{nat_lt, ◌==◌, if◌then◌else◌}
use Rattle.std.specs.Option.{option_map_or}
use Rattle.std.specs.List.{AllByRecursion}
use Rattle.std.proofs.lemmas.Bool.{ne_eqb, true≢false, ltb-false}
use Rattle.std.proofs.lemmas.Bool.{cases_eq}
use Rattle.std.proofs.lemmas.Option.{same_Some}
use Rattle.labelled_disk.specs.Ascending.{AreAscending}
use Rattle.flat_machine.specs.declared.call.Call.TheVariants.{Delete, SetSize, MakePermanent, MakeImmutable, Kill}
use Rattle.flat_machine.specs.declared.call.Refusal.TheVariants as why
use Rattle.flat_machine.specs.File.{File, size, file_at, total_room}
use Rattle.flat_machine.specs.Space.{Space, Window, space_at}
use Rattle.flat_machine.specs.Machine.{Machine, IsFile, used}
use Rattle.flat_machine.specs.IsMachine.{IsMachine}
use Rattle.flat_machine.specs.At.{Spot, spot_at}
use Rattle.flat_machine.specs.Refusal.{refusal, no_file, file_mapped, is_immutable, cut_while_mapped, no_room_as}
use Rattle.flat_machine.specs.Next.{next, change_file, without_file, resized, with_byte, store_byte, store_bytes, killed_file}
use Rattle.flat_machine.proofs.Lists.{In, filter_in, looked_up, look_up, not_any, ascending_filter}
use Rattle.flat_machine.proofs.TestLemmas.{one_none, two_none, four_none, then_none, file_there, of_file_none, windows_fail, not_shown, none_anonymous}
use Rattle.flat_machine.proofs.FileLemmas.{Follows, fewer_files, changed_files, found_changed, same_room, one_id, changed_here, unchanged, room_of_one}
use Rattle.flat_machine.proofs.Cells.{resized_size, resized_file, byte_size, byte_file, killed_size, killed_is_file}
use Rattle.std.specs.Bool.{then_some}
use Rattle.flat_machine.proofs.Keep.{files_of, refused_or, at_there, relinked, with_files}

pub follows_self : (w : Window) (f : File) → Follows w f f
follows_self w f = record { size = omega arith; immutable = λ t e. e; permanent = λ t e. e }

-- delete

pub left_at : (fs : List File) (id j : ℕ) → AreAscending fs → j ≢ id → (f : File) → file_at fs j ≡ Some f → file_at (without_file id fs) j ≡ Some f
left_at fs id j rise n f is =
    let at = looked_up (λ x. x.id) fs j f is in
    let kept = λ (x : File). not (x.id == id) in
    let stays : eqb f.id id ≡ false = ne_eqb f.id id (λ e. n (sym at.1 ∙ e)) in
    look_up (λ x. x.id) (without_file id fs) (ascending_filter (λ x. x.id) kept fs rise) f (filter_in kept fs f at.0 (ap not stays)) j at.1

pub delete_keeps : (id : ℕ) (m : Machine) → IsMachine m → IsMachine (next m (Delete id))
delete_keeps id m h = refused_or m (Delete id) h kept
  where
    kept : refusal m (Delete id) ≡ None → IsMachine (record m { files = without_file id m.files })
    kept e =
        let tests = two_none (no_file m id) (file_mapped m id (λ w. true)) e in
        with_files m (without_file id m.files) (fewer_files m.serial m.counter m.capacity (λ f. not (f.id == id)) m.files (files_of m h))
        (relinked m.files (without_file id m.files) m.spaces h.whole_windows
        (λ s w i is f found. (f, left_at m.files id w.file h.ids_rise (not_shown m id tests.1 s w i is) f found, follows_self w f))) h

-- One file is changed.

pub one_file_changed : (m : Machine) (id : ℕ) (c : File → File) (f : File) → ((x : File) → (c x).id ≡ x.id) → ((x : File) → IsFile x → IsFile (c x))
    → file_at m.files id ≡ Some f → total_room m.files + size (c f) ≤ m.capacity + size f
    → ((s : Space) (w : Window) → In s m.spaces → s.window ≡ Some w → w.file ≡ id → Follows w f (c f))
    → IsMachine m → IsMachine (record m { files = change_file id c m.files })
one_file_changed m id c f ids whole is room follow h =
    let g : File → File = λ x. if x.id == id then c x else x in
    with_files m (change_file id c m.files)
    (changed_files m.serial m.counter m.capacity g (one_id id c ids) m.files (λ x i w. kept x w (x.id == id)) (omega (arith, room_of_one id c ids m.files f h.ids_rise is, room)) (files_of m h))
    (relinked m.files (change_file id c m.files) m.spaces h.whole_windows
    (λ s w i e x found. (g x, found_changed g (one_id id c ids) m.files w.file x found, to s w i e x found (cases_eq w.file id)))) h
  where
    kept : (x : File) → IsFile x → (b : Bool) → IsFile (if b then c x else x)
    kept x w true = whole x w
    kept x w false = w

    to : (s : Space) (w : Window) → In s m.spaces → s.window ≡ Some w → (x : File) → file_at m.files w.file ≡ Some x → (w.file ≡ id) ⊎ (w.file ≢ id)
        → Follows w x (if x.id == id then c x else x)
    to s w i e x found (inl q) =
        let same : f ≡ x = same_Some f x (sym is ∙ ap (λ (n : ℕ). file_at m.files n) (sym q) ∙ found) in
        let here = changed_here id c x ((looked_up (λ y. y.id) m.files w.file x found).1 ∙ q) in
        subst (λ (y : File). Follows w x y) (sym here) (subst (λ (y : File). Follows w y (c y)) same (follow s w i e q))
    to s w i e x found (inr n) =
        let there = unchanged id c x (λ q. n (sym (looked_up (λ y. y.id) m.files w.file x found).1 ∙ q)) in
        subst (λ (y : File). Follows w x y) (sym there) (follows_self w x)

-- permanent, immutable

pub permanent_keeps : (id : ℕ) (m : Machine) → IsMachine m → IsMachine (next m (MakePermanent id))
permanent_keeps id m h = refused_or m (MakePermanent id) h kept
  where
    kept : refusal m (MakePermanent id) ≡ None → IsMachine (record m { files = change_file id (λ f. record f { permanent = true }) m.files })
    kept e =
        let there = file_there m id (one_none (no_file m id) e) in
        let none = none_anonymous m.spaces id (not_any _ m.spaces there.2) in
        one_file_changed m id (λ f. record f { permanent = true }) there.0 (λ x. refl)
        (λ x w. record { kind_fits = w.kind_fits; whole_pages = w.whole_pages; cells = w.cells }) there.1 (omega (arith, h.room))
        (λ s w i is q. record { size = omega arith; immutable = λ t z. z; permanent = λ t z. absurd (true≢false (sym t ∙ none s w i is q)) }) h

pub immutable_keeps : (id : ℕ) (m : Machine) → IsMachine m → IsMachine (next m (MakeImmutable id))
immutable_keeps id m h = refused_or m (MakeImmutable id) h kept
  where
    kept : refusal m (MakeImmutable id) ≡ None → IsMachine (record m { files = change_file id (λ f. record f { immutable = true }) m.files })
    kept e =
        let tests = two_none (no_file m id) (file_mapped m id (λ w. w.writable)) e in
        let there = file_there m id tests.0 in
        one_file_changed m id (λ f. record f { immutable = true }) there.0 (λ x. refl)
        (λ x w. record { kind_fits = w.kind_fits; whole_pages = w.whole_pages; cells = w.cells }) there.1 (omega (arith, h.room))
        (λ s w i is q. record { size = omega arith; immutable = λ t z. absurd (true≢false (sym t ∙ windows_fail m id (λ v. v.writable) tests.1 s w i is q)); permanent = λ t z. z }) h

-- setsize

pub size_keeps : (id pages : ℕ) (m : Machine) → IsMachine m → IsMachine (next m (SetSize id pages))
size_keeps id pages m h = refused_or m (SetSize id pages) h kept
  where
    -- a file that windows show is not cut
    no_cut : (f : File) → (if nat_lt pages (size f) then file_mapped m id (λ w. true) else None) ≡ None
        → (s : Space) (w : Window) → In s m.spaces → s.window ≡ Some w → w.file ≡ id → size f ≤ pages
    no_cut f e s w i is q = either (nat_lt pages (size f)) refl e
      where
        either : (b : Bool) → nat_lt pages (size f) ≡ b → (if b then file_mapped m id (λ w. true) else None) ≡ None → size f ≤ pages
        either true t e = absurd (not_shown m id e s w i is q)
        either false t e = ltb-false pages (size f) t

    kept : refusal m (SetSize id pages) ≡ None → IsMachine (record m { files = change_file id (resized pages) m.files })
    kept e =
        let tests = four_none (no_file m id) (is_immutable m id) (cut_while_mapped m id pages) (no_room_as m id pages) e in
        let there = file_there m id tests.0 in
        let f : File = there.0 in
        let cut = of_file_none m id (λ x. if nat_lt pages (size x) then file_mapped m id (λ w. true) else None) f there.1 tests.2 in
        let room = ltb-false m.capacity (used m + pages - size f) (then_none (nat_lt m.capacity (used m + pages - size f)) why.Full
        (of_file_none m id (λ x. then_some (nat_lt m.capacity (used m + pages - size x)) why.Full) f there.1 tests.3)) in
        let long : size (resized pages f) ≡ pages = resized_size pages f in
        one_file_changed m id (resized pages) f (λ x. refl) (resized_file pages) there.1 (omega (arith, room, long, h.room))
        (λ s w i is q. record { size = omega (arith, no_cut f cut s w i is q, long); immutable = λ t z. z; permanent = λ t z. z }) h

-- All files are changed, and keep their sizes and marks.

pub all_files_changed : (m : Machine) (g : File → File) → ((f : File) → (g f).id ≡ f.id) → ((f : File) → size (g f) ≡ size f)
    → ((f : File) → (g f).immutable ≡ f.immutable) → ((f : File) → (g f).permanent ≡ f.permanent) → ((f : File) → IsFile f → IsFile (g f))
    → IsMachine m → IsMachine (record m { files = map g m.files })
all_files_changed m g ids sizes immutable permanent whole h =
    with_files m (map g m.files)
    (changed_files m.serial m.counter m.capacity g ids m.files (λ f i w. whole f w) (omega (arith, same_room g sizes m.files, h.room)) (files_of m h))
    (relinked m.files (map g m.files) m.spaces h.whole_windows
    (λ s w i e f found. (
      g f,
      found_changed g ids m.files w.file f found,
      record {
        size = omega (arith, sizes f);
        immutable = λ t z. immutable f ∙ z;
        permanent = λ t z. permanent f ∙ z;
      },
    ))) h

pub kill_keeps : (space : ℕ) (m : Machine) → IsMachine m → IsMachine (next m (Kill space))
kill_keeps space m h = refused_or m (Kill space) h (λ e. at_there m (space_at m.spaces space) (λ s. record m { files = map (killed_file m.spaces s) m.files }) h
    (λ s there. all_files_changed m (killed_file m.spaces s) (λ f. refl) (killed_size m.spaces s) (λ f. refl) (λ f. refl) (killed_is_file m.spaces s) h))

-- the bytes of a store

stored_byte : (m : Machine) (spot : Spot) (b : ℕ) → b < 256 → IsMachine m → IsMachine (record m { files = change_file spot.file (with_byte spot b) m.files })
stored_byte m spot b fits h =
    all_files_changed m (λ f. if f.id == spot.file then with_byte spot b f else f) (one_id spot.file (with_byte spot b) (λ f. refl))
    (λ f. sizes f (f.id == spot.file)) (λ f. immutable f (f.id == spot.file)) (λ f. permanent f (f.id == spot.file)) (λ f w. whole f w (f.id == spot.file)) h
  where
    sizes : (f : File) (c : Bool) → size (if c then with_byte spot b f else f) ≡ size f
    sizes f true = byte_size spot b f
    sizes f false = refl

    immutable : (f : File) (c : Bool) → (if c then with_byte spot b f else f).immutable ≡ f.immutable
    immutable f true = refl
    immutable f false = refl

    permanent : (f : File) (c : Bool) → (if c then with_byte spot b f else f).permanent ≡ f.permanent
    permanent f true = refl
    permanent f false = refl

    whole : (f : File) → IsFile f → (c : Bool) → IsFile (if c then with_byte spot b f else f)
    whole f w true = byte_file spot b f fits w
    whole f w false = w

pub stored_bytes : (ss : List Space) (bytes : List ℕ) (address : ℕ) (m : Machine) → AllByRecursion (λ b. b < 256) bytes → IsMachine m
    → IsMachine (record m { files = store_bytes ss address bytes m.files })
stored_bytes ss [] address m fit h = h
stored_bytes ss (b ∷ bs) address m fit h =
    stored_bytes ss bs (address + 1) (record m { files = store_byte ss address b m.files }) fit.1 (either (spot_at ss address))
  where
    either : (o : Option Spot) → IsMachine (record m { files = option_map_or (λ spot. change_file spot.file (with_byte spot b) m.files) o m.files })
    either None = h
    either (Some spot) = stored_byte m spot b fit.0 h
