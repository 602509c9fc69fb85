-- The laws of writes, for permanent files or for all.
use Rattle.std.proofs.Common.{◌≡◌, ◌≢◌, ◌⊎◌, inl, inr, ℕ, zero, suc, ◌+◌, ◌-◌, ◌<◌, ◌≤◌, Bool, true, false, ◌&&◌, cond, List, [], ◌∷◌, map, length, Option, Some, None, refl, sym, ◌∙◌, ap, subst, arith, eqb, ◌/◌, ◌%◌, ◌^◌, take, drop, length-set, ◌++◌, ◌||◌}
use Rattle.std.specs.Prelude.{slice_get, slice_set, find, option_map, if◌then◌else◌, nat_le, nat_lt, not}
use Rattle.std.proofs.lemmas.Option.{same_Some, none-some, slice_get_within}
use Rattle.std.proofs.lemmas.Bool.{leb-true, not-true, cases_eq, and_parts, eqb-true, eqb-false, ne_eqb, false≢true, true≢false, and_left}
use Rattle.labelled_disk.specs.File.{File, Page, byte, file_at, room_of, size, total_room}
use Rattle.labelled_disk.specs.FilesOn.{disk_file, file_among, file_by, files_among, files_by, is_of, is_page, leader_among, leads, leads_file, page_at, pages_from, put_file}
use Rattle.labelled_disk.specs.Label.{is_file, is_immutable, is_permanent, leader_page}
use Rattle.labelled_disk.specs.Layout.{IsCount, capacity, data_sectors, first_data}
use Rattle.labelled_disk.specs.Right.{FilesRight, IsGiven, IsWhole, OnlyMaps}
use Rattle.labelled_disk.specs.Ascending.{AreAscending}
use Rattle.labelled_disk.specs.Sectors.{Sector}
use Rattle.labelled_disk.specs.WriteLaws.{Changed, CounterRaised, PlainWritten, FileCreated, FileGrown, HasData, IsOnlyOf, Kept, LastPageFreed, LeaderFreed, LeaderMarked, LowWritten, MadePermanent, MapsMayDiffer, PageWritten, TemporaryWritten, with_page}
use Rattle.labelled_disk.proofs.AscendingLemmas.{at_put, ascending_put, same_by_look_up, each_at, each_by_look_up, at_id}
use Rattle.std.specs.Option.{option_map_or}
use Rattle.std.specs.List.{AllByRecursion}
use Rattle.std.proofs.lemmas.List.{length-map, drop-set-lt, drop-set-add, length_push, length-take-le}
use Rattle.std.proofs.lemmas.List.Sums.{sum_by-cons}
use Rattle.labelled_disk.specs.declared.label.Label.{Label}
use Rattle.labelled_disk.proofs.Finds.{get_set_same, get_set_other, IsAlone, none_passes, find_alone, find_none}
use Rattle.std.proofs.lemmas.Bool.Decides.{eqb_tells}
use Rattle.labelled_disk.proofs.Pages.{pages_end}
use Rattle.labelled_disk.proofs.SectorWrites as w

-- Lists after their first elements.

pub get_drop : {X : Type 0} (n : ℕ) (xs : List X) (k : ℕ) → slice_get (drop n xs) k ≡ slice_get xs (n + k)
get_drop zero xs k = ap (λ (i : ℕ). slice_get xs i) (let e : k ≡ 0 + k = omega arith in e)
get_drop (suc n) [] k = refl
get_drop (suc n) (x ∷ xs) k = get_drop n xs k ∙ ap (λ (i : ℕ). slice_get (x ∷ xs) i) (let e : suc (n + k) ≡ suc n + k = omega arith in e)

-- the identifier of a file's label is one that a file may have
pub file_id : (l : Label) → is_file l ≡ true → (16 ≤ l.id) × (l.id % 2 ^ 32 ≢ 4294967295)
file_id l is =
    let a = (and_parts (nat_le 16 l.id && not (eqb (l.id % 2 ^ 32) 4294967295) && nat_lt l.flags 4) (eqb l.last 0) is).0 in
    let b = (and_parts (nat_le 16 l.id && not (eqb (l.id % 2 ^ 32) 4294967295)) (nat_lt l.flags 4) a).0 in
    let c = and_parts (nat_le 16 l.id) (not (eqb (l.id % 2 ^ 32) 4294967295)) b in
    (leb-true 16 l.id c.0, eqb-false (l.id % 2 ^ 32) 4294967295 (not-true (eqb (l.id % 2 ^ 32) 4294967295) c.1))

module _ (with_temporary : Bool) (serial counter : ℕ) where
  pub ascending_files : (all rest : List Sector) → AreAscending (files_by with_temporary all rest)
  ascending_files all [] = tt
  ascending_files all (s ∷ rest) = either (leads with_temporary s) (ascending_files all rest)
    where
      either : (b : Bool) → AreAscending (files_by with_temporary all rest) → AreAscending (if b then put_file (file_by all s.0) (files_by with_temporary all rest) else files_by with_temporary all rest)
      either true h = ascending_put (file_by all s.0) (files_by with_temporary all rest) h
      either false h = h

  pub look_up_files : (all rest : List Sector) (id : ℕ) → file_at (files_by with_temporary all rest) id ≡ option_map (λ t. file_by all t.0) (find (leads_file with_temporary id) rest)
  look_up_files all [] id = refl
  look_up_files all (s ∷ rest) id = either (leads with_temporary s) (look_up_files all rest id)
    where
      found : (c : Bool) (o : Option Sector) → cond c (Some (file_by all s.0)) (option_map (λ t. file_by all t.0) o) ≡ option_map (λ t. file_by all t.0) (cond c (Some s) o)
      found true o = refl
      found false o = refl

      either : (b : Bool) → file_at (files_by with_temporary all rest) id ≡ option_map (λ t. file_by all t.0) (find (leads_file with_temporary id) rest)
          → file_at (if b then put_file (file_by all s.0) (files_by with_temporary all rest) else files_by with_temporary all rest) id ≡ option_map (λ t. file_by all t.0) (cond (b && eqb s.0.id id) (Some s) (find (leads_file with_temporary id) rest))
      either true h =
          at_put (file_by all s.0) (files_by with_temporary all rest) id
          ∙ ap (λ (o : Option File). cond (eqb s.0.id id) (Some (file_by all s.0)) o) h
          ∙ found (eqb s.0.id id) (find (leads_file with_temporary id) rest)
      either false h = h

  pub files_on_rise : (d : List Sector) → AreAscending (files_among with_temporary d)
  files_on_rise d = ascending_files (data_sectors d) (data_sectors d)

  -- the file of an identifier is what is looked up
  pub look_up : (d : List Sector) (id : ℕ) → file_at (files_among with_temporary d) id ≡ file_among with_temporary (data_sectors d) id
  look_up d id = look_up_files (data_sectors d) (data_sectors d) id ∙ twice (find (leads_file with_temporary id) (data_sectors d))
    where
      twice : (o : Option Sector) → option_map (λ t. file_by (data_sectors d) t.0) o ≡ option_map (file_by (data_sectors d)) (option_map (λ t. t.0) o)
      twice None = refl
      twice (Some t) = refl

  -- two disks have the same files where each identifier has the same
  pub same_files : (d e : List Sector) → ((id : ℕ) → file_among with_temporary (data_sectors e) id ≡ file_among with_temporary (data_sectors d) id) → files_among with_temporary e ≡ files_among with_temporary d
  same_files d e same = same_by_look_up (files_among with_temporary e) (files_among with_temporary d) (files_on_rise e) (files_on_rise d) (λ id. look_up e id ∙ same id ∙ sym (look_up d id))

  -- of each file of a disk
  pub each_file : (P : File → Type 0) (d : List Sector) → ((id : ℕ) (f : File) → file_among with_temporary (data_sectors d) id ≡ Some f → P f) → AllByRecursion P (files_among with_temporary d)
  each_file P d each = each_by_look_up P (files_among with_temporary d) (files_on_rise d) (λ id f is. each id f (sym (look_up d id) ∙ is))

  pub of_file : (P : File → Type 0) (d : List Sector) → AllByRecursion P (files_among with_temporary d) → (id : ℕ) (f : File) → file_among with_temporary (data_sectors d) id ≡ Some f → P f
  of_file P d all id f is = each_at P (files_among with_temporary d) all id f (look_up d id ∙ is)

  -- Lists with the same elements.

  get_some : {X : Type 0} (xs : List X) (i : ℕ) → i < length xs → (x : X) × (slice_get xs i ≡ Some x)
  get_some [] i below = absurd (omega arith)
  get_some (x ∷ xs) zero below = (x, refl)
  get_some (x ∷ xs) (suc i) below = get_some xs i (omega arith)

  pub same_elements : {X : Type 0} (xs ys : List X) → ((i : ℕ) → slice_get xs i ≡ slice_get ys i) → xs ≡ ys
  same_elements [] [] same = refl
  same_elements [] (y ∷ ys) same = absurd (none-some y (same 0))
  same_elements (x ∷ xs) [] same = absurd (none-some x (sym (same 0)))
  same_elements (x ∷ xs) (y ∷ ys) same =
      let e : x ≡ y = same_Some x y (same 0) in
      let r : xs ≡ ys = same_elements xs ys (λ i. same (suc i)) in
      cc

  -- Only the maps differ.

  pub maps_length : (d e : List Sector) → OnlyMaps d e → length e ≡ length d
  maps_length d e only = sym (length-map e (λ s. s.0)) ∙ ap (λ (l : List Label). length l) only.labels ∙ length-map d (λ s. s.0)

  pub maps_data : (d e : List Sector) → OnlyMaps d e → data_sectors e ≡ data_sectors d
  maps_data d e only =
      ap (λ (n : ℕ). drop (first_data n) e) (maps_length d e only)
      ∙ same_elements (drop (first_data (length d)) e) (drop (first_data (length d)) d)
      (λ i. get_drop (first_data (length d)) e i ∙ only.pages (first_data (length d) + i) (inr (omega arith)) ∙ sym (get_drop (first_data (length d)) d i))

  pub maps_files : (d e : List Sector) → OnlyMaps d e → files_among with_temporary e ≡ files_among with_temporary d
  maps_files d e only = same_files d e (λ id. ap (λ (xs : List Sector). file_among with_temporary xs id) (maps_data d e only))

  -- Room.

  -- the room of a file, if there is one
  abbrev pub room_at : Option File → ℕ
  room_at o = option_map_or room_of o 0

  pub without : ℕ → List File → List File
  without id [] = []
  without id (f ∷ fs) = cond (eqb f.id id) (without id fs) (f ∷ without id fs)

  at_without : (id : ℕ) (fs : List File) (j : ℕ) → file_at (without id fs) j ≡ cond (eqb j id) None (file_at fs j)
  unfolding without
  at_without id [] j = nothing (eqb j id)
    where
      nothing : (b : Bool) → file_at [] j ≡ cond b None (file_at [] j)
      nothing true = refl
      nothing false = refl
  at_without id (f ∷ fs) j = either (eqb f.id id) refl (eqb f.id j) refl (eqb j id) refl (at_without id fs j)
    where
      either : (a : Bool) → eqb f.id id ≡ a → (b : Bool) → eqb f.id j ≡ b → (c : Bool) → eqb j id ≡ c → file_at (without id fs) j ≡ cond (eqb j id) None (file_at fs j)
          → file_at (cond a (without id fs) (f ∷ without id fs)) j ≡ cond c None (cond b (Some f) (file_at fs j))
      either true p true q true r m = m ∙ ap (λ (x : Bool). cond x None (file_at fs j)) r
      either true p true q false r m = absurd (eqb-false j id r (omega (arith, eqb-true f.id id p, eqb-true f.id j q)))
      either true p false q c r m = m ∙ ap (λ (x : Bool). cond x None (file_at fs j)) r
      either false p true q true r m = absurd (eqb-false f.id id p (omega (arith, eqb-true f.id j q, eqb-true j id r)))
      either false p true q false r m = ap (λ (x : Bool). cond x (Some f) (file_at (without id fs) j)) q
      either false p false q c r m = ap (λ (x : Bool). cond x (Some f) (file_at (without id fs) j)) q ∙ m ∙ ap (λ (x : Bool). cond x None (file_at fs j)) r

  above_without : (id low : ℕ) (fs : List File) → AllByRecursion (λ y. low < y) (map (λ g. g.id) fs) → AllByRecursion (λ y. low < y) (map (λ g. g.id) (without id fs))
  unfolding without
  above_without id low [] h = tt
  above_without id low (f ∷ fs) h = either (eqb f.id id) (above_without id low fs h.1)
    where
      either : (b : Bool) → AllByRecursion (λ y. low < y) (map (λ g. g.id) (without id fs)) → AllByRecursion (λ y. low < y) (map (λ g. g.id) (cond b (without id fs) (f ∷ without id fs)))
      either true m = m
      either false m = (h.0, m)

  ascending_without : (id : ℕ) (fs : List File) → AreAscending fs → AreAscending (without id fs)
  unfolding without
  ascending_without id [] r = tt
  ascending_without id (f ∷ fs) r = either (eqb f.id id) (ascending_without id fs r.1)
    where
      either : (b : Bool) → AreAscending (without id fs) → AreAscending (cond b (without id fs) (f ∷ without id fs))
      either true m = m
      either false m = (above_without id f.id fs r.0, m)

  none_above : (id : ℕ) (fs : List File) → AllByRecursion (λ y. id < y) (map (λ g. g.id) fs) → without id fs ≡ fs
  unfolding without
  none_above id [] h = refl
  none_above id (f ∷ fs) h = let e : eqb f.id id ≡ false = ne_eqb f.id id (λ q. omega (arith, q, h.0)) in rw e (ap (λ (l : List File). f ∷ l) (none_above id fs h.1))

  pub room_without : (id : ℕ) (fs : List File) → AreAscending fs → total_room fs ≡ total_room (without id fs) + room_at (file_at fs id)
  unfolding without
  room_without id [] r = refl
  room_without id (f ∷ fs) r = either (eqb f.id id) refl (room_without id fs r.1)
    where
      either : (b : Bool) → eqb f.id id ≡ b → total_room fs ≡ total_room (without id fs) + room_at (file_at fs id)
          → total_room (f ∷ fs) ≡ total_room (cond b (without id fs) (f ∷ without id fs)) + room_at (cond b (Some f) (file_at fs id))
      either true e m =
          let same : without id fs ≡ fs = none_above id fs (subst (λ (n : ℕ). AllByRecursion (λ y. n < y) (map (λ g. g.id) fs)) (eqb-true f.id id e) r.0) in
          omega (arith, sum_by-cons room_of f fs, ap (λ (l : List File). total_room l) same)
      either false e m = omega (arith, m, sum_by-cons room_of f fs, sum_by-cons room_of f (without id fs))

  -- one file has another room
  pub room_changed : (fs gs : List File) (id : ℕ) → AreAscending fs → AreAscending gs → ((j : ℕ) → j ≢ id → file_at gs j ≡ file_at fs j)
      → total_room gs + room_at (file_at fs id) ≡ total_room fs + room_at (file_at gs id)
  room_changed fs gs id rf rg same =
      let rest : without id gs ≡ without id fs = same_by_look_up (without id gs) (without id fs) (ascending_without id gs rg) (ascending_without id fs rf) (λ j. at j (eqb_tells j id)) in
      omega (arith, room_without id fs rf, room_without id gs rg, ap (λ (l : List File). total_room l) rest)
    where
      at : (j : ℕ) → ((eqb j id ≡ true) × (j ≡ id)) ⊎ ((eqb j id ≡ false) × (j ≢ id)) → file_at (without id gs) j ≡ file_at (without id fs) j
      at j (inl e) = at_without id gs j ∙ ap (λ (b : Bool). cond b None (file_at gs j)) e.0 ∙ sym (at_without id fs j ∙ ap (λ (b : Bool). cond b None (file_at fs j)) e.0)
      at j (inr e) = at_without id gs j ∙ ap (λ (b : Bool). cond b None (file_at gs j)) e.0 ∙ same j e.1 ∙ sym (at_without id fs j ∙ ap (λ (b : Bool). cond b None (file_at fs j)) e.0)

  -- One data sector is written.

  pub first_positive : (n : ℕ) → 0 < first_data n
  unfolding first_data
  first_positive n = omega arith

  pub data_past : (d : List Sector) (i : ℕ) (t : Sector) → i < first_data (length d) → data_sectors (slice_set d i t) ≡ data_sectors d
  data_past d i t low = ap (λ (n : ℕ). drop (first_data n) (slice_set d i t)) (length-set d i t) ∙ drop-set-lt (first_data (length d)) d i t low

  pub data_set : (d : List Sector) (i : ℕ) (t : Sector) → first_data (length d) ≤ i → data_sectors (slice_set d i t) ≡ slice_set (data_sectors d) (i - first_data (length d)) t
  data_set d i t low =
      let z : i ≡ first_data (length d) + (i - first_data (length d)) = omega arith in
      ap (λ (n : ℕ). drop (first_data n) (slice_set d i t)) (length-set d i t)
      ∙ ap (λ (j : ℕ). drop (first_data (length d)) (slice_set d j t)) z
      ∙ drop-set-add (first_data (length d)) d (i - first_data (length d)) t

  pub data_get : (d : List Sector) (i : ℕ) (s : Sector) → first_data (length d) ≤ i → slice_get d i ≡ Some s → slice_get (data_sectors d) (i - first_data (length d)) ≡ Some s
  data_get d i s low here =
      let z : first_data (length d) + (i - first_data (length d)) ≡ i = omega arith in
      get_drop (first_data (length d)) d (i - first_data (length d)) ∙ ap (λ (j : ℕ). slice_get d j) z ∙ here

  -- the labels are right, where those of the data are
  pub labels_kept : (d e : List Sector) → length e ≡ length d
      → ((id : ℕ) (f : File) → file_among with_temporary (data_sectors e) id ≡ Some f → IsWhole (data_sectors e) f × IsGiven serial counter f)
      → total_room (files_among with_temporary e) ≤ capacity (length d)
      → FilesRight with_temporary serial counter d → FilesRight with_temporary serial counter e
  labels_kept d e long files room right = record {
    accepted = subst IsCount (sym long) right.accepted;
    whole_files = each_file (IsWhole (data_sectors e)) e (λ id f is. (files id f is).0);
    ids_given = each_file (IsGiven serial counter) e (λ id f is. (files id f is).1);
    room = subst (λ (n : ℕ). total_room (files_among with_temporary e) ≤ capacity n) (sym long) room;
  }

  -- One data sector is written, whose old and new label are of one file at most.
  module _ (d : List Sector) (i : ℕ) (s t : Sector) (id : ℕ) (low : first_data (length d) ≤ i) (here : slice_get d i ≡ Some s)
      (old : (other : ℕ) → other ≢ id → is_of other s ≡ false) (new : (other : ℕ) → other ≢ id → is_of other t ≡ false) where
    there : slice_get (data_sectors d) (i - first_data (length d)) ≡ Some s
    there = data_get d i s low here

    -- files of other identifiers
    pub others : (other : ℕ) → other ≢ id → file_among with_temporary (data_sectors (slice_set d i t)) other ≡ file_among with_temporary (data_sectors d) other
    others other apart =
        ap (λ (xs : List Sector). file_among with_temporary xs other) (data_set d i t low)
        ∙ w.others_stay with_temporary (data_sectors d) (i - first_data (length d)) s t there other (old other apart) (new other apart)

    -- another file's sector is where it was
    was : (other j : ℕ) (u : Sector) → other ≢ id → slice_get (data_sectors (slice_set d i t)) j ≡ Some u → is_of other u ≡ true → slice_get (data_sectors d) j ≡ Some u
    was other j u apart at is = either (cases_eq j (i - first_data (length d)))
      where
        at_set : slice_get (slice_set (data_sectors d) (i - first_data (length d)) t) j ≡ Some u
        at_set = ap (λ (xs : List Sector). slice_get xs j) (sym (data_set d i t low)) ∙ at

        either : (j ≡ i - first_data (length d)) ⊎ (j ≢ i - first_data (length d)) → slice_get (data_sectors d) j ≡ Some u
        either (inl e) =
            let within = slice_get_within (data_sectors d) (i - first_data (length d)) s there in
            let same : t ≡ u = same_Some t u (sym (get_set_same (data_sectors d) (i - first_data (length d)) t within) ∙ ap (λ (k : ℕ). slice_get (slice_set (data_sectors d) (i - first_data (length d)) t) k) (sym e) ∙ at_set) in
            absurd (false≢true (sym (new other apart) ∙ ap (λ (v : Sector). is_of other v) same ∙ is))
        either (inr e) = sym (get_set_other (data_sectors d) (i - first_data (length d)) j t e) ∙ at_set

    whole_still : (f : File) → f.id ≢ id → IsWhole (data_sectors d) f → IsWhole (data_sectors (slice_set d i t)) f
    whole_still f apart whole = record {
      no_other = λ j u at is. whole.no_other j u (was f.id j u apart at is) is;
      once = λ j k u v at_j at_k is_u is_v same. whole.once j k u v (was f.id j u apart at_j is_u) (was f.id k v apart at_k is_v) is_u is_v same;
    }

    -- The labels stay right, where those of the one file are right, and there is room for it.
    pub right_after : ((f : File) → file_among with_temporary (data_sectors (slice_set d i t)) id ≡ Some f → IsWhole (data_sectors (slice_set d i t)) f × IsGiven (serial) (counter) f)
        → total_room (files_among with_temporary d) + room_at (file_among with_temporary (data_sectors (slice_set d i t)) id) ≤ capacity (length d) + room_at (file_among with_temporary (data_sectors d) id)
        → FilesRight with_temporary serial counter d → FilesRight with_temporary serial counter (slice_set d i t)
    right_after mine fits right =
        labels_kept d (slice_set d i t) (length-set d i t)
        (λ j f is. each j f is (cases_eq j id))
        (omega (
          arith,
          room_changed (files_among with_temporary d) (files_among with_temporary (slice_set d i t)) id (files_on_rise d) (files_on_rise (slice_set d i t)) (λ j apart. look_up (slice_set d i t) j ∙ others j apart ∙ sym (look_up d j)),
          ap (λ (o : Option File). room_at o) (look_up d id),
          ap (λ (o : Option File). room_at o) (look_up (slice_set d i t) id),
          fits,
        ))
        right
      where
        each : (j : ℕ) (f : File) → file_among with_temporary (data_sectors (slice_set d i t)) j ≡ Some f → (j ≡ id) ⊎ (j ≢ id) → IsWhole (data_sectors (slice_set d i t)) f × IsGiven (serial) (counter) f
        each j f is (inl e) = mine f (ap (λ (k : ℕ). file_among with_temporary (data_sectors (slice_set d i t)) k) (sym e) ∙ is)
        each j f is (inr apart) =
            let before : file_among with_temporary (data_sectors d) j ≡ Some f = sym (others j apart) ∙ is in
            let same : f.id ≡ j = at_id (files_among with_temporary d) j f (look_up d j ∙ before) in (
              whole_still f (λ e. apart (sym same ∙ e)) (of_file (IsWhole (data_sectors d)) d right.whole_files j f before),
              of_file (IsGiven (serial) (counter)) d right.ids_given j f before,
            )

  low_files : (d : List Sector) (i : ℕ) (t : Sector) → i < first_data (length d) → files_among with_temporary (slice_set d i t) ≡ files_among with_temporary d
  low_files d i t low = same_files d (slice_set d i t) (λ id. ap (λ (xs : List Sector). file_among with_temporary xs id) (data_past d i t low))

  pub low_written : LowWritten with_temporary serial counter
  low_written d i t right low =
      let same : data_sectors (slice_set d i t) ≡ data_sectors d = data_past d i t low in
      record {
        files = low_files d i t low;
        right = labels_kept d (slice_set d i t) (length-set d i t)
            (λ id f is.
            let before : disk_file with_temporary d id ≡ Some f = ap (λ (xs : List Sector). file_among with_temporary xs id) (sym same) ∙ is in (
              subst (λ (xs : List Sector). IsWhole xs f) (sym same) (of_file (IsWhole (data_sectors d)) d right.whole_files id f before),
              of_file (IsGiven serial counter) d right.ids_given id f before,
            ))
            (subst (λ (l : List File). total_room l ≤ capacity (length d)) (sym (low_files d i t low)) right.room)
            right;
      }

  pub maps_may_differ : MapsMayDiffer with_temporary serial counter
  maps_may_differ d e only right =
      let data_same = maps_data d e only in
      record {
        files = maps_files d e only;
        right = labels_kept d e (maps_length d e only)
            (λ id f is.
            let before : disk_file with_temporary d id ≡ Some f = ap (λ (xs : List Sector). file_among with_temporary xs id) (sym data_same) ∙ is in (
              subst (λ (xs : List Sector). IsWhole xs f) (sym data_same) (of_file (IsWhole (data_sectors d)) d right.whole_files id f before),
              of_file (IsGiven (serial) (counter)) d right.ids_given id f before,
            ))
            (subst (λ (l : List File). total_room l ≤ capacity (length d)) (sym (maps_files d e only)) right.room)
            right;
      }

  -- Whole files.

  -- what stands in a list after one element was replaced
  after_set : (xs : List Sector) (i j : ℕ) (t u : Sector) → i < length xs → slice_get (slice_set xs i t) j ≡ Some u
      → ((j ≡ i) × (u ≡ t)) ⊎ ((j ≢ i) × (slice_get xs j ≡ Some u))
  after_set xs i j t u within at = either (cases_eq j i)
    where
      either : (j ≡ i) ⊎ (j ≢ i) → ((j ≡ i) × (u ≡ t)) ⊎ ((j ≢ i) × (slice_get xs j ≡ Some u))
      either (inl e) = inl (e, same_Some u t (sym at ∙ ap (λ (k : ℕ). slice_get (slice_set xs i t) k) e ∙ get_set_same xs i t within))
      either (inr apart) = inr (apart, sym (get_set_other xs i j t apart) ∙ at)

  -- the file is whole where sector i is t
  pub whole_set : (xs : List Sector) (i : ℕ) (t : Sector) (f g : File) → i < length xs → IsWhole xs f → g.id ≡ f.id
      → (is_of f.id t ≡ true → ((t.0.page ≡ leader_page) ⊎ (t.0.page < size g)) × ((j : ℕ) (u : Sector) → j ≢ i → slice_get xs j ≡ Some u → is_of f.id u ≡ true → u.0.page ≢ t.0.page))
      → ((j : ℕ) (u : Sector) → j ≢ i → slice_get xs j ≡ Some u → is_of f.id u ≡ true → u.0.page < size f → u.0.page < size g)
      → IsWhole (slice_set xs i t) g
  whole_set xs i t f g within whole same mine rest = record {
    no_other = λ j u at is. place j u (back u is) (after_set xs i j t u within at);
    once = λ j k u v at_j at_k is_u is_v pages. one j k u v (back u is_u) (back v is_v) pages (after_set xs i j t u within at_j) (after_set xs i k t v within at_k);
  }
    where
      back : (u : Sector) → is_of g.id u ≡ true → is_of f.id u ≡ true
      back u is = ap (λ (n : ℕ). is_of n u) (sym same) ∙ is

      new : (u : Sector) → u ≡ t → is_of f.id u ≡ true → is_of f.id t ≡ true
      new u e is = ap (λ (v : Sector). is_of f.id v) (sym e) ∙ is

      place : (j : ℕ) (u : Sector) → is_of f.id u ≡ true → ((j ≡ i) × (u ≡ t)) ⊎ ((j ≢ i) × (slice_get xs j ≡ Some u)) → (u.0.page ≡ leader_page) ⊎ (u.0.page < size g)
      place j u is (inl e) = subst (λ (v : Sector). (v.0.page ≡ leader_page) ⊎ (v.0.page < size g)) (sym e.1) (mine (new u e.1 is)).0
      place j u is (inr e) = elim (whole.no_other j u e.1 is) [ inl h ↦ inl h | inr h ↦ inr (rest j u e.0 e.1 is h) ]

      page_of : (u : Sector) → u ≡ t → u.0.page ≡ t.0.page
      page_of u e = ap (λ (v : Sector). v.0.page) e

      one : (j k : ℕ) (u v : Sector) → is_of f.id u ≡ true → is_of f.id v ≡ true → u.0.page ≡ v.0.page
          → ((j ≡ i) × (u ≡ t)) ⊎ ((j ≢ i) × (slice_get xs j ≡ Some u)) → ((k ≡ i) × (v ≡ t)) ⊎ ((k ≢ i) × (slice_get xs k ≡ Some v)) → j ≡ k
      one j k u v is_u is_v pages (inl a) (inl b) = a.0 ∙ sym b.0
      one j k u v is_u is_v pages (inl a) (inr b) = absurd ((mine (new u a.1 is_u)).1 k v b.0 b.1 is_v (sym pages ∙ page_of u a.1))
      one j k u v is_u is_v pages (inr a) (inl b) = absurd ((mine (new v b.1 is_v)).1 j u a.0 a.1 is_u (pages ∙ page_of v b.1))
      one j k u v is_u is_v pages (inr a) (inr b) = whole.once j k u v a.1 b.1 is_u is_v pages

  -- the label is of the same page of the same file as it was
  pub whole_relabelled : (xs : List Sector) (i : ℕ) (s t : Sector) (f g : File) → slice_get xs i ≡ Some s → is_of f.id s ≡ true → t.0.page ≡ s.0.page → IsWhole xs f → g.id ≡ f.id → size g ≡ size f
      → IsWhole (slice_set xs i t) g
  whole_relabelled xs i s t f g here is page whole same long =
      whole_set xs i t f g (slice_get_within xs i s here) whole same
      (λ of_t. (
        elim (whole.no_other i s here is) [ inl h ↦ inl (page ∙ h) | inr h ↦ inr (omega (arith, h, page, long)) ],
        λ j u apart at is_u pages. apart (whole.once j i u s at here is_u is (pages ∙ page)),
      ))
      (λ j u apart at is_u l. omega (arith, l, long))

  -- Labels of one file, or of none.

  pub only_of : (id : ℕ) (s : Sector) → is_of id s ≡ true → IsOnlyOf id s
  only_of id s is other apart = w.of_one with_temporary id other s is apart

  pub only_none : (id : ℕ) (s : Sector) → is_file s.0 ≡ false → IsOnlyOf id s
  only_none id s is other apart = and_left (is_file s.0) (eqb s.0.id other) is

  not_of : (id : ℕ) (s : Sector) → is_file s.0 ≡ false → is_of id s ≡ false
  not_of id s is = and_left (is_file s.0) (eqb s.0.id id) is

  pub leader_of : (id : ℕ) (s : Sector) → leads_file with_temporary id s ≡ true → is_of id s ≡ true
  leader_of id s is =
      let p = and_parts (leads with_temporary s) (eqb s.0.id id) is in
      let q = and_parts (is_file s.0 && eqb s.0.page leader_page) (with_temporary || is_permanent s.0) p.0 in
      both (is_file s.0) (eqb s.0.id id) (and_parts (is_file s.0) (eqb s.0.page leader_page) q.0).0 p.1
    where
      both : (a b : Bool) → a ≡ true → b ≡ true → (a && b) ≡ true
      both true b p q = q
      both false b p q = p

  -- in a whole file each page and the leader is alone
  alone_page : (xs : List Sector) (f : File) (i k : ℕ) (s : Sector) → IsWhole xs f → slice_get xs i ≡ Some s → is_page f.id k s ≡ true → IsAlone (is_page f.id k) xs i
  alone_page xs f i k s whole here is j t at passes =
      whole.once j i t s at here (w.page_of with_temporary f.id k t passes) (w.page_of with_temporary f.id k s is) (w.page_number with_temporary f.id k t passes ∙ sym (w.page_number with_temporary f.id k s is))

  pub alone_leader : (xs : List Sector) (f : File) (i : ℕ) (s : Sector) → IsWhole xs f → slice_get xs i ≡ Some s → is_of f.id s ≡ true → s.0.page ≡ leader_page → IsAlone (leads_file with_temporary f.id) xs i
  alone_leader xs f i s whole here is page j t at passes =
      whole.once j i t s at here (leader_of f.id t passes) is (w.leader_number with_temporary f.id t passes ∙ sym page)

  pub file_id_is : (d : List Sector) (id : ℕ) (f : File) → disk_file with_temporary d id ≡ Some f → f.id ≡ id
  file_id_is d id f is = at_id (files_among with_temporary d) id f (look_up d id ∙ is)

  given_as : (serial counter : ℕ) (f g : File) → g.id ≡ f.id → IsGiven serial counter f → IsGiven serial counter g
  given_as serial counter f g same given = subst (λ (n : ℕ). n / 2 ^ 32 ≡ serial → n % 2 ^ 32 < counter) (sym same) given

  -- a file needs no more room than all
  room_one : (d : List Sector) (id : ℕ) (f : File) → disk_file with_temporary d id ≡ Some f → room_of f ≤ total_room (files_among with_temporary d)
  room_one d id f is = omega (arith, room_without id (files_among with_temporary d) (files_on_rise d), ap (λ (o : Option File). room_at o) (look_up d id ∙ is))

  -- One data sector is written.
  module _ (d : List Sector) (i : ℕ) (s t : Sector) (id : ℕ) (right : FilesRight with_temporary serial counter d) (holds : HasData d i s) (old : IsOnlyOf id s) (new : IsOnlyOf id t) where
    pub changed : (now : Option File) → file_among with_temporary (slice_set (data_sectors d) (i - first_data (length d)) t) id ≡ now
        → ((g : File) → now ≡ Some g → IsWhole (slice_set (data_sectors d) (i - first_data (length d)) t) g × IsGiven (serial) (counter) g)
        → total_room (files_among with_temporary d) + room_at now ≤ capacity (length d) + room_at (disk_file with_temporary d id)
        → Changed with_temporary serial counter d (slice_set d i t) id now
    changed now file whole fits =
        let moved : data_sectors (slice_set d i t) ≡ slice_set (data_sectors d) (i - first_data (length d)) t = data_set d i t holds.is_data in
        let is : disk_file with_temporary (slice_set d i t) id ≡ now = ap (λ (xs : List Sector). file_among with_temporary xs id) moved ∙ file in
        record {
          file = is;
          others = others d i s t id holds.is_data holds.here old new;
          right = right_after d i s t id holds.is_data holds.here old new
              (λ g e. let both = whole g (sym is ∙ e) in (subst (λ (xs : List Sector). IsWhole xs g) (sym moved) both.0, both.1))
              (omega (arith, fits, ap (λ (o : Option File). room_at o) is)) right;
        }

    pub file_changed : (g : File) → file_among with_temporary (slice_set (data_sectors d) (i - first_data (length d)) t) id ≡ Some g
        → IsWhole (slice_set (data_sectors d) (i - first_data (length d)) t) g → IsGiven (serial) (counter) g
        → total_room (files_among with_temporary d) + room_of g ≤ capacity (length d) + room_at (disk_file with_temporary d id)
        → Changed with_temporary serial counter d (slice_set d i t) id (Some g)
    file_changed g file whole given fits =
        changed (Some g) file
        (λ h e. subst (λ (k : File). IsWhole (slice_set (data_sectors d) (i - first_data (length d)) t) k × IsGiven (serial) (counter) k) (same_Some g h e) (whole, given))
        fits

    -- no file before and after
    pub kept : disk_file with_temporary d id ≡ None → leads_file with_temporary id t ≡ false → Kept with_temporary serial counter d (slice_set d i t)
    kept none plain =
        let file = w.temporary_stays with_temporary (data_sectors d) (i - first_data (length d)) s t (data_get d i s holds.is_data holds.here) id none plain in
        let change = changed None file (λ g e. absurd (none-some g e)) (omega (arith, right.room)) in
        record {
          files = same_files d (slice_set d i t) (λ other. either other change (cases_eq other id));
          right = change.right;
        }
      where
        either : (other : ℕ) → Changed with_temporary serial counter d (slice_set d i t) id None → (other ≡ id) ⊎ (other ≢ id) → disk_file with_temporary (slice_set d i t) other ≡ disk_file with_temporary d other
        either other change (inl e) = subst (λ (n : ℕ). disk_file with_temporary (slice_set d i t) n ≡ disk_file with_temporary d n) (sym e) (change.file ∙ sym none)
        either other change (inr apart) = change.others other apart

  pub temporary_written : TemporaryWritten with_temporary serial counter
  temporary_written d i s t id right holds old new none plain = kept d i s t id right holds old new none plain

  pub page_written : PageWritten with_temporary serial counter
  page_written d i s page id k right holds is = either (disk_file with_temporary d id) refl
    where
      here : slice_get (data_sectors d) (i - first_data (length d)) ≡ Some s
      here = data_get d i s holds.is_data holds.here

      only : IsOnlyOf id s
      only = only_of id s (w.page_of with_temporary id k s is)

      either : (o : Option File) → disk_file with_temporary d id ≡ o → Changed with_temporary serial counter d (slice_set d i (s.0, page)) id (option_map (with_page k (map byte page)) o)
      either None e =
          changed d i s (s.0, page) id right holds only only None
          (elim (w.page_written with_temporary (data_sectors d) (i - first_data (length d)) s (s.0, page) here id k is refl) [
            | inl h ↦ h ∙ e
            | inr h ↦ h ∙ ap (λ (o : Option File). option_map (with_page k (map byte page)) o) e
          ])
          (λ g e. absurd (none-some g e))
          (omega (arith, right.room))
      either (Some f) e =
          let same : f.id ≡ id = file_id_is d id f e in
          let whole = of_file (IsWhole (data_sectors d)) d right.whole_files id f e in
          let mine : is_page f.id k s ≡ true = ap (λ (n : ℕ). is_page n k s) same ∙ is in
          let alone : IsAlone (is_page id k) (data_sectors d) (i - first_data (length d)) =
          subst (λ (n : ℕ). IsAlone (is_page n k) (data_sectors d) (i - first_data (length d))) same (alone_page (data_sectors d) f (i - first_data (length d)) k s whole here mine) in
          let long : size (with_page k (map byte page) f) ≡ size f = length-set f.pages k (map byte page) in
          file_changed d i s (s.0, page) id right holds only only (with_page k (map byte page) f)
          (w.page_written_alone with_temporary (data_sectors d) (i - first_data (length d)) s (s.0, page) here id k is alone refl ∙ ap (λ (o : Option File). option_map (with_page k (map byte page)) o) e)
          (whole_relabelled (data_sectors d) (i - first_data (length d)) s (s.0, page) f (with_page k (map byte page) f) here (w.page_of with_temporary f.id k s mine) refl whole refl long)
          (of_file (IsGiven (serial) (counter)) d right.ids_given id f e)
          (omega (arith, right.room, long, ap (λ (o : Option File). room_at o) e))

  -- A file of a disk with right labels.
  module _ (d : List Sector) (id : ℕ) (f : File) (right : FilesRight with_temporary serial counter d) (is : disk_file with_temporary d id ≡ Some f) where
    whole_file : IsWhole (data_sectors d) f
    whole_file = of_file (IsWhole (data_sectors d)) d right.whole_files id f is

    given_file : IsGiven (serial) (counter) f
    given_file = of_file (IsGiven (serial) (counter)) d right.ids_given id f is

    -- it is far shorter than pages can be numbered
    short : size f + 2 < leader_page
    short = omega (arith, room_one d id f is, right.room, right.accepted.1)

    -- no sector has a page beyond its last
    beyond : (k : ℕ) → size f ≤ k → k < leader_page → page_at (data_sectors d) id k ≡ None
    beyond k long low =
        ap (λ (o : Option Sector). option_map (λ (u : Sector). map byte u.1) o)
        (find_none (is_page id k) (data_sectors d) (λ j u at. fails j u at (is_page id k u) refl))
      where
        fails : (j : ℕ) (u : Sector) → slice_get (data_sectors d) j ≡ Some u → (b : Bool) → is_page id k u ≡ b → is_page id k u ≡ false
        fails j u at false e = e
        fails j u at true e =
            let same : f.id ≡ id = file_id_is d id f is in
            let number : u.0.page ≡ k = w.page_number with_temporary id k u e in
            elim ((whole_file).no_other j u at (ap (λ (n : ℕ). is_of n u) same ∙ w.page_of with_temporary id k u e)) [
              | inl h ↦ absurd (omega (arith, h, number, low))
              | inr h ↦ absurd (omega (arith, h, number, long))
            ]

  pub file_grown : FileGrown with_temporary serial counter
  file_grown d i s t id f right holds free is e room =
      let here = data_get d i s holds.is_data holds.here in
      let same : f.id ≡ id = file_id_is d id f e in
      let whole = whole_file d id f right e in
      let tiny = short d id f right e in
      let page : t.0.page ≡ size f = w.page_number with_temporary id (size f) t is in
      let long : size (record f { pages = f.pages ++ map byte t.1 ∷ [] }) ≡ size f + 1 = length_push f.pages (map byte t.1) in
      file_changed d i s t id right holds (only_none id s free) (only_of id t (w.page_of with_temporary id (size f) t is)) (record f { pages = f.pages ++ map byte t.1 ∷ [] })
      (w.grown with_temporary (data_sectors d) (i - first_data (length d)) s t here id f e (not_of id s free) is
      (beyond d id f right e (size f) (omega arith) (omega (arith, tiny))) (beyond d id f right e (size f + 1) (omega arith) (omega (arith, tiny))) (omega (arith, tiny)))
      (whole_set (data_sectors d) (i - first_data (length d)) t f (record f { pages = f.pages ++ map byte t.1 ∷ [] }) (slice_get_within (data_sectors d) (i - first_data (length d)) s here) whole refl
      (λ of_t. (
        inr (omega (arith, page, long)),
        λ j u apart at is_u pages. elim (whole.no_other j u at is_u) [ inl h ↦ omega (arith, h, pages, page, tiny) | inr h ↦ omega (arith, h, pages, page) ],
      ))
      (λ j u apart at is_u l. omega (arith, l, long)))
      (given_file d id f right e)
      (omega (arith, room, long, ap (λ (o : Option File). room_at o) e))

  pub last_page_freed : LastPageFreed with_temporary serial counter
  last_page_freed d i s t id k f right holds is free e long =
      let here = data_get d i s holds.is_data holds.here in
      let same : f.id ≡ id = file_id_is d id f e in
      let whole = whole_file d id f right e in
      let tiny = short d id f right e in
      let mine : is_page f.id k s ≡ true = ap (λ (n : ℕ). is_page n k s) same ∙ is in
      let page : s.0.page ≡ k = w.page_number with_temporary id k s is in
      let alone : IsAlone (is_page id k) (data_sectors d) (i - first_data (length d)) =
      subst (λ (n : ℕ). IsAlone (is_page n k) (data_sectors d) (i - first_data (length d))) same (alone_page (data_sectors d) f (i - first_data (length d)) k s whole here mine) in
      let less : length (take k f.pages) ≡ k = length-take-le k f.pages (omega arith) in
      file_changed d i s t id right holds (only_of id s (w.page_of with_temporary id k s is)) (only_none id t free) (record f { pages = take k f.pages })
      (w.cut with_temporary (data_sectors d) (i - first_data (length d)) s t here id k is alone (omega (arith, tiny, long)) (not_of id t free)
      ∙ ap (λ (o : Option File). option_map (λ (g : File). record g { pages = take k g.pages }) o) e)
      (whole_set (data_sectors d) (i - first_data (length d)) t f (record f { pages = take k f.pages }) (slice_get_within (data_sectors d) (i - first_data (length d)) s here) whole refl
      (λ of_t. absurd (true≢false (sym of_t ∙ not_of f.id t free)))
      (λ j u apart at is_u l.
      let other : u.0.page ≢ k = λ q. apart (whole.once j (i - first_data (length d)) u s at here is_u (w.page_of with_temporary f.id k s mine) (q ∙ sym page)) in
      omega (arith, l, long, less, other)))
      (given_file d id f right e)
      (omega (arith, right.room, less, long, ap (λ (o : Option File). room_at o) e))

  pub leader_freed : LeaderFreed with_temporary serial counter
  leader_freed d i s t id f right holds is free e =
      let here = data_get d i s holds.is_data holds.here in
      let same : f.id ≡ id = file_id_is d id f e in
      let whole = whole_file d id f right e in
      let mine : is_of f.id s ≡ true = ap (λ (n : ℕ). is_of n s) same ∙ leader_of id s is in
      let alone : IsAlone (leads_file with_temporary id) (data_sectors d) (i - first_data (length d)) =
      subst (λ (n : ℕ). IsAlone (leads_file with_temporary n) (data_sectors d) (i - first_data (length d))) same
      (alone_leader (data_sectors d) f (i - first_data (length d)) s whole here mine (w.leader_number with_temporary id s is)) in
      changed d i s t id right holds (only_of id s (leader_of id s is)) (only_none id t free) None
      (w.deleted with_temporary (data_sectors d) (i - first_data (length d)) s t here id alone (w.not_of-not_leader with_temporary id t (not_of id t free)))
      (λ g h. absurd (none-some g h))
      (omega (arith, right.room))

  pub made_permanent : MadePermanent with_temporary serial counter
  made_permanent d i s t id right holds old page new none whole given room =
      let here = data_get d i s holds.is_data holds.here in
      let same : t.0.id ≡ id = w.leader_id with_temporary id t new in
      let g : File = file_by (data_sectors d) t.0 in
      let mine : is_of t.0.id s ≡ true = ap (λ (n : ℕ). is_of n s) same ∙ old in
      let alone : IsAlone (leads_file with_temporary id) (data_sectors d) (i - first_data (length d)) =
      λ j u at passes. absurd (true≢false (sym passes ∙ none_passes (leads_file with_temporary id) (data_sectors d) (w.none_leads with_temporary (data_sectors d) id none) j u at)) in
      file_changed d i s t id right holds (only_of id s old) (only_of id t (leader_of id t new)) (file_by (data_sectors d) t.0)
      (w.leader_marked with_temporary (data_sectors d) (i - first_data (length d)) s t here id page alone new)
      (whole_relabelled (data_sectors d) (i - first_data (length d)) s t (file_by (data_sectors d) t.0) (file_by (data_sectors d) t.0) here mine (w.leader_number with_temporary id t new ∙ sym page) whole refl refl)
      given
      (omega (arith, room))

  pub leader_marked : LeaderMarked with_temporary serial counter
  leader_marked d i s t id f right holds old new kinds e =
      let here = data_get d i s holds.is_data holds.here in
      let same : f.id ≡ id = file_id_is d id f e in
      let whole = whole_file d id f right e in
      let mine : is_of f.id s ≡ true = ap (λ (n : ℕ). is_of n s) same ∙ leader_of id s old in
      let page : s.0.page ≡ leader_page = w.leader_number with_temporary id s old in
      let alone : IsAlone (leads_file with_temporary id) (data_sectors d) (i - first_data (length d)) =
      subst (λ (n : ℕ). IsAlone (leads_file with_temporary n) (data_sectors d) (i - first_data (length d))) same
      (alone_leader (data_sectors d) f (i - first_data (length d)) s whole here mine page) in
      let lead : leader_among with_temporary (data_sectors d) id ≡ Some s.0 =
      ap (λ (o : Option Sector). option_map (λ (u : Sector). u.0) o) (find_alone (leads_file with_temporary id) (data_sectors d) (i - first_data (length d)) s here old alone) in
      let was : file_by (data_sectors d) s.0 ≡ f = same_Some (file_by (data_sectors d) s.0) f (ap (λ (o : Option Label). option_map (file_by (data_sectors d)) o) (sym lead) ∙ e) in
      let ids : t.0.id ≡ s.0.id = w.leader_id with_temporary id t new ∙ sym (w.leader_id with_temporary id s old) in
      let now : file_by (data_sectors d) t.0 ≡ record f { permanent = is_permanent t.0; immutable = is_immutable t.0 } =
      renamed (data_sectors d) t.0 s.0 ids kinds ∙ ap (λ (g : File). record g { permanent = is_permanent t.0; immutable = is_immutable t.0 }) was in
      file_changed d i s t id right holds (only_of id s (leader_of id s old)) (only_of id t (leader_of id t new)) (record f { permanent = is_permanent t.0; immutable = is_immutable t.0 })
      (w.leader_marked with_temporary (data_sectors d) (i - first_data (length d)) s t here id page alone new ∙ ap (λ (g : File). Some g) now)
      (whole_relabelled (data_sectors d) (i - first_data (length d)) s t f (record f { permanent = is_permanent t.0; immutable = is_immutable t.0 }) here mine (w.leader_number with_temporary id t new ∙ sym page) whole refl refl)
      (given_file d id f right e)
      (omega (arith, right.room, ap (λ (o : Option File). room_at o) e))
    where
      renamed : (xs : List Sector) (l m : Label) → l.id ≡ m.id → l.kind ≡ m.kind → file_by xs l ≡ record (file_by xs m) { permanent = is_permanent l; immutable = is_immutable l }
      renamed xs l m same kinds = λ x. record { id = same x; kind = kinds x; permanent = is_permanent l; immutable = is_immutable l; pages = pages_from (page_at xs (same x)) 0 leader_page }

  pub file_created : FileCreated with_temporary serial counter
  file_created d i s t id right holds free new nowhere given room =
      let here = data_get d i s holds.is_data holds.here in
      let within = slice_get_within (data_sectors d) (i - first_data (length d)) s here in
      let there = get_set_same (data_sectors d) (i - first_data (length d)) t within in
      let same : t.0.id ≡ id = w.leader_id with_temporary id t new in
      let number : t.0.page ≡ leader_page = w.leader_number with_temporary id t new in
      let none : disk_file with_temporary d id ≡ None =
      w.file_none with_temporary (data_sectors d) id (ap (λ (o : Option Sector). option_map (λ (u : Sector). u.0) o)
      (find_none (leads_file with_temporary id) (data_sectors d) (λ j u at. w.not_of-not_leader with_temporary id u (nowhere j u at)))) in
      let lead : leader_among with_temporary (slice_set (data_sectors d) (i - first_data (length d)) t) id ≡ Some t.0 =
      ap (λ (o : Option Sector). option_map (λ (u : Sector). u.0) o) (find_alone (leads_file with_temporary id) (slice_set (data_sectors d) (i - first_data (length d)) t) (i - first_data (length d)) t there new (alone d i t id within nowhere)) in
      let empty : page_at (slice_set (data_sectors d) (i - first_data (length d)) t) id 0 ≡ None =
      w.page_past with_temporary (data_sectors d) (i - first_data (length d)) s t here id 0 (w.not_of-not_page with_temporary id 0 s (not_of id s free)) (w.other_page with_temporary id leader_page 0 t number (λ q. omega (arith, q)))
      ∙ ap (λ (o : Option Sector). option_map (λ (u : Sector). map byte u.1) o) (find_none (is_page id 0) (data_sectors d) (λ j u at. w.not_of-not_page with_temporary id 0 u (nowhere j u at))) in
      file_changed d i s t id right holds (only_none id s free) (only_of id t (leader_of id t new))
      (record { id = id; kind = t.0.kind; permanent = is_permanent t.0; immutable = is_immutable t.0; pages = [] })
      (ap (λ (o : Option Label). option_map (file_by (slice_set (data_sectors d) (i - first_data (length d)) t)) o) lead
      ∙ made (slice_set (data_sectors d) (i - first_data (length d)) t) t.0 id same (pages_end (page_at (slice_set (data_sectors d) (i - first_data (length d)) t) id) 0 leader_page empty))
      (record {
        no_other = λ j u at of. elim (after_set (data_sectors d) (i - first_data (length d)) j t u within at) [
          | inl e ↦ inl (ap (λ (v : Sector). v.0.page) e.1 ∙ number)
          | inr e ↦ absurd (true≢false (sym of ∙ nowhere j u e.1))
        ];
        once = λ j k u v at_j at_k of_u of_v pages. place d i t id within nowhere j u at_j of_u ∙ sym (place d i t id within nowhere k v at_k of_v);
      })
      given
      (omega (arith, room))
    where
      place : (d : List Sector) (i : ℕ) (t : Sector) (id : ℕ) → i - first_data (length d) < length (data_sectors d) → ((j : ℕ) (u : Sector) → slice_get (data_sectors d) j ≡ Some u → is_of id u ≡ false)
          → (j : ℕ) (u : Sector) → slice_get (slice_set (data_sectors d) (i - first_data (length d)) t) j ≡ Some u → is_of id u ≡ true → j ≡ i - first_data (length d)
      place d i t id within nowhere j u at of = elim (after_set (data_sectors d) (i - first_data (length d)) j t u within at) [
        | inl e ↦ e.0
        | inr e ↦ absurd (true≢false (sym of ∙ nowhere j u e.1))
      ]

      alone : (d : List Sector) (i : ℕ) (t : Sector) (id : ℕ) → i - first_data (length d) < length (data_sectors d) → ((j : ℕ) (u : Sector) → slice_get (data_sectors d) j ≡ Some u → is_of id u ≡ false)
          → IsAlone (leads_file with_temporary id) (slice_set (data_sectors d) (i - first_data (length d)) t) (i - first_data (length d))
      alone d i t id within nowhere j u at passes = place d i t id within nowhere j u at (leader_of id u passes)

      made : (ys : List Sector) (l : Label) (id : ℕ) → l.id ≡ id → pages_from (page_at ys id) 0 leader_page ≡ []
          → Some (file_by ys l) ≡ Some (record { id = id; kind = l.kind; permanent = is_permanent l; immutable = is_immutable l; pages = [] })
      made ys l id same none =
          ap (λ (n : ℕ). Some (record { id = n; kind = l.kind; permanent = is_permanent l; immutable = is_immutable l; pages = pages_from (page_at ys n) 0 leader_page })) same
          ∙ ap (λ (p : List Page). Some (record { id = id; kind = l.kind; permanent = is_permanent l; immutable = is_immutable l; pages = p })) none

  pub counter_raised : CounterRaised with_temporary serial counter
  counter_raised d later above right = record {
    accepted = right.accepted;
    whole_files = right.whole_files;
    ids_given = each_file (IsGiven serial later) d (λ id f is. given f (of_file (IsGiven serial counter) d right.ids_given id f is));
    room = right.room;
  }
    where
      given : (f : File) → IsGiven serial counter f → IsGiven serial later f
      given f before same = omega (arith, above, before same)

  -- no file has the identifier 0
  none_zero : (d : List Sector) → disk_file with_temporary d 0 ≡ None
  none_zero d =
      w.file_none with_temporary (data_sectors d) 0 (ap (λ (o : Option Sector). option_map (λ (u : Sector). u.0) o) (find_none (leads_file with_temporary 0) (data_sectors d) (λ j u at. either u (leads_file with_temporary 0 u) refl)))
    where
      either : (u : Sector) (b : Bool) → leads_file with_temporary 0 u ≡ b → leads_file with_temporary 0 u ≡ false
      either u false e = e
      either u true e =
          let p = and_parts (leads with_temporary u) (eqb u.0.id 0) e in
          let q = and_parts (is_file u.0 && eqb u.0.page leader_page) (with_temporary || is_permanent u.0) p.0 in
          let r = and_parts (is_file u.0) (eqb u.0.page leader_page) q.0 in
          absurd (omega (arith, (file_id u.0 r.0).0, eqb-true u.0.id 0 p.1))

  pub plain_written : PlainWritten with_temporary serial counter
  plain_written d i s t right holds old new =
      kept d i s t 0 right holds (only_none 0 s old) (only_none 0 t new) (none_zero d) (w.not_of-not_leader with_temporary 0 t (and_left (is_file t.0) (eqb t.0.id 0) new))
