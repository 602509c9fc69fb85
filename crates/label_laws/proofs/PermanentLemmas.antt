-- The permanent files, and all files.
use Rattle.std.proofs.Common.{◌≡◌, inl, inr, ℕ, suc, ◌<◌, ◌≤◌, Bool, true, false, ◌&&◌, ◌||◌, cond, List, [], ◌∷◌, map, length, filter, Option, Some, None, refl, sym, ◌∙◌, ap, subst, arith, eqb}
use Rattle.std.specs.Prelude.{slice_get, option_map, find, nat_lt, if◌then◌else◌}
use Rattle.std.specs.Option.{option_map_or}
use Rattle.std.specs.List.{AllByRecursion}
use Rattle.std.proofs.lemmas.Option.{same_Some, none-some}
use Rattle.std.proofs.lemmas.Bool.{and_parts, and_from, eqb-true, eq-eqb, ltb-true, true≢false, or_cases}
use Rattle.std.proofs.lemmas.List.Sums.{sum_by-cons}
use Rattle.labelled_disk.specs.Label.{is_file, is_permanent, leader_page}
use Rattle.labelled_disk.specs.Sectors.{Sector}
use Rattle.labelled_disk.specs.Layout.{capacity, data_sectors}
use Rattle.labelled_disk.specs.File.{File, Page, size, file_at, room_of, total_room}
use Rattle.labelled_disk.specs.FilesOn.{is_of, is_page, leads, leads_file, page_at, put_file, file_by, file_among, files_by, files_among, files_on, disk_file}
use Rattle.labelled_disk.specs.Lowest.{is_first, is_needed}
use Rattle.labelled_disk.specs.Right.{FilesRight, IsWhole, IsGiven}
use Rattle.labelled_disk.specs.Ascending.{AreAscending}
use Rattle.labelled_disk.specs.Root.{RightFor, LabelsRight}
use Rattle.labelled_disk.proofs.Finds.{found_at, none_passes, find_none, find_alone, IsAlone}
use Rattle.labelled_disk.proofs.Pages.{pages_most}
use Rattle.labelled_disk.proofs.AscendingLemmas.{at_low, same_by_look_up}
use Rattle.labelled_disk.proofs.SectorWrites as w
use Rattle.labelled_disk.proofs.WriteLemmas as laws
use Rattle.volume_root.specs.Sound.{Sound}
use Rattle.label_laws.specs.Unneeded.{AreFreeOrNeeded}
use Rattle.labelled_disk.specs.RootLaws.{StaysRight}
use Rattle.labelled_disk.specs.WriteLaws.{Changed, Kept}
use Rattle.label_laws.specs.AllPermanent.{PermanentAreAmong, if_permanent}
use Rattle.label_laws.specs.MixedVolumes.{ShapeChanged}
use Rattle.label_laws.specs.Shape.{BareFile, bare_file}
use Rattle.label_laws.proofs.FileLemmas.{free_none}
use Rattle.label_laws.proofs.NeededLemmas.{first_passes, needed_at, needs}

-- a leader that counts, and one that counts among the permanent ones
leads_parts : (with_temporary : Bool) (s : Sector) → leads with_temporary s ≡ true → (is_file s.0 ≡ true) × (s.0.page ≡ leader_page) × ((with_temporary || is_permanent s.0) ≡ true)
leads_parts with_temporary s is =
    let a = and_parts (is_file s.0 && eqb s.0.page leader_page) (with_temporary || is_permanent s.0) is in
    let b = and_parts (is_file s.0) (eqb s.0.page leader_page) a.0 in
    (b.0, eqb-true s.0.page leader_page b.1, a.1)

leads_from : (with_temporary : Bool) (s : Sector) → is_file s.0 ≡ true → s.0.page ≡ leader_page → (with_temporary || is_permanent s.0) ≡ true → leads with_temporary s ≡ true
leads_from with_temporary s file page mark =
    and_from (is_file s.0 && eqb s.0.page leader_page) (with_temporary || is_permanent s.0) (and_from (is_file s.0) (eqb s.0.page leader_page) file (eq-eqb s.0.page leader_page page)) mark

-- Each data sector is free or a permanent file's.

-- a leader that is needed is permanent
needed_permanent : (xs : List Sector) (i : ℕ) (s : Sector) → slice_get xs i ≡ Some s → s.0.page ≡ leader_page → is_needed false xs i ≡ true → is_permanent s.0 ≡ true
needed_permanent xs i s here page needed = either (file_among false xs s.0.id) refl (sym (needed_at false xs i s here) ∙ needed)
  where
    either : (o : Option File) → file_among false xs s.0.id ≡ o → option_map_or (needs false xs i s) o false ≡ true → is_permanent s.0 ≡ true
    either None e h = absurd (true≢false (sym h))
    either (Some f) e h = elim (or_cases (is_first (leads_file false s.0.id) xs i) (nat_lt s.0.page (size f) && is_first (is_page s.0.id s.0.page) xs i) h) [
      | inl first ↦ (leads_parts false s (and_parts (leads false s) (eqb s.0.id s.0.id) (first_passes (leads_file false s.0.id) xs i s here first)).0).2
      | inr late ↦ absurd (omega (
        arith,
        page,
        ltb-true s.0.page (size f) (and_parts (nat_lt s.0.page (size f)) (is_first (is_page s.0.id s.0.page) xs i) late).0,
        ap (λ (l : List Page). length l) (w.file_pages false xs s.0.id f e),
        pages_most (page_at xs s.0.id) 0 leader_page,
      ))
    ]

same_leads : (d : List Sector) → AreFreeOrNeeded false d → (i : ℕ) (s : Sector) → slice_get (data_sectors d) i ≡ Some s → (b c : Bool) → leads true s ≡ b → leads false s ≡ c → b ≡ c
same_leads d are i s here true true p q = refl
same_leads d are i s here false false p q = refl
same_leads d are i s here true false p q =
    let parts = leads_parts true s p in
    elim (are i s here) [
      | inl free ↦ absurd (true≢false (sym parts.0 ∙ free_none s.0 free))
      | inr needed ↦ absurd (true≢false (sym (leads_from false s parts.0 parts.1 (needed_permanent (data_sectors d) i s here parts.1 needed)) ∙ q))
    ]
same_leads d are i s here false true p q = let parts = leads_parts false s q in absurd (true≢false (sym (leads_from true s parts.0 parts.1 refl) ∙ p))

same_by : (all rest : List Sector) → ((i : ℕ) (s : Sector) → slice_get rest i ≡ Some s → leads true s ≡ leads false s) → files_by true all rest ≡ files_by false all rest
same_by all [] same = refl
same_by all (s ∷ rest) same =
    ap (λ (b : Bool). if b then put_file (file_by all s.0) (files_by true all rest) else files_by true all rest) (same 0 s refl)
    ∙ ap (λ (l : List File). if leads false s then put_file (file_by all s.0) l else l) (same_by all rest (λ i t at. same (suc i) t at))

pub none_temporary : (d : List Sector) → AreFreeOrNeeded false d → files_among true d ≡ files_on d
none_temporary d are = same_by (data_sectors d) (data_sectors d) (λ i s here. same_leads d are i s here (leads true s) (leads false s) refl refl)

pub none_temporary_right : (d : List Sector) → AreFreeOrNeeded false d → LabelsRight d → RightFor true d
none_temporary_right d are right =
    let same : files_on d ≡ files_among true d = sym (none_temporary d are) in
    record {
      has_root = right.has_root;
      has_maps = right.has_maps;
      files = record {
        accepted = right.files.accepted;
        whole_files = subst (AllByRecursion (IsWhole (data_sectors d))) same right.files.whole_files;
        ids_given = subst (AllByRecursion (IsGiven _ _)) same right.files.ids_given;
        room = subst (λ (l : List File). total_room l ≤ capacity (length d)) same right.files.room;
      };
    }

pub none_temporary_sound : (d : List Sector) → Sound d → RightFor true d × (files_among true d ≡ files_on d)
none_temporary_sound d sound = (none_temporary_right d sound.free_or_needed sound.labels, none_temporary d sound.free_or_needed)

-- Right labels of all files.

permanent_some : (o : Option File) (f : File) → if_permanent o ≡ Some f → o ≡ Some f
permanent_some None f is = absurd (none-some f is)
permanent_some (Some g) f is = either g.permanent is
  where
    either : (b : Bool) → cond b (Some g) None ≡ Some f → Some g ≡ Some f
    either true h = h
    either false h = absurd (none-some f h)

abbrev permanents : List File → List File
permanents fs = filter (λ f. f.permanent) fs

pub at_permanents : (fs : List File) → AreAscending fs → (id : ℕ) → file_at (permanents fs) id ≡ if_permanent (file_at fs id)
at_permanents [] rise id = refl
at_permanents (f ∷ fs) rise id = either f.permanent refl (eqb f.id id) refl (at_permanents fs rise.1 id)
  where
    either : (b : Bool) → f.permanent ≡ b → (c : Bool) → eqb f.id id ≡ c → file_at (permanents fs) id ≡ if_permanent (file_at fs id)
        → file_at (cond b (f ∷ permanents fs) (permanents fs)) id ≡ if_permanent (cond c (Some f) (file_at fs id))
    either true p true e more = ap (λ (c : Bool). cond c (Some f) (file_at (permanents fs) id)) e ∙ sym (ap (λ (b : Bool). cond b (Some f) None) p)
    either true p false e more = ap (λ (c : Bool). cond c (Some f) (file_at (permanents fs) id)) e ∙ more
    either false p true e more =
        more ∙ ap if_permanent (at_low fs f.id id rise.0 (let q : f.id ≡ id = eqb-true f.id id e in omega (arith, q))) ∙ sym (ap (λ (b : Bool). cond b (Some f) None) p)
    either false p false e more = more

above_permanents : (fs : List File) (low : ℕ) → AllByRecursion (λ y. low < y) (map (λ g. g.id) fs) → AllByRecursion (λ y. low < y) (map (λ g. g.id) (permanents fs))
above_permanents [] low all = tt
above_permanents (f ∷ fs) low all = either f.permanent (above_permanents fs low all.1)
  where
    either : (b : Bool) → AllByRecursion (λ y. low < y) (map (λ g. g.id) (permanents fs)) → AllByRecursion (λ y. low < y) (map (λ g. g.id) (cond b (f ∷ permanents fs) (permanents fs)))
    either true more = (all.0, more)
    either false more = more

pub ascending_permanents : (fs : List File) → AreAscending fs → AreAscending (permanents fs)
ascending_permanents [] rise = tt
ascending_permanents (f ∷ fs) rise = either f.permanent (ascending_permanents fs rise.1)
  where
    either : (b : Bool) → AreAscending (permanents fs) → AreAscending (cond b (f ∷ permanents fs) (permanents fs))
    either true more = (above_permanents fs f.id rise.0, more)
    either false more = more

room_permanents : (fs : List File) → total_room (permanents fs) ≤ total_room fs
room_permanents [] = omega arith
room_permanents (f ∷ fs) = either f.permanent (room_permanents fs)
  where
    either : (b : Bool) → total_room (permanents fs) ≤ total_room fs → total_room (cond b (f ∷ permanents fs) (permanents fs)) ≤ total_room (f ∷ fs)
    either true more = omega (arith, more, sum_by-cons room_of f fs, sum_by-cons room_of f (permanents fs))
    either false more = omega (arith, more, sum_by-cons room_of f fs)

-- a leader among the permanent ones is one among all
leads_more : (id : ℕ) (s : Sector) → leads_file false id s ≡ true → leads_file true id s ≡ true
leads_more id s is =
    let p = and_parts (leads false s) (eqb s.0.id id) is in
    let parts = leads_parts false s p.0 in
    and_from (leads true s) (eqb s.0.id id) (leads_from true s parts.0 parts.1 refl) p.1

fails_more : (id : ℕ) (s : Sector) → leads_file true id s ≡ false → (b : Bool) → leads_file false id s ≡ b → leads_file false id s ≡ false
fails_more id s fails false e = e
fails_more id s fails true e = absurd (true≢false (sym (leads_more id s e) ∙ fails))

module _ (serial counter : ℕ) (d : List Sector) (right : FilesRight true serial counter d) where
  pub one : (id : ℕ) → file_among false (data_sectors d) id ≡ if_permanent (file_among true (data_sectors d) id)
  one id = either (find (leads_file true id) (data_sectors d)) refl
    where
      none : ((j : ℕ) (u : Sector) → slice_get (data_sectors d) j ≡ Some u → leads_file false id u ≡ false) → file_among false (data_sectors d) id ≡ None
      none fails = w.file_none false (data_sectors d) id (ap (λ (o : Option Sector). option_map (λ (u : Sector). u.0) o) (find_none (leads_file false id) (data_sectors d) fails))

      led : (with_temporary : Bool) (s : Sector) → find (leads_file with_temporary id) (data_sectors d) ≡ Some s → file_among with_temporary (data_sectors d) id ≡ Some (file_by (data_sectors d) s.0)
      led with_temporary s e = ap (λ (o : Option Sector). option_map (file_by (data_sectors d)) (option_map (λ (u : Sector). u.0) o)) e

      marked : (s : Sector) (i : ℕ) → slice_get (data_sectors d) i ≡ Some s → leads_file true id s ≡ true → IsAlone (leads_file true id) (data_sectors d) i → (b : Bool) → is_permanent s.0 ≡ b
          → file_among false (data_sectors d) id ≡ cond b (Some (file_by (data_sectors d) s.0)) None
      marked s i here passes alone true e =
          let p = and_parts (leads true s) (eqb s.0.id id) passes in
          let parts = leads_parts true s p.0 in
          led false s
          (find_alone (leads_file false id) (data_sectors d) i s here (and_from (leads false s) (eqb s.0.id id) (leads_from false s parts.0 parts.1 e) p.1)
          (λ j u at is. alone j u at (leads_more id u is)))
      marked s i here passes alone false e = none (λ j u at. fails j u at (leads_file false id u) refl)
        where
          fails : (j : ℕ) (u : Sector) → slice_get (data_sectors d) j ≡ Some u → (b : Bool) → leads_file false id u ≡ b → leads_file false id u ≡ false
          fails j u at false h = h
          fails j u at true h =
              let place : j ≡ i = alone j u at (leads_more id u h) in
              let same : u ≡ s = same_Some u s (sym at ∙ ap (λ (k : ℕ). slice_get (data_sectors d) k) place ∙ here) in
              let mark : is_permanent u.0 ≡ true = (leads_parts false u (and_parts (leads false u) (eqb u.0.id id) h).0).2 in
              absurd (true≢false (sym mark ∙ ap (λ (v : Sector). is_permanent v.0) same ∙ e))

      either : (o : Option Sector) → find (leads_file true id) (data_sectors d) ≡ o → file_among false (data_sectors d) id ≡ if_permanent (file_among true (data_sectors d) id)
      either None e =
          none (λ j u at. fails_more id u (none_passes (leads_file true id) (data_sectors d) e j u at) (leads_file false id u) refl)
          ∙ sym (ap if_permanent (w.file_none true (data_sectors d) id (ap (λ (o : Option Sector). option_map (λ (u : Sector). u.0) o) e)))
      either (Some s) e =
          let f : File = file_by (data_sectors d) s.0 in
          let is : disk_file true d id ≡ Some f = led true s e in
          let at = found_at (leads_file true id) (data_sectors d) s e in
          let own : f.id ≡ id = laws.file_id_is true serial counter d id f is in
          let whole : IsWhole (data_sectors d) f = laws.of_file true serial counter (IsWhole (data_sectors d)) d right.whole_files id f is in
          let mine : is_of f.id s ≡ true = ap (λ (n : ℕ). is_of n s) own ∙ laws.leader_of true serial counter id s at.2 in
          let alone : IsAlone (leads_file true id) (data_sectors d) at.0 =
          subst (λ (n : ℕ). IsAlone (leads_file true n) (data_sectors d) at.0) own (laws.alone_leader true serial counter (data_sectors d) f at.0 s whole at.1 mine (w.leader_number true id s at.2)) in
          marked s at.0 at.1 at.2 alone (is_permanent s.0) refl ∙ sym (ap if_permanent is)

  pub permanent_among : PermanentAreAmong d
  permanent_among =
      same_by_look_up (files_on d) (permanents (files_among true d)) (laws.files_on_rise false 0 0 d) (ascending_permanents (files_among true d) (laws.files_on_rise true 0 0 d))
      (λ id. laws.look_up false 0 0 d id ∙ one id ∙ ap if_permanent (sym (laws.look_up true 0 0 d id)) ∙ sym (at_permanents (files_among true d) (laws.files_on_rise true 0 0 d) id))

  pub permanent_right : FilesRight false serial counter d
  permanent_right = record {
    accepted = right.accepted;
    whole_files = laws.each_file false serial counter (IsWhole (data_sectors d)) d (λ id f is. laws.of_file true serial counter (IsWhole (data_sectors d)) d right.whole_files id f (permanent_some (disk_file true d id) f (sym (one id) ∙ is)));
    ids_given = laws.each_file false serial counter (IsGiven serial counter) d (λ id f is. laws.of_file true serial counter (IsGiven serial counter) d right.ids_given id f (permanent_some (disk_file true d id) f (sym (one id) ∙ is)));
    room = let fewer = room_permanents (files_among true d) in
        omega (arith, fewer, right.room, ap (λ (l : List File). total_room l) permanent_among);
  }

pub permanent_volume : (d : List Sector) → RightFor true d → LabelsRight d
permanent_volume d right = record { has_root = right.has_root; has_maps = right.has_maps; files = permanent_right _ _ d right.files }

-- What is said of all files, of the permanent ones.

-- a shape, if it is permanent
abbrev permanent_shape : Option BareFile → Option BareFile
permanent_shape o = option_map_or (λ (s : BareFile). if s.permanent then Some s else None) o None

shape_permanent : (o : Option File) → option_map bare_file (if_permanent o) ≡ permanent_shape (option_map bare_file o)
shape_permanent None = refl
shape_permanent (Some f) = either f.permanent
  where
    either : (b : Bool) → option_map bare_file (if b then Some f else None) ≡ (if b then Some (bare_file f) else None)
    either true = refl
    either false = refl

pub changed_seen : (serial counter : ℕ) (d e : List Sector) (id : ℕ) (now : Option File) → FilesRight true serial counter d → Changed true serial counter d e id now
    → Changed false serial counter d e id (if_permanent now)
changed_seen serial counter d e id now right change = record {
  file = one serial counter e change.right id ∙ ap if_permanent change.file;
  others = λ other apart. one serial counter e change.right other ∙ ap if_permanent (change.others other apart) ∙ sym (one serial counter d right other);
  right = permanent_right serial counter e change.right;
}

pub shape_changed_seen : (serial counter : ℕ) (d e : List Sector) (id : ℕ) (now : Option File) → FilesRight true serial counter d → ShapeChanged true serial counter d e id now
    → ShapeChanged false serial counter d e id (if_permanent now)
shape_changed_seen serial counter d e id now right change = record {
  file = seen id ∙ ap permanent_shape change.file ∙ sym (shape_permanent now);
  others = λ other apart. seen other ∙ ap permanent_shape (change.others other apart) ∙ sym (before other);
  right = permanent_right serial counter e change.right;
}
  where
    seen : (other : ℕ) → option_map bare_file (disk_file false e other) ≡ permanent_shape (option_map bare_file (disk_file true e other))
    seen other = ap (λ (o : Option File). option_map bare_file o) (one serial counter e change.right other) ∙ shape_permanent (disk_file true e other)

    before : (other : ℕ) → option_map bare_file (disk_file false d other) ≡ permanent_shape (option_map bare_file (disk_file true d other))
    before other = ap (λ (o : Option File). option_map bare_file o) (one serial counter d right other) ∙ shape_permanent (disk_file true d other)

pub kept_seen : (serial counter : ℕ) (d e : List Sector) → FilesRight true serial counter d → Kept true serial counter d e → Kept false serial counter d e
kept_seen serial counter d e right kept = record {
  files = permanent_among serial counter e kept.right ∙ ap permanents kept.files ∙ sym (permanent_among serial counter d right);
  right = permanent_right serial counter e kept.right;
}

pub stays_right_seen : (d e : List Sector) → RightFor true d → StaysRight true d e → StaysRight false d e
stays_right_seen d e right stays = record {
  files = permanent_among _ _ e stays.right.files ∙ ap permanents stays.files ∙ sym (permanent_among _ _ d right.files);
  right = permanent_volume e stays.right;
}
