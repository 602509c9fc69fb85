-- Files of a disk of which any sectors that no file needs were freed.
use Rattle.std.proofs.Common.{◌≡◌, ◌≢◌, ◌⊎◌, inl, inr, ℕ, zero, suc, ◌+◌, ◌-◌, ◌<◌, ◌≤◌, Bool, true, false, ◌&&◌, ◌||◌, List, [], ◌∷◌, length, Option, Some, None, refl, sym, ◌∙◌, ap, subst, arith, eqb}
use Rattle.std.specs.Prelude.{slice_get, option_map, nat_lt}
use Rattle.std.specs.Option.{option_map_or}
use Rattle.std.specs.List.{position_or_len}
use Rattle.std.proofs.lemmas.Bool.{cases_eq, true≢false, and_left, and_from, eqb-true, eq-eqb, lt-ltb}
use Rattle.std.proofs.lemmas.List.{length-drop}
use Rattle.std.proofs.lemmas.Option.{same_Some, none-some, slice_get_within}
use Rattle.labelled_disk.specs.declared.disk.DiskWrite.{DiskWrite}
use Rattle.labelled_disk.specs.declared.disk.DiskWrite.TheVariants as kind
use Rattle.labelled_disk.specs.File.{File, size}
use Rattle.labelled_disk.specs.FilesOn.{is_page, leads_file, file_among, files_among, disk_file}
use Rattle.labelled_disk.specs.Label.{is_file}
use Rattle.labelled_disk.specs.Layout.{data_sectors, first_data}
use Rattle.labelled_disk.specs.Lowest.{IsFileOn, IsLowest, is_first, is_needed}
use Rattle.labelled_disk.specs.CrashState.{crash_state, written}
use Rattle.labelled_disk.specs.Runs.{sector_of}
use Rattle.labelled_disk.specs.Sectors.{Sector}
use Rattle.labelled_disk.proofs.Finds.{find_none, none_passes, get_set_same}
use Rattle.labelled_disk.proofs.LowestLemmas as lowest
use Rattle.labelled_disk.proofs.SectorWrites as w
use Rattle.labelled_disk.proofs.WriteLemmas as laws
use Rattle.label_laws.proofs.FileLemmas.{label_written}
use Rattle.label_laws.proofs.MixedLemmas.{written_other}
use Rattle.cut_laws.specs.Cut.{unit}
use Rattle.cut_laws.specs.Restored.{IsRestoring, RestoredKeepsFiles}
use Rattle.cut_laws.proofs.UnitLemmas.{same_units}
use Rattle.cut_laws.proofs.CrashStateLemmas.{get_some, data_at, history}
use Rattle.cut_laws.proofs.StayLemmas.{of_id}

-- the lowest that passes is the first
lowest_first : (test : Sector → Bool) (xs : List Sector) (i : ℕ) (s : Sector) → IsLowest test xs i s → is_first test xs i ≡ true
lowest_first test [] i s low = absurd (none-some s low.here)
lowest_first test (x ∷ xs) zero s low = let e : test x ≡ true = ap test (same_Some x s low.here) ∙ low.passes in rw e refl
lowest_first test (x ∷ xs) (suc i) s low =
    let e : test x ≡ false = low.none_below 0 x (omega arith) refl in
    let rest : is_first test xs i ≡ true = lowest_first test xs i s (record { here = low.here; passes = low.passes; none_below = λ j t l at. low.none_below (suc j) t (omega (arith, l)) at }) in
    rw e (eq-eqb (1 + position_or_len test xs) (suc i) (omega (arith, eqb-true (position_or_len test xs) i rest)))

or_left : (a b : Bool) → a ≡ true → (a || b) ≡ true
or_left true b e = refl
or_left false b e = absurd (true≢false (sym e))

or_right : (a b : Bool) → b ≡ true → (a || b) ≡ true
or_right true b e = refl
or_right false b e = e

module _ (all : Bool) where
  needs : List Sector → ℕ → Sector → File → Bool
  needs xs i s f = is_first (leads_file all s.0.id) xs i || (nat_lt s.0.page (size f) && is_first (is_page s.0.id s.0.page) xs i)

  needed_by : (xs : List Sector) (i : ℕ) (s : Sector) (f : File) → slice_get xs i ≡ Some s → file_among all xs s.0.id ≡ Some f → needs xs i s f ≡ true → is_needed all xs i ≡ true
  unfolding needs
  needed_by xs i s f here is passes =
      ap (λ (o : Option Sector). option_map_or (λ s. option_map_or (λ f. is_first (leads_file all s.0.id) xs i || (nat_lt s.0.page (size f) && is_first (is_page s.0.id s.0.page) xs i)) (file_among all xs s.0.id) false) o false) here
      ∙ ap (λ (o : Option File). option_map_or (λ f. is_first (leads_file all s.0.id) xs i || (nat_lt s.0.page (size f) && is_first (is_page s.0.id s.0.page) xs i)) o false) is
      ∙ passes

  -- the leader and each page of a file are needed
  leader_needed : (xs : List Sector) (f : File) (i : ℕ) (s : Sector) → file_among all xs f.id ≡ Some f → IsLowest (leads_file all f.id) xs i s → is_needed all xs i ≡ true
  unfolding needs
  leader_needed xs f i s is low =
      let own : s.0.id ≡ f.id = w.leader_id all f.id s low.passes in
      needed_by xs i s f low.here (ap (file_among all xs) own ∙ is)
      (or_left (is_first (leads_file all s.0.id) xs i) (nat_lt s.0.page (size f) && is_first (is_page s.0.id s.0.page) xs i)
      (ap (λ (n : ℕ). is_first (leads_file all n) xs i) own ∙ lowest_first (leads_file all f.id) xs i s low))

  page_needed : (xs : List Sector) (f : File) (p i : ℕ) (s : Sector) → file_among all xs f.id ≡ Some f → p < size f → IsLowest (is_page f.id p) xs i s → is_needed all xs i ≡ true
  unfolding needs
  page_needed xs f p i s is below low =
      let own : s.0.id ≡ f.id = of_id f.id s (w.page_of all f.id p s low.passes) in
      let number : s.0.page ≡ p = w.page_number all f.id p s low.passes in
      needed_by xs i s f low.here (ap (file_among all xs) own ∙ is)
      (or_right (is_first (leads_file all s.0.id) xs i) (nat_lt s.0.page (size f) && is_first (is_page s.0.id s.0.page) xs i)
      (and_from (nat_lt s.0.page (size f)) (is_first (is_page s.0.id s.0.page) xs i) (lt-ltb s.0.page (size f) (omega (arith, number, below)))
      (ap (λ (n : ℕ). is_first (is_page n s.0.page) xs i) own ∙ ap (λ (n : ℕ). is_first (is_page f.id n) xs i) number ∙ lowest_first (is_page f.id p) xs i s low)))

  -- Each sector stands, or no file needs it and it is no file's now.
  abbrev StandsOrFree : List Sector → List Sector → Type 0
  StandsOrFree xs ys = (i : ℕ) (s t : Sector) → slice_get xs i ≡ Some s → slice_get ys i ≡ Some t → (t ≡ s) ⊎ ((is_needed all xs i ≡ false) × (is_file t.0 ≡ false))

  no_page : (id p : ℕ) (t : Sector) → is_file t.0 ≡ false → is_page id p t ≡ false
  no_page id p t fails = w.not_of-not_page all id p t (and_left (is_file t.0) (eqb t.0.id id) fails)

  no_leader : (id : ℕ) (t : Sector) → is_file t.0 ≡ false → leads_file all id t ≡ false
  no_leader id t fails = w.not_of-not_leader all id t (and_left (is_file t.0) (eqb t.0.id id) fails)

  module _ (xs ys : List Sector) (long : length ys ≡ length xs) (each : StandsOrFree xs ys) where
    partner : (i : ℕ) (t : Sector) → slice_get ys i ≡ Some t → (s : Sector) × (slice_get xs i ≡ Some s)
    partner i t at = get_some xs i (omega (arith, slice_get_within ys i t at, long))

    stands : (i : ℕ) (s : Sector) → slice_get xs i ≡ Some s → is_needed all xs i ≡ true → slice_get ys i ≡ Some s
    stands i s here needed =
        let t = get_some ys i (omega (arith, slice_get_within xs i s here, long)) in
        elim (each i s t.0 here t.1) [
          | inl e ↦ t.1 ∙ ap (λ (v : Sector). Some v) e
          | inr free ↦ absurd (true≢false (sym needed ∙ free.0))
        ]

    -- what failed fails
    fails : (test : Sector → Bool) → ((t : Sector) → is_file t.0 ≡ false → test t ≡ false) → (i : ℕ) (t : Sector) → slice_get ys i ≡ Some t → ((s : Sector) → slice_get xs i ≡ Some s → test s ≡ false) → test t ≡ false
    fails test by i t at before =
        let s = partner i t at in
        elim (each i s.0 t s.1 at) [
          | inl e ↦ ap test e ∙ before s.0 s.1
          | inr free ↦ by t free.1
        ]

    low_stands : (test : Sector → Bool) → ((t : Sector) → is_file t.0 ≡ false → test t ≡ false) → (i : ℕ) (s : Sector) → IsLowest test xs i s → is_needed all xs i ≡ true → IsLowest test ys i s
    low_stands test by i s low needed = record {
      here = stands i s low.here needed;
      passes = low.passes;
      none_below = λ j t below at. fails test by j t at (λ u there. low.none_below j u below there);
    }

    file_stands : (f : File) → file_among all xs f.id ≡ Some f → IsFileOn all xs f → IsFileOn all ys f
    file_stands f is on = record {
      leader = let l = on.leader in (l.0, l.1, low_stands (leads_file all f.id) (λ t no. no_leader f.id t no) l.0 l.1 l.2 (leader_needed xs f l.0 l.1 is l.2), l.3, l.4, l.5);
      page = λ p below. let s = on.page p below in (s.0, s.1, low_stands (is_page f.id p) (λ t no. no_page f.id p t no) s.0 s.1 s.2 (page_needed xs f p s.0 s.1 is below s.2), s.3);
      numbered = on.numbered;
      ends = elim on.ends [
        | inl e ↦ inl e
        | inr nowhere ↦ inr (λ j t at. fails (is_page f.id (size f)) (λ u no. no_page f.id (size f) u no) j t at (λ u there. nowhere j u there))
      ];
    }

    none_stands : (id : ℕ) → file_among all xs id ≡ None → file_among all ys id ≡ None
    none_stands id none =
        w.file_none all ys id
        (ap (λ (o : Option Sector). option_map (λ s. s.0) o)
        (find_none (leads_file all id) ys (λ i t at. fails (leads_file all id) (λ u no. no_leader id u no) i t at (λ u there. none_passes (leads_file all id) xs (w.none_leads all xs id none) i u there))))

  -- so the files are the same
  pub files_stand : (d e : List Sector) → length e ≡ length d → ((i : ℕ) (s t : Sector) → first_data (length d) ≤ i → slice_get d i ≡ Some s → slice_get e i ≡ Some t
      → (t ≡ s) ⊎ ((is_needed all (data_sectors d) (i - first_data (length d)) ≡ false) × (is_file t.0 ≡ false))) → files_among all e ≡ files_among all d
  files_stand d e long each = laws.same_files all 0 0 d e (λ id. either id (disk_file all d id) refl)
    where
      long_data : length (data_sectors e) ≡ length (data_sectors d)
      long_data = length-drop (first_data (length e)) e ∙ ap (λ (n : ℕ). n - first_data n) long ∙ sym (length-drop (first_data (length d)) d)

      each_data : StandsOrFree (data_sectors d) (data_sectors e)
      each_data i s t here there =
          let z : first_data (length d) + i - first_data (length d) ≡ i = omega arith in
          subst (λ (n : ℕ). (t ≡ s) ⊎ ((is_needed all (data_sectors d) n ≡ false) × (is_file t.0 ≡ false))) z
          (each (first_data (length d) + i) s t (omega arith) (sym (data_at d i) ∙ here) (ap (λ (n : ℕ). slice_get e (first_data n + i)) (sym long) ∙ sym (data_at e i) ∙ there))

      either : (id : ℕ) (o : Option File) → disk_file all d id ≡ o → disk_file all e id ≡ disk_file all d id
      either id None is = none_stands (data_sectors d) (data_sectors e) long_data each_data id is ∙ sym is
      either id (Some f) is =
          let revealed = (lowest.files_are_as_revealed all d).revealed id f is in
          let own : disk_file all d f.id ≡ Some f = ap (disk_file all d) revealed.1 ∙ is in
          ap (disk_file all e) (sym revealed.1)
          ∙ (lowest.files_are_as_revealed all e).all f (file_stands (data_sectors d) (data_sectors e) long_data each_data f own revealed.0)
          ∙ sym is

  -- one write of a restoration
  abbrev Kept : List Sector → ℕ → Sector → Sector → Type 0
  Kept d i s t = (t.1 ≡ s.1) × ((t.0 ≡ s.0) ⊎ ((is_needed all (data_sectors d) (i - first_data (length d)) ≡ false) × (is_file t.0 ≡ false)))

  kept_step : (d now : List Sector) (write : DiskWrite) (i : ℕ) (s u t : Sector) → IsRestoring all d write → first_data (length d) ≤ i → slice_get now i ≡ Some u → slice_get (written write now) i ≡ Some t → Kept d i s u → Kept d i s t
  kept_step d now write i s u t restoring low here there kept = either (cases_eq (sector_of write) i)
    where
      freed : (write : DiskWrite) → IsRestoring all d write → sector_of write ≡ i → slice_get (written write now) i ≡ Some t → Kept d i s t
      freed (kind.Whole sector label page) before at new = absurd (omega (arith, before, at, low))
      freed (kind.Page sector wanted page) before at new = absurd (omega (arith, before, at, low))
      freed (kind.LabelOnly sector label) (inl before) at new = absurd (omega (arith, before, at, low))
      freed (kind.LabelOnly sector label) (inr free) at new =
          let put : (label, u.1) ≡ t =
          same_Some (label, u.1) t (sym (get_set_same now i (label, u.1) (slice_get_within now i u here))
          ∙ ap (λ (e : List Sector). slice_get e i) (sym (label_written now i u label here)) ∙ ap (λ (j : ℕ). slice_get (written (kind.LabelOnly j label) now) i) (sym at) ∙ new) in (
            ap (λ (v : Sector). v.1) (sym put) ∙ kept.0,
            inr (
              subst (λ (j : ℕ). is_needed all (data_sectors d) (j - first_data (length d)) ≡ false) at free.0.unneeded,
              ap (λ (v : Sector). is_file v.0) (sym put) ∙ ap is_file free.1,
            ),
          )

      either : (sector_of write ≡ i) ⊎ (sector_of write ≢ i) → Kept d i s t
      either (inl at) = freed write restoring at there
      either (inr apart) = subst (λ (v : Sector). Kept d i s v) (same_Some u t (sym here ∙ sym (written_other now write i apart) ∙ there)) kept

  pub restored_keeps_files : RestoredKeepsFiles all
  restored_keeps_files d writes e cut each = files_stand d e cut.sectors (λ i s t low here there. one i s t low here there)
    where
      kept : (i : ℕ) (s : Sector) → first_data (length d) ≤ i → slice_get d i ≡ Some s → (k : ℕ) → k ≤ length writes → (t : Sector) → slice_get (crash_state d writes k) i ≡ Some t → Kept d i s t
      kept i s low here =
          history (λ k t. Kept d i s t) d writes i (λ t there. let same : t ≡ s = same_Some t s (sym there ∙ here) in (ap (λ (v : Sector). v.1) same, inl (ap (λ (v : Sector). v.0) same)))
          (λ k write u t few is now new there before. kept_step d (crash_state d writes k) write i s u t (each k write is) low now new before)

      one : (i : ℕ) (s t : Sector) → first_data (length d) ≤ i → slice_get d i ≡ Some s → slice_get e i ≡ Some t → (t ≡ s) ⊎ ((is_needed all (data_sectors d) (i - first_data (length d)) ≡ false) × (is_file t.0 ≡ false))
      one i s t low here there =
          let label = cut.labels i t there in
          let page : t.1 ≡ s.1 = same_units t.1 s.1 (λ u. let part = cut.units i u t there in sym part.3.2 ∙ ap (unit u) (kept i s low here part.0 part.2 part.3.0 part.3.1).0) in
          elim (kept i s low here label.0 label.2 label.3.0 label.3.1).1 [
            | inl same ↦ (let both : t.0 ≡ s.0 = sym label.3.2 ∙ same in inl (λ x. (both x, page x)))
            | inr free ↦ inr (free.0, ap is_file (sym label.3.2) ∙ free.1)
          ]
