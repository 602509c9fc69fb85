-- A page that a file got since the last sync is made of what stood in it since.
use Rattle.std.proofs.Common.{◌≡◌, ◌⊎◌, inl, inr, ℕ, suc, ◌+◌, ◌-◌, ◌<◌, ◌≤◌, Bool, List, length, Option, Some, sym, ◌∙◌, ap, subst, arith}
use Rattle.std.specs.Prelude.{slice_get, Contains, option_map}
use Rattle.std.proofs.lemmas.Bool.{cases_eq, cases_lt}
use Rattle.std.proofs.lemmas.Option.{slice_get_within}
use Rattle.labelled_disk.specs.declared.disk.DiskWrite.{DiskWrite}
use Rattle.labelled_disk.specs.declared.disk.DiskWrite.TheVariants.{Whole, LabelOnly, Page}
use Rattle.labelled_disk.specs.CrashState.{crash_state, written}
use Rattle.labelled_disk.specs.File.{File, Page as Cells, size}
use Rattle.labelled_disk.specs.FilesOn.{disk_file, is_page, page_at}
use Rattle.labelled_disk.specs.Label.{leader_page}
use Rattle.labelled_disk.specs.Layout.{data_sectors, first_data}
use Rattle.labelled_disk.specs.Sectors.{Sector}
use Rattle.labelled_disk.proofs.Pages.{pages_most}
use Rattle.label_laws.specs.PermittedRuns.{ArePermitted}
use Rattle.label_laws.specs.Shape.{BareFile, SameShape, bare_file}
use Rattle.label_laws.proofs.MixedLemmas.{crash_state_long}
use Rattle.label_laws.proofs.PermittedLemmas.{each_permitted}
use Rattle.cut_laws.specs.ChangeRows.{AreApart}
use Rattle.cut_laws.specs.ChangesApart.{AreChangesApart, IsLabelled, IsMark, IsQuiet, LabelsApart, MarksApart, ResizesApart}
use Rattle.cut_laws.specs.Cut.{AtSome, IsCut}
use Rattle.cut_laws.specs.CutLaws.{between}
use Rattle.cut_laws.specs.Honest.{IsBetweenSyncs}
use Rattle.cut_laws.specs.NewPages.{HasPlainFree, IsNoPageAt, NewPagesAreOwn}
use Rattle.cut_laws.specs.OneCrashState.{AreFilesWhole, FilesOfOneCrashState, HasUnitOf, IsPageThroughout}
use Rattle.cut_laws.proofs.AddedPageLemmas.{added_units}
use Rattle.cut_laws.proofs.ApartLemmas.{changes_apart, each, forth, last_change, not_after, same_through}
use Rattle.cut_laws.proofs.ChangeRowLemmas.{apart_are_changes_apart}
use Rattle.cut_laws.proofs.CommonLemmas.{file_of_shape}
use Rattle.cut_laws.proofs.CrashStateLemmas.{crash_state-step, data_at, get_some}
use Rattle.cut_laws.proofs.CutLemmas.{window_laws}
use Rattle.cut_laws.proofs.PairLemmas.{lowest as lowest_of}
use Rattle.cut_laws.proofs.SectorPageLemmas.{WritesNoPage, is_counted, same_size, sector_of_page, was_page}
use Rattle.cut_laws.proofs.SteadyLemmas.{found_page}
use Rattle.cut_laws.proofs.StayLemmas.{pages_of_file}
use Rattle.cut_laws.proofs.ThereLemmas.{sized}
use Rattle.cut_laws.proofs.TurnLemmas.{turn}

-- a mark is a label alone, and so is a label by which a file goes
mark_alone : (all : Bool) (id : ℕ) (now : List Sector) (write : DiskWrite) → IsMark all id now write → WritesNoPage write
mark_alone all id now (Whole sector label page) mark = absurd mark
mark_alone all id now (LabelOnly sector label) mark = tt
mark_alone all id now (Page sector wanted page) mark = absurd mark

label_alone : (all : Bool) (id : ℕ) (now : List Sector) (write : DiskWrite) → IsLabelled all id now write → WritesNoPage write
label_alone all id now (Whole sector label page) labelled = absurd labelled
label_alone all id now (LabelOnly sector label) labelled = tt
label_alone all id now (Page sector wanted page) labelled = absurd labelled

module _ (all : Bool) (d : List Sector) (made : ℕ) (writes : List DiskWrite) (syncs : List ℕ) (failed : Bool) (permitted : ArePermitted d writes)
    (whole : (j : ℕ) → j ≤ length writes → AreFilesWhole all (crash_state d writes j)) (apart : AreApart all syncs made d writes failed) (k s : ℕ) (e : List Sector) (few : k ≤ length writes)
    (since : IsBetweenSyncs syncs (made + s) (made + k)) (cut : IsCut d writes s k e) (plain : HasPlainFree (crash_state d writes s)) (id p : ℕ) (g : File) (file : disk_file all e id ≡ Some g) (inside : p < size g)
    (none : IsNoPageAt all id p (crash_state d writes s)) where
  abbrev now : ℕ → List Sector
  now j = crash_state d writes j

  order : s ≤ k
  order = let low = since.by_then in omega (arith, low)

  changes : AreChangesApart all syncs made d writes
  changes = apart_are_changes_apart all syncs made d writes failed apart

  files : FilesOfOneCrashState all d writes s k e
  files = changes_apart all d made writes syncs whole changes k s e few since cut

  synced_by : (j : ℕ) → j < k → Contains syncs (made + j) → j ≤ s
  synced_by = not_after all d made writes syncs whole changes k s few since order

  abbrev Result : Type 0
  Result = (cells : Cells) × (slice_get g.pages p ≡ Some cells) × ((u : ℕ) → AtSome s k (λ j. HasUnitOf all id p u cells (now j)))

  -- the page is there wherever the file is
  by_pages : IsPageThroughout all id p d writes s k → Result
  by_pages below = files.pages id p g file below

  -- the moment whose files the cut has
  abbrev moment : ℕ
  moment = files.shapes.0

  file_then : (h : File) × (disk_file all (now moment) id ≡ Some h) × (bare_file h ≡ bare_file g)
  file_then = file_of_shape all (now moment) id (bare_file g) (sym (files.shapes.3 id) ∙ ap (λ (o : Option File). option_map bare_file o) file)

  size_then : size file_then.0 ≡ size g
  size_then = ap (λ (b : BareFile). b.pages) file_then.2

  -- no write from m on changes the shape of the file
  abbrev KeepsFrom : ℕ → Type 0
  KeepsFrom m = (i : ℕ) (write : DiskWrite) → m ≤ i → i < k → slice_get writes i ≡ Some write → SameShape all (now i) (written write (now i)) id

  shape_from : (m : ℕ) → KeepsFrom m → (j : ℕ) → m ≤ j → j ≤ k → SameShape all (now m) (now j) id
  shape_from m keeps j past by =
      subst (λ (n : ℕ). SameShape all (now m) (now n) id) (let z : m + (j - m) ≡ j = omega (arith, past) in z)
      (same_through all d made writes syncs whole changes id m (j - m) (omega (arith, past, by, few)) (λ i write from below here. keeps i write from (omega (arith, below, past, by)) here))

  size_from : (m : ℕ) → KeepsFrom m → m ≤ moment → (j : ℕ) (f : File) → m ≤ j → j ≤ k → disk_file all (now j) id ≡ Some f → p < size f
  size_from m keeps early j f past by there =
      let same : SameShape all (now moment) (now j) id = shape_from m keeps j past by ∙ sym (shape_from m keeps moment early files.shapes.2) in
      let sizes = same_size all (now moment) (now j) id file_then.0 f same file_then.1 there in
      let first = size_then in omega (arith, sizes, first, inside)

  kept : KeepsFrom s → Result
  kept keeps = by_pages (λ j f past by there. size_from s keeps files.shapes.1 j f past by there)

  -- A label alone was written right after the sync, and the file kept its shape from then on.
  module _ (below : s < k) (write : DiskWrite) (here : slice_get writes s ≡ Some write) (alone : WritesNoPage write) (keeps : KeepsFrom (suc s)) where
    after : suc s ≤ moment
    after = elim (cases_lt s moment) [
      | inl past ↦ past
      | inr low ↦
          let first = size_then in
          let at_sync : disk_file all (now s) id ≡ Some file_then.0 = subst (λ (n : ℕ). disk_file all (now n) id ≡ Some file_then.0) (let from = files.shapes.1 in let z : moment ≡ s = omega (arith, low, from) in z) file_then.1 in
          let less = none file_then.0 at_sync in absurd (omega (arith, less, first, inside))
    ]

    -- the file right after it
    next : (h : File) × (disk_file all (now (suc s)) id ≡ Some h) × (bare_file h ≡ bare_file g)
    next =
        let self : suc s ≤ suc s = omega arith in
        let same : SameShape all (now moment) (now (suc s)) id = sym (shape_from (suc s) keeps moment after files.shapes.2) in
        file_of_shape all (now (suc s)) id (bare_file g) (same ∙ ap (λ (o : Option File). option_map bare_file o) file_then.1 ∙ ap (λ (b : BareFile). Some b) file_then.2)

    had : (f : File) → disk_file all (now s) id ≡ Some f → p < size f
    had f there =
        let count : p < size next.0 = let sizes = ap (λ (b : BareFile). b.pages) next.2 in omega (arith, sizes, inside) in
        let page = sector_of_page (now (suc s)) id (whole (suc s) (omega (arith, below, few)) id next.0 next.1) p (omega (arith, count, sized all (now (suc s)) id next.0 next.1)) in
        let old = get_some (now s) page.0 (omega (arith, slice_get_within (now (suc s)) page.0 page.1 page.2.here, crash_state_long d writes (suc s), crash_state_long d writes s)) in
        let is_data : first_data (length (now s)) ≤ page.0 = subst (λ (n : ℕ). first_data n ≤ page.0) (crash_state_long d writes (suc s) ∙ sym (crash_state_long d writes s)) page.2.is_data in
        let turned = turn (now s) write page.0 old.0 page.1 (each_permitted d writes permitted s write here) is_data old.1
        (ap (λ (x : List Sector). slice_get x page.0) (sym (crash_state-step d writes s write here)) ∙ page.2.here) in
        let is = was_page id p page.0 write old.0 page.1 low alone turned page.3 in
        let counted = is_counted (now s) id (whole s (omega (arith, below, few)) id f there) page.0 p old.0 (record { is_data = is_data; here = old.1 }) is low in
        omega (arith, counted, sized all (now s) id f there)
      where
        low : p < leader_page
        low = let sizes = ap (λ (b : BareFile). b.pages) next.2 in
            omega (arith, inside, sizes, sized all (now (suc s)) id next.0 next.1, pages_most (page_at (data_sectors (now (suc s))) id) 0 leader_page)

    labelled : Result
    labelled = by_pages (λ j f past by there. elim (cases_lt s j) [
      | inl late ↦ size_from (suc s) keeps after j f late by there
      | inr low ↦ had f (subst (λ (n : ℕ). disk_file all (now n) id ≡ Some f) (let z : j ≡ s = omega (arith, low, past) in z) there)
    ])

  -- The file is there throughout, and gets other sizes.
  resized : ((j : ℕ) → s ≤ j → j ≤ k → (f : File) × (disk_file all (now j) id ≡ Some f)) → Result
  resized there =
      let cells = get_some g.pages p inside in
      let low : p < leader_page = omega (arith, inside, sized all e id g file, pages_most (page_at (data_sectors e) id) 0 leader_page) in
      let window = window_laws.cut d writes s k e order cut in
      let t = found_page (now s) (between s k writes) e window id p cells.0 (sym (pages_of_file all e id p g file inside) ∙ cells.1) in
      let at = lowest_of (is_page id p) (data_sectors e) t.0 t.1 in
      let a : ℕ = first_data (length e) + at.0 in
      let stands : slice_get e a ≡ Some t.0 = sym (data_at e at.0) ∙ at.1.here in
      let is_data : first_data (length d) ≤ a = subst (λ (n : ℕ). first_data n ≤ first_data (length e) + at.0) cut.sectors (omega arith) in
      let long = cut.sectors in
      let within : a < length d = omega (arith, slice_get_within e a t.0 stands, long) in (
        cells.0,
        cells.1,
        added_units all d made writes syncs failed permitted apart k s few synced_by id there (λ j past by. let f = there j past by in whole j (omega (arith, by, few)) id f.0 f.1) a p is_data within low plain order none t.0
            at.1.passes cells.0 t.2 (cut.labels a t.0 stands) (λ u. cut.units a u t.0 stands),
      )

  abbrev QuietAt : ℕ → Type 0
  QuietAt i = (write : DiskWrite) → slice_get writes i ≡ Some write → IsQuiet all (now i) write

  new_page : Result
  new_page = either (last_change all d made writes syncs whole changes k (k - s) few (omega arith))
    where
      start : k - (k - s) ≡ s
      start = let low = order in let z : k - (k - s) ≡ s = omega (arith, low) in z

      -- the write at a sync is the first
      at_first : (j : ℕ) → k - (k - s) ≤ j → (below : j < k) → Contains syncs (made + j) → (write : DiskWrite) → slice_get writes j ≡ Some write → WritesNoPage write → ((i : ℕ) → j < i → i < k → QuietAt i) → Result
      at_first j past below has write here alone quiet =
          let early = synced_by j below has in
          let first = start in
          let is : j ≡ s = omega (arith, past, early, first) in
          labelled (subst (λ (n : ℕ). n < k) is below) write (ap (λ (n : ℕ). slice_get writes n) (sym is) ∙ here) alone
          (λ i other from by at. quiet i (omega (arith, from, is)) by other at id)

      by_kind : (j : ℕ) → k - (k - s) ≤ j → (below : j < k) → ((i : ℕ) → j < i → i < k → QuietAt i) → (write : DiskWrite) → slice_get writes j ≡ Some write
          → MarksApart all syncs made d writes j write ⊎ LabelsApart all syncs made d writes j write ⊎ ResizesApart all syncs made d writes j → Result
      by_kind j past below quiet write here (inl mark) = at_first j past below mark.0 write here (mark_alone all mark.1 (now j) write mark.2) quiet
      by_kind j past below quiet write here (inr (inl label)) = at_first j past below label.0 write here (label_alone all label.1.0 (now j) write label.1.1) quiet
      by_kind j past below quiet write here (inr (inr r)) =
          let from : s ≤ j = let z = start in omega (arith, past, z) in
          elim (cases_eq id r.0) [
            | inl same ↦ resized (λ i low by.
                let f = forth all d made writes syncs whole changes k s few since order j from below quiet r (i - s) (omega (arith, low, by)) in (
                  f.0,
                  ap (disk_file all (now i)) same ∙ ap (λ (n : ℕ). disk_file all (now n) r.0) (let z : i ≡ s + (i - s) = omega (arith, low) in z) ∙ f.1,
                ))
            | inr off ↦ kept (λ i other low by at. elim (each all d made writes syncs whole changes k s few since order j from below quiet r i other low by at) [
              | inl still ↦ still id
              | inr resize ↦ resize.0 id off
            ])
          ]

      either : ((i : ℕ) → k - (k - s) ≤ i → i < k → QuietAt i)
          ⊎ ((j : ℕ) × (k - (k - s) ≤ j) × (j < k)
          × ((write : DiskWrite) × (slice_get writes j ≡ Some write) × (MarksApart all syncs made d writes j write ⊎ LabelsApart all syncs made d writes j write ⊎ ResizesApart all syncs made d writes j))
          × ((i : ℕ) → j < i → i < k → QuietAt i)) → Result
      either (inl quiet) = kept (λ i other low by at. quiet i (let z = start in omega (arith, low, z)) by other at id)
      either (inr found) = by_kind found.0 found.1 found.2 found.4 found.3.0 found.3.1 found.3.2

pub new_pages_are_own : (all : Bool) → NewPagesAreOwn all
new_pages_are_own all d made writes syncs failed permitted whole apart k s e few since cut plain id p g file inside none =
    new_page all d made writes syncs failed permitted whole apart k s e few since cut plain id p g file inside none
