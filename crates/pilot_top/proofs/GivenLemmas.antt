-- The root of a cut gives out no identifier that a permanent file of the cut has.
use Rattle.std.proofs.Common.{◌≡◌, ◌⊎◌, inl, inr, ℕ, zero, suc, ◌+◌, ◌-◌, ◌/◌, ◌%◌, ◌^◌, ◌<◌, ◌≤◌, false, List, length, take, Option, Some, None, refl, sym, ◌∙◌, ap, subst, arith, length-take}
use Rattle.std.specs.Prelude.{slice_get, slice_set, Contains, option_map}
use Rattle.std.specs.Option.{option_map_or}
use Rattle.std.proofs.lemmas.Bool.{cases_eq, cases_lt}
use Rattle.std.proofs.lemmas.List.{length-drop}
use Rattle.std.proofs.lemmas.Option.{slice_get_within}
use Rattle.labelled_disk.specs.declared.label.Label.{Label}
use Rattle.labelled_disk.specs.declared.disk.DiskWrite.{DiskWrite}
use Rattle.labelled_disk.specs.declared.disk.DiskWrite.TheVariants as kind
use Rattle.labelled_disk.specs.CrashState.{crash_state, written}
use Rattle.labelled_disk.specs.File.{File}
use Rattle.labelled_disk.specs.FilesOn.{disk_file}
use Rattle.labelled_disk.specs.Right.{IsGiven}
use Rattle.labelled_disk.specs.Root.{LabelsRight, counter_of, number_at, page_in, root_page, serial_of}
use Rattle.labelled_disk.specs.Sectors.{Sector}
use Rattle.labelled_disk.proofs.Finds.{get_set_other, get_set_same}
use Rattle.labelled_disk.proofs.LowestLemmas as lowest_files
use Rattle.labelled_disk.proofs.WriteLemmas as laws
use Rattle.label_laws.specs.Shape.{SameShape, bare_file}
use Rattle.cut_laws.specs.ChangesApart.{AreChangesApart, IsLabelled, IsMark, IsResize, LabelsApart, MarksApart, ResizesApart}
use Rattle.cut_laws.specs.Cut.{AtSome, IsCut}
use Rattle.cut_laws.specs.CutLaws.{between}
use Rattle.cut_laws.specs.Honest.{IsBetweenSyncs}
use Rattle.cut_laws.specs.Roots.{RootOfCrashStates}
use Rattle.cut_laws.proofs.CommonLemmas.{file_of_shape}
use Rattle.cut_laws.proofs.CrashStateLemmas.{crash_state-step, get_some}
use Rattle.cut_laws.proofs.CutLemmas.{window_laws}
use Rattle.cut_laws.proofs.RootLemmas.{flag_laws}
use Rattle.pilot_top.specs.OnePlace.{IsAboveFiles}

-- a label alone leaves the root's page
pub label_leaves_root : (now : List Sector) (sector : ℕ) (label : Label) → root_page (written (kind.LabelOnly sector label) now) ≡ root_page now
label_leaves_root now sector label = by (slice_get now sector) refl
  where
    by : (o : Option Sector) → slice_get now sector ≡ o → root_page (option_map_or (λ old. slice_set now sector (label, old.1)) o now) ≡ root_page now
    by None none = refl
    by (Some old) here = elim (cases_eq 0 sector) [
      | inl first ↦
          let put : slice_get (slice_set now sector (label, old.1)) 0 ≡ Some (label, old.1) =
          ap (λ (n : ℕ). slice_get (slice_set now sector (label, old.1)) n) first ∙ get_set_same now sector (label, old.1) (slice_get_within now sector old here) in
          let stood : slice_get now 0 ≡ Some old = ap (λ (n : ℕ). slice_get now n) first ∙ here in
          ap page_in put ∙ sym (ap page_in stood)
      | inr off ↦ ap page_in (get_set_other now sector 0 (label, old.1) off)
    ]

-- the numbers of a cut's root are those of one crash state
pub numbers_of_one : (d : List Sector) (writes : List DiskWrite) (s k : ℕ) (e : List Sector) → s ≤ k → k ≤ length writes → IsCut d writes s k e
    → AtSome s k (λ j. (serial_of e ≡ serial_of (crash_state d writes j)) × (counter_of e ≡ counter_of (crash_state d writes j)))
numbers_of_one d writes s k e ordered few cut =
    let root : RootOfCrashStates (crash_state d writes s) (between s k writes) e = flag_laws.root (crash_state d writes s) (between s k writes) e (window_laws.cut d writes s k e ordered cut) in
    let n = root.numbers in
    let many : n.0 ≤ length (between s k writes) = n.2 in
    let rest = length-drop s (take k writes) in
    let taken = length-take k writes in
    let by_then : s + n.0 ≤ k = omega (arith, many, rest, taken, few, ordered) in
    let state = window_laws.crash_states d writes s k n.0 by_then in
    (s + n.0, omega arith, by_then, (n.3.0 ∙ ap serial_of state, n.3.1 ∙ ap counter_of state))

module _ (d : List Sector) (writes : List DiskWrite) where
  abbrev now : ℕ → List Sector
  now i = crash_state d writes i

  -- the file is there
  abbrev Has : ℕ → ℕ → Type 0
  Has id i = (f : File) × (disk_file false (now i) id ≡ Some f)

  abbrev Stays : ℕ → ℕ → ℕ → Type 0
  Stays id i j = (Has id i → Has id j) × (Has id j → Has id i)

  has_by : (id i j : ℕ) → SameShape false (now i) (now j) id → Has id i → Has id j
  has_by id i j same f = let g = file_of_shape false (now j) id (bare_file f.0) (same ∙ ap (λ (o : Option File). option_map bare_file o) f.1) in (g.0, g.1)

  stays_by : (i : ℕ) (write : DiskWrite) → slice_get writes i ≡ Some write → (id : ℕ) → SameShape false (now i) (written write (now i)) id → Stays id i (suc i)
  stays_by i write here id same =
      let shape : SameShape false (now i) (now (suc i)) id = subst (λ (x : List Sector). SameShape false (now i) x id) (sym (crash_state-step d writes i write here)) same in
      (has_by id i (suc i) shape, has_by id (suc i) i (sym shape))

  stays_resized : (i : ℕ) (write : DiskWrite) → slice_get writes i ≡ Some write → (file : ℕ) → IsResize false file (now i) write → (id : ℕ) → Stays id i (suc i)
  stays_resized i write here file resize id = elim (cases_eq id file) [
    | inr off ↦ stays_by i write here id (resize.0 id off)
    | inl is ↦ (
      λ f. (resize.3, ap (λ (n : ℕ). disk_file false (now (suc i)) n) is ∙ ap (λ (x : List Sector). disk_file false x file) (crash_state-step d writes i write here) ∙ resize.4),
      λ f. (resize.1, ap (λ (n : ℕ). disk_file false (now i) n) is ∙ resize.2),
    )
  ]

  module _ (made : ℕ) (syncs : List ℕ) (apart : AreChangesApart false syncs made d writes) (k s : ℕ) (few : k ≤ length writes) (since : IsBetweenSyncs syncs (made + s) (made + k)) where
    -- no sync was made after s and before k
    not_after : (j : ℕ) → j < k → Contains syncs (made + j) → j ≤ s
    not_after j below has = elim (cases_lt s j) [
      | inr low ↦ low
      | inl past ↦ absurd (let next = since.none_between (made + j) has (omega (arith, past)) in omega (arith, next, below))
    ]

    -- a later write takes no file away, and makes none appear
    later_stays : (i : ℕ) → s < i → i < k → (id : ℕ) → Stays id i (suc i)
    later_stays i past below id = let w = get_some writes i (omega (arith, below, few)) in by w.0 w.1 (apart i w.0 w.1)
      where
        by : (write : DiskWrite) → slice_get writes i ≡ Some write
            → ((other : ℕ) → SameShape false (now i) (written write (now i)) other) ⊎ MarksApart false syncs made d writes i write ⊎ LabelsApart false syncs made d writes i write ⊎ ResizesApart false syncs made d writes i
            → Stays id i (suc i)
        by write here (inl quiet) = stays_by i write here id (quiet id)
        by write here (inr (inl mark)) = absurd (let by_sync = not_after i below mark.0 in omega (arith, by_sync, past))
        by write here (inr (inr (inl label))) = absurd (let by_sync = not_after i below label.0 in omega (arith, by_sync, past))
        by write here (inr (inr (inr resize))) = stays_resized i write here resize.0 (resize.4 write here) id

    -- so all have the same ones
    later_all : (c : ℕ) → suc s + c ≤ k → (id : ℕ) → Stays id (suc s) (suc s + c)
    later_all zero low id = let z : suc s ≡ suc s + 0 = omega arith in subst (Stays id (suc s)) z (λ f. f, λ f. f)
    later_all (suc c) low id =
        let so_far = later_all c (omega (arith, low)) id in
        let next = later_stays (suc s + c) (omega arith) (omega (arith, low)) id in
        let z : suc (suc s + c) ≡ suc s + suc c = omega arith in
        subst (Stays id (suc s)) z (λ f. next.0 (so_far.0 f), λ f. so_far.1 (next.1 f))

    later_at : (i : ℕ) → s < i → i ≤ k → (id : ℕ) → Stays id (suc s) i
    later_at i past low id = let z : suc s + (i - suc s) ≡ i = omega (arith, past) in subst (Stays id (suc s)) z (later_all (i - suc s) (omega (arith, past, low)) id)

    -- the first write takes no file away, and makes none appear; or it leaves the counter, and takes none away or is the only one
    abbrev First : Type 0
    First = ((id : ℕ) → Stays id s (suc s)) ⊎ ((counter_of (now (suc s)) ≡ counter_of (now s)) × (((id : ℕ) → Has id s → Has id (suc s)) ⊎ (k ≤ suc s)))

    first_write : s < k → First
    first_write below = let w = get_some writes s (omega (arith, below, few)) in by w.0 w.1 (apart s w.0 w.1)
      where
        counted : (sector : ℕ) (label : Label) → slice_get writes s ≡ Some (kind.LabelOnly sector label) → counter_of (now (suc s)) ≡ counter_of (now s)
        counted sector label here = ap counter_of (crash_state-step d writes s (kind.LabelOnly sector label) here) ∙ ap (λ (page : List ℕ). number_at page 20) (label_leaves_root (now s) sector label)

        ends : Contains syncs (made + suc s) ⊎ (suc s ≡ length writes) → k ≤ suc s
        ends (inl has) = elim (cases_lt (suc s) k) [ inr low ↦ low | inl more ↦ (let low = not_after (suc s) more has in absurd (omega (arith, low))) ]
        ends (inr last) = omega (arith, few, last)

        marked : (write : DiskWrite) → slice_get writes s ≡ Some write → (file : ℕ) → IsMark false file (now s) write → First
        marked (kind.LabelOnly sector label) here file mark = inr (
          counted sector label here,
          inl (λ id f. elim (cases_eq id file) [
            | inr off ↦ (stays_by s (kind.LabelOnly sector label) here id (mark.0 id off)).0 f
            | inl is ↦ (
              mark.5,
              ap (λ (n : ℕ). disk_file false (now (suc s)) n) is ∙ ap (λ (x : List Sector). disk_file false x file) (crash_state-step d writes s (kind.LabelOnly sector label) here) ∙ mark.6,
            )
          ]),
        )
        marked (kind.Whole sector label page) here file mark = absurd mark
        marked (kind.Page sector wanted page) here file mark = absurd mark

        labelled : (write : DiskWrite) → slice_get writes s ≡ Some write → (file : ℕ) → IsLabelled false file (now s) write → k ≤ suc s → First
        labelled (kind.LabelOnly sector label) here file others last = inr (counted sector label here, inr last)
        labelled (kind.Whole sector label page) here file others last = absurd others
        labelled (kind.Page sector wanted page) here file others last = absurd others

        by : (write : DiskWrite) → slice_get writes s ≡ Some write
            → ((other : ℕ) → SameShape false (now s) (written write (now s)) other) ⊎ MarksApart false syncs made d writes s write ⊎ LabelsApart false syncs made d writes s write ⊎ ResizesApart false syncs made d writes s
            → First
        by write here (inl quiet) = inl (λ id. stays_by s write here id (quiet id))
        by write here (inr (inl mark)) = marked write here mark.1 mark.2
        by write here (inr (inr (inl label))) = labelled write here label.1.0 label.1.1 (ends label.2)
        by write here (inr (inr (inr resize))) = inl (λ id. stays_resized s write here resize.0 (resize.4 write here) id)

    -- the file stands beside this counter
    abbrev Beside : ℕ → ℕ → Type 0
    Beside id j = (l : ℕ) × Has id l × (counter_of (now l) ≡ counter_of (now j))

    -- a file that is there at one moment since the sync stands beside the counter of each
    beside : (i j id : ℕ) → s ≤ i → i ≤ k → s ≤ j → j ≤ k → Has id i → Beside id j
    beside i j id low_i high_i low_j high_j f = by (cases_lt s i) (cases_lt s j)
      where
        by : (s < i) ⊎ (i ≤ s) → (s < j) ⊎ (j ≤ s) → Beside id j
        by (inr at_i) (inr at_j) = (i, f, let z : i ≡ j = omega (arith, at_i, at_j, low_i, low_j) in ap (λ (n : ℕ). counter_of (now n)) z)
        by (inl past_i) (inl past_j) = (j, (later_at j past_j high_j id).0 ((later_at i past_i high_i id).1 f), refl)
        by (inl past_i) (inr at_j) =
            let z : s ≡ j = omega (arith, at_j, low_j) in
            let there = (later_at i past_i high_i id).1 f in
            elim (first_write (omega (arith, past_i, high_i))) [
              | inl stays ↦ (s, (stays id).1 there, ap (λ (n : ℕ). counter_of (now n)) z)
              | inr counts ↦ (suc s, there, counts.0 ∙ ap (λ (n : ℕ). counter_of (now n)) z)
            ]
        by (inr at_i) (inl past_j) =
            let z : i ≡ s = omega (arith, at_i, low_i) in
            let there : Has id s = subst (Has id) z f in
            elim (first_write (omega (arith, past_j, high_j))) [
              | inl stays ↦ (j, (later_at j past_j high_j id).0 ((stays id).0 there), refl)
              | inr counts ↦ elim counts.1 [
                | inl keeps ↦ (j, (later_at j past_j high_j id).0 (keeps id there), refl)
                | inr last ↦ (s, there, sym counts.0 ∙ (let y : suc s ≡ j = omega (arith, past_j, high_j, last) in ap (λ (n : ℕ). counter_of (now n)) y))
              ]
            ]

    -- where labels are right in each crash state, with one serial
    pub above_files : ((i : ℕ) → LabelsRight (now i)) → (serial : ℕ) → ((i : ℕ) → serial_of (now i) ≡ serial) → (e : List Sector) → IsCut d writes s k e
        → AtSome s k (λ i. (id : ℕ) → SameShape false (now i) e id) → IsAboveFiles e
    above_files right serial serials e cut shapes id f file high =
        let order = since.by_then in
        let number = numbers_of_one d writes s k e (omega (arith, order)) few cut in
        let state : Has id shapes.0 = let g = file_of_shape false (now shapes.0) id (bare_file f) (sym (shapes.3 id) ∙ ap (λ (o : Option File). option_map bare_file o) file) in (g.0, g.1) in
        let own = beside shapes.0 number.0 id shapes.1 shapes.2 number.1 number.2 state in
        let l : ℕ = own.0 in
        let g : File = own.1.0 in
        let ids : g.id ≡ id = ((lowest_files.files_are_as_revealed false (now l)).revealed id g own.1.1).1 in
        let given = laws.of_file false (serial_of (now l)) (counter_of (now l)) (IsGiven (serial_of (now l)) (counter_of (now l))) (now l) (right l).files.ids_given id g own.1.1 in
        let below = given (ap (λ (n : ℕ). n / 2 ^ 32) ids ∙ high ∙ number.3.0 ∙ serials number.0 ∙ sym (serials l)) in
        subst (λ (n : ℕ). n < counter_of e) (ap (λ (n : ℕ). n % 2 ^ 32) ids) (subst (λ (n : ℕ). g.id % 2 ^ 32 < n) (own.2 ∙ sym number.3.1) below)
