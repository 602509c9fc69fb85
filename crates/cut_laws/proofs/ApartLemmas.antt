-- Changes of files with a sync between each two: what changed since the last sync is one of them.
use Rattle.std.proofs.Common.{◌≡◌, ◌≢◌, ◌⊎◌, inl, inr, ℕ, zero, suc, ◌+◌, ◌-◌, ◌<◌, ◌≤◌, Bool, List, [], ◌∷◌, length, take, Option, Some, refl, sym, ◌∙◌, ap, subst, arith}
use Rattle.std.specs.Prelude.{slice_get, Contains, option_map}
use Rattle.std.proofs.lemmas.Bool.{cases_eq, cases_lt}
use Rattle.std.proofs.lemmas.List.{length-take-le}
use Rattle.std.proofs.lemmas.Option.{none-some, same_Some}
use Rattle.labelled_disk.specs.declared.disk.DiskWrite.{DiskWrite}
use Rattle.labelled_disk.specs.declared.disk.DiskWrite.TheVariants.{Whole, LabelOnly, Page}
use Rattle.labelled_disk.specs.CrashState.{crash_state, written}
use Rattle.labelled_disk.specs.File.{File, size}
use Rattle.labelled_disk.specs.FilesOn.{disk_file}
use Rattle.labelled_disk.specs.Sectors.{Sector}
use Rattle.label_laws.specs.Shape.{BareFile, SameShape, bare_file}
use Rattle.cut_laws.specs.ChangesApart.{AreChangesApart, ChangesApartAreOfOneCrashState, IsLabelled, IsMark, IsQuiet, IsResize, LabelsApart, LeavesOthers, MarksApart, ResizesApart}
use Rattle.cut_laws.specs.Cut.{AtSome, IsCut}
use Rattle.cut_laws.specs.CutLaws.{between}
use Rattle.cut_laws.specs.Honest.{IsBetweenSyncs}
use Rattle.cut_laws.specs.OneCrashState.{AreFilesWhole, ChangesOneFile, FilesOfOneCrashState, HasUnitOf, IsMarkedFirst, IsOneLabel, IsSteady}
use Rattle.cut_laws.proofs.CommonLemmas.{file_of_shape}
use Rattle.cut_laws.proofs.CrashStateLemmas.{crash_state-step, get_some}
use Rattle.cut_laws.proofs.CutLemmas.{between_long, crash_state-between, window_laws}
use Rattle.cut_laws.proofs.MarkedFirstLemmas.{one_change}

-- the first of the writes since a sync
window_first : (writes : List DiskWrite) (s k : ℕ) (write : DiskWrite) → s < k → slice_get writes s ≡ Some write → between s k writes ≡ write ∷ between (suc s) k writes
window_first [] s k write low here = absurd (none-some write here)
window_first (w ∷ ws) s zero write low here = absurd (omega (arith, low))
window_first (w ∷ ws) zero (suc k) write low here = ap (λ (v : DiskWrite). v ∷ take k ws) (same_Some w write here)
window_first (w ∷ ws) (suc s) (suc k) write low here = window_first ws s k write (omega (arith, low)) here

-- none is left of them
window_none : (writes : List DiskWrite) (k : ℕ) → between k k writes ≡ []
window_none writes zero = refl
window_none [] (suc k) = refl
window_none (w ∷ ws) (suc k) = window_none ws k

module _ (all : Bool) (d : List Sector) (made : ℕ) (writes : List DiskWrite) (syncs : List ℕ) (whole : (j : ℕ) → j ≤ length writes → AreFilesWhole all (crash_state d writes j))
    (apart : AreChangesApart all syncs made d writes) where
  abbrev QuietAt : ℕ → Type 0
  QuietAt i = (write : DiskWrite) → slice_get writes i ≡ Some write → IsQuiet all (crash_state d writes i) write

  abbrev ChangesAt : ℕ → Type 0
  ChangesAt i = (write : DiskWrite) × (slice_get writes i ≡ Some write) × (MarksApart all syncs made d writes i write ⊎ LabelsApart all syncs made d writes i write ⊎ ResizesApart all syncs made d writes i)

  -- the last of some writes that changes a file
  pub last_change : (k c : ℕ) → k ≤ length writes → c ≤ k
      → ((i : ℕ) → k - c ≤ i → i < k → QuietAt i) ⊎ ((j : ℕ) × (k - c ≤ j) × (j < k) × ChangesAt j × ((i : ℕ) → j < i → i < k → QuietAt i))
  last_change k zero few low = inl (λ i past below. absurd (omega (arith, past, below)))
  last_change k (suc c) few low = either (last_change k c few (omega (arith, low)))
    where
      either : ((i : ℕ) → k - c ≤ i → i < k → QuietAt i) ⊎ ((j : ℕ) × (k - c ≤ j) × (j < k) × ChangesAt j × ((i : ℕ) → j < i → i < k → QuietAt i))
          → ((i : ℕ) → k - suc c ≤ i → i < k → QuietAt i) ⊎ ((j : ℕ) × (k - suc c ≤ j) × (j < k) × ChangesAt j × ((i : ℕ) → j < i → i < k → QuietAt i))
      either (inr found) = inr (found.0, let past = found.1 in omega (arith, past), found.2, found.3, found.4)
      either (inl quiet) =
          let w = get_some writes (k - suc c) (omega (arith, few, low)) in
          elim (apart (k - suc c) w.0 w.1) [
            | inl still ↦ inl (λ i past below. elim (cases_eq i (k - suc c)) [
              | inl is ↦ λ write here.
                  subst (λ (n : ℕ). IsQuiet all (crash_state d writes n) write) (sym is)
                  (subst (IsQuiet all (crash_state d writes (k - suc c))) (same_Some w.0 write (sym w.1 ∙ ap (λ (n : ℕ). slice_get writes n) (sym is) ∙ here)) still)
              | inr off ↦ quiet i (omega (arith, past, off, low)) below
            ])
            | inr changes ↦ inr (k - suc c, omega arith, omega (arith, low), (w.0, w.1, changes), λ i past below. quiet i (omega (arith, past, low)) below)
          ]

  -- what each of some writes leaves the same is the same after all
  pub same_through : (id a c : ℕ) → a + c ≤ length writes → ((i : ℕ) (write : DiskWrite) → a ≤ i → i < a + c → slice_get writes i ≡ Some write → SameShape all (crash_state d writes i) (written write (crash_state d writes i)) id)
      → SameShape all (crash_state d writes a) (crash_state d writes (a + c)) id
  same_through id a zero few each = ap (λ (n : ℕ). option_map bare_file (disk_file all (crash_state d writes n) id)) (let z : a + 0 ≡ a = omega arith in z)
  same_through id a (suc c) few each =
      let w = get_some writes (a + c) (omega (arith, few)) in
      let z : a + suc c ≡ suc (a + c) = omega arith in
      ap (λ (n : ℕ). option_map bare_file (disk_file all (crash_state d writes n) id)) z
      ∙ ap (λ (x : List Sector). option_map bare_file (disk_file all x id)) (crash_state-step d writes (a + c) w.0 w.1)
      ∙ each (a + c) w.0 (omega arith) (omega arith) w.1
      ∙ same_through id a c (omega (arith, few)) (λ i write past below here. each i write past (omega (arith, below)) here)

  module _ (k s : ℕ) (few : k ≤ length writes) (since : IsBetweenSyncs syncs (made + s) (made + k)) (order : s ≤ k) where
    abbrev first : List Sector
    first = crash_state d writes s

    abbrev window : List DiskWrite
    window = between s k writes

    window_long : length window ≡ k - s
    window_long = between_long s k writes ∙ ap (λ (n : ℕ). n - s) (length-take-le k writes few)

    window_state : (j : ℕ) → j ≤ length window → crash_state first window j ≡ crash_state d writes (s + j)
    window_state j low = let long = window_long in crash_state-between d writes s k j (omega (arith, low, long, order))

    window_whole : (j : ℕ) → j ≤ length window → AreFilesWhole all (crash_state first window j)
    window_whole j low = let long = window_long in subst (AreFilesWhole all) (sym (window_state j low)) (whole (s + j) (omega (arith, low, long, order, few)))

    -- a file that each write leaves
    window_steady : (id : ℕ) → ((i : ℕ) (write : DiskWrite) → s ≤ i → i < k → slice_get writes i ≡ Some write → SameShape all (crash_state d writes i) (written write (crash_state d writes i)) id)
        → IsSteady all id first window
    window_steady id each j low =
        let long = window_long in
        ap (λ (x : List Sector). option_map bare_file (disk_file all x id)) (window_state j low)
        ∙ same_through id s j (omega (arith, low, long, order, few)) (λ i write past below here. each i write past (omega (arith, below, low, long, order)) here)

    -- no sync was made after s and before k
    pub not_after : (j : ℕ) → j < k → Contains syncs (made + j) → j ≤ s
    not_after j below has = elim (cases_lt s j) [
      | inr low ↦ low
      | inl after ↦ absurd (let past = since.none_between (made + j) has (omega (arith, after)) in omega (arith, past, below))
    ]

    abbrev Changes : Type 0
    Changes = (id : ℕ) × ChangesOneFile all first window id

    nothing : ((i : ℕ) → s ≤ i → i < k → QuietAt i) → Changes
    nothing quiet = (
      0,
      record {
        whole = window_whole;
        others = λ other off. window_steady other (λ i write past below here. quiet i past below write here other);
        change = inl (window_steady 0 (λ i write past below here. quiet i past below write here 0));
      },
    )

    -- The first write changes the file, and no other one does.
    module _ (below : s < k) (rest_quiet : (i : ℕ) → s < i → i < k → QuietAt i) (write : DiskWrite) (here : slice_get writes s ≡ Some write) (id : ℕ) (others : LeavesOthers all id first write) where
      abbrev rest : List DiskWrite
      rest = between (suc s) k writes

      is_first : window ≡ write ∷ rest
      is_first = window_first writes s k write below here

      others_steady : (other : ℕ) → other ≢ id → IsSteady all other first window
      others_steady other off = window_steady other (λ i v past low there. elim (cases_eq i s) [
        | inl on ↦
            subst (λ (n : ℕ). SameShape all (crash_state d writes n) (written v (crash_state d writes n)) other) (sym on)
            (subst (λ (x : DiskWrite). SameShape all first (written x first) other) (same_Some write v (sym here ∙ ap (λ (n : ℕ). slice_get writes n) (sym on) ∙ there)) (others other off))
        | inr away ↦ rest_quiet i (omega (arith, past, away)) low v there other
      ])

      after_first : written write first ≡ crash_state d writes (suc s)
      after_first = sym (crash_state-step d writes s write here)

      -- it has one shape from then on
      later_steady : IsSteady all id (written write first) rest
      later_steady j low =
          let long = between_long (suc s) k writes ∙ ap (λ (n : ℕ). n - suc s) (length-take-le k writes few) in
          let state : crash_state (written write first) rest j ≡ crash_state d writes (suc s + j) = ap (λ (x : List Sector). crash_state x rest j) after_first ∙ crash_state-between d writes (suc s) k j (omega (arith, low, long, below)) in
          ap (λ (x : List Sector). option_map bare_file (disk_file all x id)) state
          ∙ same_through id (suc s) j (omega (arith, low, long, below, few)) (λ i v past inside there. rest_quiet i (omega (arith, past)) (omega (arith, inside, low, long, below)) v there id)
          ∙ ap (λ (x : List Sector). option_map bare_file (disk_file all x id)) (sym after_first)

    marked : (below : s < k) → ((i : ℕ) → s < i → i < k → QuietAt i) → (write : DiskWrite) → slice_get writes s ≡ Some write → (id : ℕ) → IsMark all id first write → Changes
    marked below quiet (LabelOnly sector label) here id mark = (
      id,
      record {
        whole = window_whole;
        others = others_steady below quiet (LabelOnly sector label) here id mark.0;
        change = inr (inr (inl (subst (IsMarkedFirst all id first) (sym (is_first below quiet (LabelOnly sector label) here id mark.0))
            (mark.1, mark.2, mark.3, mark.4, (mark.5, mark.6), later_steady below quiet (LabelOnly sector label) here id mark.0))));
      },
    )
    marked below quiet (Whole sector label page) here id mark = absurd mark
    marked below quiet (Page sector wanted page) here id mark = absurd mark

    labelled_alone : (below : s < k) → k ≤ suc s → ((i : ℕ) → s < i → i < k → QuietAt i) → (write : DiskWrite) → slice_get writes s ≡ Some write → (id : ℕ) → IsLabelled all id first write → Changes
    labelled_alone below last quiet (LabelOnly sector label) here id others = (
      id,
      record {
        whole = window_whole;
        others = others_steady below quiet (LabelOnly sector label) here id others;
        change = inr (inr (inr (subst IsOneLabel (sym (is_first below quiet (LabelOnly sector label) here id others ∙ ap (λ (ws : List DiskWrite). LabelOnly sector label ∷ ws)
            (let z : k ≡ suc s = omega (arith, below, last) in ap (λ (n : ℕ). between (suc s) n writes) z ∙ window_none writes (suc s)))) tt)));
      },
    )
    labelled_alone below last quiet (Whole sector label page) here id others = absurd others
    labelled_alone below last quiet (Page sector wanted page) here id others = absurd others

    -- The file gets other sizes, up to the write j.
    module _ (j : ℕ) (past_first : s ≤ j) (below : j < k) (quiet : (i : ℕ) → j < i → i < k → QuietAt i) (apart_at : ResizesApart all syncs made d writes j) where
      abbrev id : ℕ
      id = apart_at.0

      from_sync : apart_at.1 ≤ s
      from_sync = let low = apart_at.2 in not_after apart_at.1 (omega (arith, low, below)) apart_at.3

      pub each : (i : ℕ) (write : DiskWrite) → s ≤ i → i < k → slice_get writes i ≡ Some write → IsQuiet all (crash_state d writes i) write ⊎ IsResize all id (crash_state d writes i) write
      each i write past low here = elim (cases_lt j i) [
        | inl after ↦ inl (quiet i after low write here)
        | inr by ↦ apart_at.5 i write (let z = from_sync in omega (arith, z, past)) by here
      ]

      pub at_j : (write : DiskWrite) × (slice_get writes j ≡ Some write)
      at_j = get_some writes j (omega (arith, below, few))

      -- the file as it was then, but for its size
      abbrev bare : BareFile
      bare = bare_file (apart_at.4 at_j.0 at_j.1).1

      abbrev Like : ℕ → Type 0
      Like i = (f : File) × (disk_file all (crash_state d writes i) id ≡ Some f) × (bare_file f ≡ record bare { pages = size f })

      like_by_shape : (a b : ℕ) → SameShape all (crash_state d writes a) (crash_state d writes b) id → Like a → Like b
      like_by_shape a b same f =
          let g = file_of_shape all (crash_state d writes b) id (bare_file f.0) (same ∙ ap (λ (o : Option File). option_map bare_file o) f.1) in
          (g.0, g.1, g.2 ∙ f.2 ∙ ap (λ (n : ℕ). record bare { pages = n }) (sym (ap (λ (b : BareFile). b.pages) g.2)))

      step_is : (i : ℕ) (write : DiskWrite) → slice_get writes i ≡ Some write → written write (crash_state d writes i) ≡ crash_state d writes (suc i)
      step_is i write here = sym (crash_state-step d writes i write here)

      up : (i : ℕ) (write : DiskWrite) → slice_get writes i ≡ Some write → IsQuiet all (crash_state d writes i) write ⊎ IsResize all id (crash_state d writes i) write → Like i → Like (suc i)
      up i write here (inl still) like = like_by_shape i (suc i) (subst (λ (x : List Sector). SameShape all (crash_state d writes i) x id) (step_is i write here) (still id)) like
      up i write here (inr resize) like =
          let same : resize.1 ≡ like.0 = same_Some resize.1 like.0 (sym resize.2 ∙ like.1) in (
            resize.3,
            ap (λ (x : List Sector). disk_file all x id) (sym (step_is i write here)) ∙ resize.4,
            resize.5 ∙ ap (λ (f : File). record (bare_file f) { pages = size resize.3 }) same ∙ ap (λ (b : BareFile). record b { pages = size resize.3 }) like.2,
          )

      down : (i : ℕ) (write : DiskWrite) → slice_get writes i ≡ Some write → IsQuiet all (crash_state d writes i) write ⊎ IsResize all id (crash_state d writes i) write → Like (suc i) → Like i
      down i write here (inl still) like = like_by_shape (suc i) i (sym (subst (λ (x : List Sector). SameShape all (crash_state d writes i) x id) (step_is i write here) (still id))) like
      down i write here (inr resize) like =
          let same : resize.3 ≡ like.0 = same_Some resize.3 like.0 (sym resize.4 ∙ ap (λ (x : List Sector). disk_file all x id) (step_is i write here) ∙ like.1) in
          let bare_is : record (bare_file resize.1) { pages = size resize.3 } ≡ record bare { pages = size like.0 } = sym resize.5 ∙ ap bare_file same ∙ like.2 in
          (resize.1, resize.2, ap (λ (b : BareFile). record b { pages = size resize.1 }) bare_is)

      -- at j it is there, so back to the sync, and from there on
      back : (c : ℕ) → c ≤ j - s → Like (j - c)
      back zero low = subst Like (let z : j ≡ j - 0 = omega arith in z) (let at = apart_at.4 at_j.0 at_j.1 in (at.1, at.2, refl))
      back (suc c) low =
          let w = get_some writes (j - suc c) (omega (arith, below, few)) in
          let z : suc (j - suc c) ≡ j - c = omega (arith, low) in
          down (j - suc c) w.0 w.1 (each (j - suc c) w.0 (omega (arith, low, past_first)) (omega (arith, below)) w.1) (subst Like (sym z) (back c (omega (arith, low))))

      pub forth : (c : ℕ) → s + c ≤ k → Like (s + c)
      forth zero low = subst Like (let z : j - (j - s) ≡ s + 0 = omega (arith, past_first) in z) (back (j - s) (omega arith))
      forth (suc c) low =
          let w = get_some writes (s + c) (omega (arith, low, few)) in
          let z : suc (s + c) ≡ s + suc c = omega arith in
          subst Like z (up (s + c) w.0 w.1 (each (s + c) w.0 (omega arith) (omega (arith, low)) w.1) (forth c (omega (arith, low))))

      resized : Changes
      resized = (
        id,
        record {
          whole = window_whole;
          others = λ other off. window_steady other (λ i write past low here. elim (each i write past low here) [ inl still ↦ still other | inr resize ↦ resize.0 other off ]);
          change = inr (inl (
            bare,
            λ i low.
                let long = window_long in
                let f = forth i (omega (arith, low, long, order)) in
                (f.0, ap (λ (x : List Sector). disk_file all x id) (window_state i low) ∙ f.1, f.2),
          ));
        },
      )

    changes : Changes
    changes = either (last_change k (k - s) few (omega arith))
      where
        start : k - (k - s) ≡ s
        start = let z : k - (k - s) ≡ s = omega (arith, order) in z

        at_sync : (j : ℕ) → k - (k - s) ≤ j → j < k → Contains syncs (made + j) → j ≡ s
        at_sync j past below has = let low = not_after j below has in let z : j ≡ s = omega (arith, past, low, order) in z

        ends : Contains syncs (made + suc s) ⊎ (suc s ≡ length writes) → k ≤ suc s
        ends (inl has) = elim (cases_lt (suc s) k) [ inr low ↦ low | inl more ↦ (let low = not_after (suc s) more has in absurd (omega (arith, low))) ]
        ends (inr last) = omega (arith, few, last)

        first_change : (j : ℕ) → k - (k - s) ≤ j → j < k → ((i : ℕ) → j < i → i < k → QuietAt i) → (write : DiskWrite) → slice_get writes j ≡ Some write
            → MarksApart all syncs made d writes j write ⊎ LabelsApart all syncs made d writes j write ⊎ ResizesApart all syncs made d writes j → Changes
        first_change j past below quiet write here (inl mark) = at_mark (at_sync j past below mark.0) below quiet here mark.2
          where
            at_mark : j ≡ s → j < k → ((i : ℕ) → j < i → i < k → QuietAt i) → slice_get writes j ≡ Some write → IsMark all mark.1 (crash_state d writes j) write → Changes
            at_mark is low quiet here mark_is =
                marked (subst (λ (n : ℕ). n < k) is low) (subst (λ (n : ℕ). (i : ℕ) → n < i → i < k → QuietAt i) is quiet) write (ap (λ (n : ℕ). slice_get writes n) (sym is) ∙ here) mark.1
                (subst (λ (n : ℕ). IsMark all mark.1 (crash_state d writes n) write) is mark_is)
        first_change j past below quiet write here (inr (inl label)) = at_label (at_sync j past below label.0) below quiet here label.1.1 label.2
          where
            at_label : j ≡ s → j < k → ((i : ℕ) → j < i → i < k → QuietAt i) → slice_get writes j ≡ Some write → IsLabelled all label.1.0 (crash_state d writes j) write
                → Contains syncs (made + suc j) ⊎ (suc j ≡ length writes) → Changes
            at_label is low quiet here labels last =
                labelled_alone (subst (λ (n : ℕ). n < k) is low) (ends (subst (λ (n : ℕ). Contains syncs (made + suc n) ⊎ (suc n ≡ length writes)) is last))
                (subst (λ (n : ℕ). (i : ℕ) → n < i → i < k → QuietAt i) is quiet) write (ap (λ (n : ℕ). slice_get writes n) (sym is) ∙ here) label.1.0
                (subst (λ (n : ℕ). IsLabelled all label.1.0 (crash_state d writes n) write) is labels)
        first_change j past below quiet write here (inr (inr resize)) = resized j (let z = start in omega (arith, past, z)) below quiet resize

        either : ((i : ℕ) → k - (k - s) ≤ i → i < k → QuietAt i) ⊎ ((j : ℕ) × (k - (k - s) ≤ j) × (j < k) × ChangesAt j × ((i : ℕ) → j < i → i < k → QuietAt i)) → Changes
        either (inl quiet) = nothing (λ i past below. quiet i (let z = start in omega (arith, past, z)) below)
        either (inr found) = first_change found.0 found.1 found.2 found.4 found.3.0 found.3.1 found.3.2

    -- said of all writes
    abbrev move : (P : List Sector → Type 0) → AtSome 0 (length window) (λ j. P (crash_state first window j)) → AtSome s k (λ j. P (crash_state d writes j))
    move P some = (s + some.0, omega arith, let low = some.2 in let long = window_long in omega (arith, low, long, order), subst P (window_state some.0 some.2) some.3)

    files : (e : List Sector) → IsCut d writes s k e → FilesOfOneCrashState all d writes s k e
    files e cut =
        let one = one_change all first window e changes.0 (window_laws.cut d writes s k e order cut) changes.1 in
        record {
          shapes = move (λ x. (id : ℕ) → SameShape all x e id) one.shapes;
          pages = λ id p g file below.
              let own = one.pages id p g file (λ j f past low there. below (s + j) f (omega arith) (let long = window_long in omega (arith, low, long, order)) (ap (λ (x : List Sector). disk_file all x id) (sym (window_state j low)) ∙ there)) in (
                own.0,
                own.1,
                λ u. let some = own.2 u in (
                  s + some.0,
                  omega arith,
                  let low = some.2 in let long = window_long in omega (arith, low, long, order),
                  subst (HasUnitOf all id p u own.0) (window_state some.0 some.2) some.3,
                ),
              );
        }

pub changes_apart : (all : Bool) → ChangesApartAreOfOneCrashState all
changes_apart all d made writes syncs whole apart k s e few since cut = files all d made writes syncs whole apart k s few since (let low = since.by_then in omega (arith, low)) e cut
