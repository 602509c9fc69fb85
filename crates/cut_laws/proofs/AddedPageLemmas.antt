-- A sector that becomes a page of a file that is there throughout: it was cleared up to then, and is this page from then on.
use Rattle.std.proofs.Common.{◌≡◌, ◌≢◌, ◌⊎◌, inl, inr, ℕ, zero, suc, ◌+◌, ◌-◌, ◌<◌, ◌≤◌, Bool, true, false, List, [], map, length, Some, refl, sym, ◌∙◌, ap, subst, arith}
use Rattle.std.specs.Prelude.{slice_get, Contains}
use Rattle.std.proofs.lemmas.Bool.{cases_lt, true≢false}
use Rattle.std.proofs.lemmas.Option.{same_Some}
use Rattle.labelled_disk.specs.declared.label.Label.{Label}
use Rattle.labelled_disk.specs.declared.disk.DiskWrite.{DiskWrite}
use Rattle.labelled_disk.specs.declared.disk.DiskWrite.TheVariants.{Whole, LabelOnly}
use Rattle.labelled_disk.specs.CrashState.{crash_state}
use Rattle.labelled_disk.specs.File.{File, Page as Cells, byte}
use Rattle.labelled_disk.specs.FilesOn.{disk_file, is_page}
use Rattle.labelled_disk.specs.Label.{leader_page}
use Rattle.labelled_disk.specs.Layout.{first_data}
use Rattle.labelled_disk.specs.Runs.{sector_of, zero_bytes}
use Rattle.labelled_disk.specs.Sectors.{Sector, free_label}
use Rattle.labelled_disk.specs.WriteLaws.{HasData}
use Rattle.labelled_disk.proofs.SectorWrites as w
use Rattle.label_laws.specs.Cleared.{IsCleared}
use Rattle.label_laws.specs.PermittedRuns.{ArePermitted}
use Rattle.label_laws.specs.Shape.{SameShape}
use Rattle.label_laws.proofs.MixedLemmas.{crash_state_long, written_other}
use Rattle.label_laws.proofs.PermittedLemmas.{each_permitted}
use Rattle.cut_laws.specs.ChangeRows.{AreApart}
use Rattle.cut_laws.specs.ChangesApart.{IsQuiet}
use Rattle.cut_laws.specs.Cut.{unit, AtSome, HasLabelAt, HasUnitAt}
use Rattle.cut_laws.specs.NewPages.{HasPlainFree, IsNoPageAt}
use Rattle.cut_laws.specs.OneCrashState.{HasUnitOf}
use Rattle.cut_laws.specs.ShapeLaws.{IsWholeOn}
use Rattle.cut_laws.proofs.CrashStateLemmas.{crash_state-step, get_some}
use Rattle.cut_laws.proofs.PlainFreeLemmas.{plain_from}
use Rattle.cut_laws.proofs.SectorPageLemmas.{cells_of, is_counted, page_not_free, page_stays, same_size}
use Rattle.cut_laws.proofs.SizeLemmas.{count_on}
use Rattle.cut_laws.proofs.ThereLemmas.{sized}
use Rattle.cut_laws.proofs.TurnLemmas.{Turn, stays, bytes, fresh, freed, marked, turn}
use Rattle.cut_laws.proofs.UnitLemmas.{unit-map}

-- Sector a, and page p of a file that is there in each crash state from s to k, where no sync was made after s.
module _ (all : Bool) (d : List Sector) (made : ℕ) (writes : List DiskWrite) (syncs : List ℕ) (failed : Bool) (permitted : ArePermitted d writes) (apart : AreApart all syncs made d writes failed) (k s : ℕ)
    (few : k ≤ length writes) (not_after : (j : ℕ) → j < k → Contains syncs (made + j) → j ≤ s) (id : ℕ) (there : (j : ℕ) → s ≤ j → j ≤ k → (f : File) × (disk_file all (crash_state d writes j) id ≡ Some f))
    (whole : (j : ℕ) → s ≤ j → j ≤ k → IsWholeOn (crash_state d writes j) id) (a p : ℕ) (is_data : first_data (length d) ≤ a) (within : a < length d) (low : p < leader_page) where
  abbrev now : ℕ → List Sector
  now j = crash_state d writes j

  -- the sector is this page of the file, or not
  abbrev Passes : ℕ → Type 0
  Passes j = (v : Sector) × (slice_get (now j) a ≡ Some v) × (is_page id p v ≡ true)

  abbrev Fails : ℕ → Type 0
  Fails j = (v : Sector) × (slice_get (now j) a ≡ Some v) × (is_page id p v ≡ false)

  passes_or_fails : (j : ℕ) → Passes j ⊎ Fails j
  passes_or_fails j = let v = get_some (now j) a (omega (arith, within, crash_state_long d writes j)) in either v.0 v.1 (is_page id p v.0) refl
    where
      either : (v : Sector) → slice_get (now j) a ≡ Some v → (b : Bool) → is_page id p v ≡ b → Passes j ⊎ Fails j
      either v here true is = inl (v, here, is)
      either v here false is = inr (v, here, is)

  holds : (j : ℕ) (v : Sector) → slice_get (now j) a ≡ Some v → HasData (now j) a v
  holds j v here = record { is_data = subst (λ (n : ℕ). first_data n ≤ a) (sym (crash_state_long d writes j)) is_data; here = here }

  turn_at : (j : ℕ) (write : DiskWrite) (v t : Sector) → slice_get writes j ≡ Some write → slice_get (now j) a ≡ Some v → slice_get (now (suc j)) a ≡ Some t → Turn write a v t
  turn_at j write v t is here next =
      turn (now j) write a v t (each_permitted d writes permitted j write is) (holds j v here).is_data here (ap (λ (e : List Sector). slice_get e a) (sym (crash_state-step d writes j write is)) ∙ next)

  -- A write to the sector that changes no file.
  module _ (j : ℕ) (past : s ≤ j) (below : j < k) (write : DiskWrite) (is : slice_get writes j ≡ Some write) (on : sector_of write ≡ a) (quiet : IsQuiet all (now j) write) where
    others : (i : ℕ) → i ≢ a → slice_get (now (suc j)) i ≡ slice_get (now j) i
    others i off = ap (λ (e : List Sector). slice_get e i) (crash_state-step d writes j write is) ∙ written_other (now j) write i (λ e. off (sym e ∙ on))

    same_count : count_on (now (suc j)) id ≡ count_on (now j) id
    same_count =
        let f = there j past (omega (arith, below)) in
        let g = there (suc j) (omega (arith, past)) (omega (arith, below)) in
        let same : SameShape all (now j) (now (suc j)) id = subst (λ (x : List Sector). SameShape all (now j) x id) (sym (crash_state-step d writes j write is)) (quiet id) in
        sym (sized all (now (suc j)) id g.0 g.1) ∙ same_size all (now j) (now (suc j)) id f.0 g.0 same f.1 g.1 ∙ sized all (now j) id f.0 f.1

    same_long : length (now (suc j)) ≡ length (now j)
    same_long = crash_state_long d writes (suc j) ∙ sym (crash_state_long d writes j)

    passed : (v t : Sector) → slice_get (now j) a ≡ Some v → slice_get (now (suc j)) a ≡ Some t → is_page id p t ≡ true → is_page id p v ≡ true
    passed v t here next =
        page_stays (now j) (now (suc j)) id a p (whole j past (omega (arith, below))) (whole (suc j) (omega (arith, past)) (omega (arith, below))) same_long others same_count low v t here (holds (suc j) t next)

    passes_on : (v t : Sector) → slice_get (now j) a ≡ Some v → slice_get (now (suc j)) a ≡ Some t → is_page id p v ≡ true → is_page id p t ≡ true
    passes_on v t here next =
        page_stays (now (suc j)) (now j) id a p (whole (suc j) (omega (arith, past)) (omega (arith, below))) (whole j past (omega (arith, below))) (sym same_long) (λ i off. sym (others i off)) (sym same_count) low t v next
        (holds j v here)

  -- the write that makes the sector this page, with zeros, over one that was cleared since s
  abbrev Added : ℕ → Type 0
  Added j = (label : Label) × (page : List ℕ) × (slice_get writes j ≡ Some (Whole a label page)) × ((i : ℕ) → s ≤ i → i ≤ j → (v : Sector) × (slice_get (now i) a ≡ Some v) × IsCleared v)
      × ((t : Sector) × (slice_get (now (suc j)) a ≡ Some t) × (t.1 ≡ zero_bytes))

  added : (j : ℕ) → s ≤ j → j < k → Fails j → Passes (suc j) → Added j
  added j past below fails passes =
      let one = get_some writes j (omega (arith, below, few)) in
      by_turn one.0 one.1 fails.0 passes.0 fails.1 passes.1 fails.2 passes.2 (turn_at j one.0 fails.0 passes.0 one.1 fails.1 passes.1)
    where
      cleared : (label : Label) (page : List ℕ) (v t : Sector) → slice_get writes j ≡ Some (Whole a label page) → slice_get (now j) a ≡ Some v → slice_get (now (suc j)) a ≡ Some t → is_page id p v ≡ false
          → is_page id p t ≡ true → (i : ℕ) → s ≤ i → i ≤ j → (u : Sector) × (slice_get (now i) a ≡ Some u) × IsCleared u
      cleared label page v t is here next not_before then = elim (apart j (Whole a label page) is) [
        | inl quiet ↦ absurd (true≢false (sym (passed j past below (Whole a label page) is refl quiet v t here next then) ∙ not_before))
        | inr (inl mark) ↦ absurd mark.2
        | inr (inr (inl goes)) ↦ absurd goes.1.1
        | inr (inr (inr r)) ↦ λ i from by.
            let early : r.1 ≤ j = r.2 in
            let synced : r.1 ≤ s = not_after r.1 (omega (arith, early, below)) r.3 in
            r.5 i (omega (arith, synced, from)) by
      ]

      by_turn : (write : DiskWrite) → slice_get writes j ≡ Some write → (v t : Sector) → slice_get (now j) a ≡ Some v → slice_get (now (suc j)) a ≡ Some t → is_page id p v ≡ false → is_page id p t ≡ true → Turn write a v t
          → Added j
      by_turn write is v t here next not_before then (stays e) = absurd (true≢false (sym then ∙ ap (λ (u : Sector). is_page id p u) e ∙ not_before))
      by_turn write is v t here next not_before then (bytes wanted eq named label) = absurd (true≢false (sym then ∙ ap (λ (l : Label). is_page id p (l, [])) label ∙ not_before))
      by_turn write is v t here next not_before then (fresh eq old new page) =
          let whole_is : slice_get writes j ≡ Some (Whole a t.0 t.1) = is ∙ ap (λ (x : DiskWrite). Some x) eq in (t.0, t.1, whole_is, cleared t.0 t.1 v t whole_is here next not_before then, (t, next, page))
      by_turn write is v t here next not_before then (freed eq new) = absurd (true≢false (sym then ∙ ap (λ (u : Sector). is_page id p (u.0, [])) new))
      by_turn write is v t here next not_before then (marked eq same old new page) = absurd (omega (arith, w.page_number true id p t then, new, low))

  -- from then on it is this page
  keeps : (at : ℕ) → s ≤ at → Added at → (j : ℕ) → at < j → j < k → Passes j → Passes (suc j)
  keeps at from made_page j after below before =
      let one = get_some writes j (omega (arith, below, few)) in
      let next = get_some (now (suc j)) a (omega (arith, within, crash_state_long d writes (suc j))) in
      (next.0, next.1, by_turn one.0 one.1 before.0 next.0 before.1 next.1 before.2 (turn_at j one.0 before.0 next.0 one.1 before.1 next.1))
    where
      past : s ≤ j
      past = omega (arith, from, after)

      none_freed : (v t : Sector) → slice_get writes j ≡ Some (LabelOnly a free_label) → slice_get (now j) a ≡ Some v → slice_get (now (suc j)) a ≡ Some t → is_page id p v ≡ true → is_page id p t ≡ true
      none_freed v t is here next then = elim (apart j (LabelOnly a free_label) is) [
        | inl quiet ↦ passes_on j past below (LabelOnly a free_label) is refl quiet v t here next then
        | inr (inl mark) ↦ let early = not_after j below mark.0 in absurd (omega (arith, early, from, after))
        | inr (inr (inl goes)) ↦ let early = not_after j below goes.0 in absurd (omega (arith, early, from, after))
        | inr (inr (inr r)) ↦
            let early : r.1 ≤ j = r.2 in
            let synced : r.1 ≤ s = not_after r.1 (omega (arith, early, below)) r.3 in
            absurd (r.5 at a made_page.0 made_page.1 (omega (arith, synced, from)) after made_page.2)
      ]

      by_turn : (write : DiskWrite) → slice_get writes j ≡ Some write → (v t : Sector) → slice_get (now j) a ≡ Some v → slice_get (now (suc j)) a ≡ Some t → is_page id p v ≡ true → Turn write a v t → is_page id p t ≡ true
      by_turn write is v t here next then (stays e) = ap (λ (u : Sector). is_page id p u) e ∙ then
      by_turn write is v t here next then (bytes wanted eq named label) = ap (λ (l : Label). is_page id p (l, [])) label ∙ then
      by_turn write is v t here next then (fresh eq old new page) = absurd (page_not_free id p v then old)
      by_turn write is v t here next then (freed eq new) = none_freed v t (is ∙ ap (λ (x : DiskWrite). Some x) eq) here next then
      by_turn write is v t here next then (marked eq same old new page) = absurd (omega (arith, w.page_number true id p v then, old, low))

  from_there : (at : ℕ) → s ≤ at → Added at → Passes (suc at) → (c : ℕ) → suc at + c ≤ k → Passes (suc at + c)
  from_there at from made_page next zero by = subst Passes (let z : suc at ≡ suc at + 0 = omega arith in z) next
  from_there at from made_page next (suc c) by =
      subst Passes (let z : suc (suc at + c) ≡ suc at + suc c = omega arith in z)
      (keeps at from made_page (suc at + c) (omega arith) (omega (arith, by)) (from_there at from made_page next c (omega (arith, by))))

  -- between a moment at which it is not this page and one at which it is
  found : (c : ℕ) → Fails s → Passes (s + c) → (j : ℕ) × (s ≤ j) × (j < s + c) × Fails j × Passes (suc j)
  found zero fails passes =
      let at = subst Passes (let z : s + 0 ≡ s = omega arith in z) passes in
      absurd (true≢false (sym at.2 ∙ ap (λ (u : Sector). is_page id p u) (same_Some at.0 fails.0 (sym at.1 ∙ fails.1)) ∙ fails.2))
  found (suc c) fails passes = elim (passes_or_fails (s + c)) [
    | inl early ↦ let f = found c fails early in (f.0, f.1, let less = f.2 in omega (arith, less), f.3, f.4)
    | inr late ↦ (s + c, omega arith, omega arith, late, subst Passes (let z : s + suc c ≡ suc (s + c) = omega arith in z) passes)
  ]

  -- The file has no such page at s. A unit of a sector of a cut that is this page.
  module _ (plain : HasPlainFree (now s)) (order : s ≤ k) (none : IsNoPageAt all id p (now s)) (t : Sector) (is : is_page id p t ≡ true) where
    fails_first : Fails s
    fails_first = elim (passes_or_fails s) [
      | inr fails ↦ fails
      | inl passes ↦
          let self : s ≤ s = omega arith in
          let f = there s self order in
          let more = is_counted (now s) id (whole s self order) a p passes.0 (holds s passes.0 passes.1) passes.2 low in
          absurd (omega (arith, more, sized all (now s) id f.0 f.1, none f.0 f.1))
    ]

    -- a unit of the sector, at a moment at which it is this page
    stood_then : (cells : Cells) (u j : ℕ) → s ≤ j → j ≤ k → (v : Passes j) → map byte (unit u v.0.1) ≡ unit u cells → AtSome s k (λ i. HasUnitOf all id p u cells (now i))
    stood_then cells u j past by v stood =
        let f = there j past by in
        (j, past, by, (f.0, f.1, map byte v.0.1, cells_of (now j) id (whole j past by) all f.0 f.1 a p v.0 (holds j v.0 v.1) v.2 low, unit-map byte u v.0.1 ∙ stood))

    of_added : (cells : Cells) → map byte t.1 ≡ cells → (u at : ℕ) → s ≤ at → at < k → Added at → Passes (suc at) → AtSome s k (λ j. HasUnitAt (now j) a u (unit u t.1)) → AtSome s k (λ j. HasUnitOf all id p u cells (now j))
    of_added cells shown u at from below made_page next some = elim (cases_lt at some.0) [
      | inl after ↦
          let j = some.0 in
          let by : j ≤ k = some.2 in
          let v = subst Passes (let z : suc at + (j - suc at) ≡ j = omega (arith, after) in z) (from_there at from made_page next (j - suc at) (omega (arith, after, by))) in
          let same : v.0 ≡ some.3.0 = same_Some v.0 some.3.0 (sym v.1 ∙ some.3.1) in
          stood_then cells u j some.1 by v (ap (λ (x : Sector). map byte (unit u x.1)) same ∙ stood)
      | inr early ↦
          let v = made_page.3 some.0 some.1 early in
          let same : some.3.0 ≡ v.0 = same_Some some.3.0 v.0 (sym some.3.1 ∙ v.1) in
          let plain_then = plain_from d writes s some.0 permitted some.1 plain a v.0 (holds some.0 v.0 v.1) v.2.free in
          let zeros : some.3.0.1 ≡ zero_bytes = ap (λ (x : Sector). x.1) same ∙ v.2.zeros plain_then in
          let first : next.0.1 ≡ zero_bytes = ap (λ (x : Sector). x.1) (same_Some next.0 made_page.4.0 (sym next.1 ∙ made_page.4.1)) ∙ made_page.4.2 in
          stood_then cells u (suc at) (omega (arith, from)) (omega (arith, below)) next (ap (λ (x : List ℕ). map byte (unit u x)) (first ∙ sym zeros) ∙ stood)
    ]
      where
        stood : map byte (unit u some.3.0.1) ≡ unit u cells
        stood = ap (λ (x : List ℕ). map byte x) some.3.2 ∙ sym (unit-map byte u t.1) ∙ ap (unit u) shown

    pub added_units : (cells : Cells) → map byte t.1 ≡ cells → AtSome s k (λ j. HasLabelAt (now j) a t.0) → ((u : ℕ) → AtSome s k (λ j. HasUnitAt (now j) a u (unit u t.1))) → (u : ℕ) → AtSome s k (λ j. HasUnitOf all id p u cells (now j))
    added_units cells shown label units u =
        let by : label.0 ≤ k = label.2 in
        let labelled : Passes label.0 = (label.3.0, label.3.1, ap (λ (l : Label). is_page id p (l, [])) label.3.2 ∙ is) in
        let at = found (label.0 - s) fails_first (subst Passes (let past = label.1 in let z : label.0 ≡ s + (label.0 - s) = omega (arith, past) in z) labelled) in
        let less : at.0 < k = let past = label.1 in let f = at.2 in omega (arith, f, past, by) in
        of_added cells shown u at.0 at.1 less (added at.0 at.1 less at.3 at.4) at.4 (units u)
