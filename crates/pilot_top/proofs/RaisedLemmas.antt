-- The counter of a cut's root is no lower than that of the root at the last sync.
use Rattle.std.proofs.Common.{◌≡◌, ◌≢◌, ◌⊎◌, inl, inr, ℕ, zero, suc, ◌+◌, ◌-◌, ◌*◌, ◌^◌, ◌<◌, ◌≤◌, List, ◌++◌, length, Option, Some, sym, ◌∙◌, ap, subst, arith}
use Rattle.std.specs.Prelude.{slice_get, slice_set, option_map}
use Rattle.std.proofs.lemmas.Bool.{cases_eq, cases_lt}
use Rattle.labelled_disk.specs.declared.disk.DiskWrite.{DiskWrite}
use Rattle.labelled_disk.specs.declared.disk.DiskWrite.TheVariants as kind
use Rattle.labelled_disk.specs.CrashState.{crash_state, written}
use Rattle.labelled_disk.specs.Permitted.{Permitted}
use Rattle.labelled_disk.specs.Root.{counter_of, page_in, root_page, serial_of}
use Rattle.labelled_disk.specs.Runs.{sector_of}
use Rattle.labelled_disk.specs.Sectors.{Sector}
use Rattle.labelled_disk.specs.State.{DiskState}
use Rattle.labelled_disk.proofs.Finds.{get_set_same}
use Rattle.label_laws.proofs.MixedLemmas.{crash_state_long, written_other}
use Rattle.volume_root.specs.declared.root.Root.{Root}
use Rattle.volume_root.specs.RootPage.{root_in}
use Rattle.file_manager.specs.Creating.{next_id}
use Rattle.cut_laws.specs.Cut.{IsCut}
use Rattle.cut_laws.proofs.CrashStateLemmas.{crash_state-past, crash_state-step, get_some}
use Rattle.flat_machine.specs.After.{TraceLine}
use Rattle.flat_machine.specs.Machine.{Machine}
use Rattle.pilot_top.specs.CrashStates.{CrashStates, Lawfully}
use Rattle.pilot_top.specs.Parts.{RaisesRoot, RootMay}
use Rattle.pilot_top.proofs.ApartRuns.{same_writes}
use Rattle.pilot_top.proofs.GivenLemmas.{label_leaves_root, numbers_of_one}

abbrev next_of : List Sector → ℕ
next_of x = next_id (root_in (root_page x))

module _ (d : List Sector) (writes : List DiskWrite) (some : 0 < length d) (serial : ℕ) (part : ℕ → ℕ) (rise : (j k : ℕ) → j ≤ k → part j ≤ part k)
    (each : (k : ℕ) (w : DiskWrite) → slice_get writes k ≡ Some w → RootMay serial (part k) (crash_state d writes k) w)
    (permitted : (k : ℕ) (w : DiskWrite) → slice_get writes k ≡ Some w → Permitted (crash_state d writes k) w) where
  abbrev now : ℕ → List Sector
  now i = crash_state d writes i

  -- a write leaves the root's page, or writes that of its turn
  turn : (i : ℕ) (w : DiskWrite) → slice_get writes i ≡ Some w → (next_of (now (suc i)) ≡ next_of (now i)) ⊎ (next_of (now (suc i)) ≡ part i)
  turn i w here = by w here (each i w here) (permitted i w here) (cases_eq (sector_of w) 0)
    where
      step : (v : DiskWrite) → slice_get writes i ≡ Some v → next_of (now (suc i)) ≡ next_of (written v (now i))
      step v is = ap next_of (crash_state-step d writes i v is)

      by : (v : DiskWrite) → slice_get writes i ≡ Some v → RootMay serial (part i) (now i) v → Permitted (now i) v → (sector_of v ≡ 0) ⊎ (sector_of v ≢ 0) → (next_of (now (suc i)) ≡ next_of (now i)) ⊎ (next_of (now (suc i)) ≡ part i)
      by v is may allowed (inr off) = inl (step v is ∙ ap (λ (o : Option Sector). next_id (root_in (page_in o))) (written_other (now i) v 0 off))
      by (kind.LabelOnly sector label) is may allowed (inl first) = inl (step (kind.LabelOnly sector label) is ∙ ap (λ (page : List ℕ). next_id (root_in page)) (label_leaves_root (now i) sector label))
      by (kind.Page sector wanted page) is may allowed (inl first) = absurd (let off = allowed.not_root in omega (arith, off, first))
      by (kind.Whole sector label page) is may allowed (inl first) =
          let low : 0 < length (now i) = omega (arith, some, crash_state_long d writes i) in
          let put : slice_get (slice_set (now i) sector (label, page)) 0 ≡ Some (label, page) =
          ap (λ (n : ℕ). slice_get (slice_set (now i) n (label, page)) 0) first ∙ get_set_same (now i) 0 (label, page) low in
          inr (step (kind.Whole sector label page) is ∙ ap (λ (o : Option Sector). next_id (root_in (page_in o))) put ∙ (may first).1)

  -- so it never goes back
  on_by_one : (i : ℕ) → next_of (now i) ≤ part i → (next_of (now i) ≤ next_of (now (suc i))) × (next_of (now (suc i)) ≤ part (suc i))
  on_by_one i low = elim (cases_lt i (length writes)) [
    | inr past ↦ (
        let same : next_of (now (suc i)) ≡ next_of (now i) = ap next_of (crash_state-past d writes (suc i) (omega (arith, past)) ∙ sym (crash_state-past d writes i past)) in
        let up = rise i (suc i) (omega arith) in (omega (arith, same), omega (arith, same, low, up)))
    | inl below ↦ (
        let w = get_some writes i below in
        let up = rise i (suc i) (omega arith) in elim (turn i w.0 w.1) [
          | inl same ↦ (omega (arith, same), omega (arith, same, low, up))
          | inr new ↦ (omega (arith, new, low), omega (arith, new, up))
        ])
  ]

  module _ (from : next_of d ≤ part 0) where
    by_part : (i : ℕ) → next_of (now i) ≤ part i
    by_part zero = from
    by_part (suc i) = (on_by_one i (by_part i)).1

    goes_on : (c i : ℕ) → next_of (now i) ≤ next_of (now (i + c))
    goes_on zero i = let z : i ≡ i + 0 = omega arith in let same = ap (λ (n : ℕ). next_of (now n)) z in omega (arith, same)
    goes_on (suc c) i =
        let so_far = goes_on c i in
        let next = (on_by_one (i + c) (by_part (i + c))).0 in
        let z : suc (i + c) ≡ i + suc c = omega arith in
        let same = ap (λ (n : ℕ). next_of (now n)) z in
        omega (arith, so_far, next, same)

    -- of roots with one serial the counters do
    counters_go_on : ((i : ℕ) → serial_of (now i) ≡ serial) → (i j : ℕ) → i ≤ j → counter_of (now i) ≤ counter_of (now j)
    counters_go_on serials i j low =
        let z : i + (j - i) ≡ j = omega (arith, low) in
        let on : next_of (now i) ≤ next_of (now j) = subst (λ (n : ℕ). next_of (now i) ≤ next_of (now n)) z (goes_on (j - i) i) in
        by (serial_of (now i)) (serial_of (now j)) (counter_of (now i)) (counter_of (now j)) (serials i ∙ sym (serials j)) on
      where
        by : (s t m n : ℕ) → s ≡ t → s * 2 ^ 32 + m ≤ t * 2 ^ 32 + n → m ≤ n
        by s t m n same le = let e = ap (λ (x : ℕ). x * 2 ^ 32) same in omega (arith, e, le)

-- each write of a run is permitted where it is made
pub permitted_each : (d : List Sector) {a c : DiskState} → a.contents ≡ Some d → Lawfully a c → (made writes : List DiskWrite) → a.writes ≡ Some made → c.writes ≡ Some (made ++ writes)
    → (j : ℕ) (w : DiskWrite) → slice_get writes j ≡ Some w → Permitted (crash_state d writes j) w
permitted_each d revealed lawful made writes is wrote =
    subst (λ (ws : List DiskWrite). (j : ℕ) (w : DiskWrite) → slice_get ws j ≡ Some w → Permitted (crash_state d ws j) w) (same_writes lawful.writes made writes lawful.appended is wrote)
    (λ j w here. lawful.permitted d j w revealed here)

-- what a run writes
pub cuts_go_on : (m : Machine) (lines : List TraceLine) (d : List Sector) {a c : DiskState} (states : CrashStates m lines a c) → a.contents ≡ Some d → m.serial ≡ serial_of d → Lawfully a c
    → (last : Root) × RaisesRoot (root_in (root_page d)) last a c → (made : List DiskWrite) → a.writes ≡ Some made
    → (k s : ℕ) (e : List Sector) → s ≤ k → k ≤ length states.writes → IsCut d states.writes s k e → counter_of (crash_state d states.writes s) ≤ counter_of e
cuts_go_on m lines d {a = a} {c = c} states revealed serial lawful raises made is k s e ordered few cut =
    let on = raises.1 in
    let wrote : c.writes ≡ Some (made ++ states.writes) = states.appended.revealed ∙ ap (option_map (λ (xs : List DiskWrite). xs ++ states.writes)) is in
    let number = numbers_of_one d states.writes s k e ordered few cut in
    let count = (states.each d 0 revealed).revealed.right.has_root.accepted.0 in
    let rises = counters_go_on d states.writes (omega (arith, count)) (serial_of d) on.roots.part on.roots.rise
    (subst (λ (ws : List DiskWrite). (j : ℕ) (w : DiskWrite) → slice_get ws j ≡ Some w → RootMay (serial_of d) (on.roots.part j) (crash_state d ws j) w) (same_writes on.roots.writes made states.writes on.roots.appended is wrote)
    (λ j w here. on.roots.each d made j w revealed is here))
    (permitted_each d revealed lawful made states.writes is wrote)
    (on.from 0) (λ i. (states.each d i revealed).same_serial ∙ serial) s number.0 number.1 in
    subst (λ (n : ℕ). counter_of (crash_state d states.writes s) ≤ n) (sym number.3.1) rises
