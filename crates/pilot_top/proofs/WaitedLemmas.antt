-- Lines that wait, among the lines of a trace.
use Rattle.std.proofs.Common.{◌≡◌, ◌⊎◌, inl, inr, ℕ, zero, suc, ◌+◌, ◌-◌, ◌<◌, ◌≤◌, true, false, List, [], ◌∷◌, ◌++◌, length, Some, refl, sym, ◌∙◌, ap, subst, arith, length-append}
use Rattle.std.specs.Prelude.{option_map, slice_get}
use Rattle.std.proofs.lemmas.Bool.{cases_lt, true≢false}
use Rattle.std.proofs.lemmas.Option.{none-some, same_Some}
use Rattle.labelled_disk.specs.declared.disk.DiskWrite.{DiskWrite}
use Rattle.labelled_disk.specs.Calls.{RevealsSame}
use Rattle.labelled_disk.specs.CrashState.{crash_state}
use Rattle.labelled_disk.specs.Sectors.{Sector}
use Rattle.labelled_disk.specs.State.{DiskState}
use Rattle.labelled_disk.proofs.WriteRunLemmas.{crash_state-earlier}
use Rattle.swapper_kernel.specs.Goes.{Went}
use Rattle.swapper_kernel.specs.SyncLaws.{HasSync, has_sync_later}
use Rattle.flat_machine.specs.declared.call.Call.{Call}
use Rattle.flat_machine.specs.declared.call.Call.TheVariants.{Close}
use Rattle.flat_machine.specs.After.{TraceLine, after, next_line}
use Rattle.flat_machine.specs.Machine.{Machine}
use Rattle.trace_io.specs.Reading.{is_last}
use Rattle.pilot_engine.specs.Stepping.{waits}
use Rattle.pilot_top.specs.CrashStates.{Along, CrashStates, IsCrashState, LineCrashStates, steps_of}
use Rattle.pilot_top.specs.LineWrites.{AreOfLines, IsOfLine}
use Rattle.pilot_top.specs.Parts.{LineWrote}
use Rattle.pilot_top.specs.Waiting.{HasWaited, IsAnsweredAt, IsBrought, WaitsAt, WaitsLine}
use Rattle.pilot_top.proofs.AlongLemmas.{along_none, along_same, along_shifted, along_then, along_wider, by_equal, goes_on_at, line_by, stays_after, stays_by, was_at}
use Rattle.pilot_top.proofs.OwnLemmas.{AreAllOfLines, all_before, all_below, all_then, below_then, line_made}
use Rattle.pilot_top.proofs.PermittedRuns.{get_append}
use Rattle.pilot_top.proofs.StagedLemmas.{crash_state_after, crash_states_before, from_prefix, longer}

-- a call that others may follow, and that waits, is no `close`
pub waits_on : (c : Call) → is_last (Some c) ≡ false → (waits c ≡ true) ⊎ (c ≡ Close) → waits c ≡ true
waits_on c more (inl waiting) = waiting
waits_on c more (inr closes) = absurd (true≢false (sym (ap (λ (a : Call). is_last (Some a)) closes) ∙ more))

-- where all writes are on the medium, a sync after them is among those that the disk has
abbrev pub HasLastSync : DiskState → Type 0
HasLastSync disk = (writes : List DiskWrite) → disk.synced ≡ true → disk.writes ≡ Some writes → HasSync disk (length writes)

-- More lines.

pub waits_before : (m : Machine) (lines more : List TraceLine) (j : ℕ) → j < length lines → WaitsAt m (lines ++ more) j → WaitsAt m lines j
waits_before m [] more j below waits = absurd (omega (arith, below))
waits_before m (line ∷ lines) more zero below waits = waits
waits_before m (line ∷ lines) more (suc j) below waits = waits_before (next_line m line) lines more j (omega (arith, below)) waits

pub waits_after : (m : Machine) (lines more : List TraceLine) (j : ℕ) → WaitsAt m (lines ++ more) (length lines + j) → WaitsAt (after m lines (length lines)) more j
waits_after m [] more j waits = subst (λ (k : ℕ). WaitsAt m more k) (let z : 0 + j ≡ j = omega arith in z) waits
waits_after m (line ∷ lines) more j waits =
    waits_after (next_line m line) lines more j
    (subst (λ (k : ℕ). WaitsAt m (line ∷ (lines ++ more)) k) (let z : suc (length lines) + j ≡ suc (length lines + j) = omega arith in z) waits)

-- none is waited for
pub waited_none : (m : Machine) (lines : List TraceLine) (writes : List DiskWrite) (place : ℕ → ℕ) (old new : DiskState) → HasWaited m lines 0 writes place old new
waited_none m lines writes place old new made is j below waits = absurd (omega (arith, below))

-- a disk loses no sync
pub waited_later : (m : Machine) (lines : List TraceLine) (k : ℕ) (writes : List DiskWrite) (place : ℕ → ℕ) (a : DiskState) {b c : DiskState} → Went b c → HasWaited m lines k writes place a b → HasWaited m lines k writes place a c
waited_later m lines k writes place a went waited made is j below waits =
    let at = waited made is j below waits in
    (at.0, at.1, at.2, has_sync_later (length made + at.0) went at.3)

-- Some lines, and then others.
module _ (m : Machine) (lines more : List TraceLine) (k l g : ℕ) {a b c : DiskState} (on : CrashStates m lines a b) (two : Along (IsCrashState m (lines ++ more)) (length lines) 0 l g b c) (place : ℕ → ℕ)
    (shifted : (n : ℕ) → two.line n ≡ length lines + place n) where
  abbrev all : Along (IsCrashState m (lines ++ more)) 0 0 l g a c
  all = along_then (IsCrashState m (lines ++ more)) 0 0 (length lines) 0 l g (from_prefix m lines more on) two

  pub waited_then : HasWaited m lines (length lines) on.writes on.line a c → HasWaited (after m lines (length lines)) more k two.writes place b c → HasWaited m (lines ++ more) (length lines + k) all.writes all.line a c
  waited_then early late made is j below waits = by (cases_lt j (length lines))
    where
      by : (j < length lines) ⊎ (length lines ≤ j) → (n : ℕ) × (n ≤ length all.writes) × IsAnsweredAt all.line j n × HasSync c (length made + n)
      by (inl less) =
          let at = early made is j less (waits_before m lines more j less waits) in
          let few = at.1 in (
            at.0,
            omega (arith, few, length-append on.writes two.writes),
            (
              stays_after (IsCrashState m (lines ++ more)) 0 0 (length lines) 0 l g (from_prefix m lines more on) two at.0 j at.2.0 less,
              λ i before. subst (λ (p : ℕ). p ≤ j) (sym (was_at (IsCrashState m (lines ++ more)) 0 0 (length lines) 0 l g (from_prefix m lines more on) two i (omega (arith, before, few)))) (at.2.1 i before),
            ),
            at.3,
          )
      by (inr past) =
          let here : j ≡ length lines + (j - length lines) = omega (arith, past) in
          let wrote : b.writes ≡ Some (made ++ on.writes) = on.appended.revealed ∙ ap (option_map (λ (xs : List DiskWrite). xs ++ on.writes)) is in
          let at = late (made ++ on.writes) wrote (j - length lines) (omega (arith, below, past)) (waits_after m lines more (j - length lines) (subst (λ (i : ℕ). WaitsAt m (lines ++ more) i) here waits)) in
          let few = at.1 in
          let later = at.2.0 in (
            length on.writes + at.0,
            omega (arith, few, length-append on.writes two.writes),
            (
              omega (arith, later, shifted at.0, past, goes_on_at (IsCrashState m (lines ++ more)) 0 0 (length lines) 0 l g (from_prefix m lines more on) two at.0),
              stays_by (IsCrashState m (lines ++ more)) 0 0 (length lines) 0 l g (from_prefix m lines more on) two at.0 j past (λ i before. let most = at.2.1 i before in omega (arith, most, shifted i, past)),
            ),
            subst (HasSync c) (let z : length (made ++ on.writes) + at.0 ≡ length made + (length on.writes + at.0) = omega (arith, length-append made on.writes) in z) at.3,
          )

-- Crash states, what was waited for, and which lines wrote what.

abbrev pub Reached : Machine → List TraceLine → DiskState → DiskState → Type 0
Reached m lines old new =
    (on : CrashStates m lines old new) × HasWaited m lines (length lines) on.writes on.line old new × AreOfLines lines (length lines) on.writes on.line old

-- all that was written was written by these lines
abbrev pub HasAnswered : Machine → List TraceLine → DiskState → DiskState → Type 0
HasAnswered m lines old new = (on : CrashStates m lines old new) × HasWaited m lines (length lines) on.writes on.line old new × AreAllOfLines lines on.writes on.line old

pub reached_all : (m : Machine) (lines : List TraceLine) {a b : DiskState} → HasAnswered m lines a b → Reached m lines a b
reached_all m lines {a = a} done = (done.0, done.1, all_below lines (length lines) done.0.writes done.0.line a done.2)

-- no line, and no write
abbrev nothing_on : (m : Machine) {a : DiskState} → ((d : List Sector) → a.contents ≡ Some d → IsCrashState m [] 0 0 d) → CrashStates m [] a a
nothing_on m here = along_none (IsCrashState m []) 0 0 (record { contents = refl; writes = refl }) here

pub answered_none : (m : Machine) {a : DiskState} → ((d : List Sector) → a.contents ≡ Some d → IsCrashState m [] 0 0 d) → HasAnswered m [] a a
answered_none m {a = a} here = (nothing_on m here, waited_none m [] [] (λ n. 0) a a, λ d made i w revealed told at. absurd (none-some w at))

-- a disk that reveals the same later
pub answered_later : (m : Machine) (lines : List TraceLine) {a b c : DiskState} → RevealsSame b c → Went b c → HasAnswered m lines a b → HasAnswered m lines a c
answered_later m lines {a = a} same went done =
    (along_same (IsCrashState m lines) 0 0 (length lines) 0 same done.0, waited_later m lines (length lines) done.0.writes done.0.line a went done.1, done.2)

-- later lines that don't wait, and wrote nothing
pub answered_before : (m : Machine) (lines tail : List TraceLine) {a b : DiskState} → ((j : ℕ) → WaitsAt (after m lines (length lines)) tail j → ⊥) → HasAnswered m lines a b → HasAnswered m (lines ++ tail) a b
answered_before m lines tail {a = a} {b = b} none done = (crash_states_before m lines tail done.0, waited, all_before lines tail done.0.writes done.0.line a done.2)
  where
    waited : HasWaited m (lines ++ tail) (length (lines ++ tail)) done.0.writes done.0.line a b
    waited made is j below waits = elim (cases_lt j (length lines)) [
      | inl less ↦ done.1 made is j less (waits_before m lines tail j less waits)
      | inr past ↦
          let here : j ≡ length lines + (j - length lines) = omega (arith, past) in
          absurd (none (j - length lines) (waits_after m lines tail (j - length lines) (subst (λ (i : ℕ). WaitsAt m (lines ++ tail) i) here waits)))
    ]

-- Lines, and more of them.
module _ (m : Machine) (lines more : List TraceLine) {a b c : DiskState} (on : CrashStates m lines a b) (next : CrashStates (after m lines (length lines)) more b c) where
  abbrev more_on : Along (IsCrashState m (lines ++ more)) (length lines) 0 (length (lines ++ more)) 0 b c
  more_on =
      along_wider (IsCrashState m (lines ++ more)) (length lines + 0) 0 (length lines) 0 (length lines + length more) 0 (length (lines ++ more)) 0
      (by_equal (length lines) (length lines + 0) 0 (omega arith)) (by_equal (length lines + length more) (length (lines ++ more)) 0 (sym (longer lines more)))
      (along_shifted (IsCrashState (after m lines (length lines)) more) (IsCrashState m (lines ++ more)) (length lines) 0 0 (length more) 0
      (λ l g d after_first before_last at. crash_state_after m lines more l g d at) next)

  abbrev both : CrashStates m (lines ++ more) a c
  both = along_then (IsCrashState m (lines ++ more)) 0 0 (length lines) 0 (length (lines ++ more)) 0 (from_prefix m lines more on) more_on

  first_at : (i : ℕ) → i < length on.writes → both.line i ≡ on.line i
  first_at i below = was_at (IsCrashState m (lines ++ more)) 0 0 (length lines) 0 (length (lines ++ more)) 0 (from_prefix m lines more on) more_on i below

  other_at : (i : ℕ) → both.line (length on.writes + i) ≡ length lines + next.line i
  other_at i = goes_on_at (IsCrashState m (lines ++ more)) 0 0 (length lines) 0 (length (lines ++ more)) 0 (from_prefix m lines more on) more_on i

  waited_both : HasWaited m lines (length lines) on.writes on.line a c → HasWaited (after m lines (length lines)) more (length more) next.writes next.line b c
      → HasWaited m (lines ++ more) (length (lines ++ more)) both.writes both.line a c
  waited_both early late =
      subst (λ (n : ℕ). HasWaited m (lines ++ more) n both.writes both.line a c) (sym (longer lines more))
      (waited_then m lines more (length more) (length (lines ++ more)) 0 on more_on next.line (λ n. refl) early late)

  all_both : AreAllOfLines lines on.writes on.line a → AreAllOfLines more next.writes next.line b → AreAllOfLines (lines ++ more) both.writes both.line a
  all_both = all_then lines more on.writes next.writes on.line next.line both.line on.appended first_at other_at

  below_both : (k : ℕ) → k ≤ length lines → AreAllOfLines lines on.writes on.line a → AreOfLines (lines ++ more) k both.writes both.line a
  below_both = below_then lines more on.writes next.writes on.line next.line both.line on.appended first_at other_at

-- more lines were answered
pub answered_then : (m : Machine) (lines more : List TraceLine) {a b c : DiskState} → Went b c → HasAnswered m lines a b → HasAnswered (after m lines (length lines)) more b c → HasAnswered m (lines ++ more) a c
answered_then m lines more {a = a} went done next =
    (both m lines more done.0 next.0, waited_both m lines more done.0 next.0 (waited_later m lines (length lines) done.0.writes done.0.line a went done.1) next.1, all_both m lines more done.0 next.0 done.2 next.2)

-- the session was ended after these
pub ended_then : (m : Machine) (lines : List TraceLine) {a b c : DiskState} → Went b c → HasAnswered m lines a b → CrashStates (after m lines (length lines)) [] b c → Reached m (lines ++ []) a c
ended_then m lines {a = a} {b = b} {c = c} went done end = (
  both m lines [] done.0 end,
  waited_both m lines [] done.0 end (waited_later m lines (length lines) done.0.writes done.0.line a went done.1) (waited_none (after m lines (length lines)) [] end.writes end.line b c),
  below_both m lines [] done.0 end (length (lines ++ [])) (let e = longer lines [] in omega (arith, e)) done.2,
)

-- One line that was answered: where its writes end the place is after it.
module _ (m : Machine) (line : TraceLine) {a b : DiskState} (on : LineCrashStates m line a b) (here : (d : List Sector) → b.contents ≡ Some d → IsCrashState (next_line m line) [] 0 0 d) where
  abbrev pub answered_line : Along (IsCrashState m (line ∷ [])) 0 0 1 0 a b
  answered_line = along_wider (IsCrashState m (line ∷ [])) 0 0 0 0 0 (steps_of m (Some line)) 1 0 (by_equal 0 0 0 refl) (inl (omega arith)) on

  abbrev pub at_its_end : Along (IsCrashState m (line ∷ [])) 1 0 1 0 b b
  at_its_end = along_none (IsCrashState m (line ∷ [])) 1 0 (record { contents = refl; writes = refl }) (λ d revealed. crash_state_after m (line ∷ []) [] 0 0 d (here d revealed))

  abbrev pub line_answered : CrashStates m (line ∷ []) a b
  line_answered = along_then (IsCrashState m (line ∷ [])) 0 0 1 0 1 0 answered_line at_its_end

  past_it : 1 ≤ at_its_end.line 0
  past_it = elim (at_its_end.first 0) [
    | inl less ↦ omega (arith, less)
    | inr same ↦ let at = same.0 in omega (arith, at)
  ]

  -- and that of each crash state before is at it
  at_it : (i : ℕ) → i < length on.writes + 0 → line_answered.line i ≤ 0
  at_it i before =
      let there : line_answered.line i ≡ on.line i = was_at (IsCrashState m (line ∷ [])) 0 0 1 0 1 0 answered_line at_its_end i (omega (arith, before)) in
      subst (λ (p : ℕ). p ≤ 0) (sym there) (line_by (on.line i) (on.step i) 0 (steps_of m (Some line)) 0 (on.last i) (omega arith))

  pub line_waited : HasLastSync b → IsBrought m line b → HasWaited m (line ∷ []) 1 line_answered.writes line_answered.line a b
  line_waited has_sync brought made is j below waits =
      let first : j ≡ 0 = omega (arith, below) in
      let now : WaitsAt m (line ∷ []) 0 = subst (λ (i : ℕ). WaitsAt m (line ∷ []) i) first waits in
      let this : WaitsLine m line = subst (WaitsLine m) (sym (same_Some line now.0 now.1)) now.2 in
      let wrote : b.writes ≡ Some (made ++ on.writes) = on.appended.revealed ∙ ap (option_map (λ (xs : List DiskWrite). xs ++ on.writes)) is in (
        length on.writes + 0,
        omega (arith, length-append on.writes at_its_end.writes),
        (
          omega (arith, first, past_it, goes_on_at (IsCrashState m (line ∷ [])) 0 0 1 0 1 0 answered_line at_its_end 0),
          λ i before. let here = at_it i before in omega (arith, here),
        ),
        subst (HasSync b) (let z : length (made ++ on.writes) ≡ length made + (length on.writes + 0) = omega (arith, length-append made on.writes) in z) (has_sync (made ++ on.writes) (brought this) wrote),
      )

  line_all : LineWrote line a b → AreAllOfLines (line ∷ []) line_answered.writes line_answered.line a
  line_all wrote d made i w revealed told at = elim (get_append on.writes at_its_end.writes i w at) [
    | inl (below, here) ↦
        let most = at_it i (omega (arith, below)) in
        let none : line_answered.line i ≡ 0 = omega (arith, most) in
        subst (λ (e : List Sector). IsOfLine (slice_get (line ∷ []) (line_answered.line i)) e w) (sym (crash_state-earlier d on.writes at_its_end.writes i (omega (arith, below))))
        (subst (λ (j : ℕ). IsOfLine (slice_get (line ∷ []) j) (crash_state d on.writes i) w) (sym none) (line_made line on.writes on.appended wrote d made i w revealed told here))
    | inr (q, past, there) ↦ absurd (none-some w there)
  ]

  pub line_reached : HasLastSync b → IsBrought m line b → LineWrote line a b → HasAnswered m (line ∷ []) a b
  line_reached has_sync brought wrote = (line_answered, line_waited has_sync brought, line_all wrote)
