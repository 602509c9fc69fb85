-- What the disk has at a place of a trace.
use Rattle.std.proofs.Common.{◌≡◌, inl, inr, ℕ, ◌+◌, ◌<◌, ◌≤◌, refl, List, [], ◌∷◌, ◌++◌, length, Some, sym, subst, arith}
use Rattle.labelled_disk.specs.Permitted.{Permitted}
use Rattle.labelled_disk.specs.Sectors.{Sector}
use Rattle.labelled_disk.specs.State.{DiskState}
use Rattle.flat_machine.specs.After.{TraceLine, after}
use Rattle.flat_machine.specs.Machine.{Machine}
use Rattle.session_words.specs.StandsFor.{RevealsSettled}
use Rattle.pilot_engine.specs.Closing.{IsStop, Throughout}
use Rattle.pilot_top.specs.Headline.{HasFilesAt, LeadsTo}
use Rattle.pilot_top.specs.CrashStates.{Along, IsBy, IsCrashState, CrashStates, LineCrashStates, staged, steps_of}
use Rattle.pilot_top.proofs.AlongLemmas.{along_last, along_less, along_shifted, along_then, along_throughout, along_to_last, along_wider, by_equal, by_itself, by_then, goes_on_at, line_by, was_at}
use Rattle.pilot_engine.specs.Writing.{Written}
use Rattle.pilot_top.specs.LineWrites.{AreOfLines, StartMay}
use Rattle.pilot_top.specs.Waiting.{HasWaited}
use Rattle.pilot_top.proofs.OwnLemmas.{AreAllOfLines, below_then, of_lines_before, start_made, started_then}
use Rattle.pilot_top.proofs.WaitedLemmas.{waited_none, waited_then, waits_before}
use Rattle.pilot_top.proofs.StagedLemmas.{crash_state_after, crash_state_before, from_prefix, staged_before, staged_after, staged_end, steps_before, steps_after}

-- More lines.

pub files_before : (m : Machine) (lines more : List TraceLine) (disk : DiskState) (k i : ℕ) → IsBy k i (length lines) 0 → HasFilesAt m lines disk k i → HasFilesAt m (lines ++ more) disk k i
files_before m lines more disk k i by has = (steps_before m lines more k i by has.0, λ e revealed. subst (RevealsSettled e) (sym (staged_before m lines more k i by)) (has.1 e revealed))

pub files_after : (m : Machine) (lines more : List TraceLine) (disk : DiskState) (k i : ℕ) → HasFilesAt (after m lines (length lines)) more disk k i → HasFilesAt m (lines ++ more) disk (length lines + k) i
files_after m lines more disk k i has =
    (subst (λ (n : ℕ). i ≤ n) (sym (steps_after m lines more k)) has.0, λ e revealed. subst (RevealsSettled e) (sym (staged_after m lines more k i)) (has.1 e revealed))

-- after all lines
pub files_end : (m : Machine) (lines : List TraceLine) (disk : DiskState) → ((e : List Sector) → disk.contents ≡ Some e → RevealsSettled e (after m lines (length lines))) → HasFilesAt m lines disk (length lines) 0
files_end m lines disk has = (omega arith, λ e revealed. subst (RevealsSettled e) (sym (staged_end m lines)) (has e revealed))

-- where a session was ended
pub stop_revealed : (m : Machine) {a b : DiskState} → Throughout (IsStop m) a b → (e : List Sector) → b.contents ≡ Some e → RevealsSettled e m
stop_revealed m stops e revealed = (along_last (λ l g d. IsStop m d) 0 0 0 0 (along_throughout (λ l g d. IsStop m d) 0 0 stops) e revealed).revealed

-- no place is before the first one
within_line : (l g h : ℕ) → IsBy l g 0 h → (l ≡ 0) × (g ≤ h)
within_line l g h (inl less) = absurd (omega (arith, less))
within_line l g h (inr same) = same

-- the crash states of one line, up to the last
line_on : {m : Machine} {line : TraceLine} {a b : DiskState} (on : LineCrashStates m line a b) → on.line (length on.writes) ≡ 0 → Along (IsCrashState m (line ∷ [])) 0 0 0 (on.step (length on.writes)) a b
line_on {m = m} {line = line} {a = a} {b = b} on first =
    subst (λ (l : ℕ). Along (IsCrashState m (line ∷ [])) 0 0 l (on.step (length on.writes)) a b) first (along_to_last (IsCrashState m (line ∷ [])) 0 0 0 (steps_of m (Some line)) on)

-- of the crash states of one line, the last is the place to which its writes lead
pub line_leads : (m : Machine) (line : TraceLine) {a b : DiskState} → LineCrashStates m line a b → (i : ℕ) × LeadsTo m (line ∷ []) a b 0 i
line_leads m line {a = a} {b = b} on =
    let end = length on.writes in
    let here = within_line (on.line end) (on.step end) (steps_of m (Some line)) (on.last end) in (
      on.step end,
      (
        (here.1, λ e revealed. subst (λ (l : ℕ). RevealsSettled e (staged m (line ∷ []) l (on.step end))) here.0 (along_last (IsCrashState m (line ∷ [])) 0 0 0 (steps_of m (Some line)) on e revealed).revealed),
        line_on on here.0,
        waited_none m (line ∷ []) (line_on on here.0).writes (line_on on here.0).line a b,
        λ d made n w revealed told below at. absurd (omega (arith, below)),
      ),
    )

-- where no line was read, they lead nowhere
pub none_leads : (m : Machine) {a b : DiskState} → CrashStates m [] a b → LeadsTo m [] a b 0 0
none_leads m {a = a} {b = b} on =
    let end = length on.writes in
    let here = within_line (on.line end) (on.step end) 0 (on.last end) in
    let none : on.step end ≡ 0 = (let few = here.1 in omega (arith, few)) in (
      (
        omega arith,
        λ e revealed. subst (λ (i : ℕ). RevealsSettled e (staged m [] 0 i)) none
            (subst (λ (l : ℕ). RevealsSettled e (staged m [] l (on.step end))) here.0 (along_last (IsCrashState m []) 0 0 0 0 on e revealed).revealed),
      ),
      on,
      waited_none m [] on.writes on.line a b,
      λ d made n w revealed told below at. absurd (omega (arith, below)),
    )

-- Writes that lead to a place.

below_end : (k i l j : ℕ) → IsBy k i l 0 → j < k → j < l
below_end k i l j (inl less) below = omega (arith, less, below)
below_end k i l j (inr same) below = let here = same.0 in omega (arith, here, below)

-- of the first of some lines
pub leads_before : (m : Machine) (lines more : List TraceLine) {a b : DiskState} (k i : ℕ) → IsBy k i (length lines) 0 → LeadsTo m lines a b k i → LeadsTo m (lines ++ more) a b k i
leads_before m lines more {a = a} {b = b} k i by leads = (
  files_before m lines more b k i by leads.0,
  along_less (IsCrashState m lines) (IsCrashState m (lines ++ more)) 0 0 k i (λ l g d after_first before_last at. crash_state_before m lines more l g d (by_then l g k i (length lines) 0 before_last by) at) leads.1,
  λ made is j below waits. leads.2 made is j below (waits_before m lines more j (below_end k i (length lines) j by below) waits),
  of_lines_before lines more k leads.1.writes leads.1.line a leads.3,
)

-- after some lines
module _ (m : Machine) (lines more : List TraceLine) {a b c : DiskState} (k i : ℕ) (on : CrashStates m lines a b) (leads : LeadsTo (after m lines (length lines)) more b c k i) where
  abbrev more_leads : Along (IsCrashState m (lines ++ more)) (length lines) 0 (length lines + k) i b c
  more_leads =
      along_wider (IsCrashState m (lines ++ more)) (length lines + 0) 0 (length lines) 0 (length lines + k) i (length lines + k) i
      (by_equal (length lines) (length lines + 0) 0 (omega arith)) (by_itself (length lines + k) i)
      (along_shifted (IsCrashState (after m lines (length lines)) more) (IsCrashState m (lines ++ more)) (length lines) 0 0 k i
      (λ l g d after_first before_last at. crash_state_after m lines more l g d at) leads.1)

  abbrev all_leads : Along (IsCrashState m (lines ++ more)) 0 0 (length lines + k) i a c
  all_leads = along_then (IsCrashState m (lines ++ more)) 0 0 (length lines) 0 (length lines + k) i (from_prefix m lines more on) more_leads

  first_at : (n : ℕ) → n < length on.writes → all_leads.line n ≡ on.line n
  first_at n below = was_at (IsCrashState m (lines ++ more)) 0 0 (length lines) 0 (length lines + k) i (from_prefix m lines more on) more_leads n below

  other_at : (n : ℕ) → all_leads.line (length on.writes + n) ≡ length lines + leads.1.line n
  other_at n = goes_on_at (IsCrashState m (lines ++ more)) 0 0 (length lines) 0 (length lines + k) i (from_prefix m lines more on) more_leads n

  leads_so : HasWaited m lines (length lines) on.writes on.line a c → AreOfLines (lines ++ more) (length lines + k) all_leads.writes all_leads.line a → LeadsTo m (lines ++ more) a c (length lines + k) i
  leads_so early of_lines = (
    files_after m lines more c k i leads.0,
    all_leads,
    waited_then m lines more k (length lines + k) i on more_leads leads.1.line (λ n. refl) early leads.2,
    of_lines,
  )

  -- that were answered, where none was since
  pub leads_after : k ≡ 0 → HasWaited m lines (length lines) on.writes on.line a c → AreAllOfLines lines on.writes on.line a → LeadsTo m (lines ++ more) a c (length lines + k) i
  leads_after none early all =
      leads_so early (below_then lines more on.writes leads.1.writes on.line leads.1.line all_leads.line on.appended first_at other_at (length lines + k) (omega (arith, none)) all)

-- after a start
pub leads_started : (m : Machine) (lines : List TraceLine) {a b c : DiskState} (k i : ℕ) → CrashStates m [] a b → Written (λ d w. Permitted d w × StartMay w) a b → LeadsTo m lines b c k i → LeadsTo m lines a c k i
leads_started m lines {a = a} {c = c} k i from wrote leads =
    subst (λ (n : ℕ). LeadsTo m lines a c n i) (let z : 0 + k ≡ k = omega arith in z)
    (leads_so m [] lines k i from leads (waited_none m [] from.writes from.line a c)
    (subst (λ (n : ℕ). AreOfLines lines n (all_leads m [] lines k i from leads).writes (all_leads m [] lines k i from leads).line a) (let z : k ≡ 0 + k = omega arith in z)
    (started_then lines k from.writes leads.1.writes from.line leads.1.line (all_leads m [] lines k i from leads).line from.appended (first_at m [] lines k i from leads)
    (λ n. line_by (from.line n) (from.step n) 0 0 0 (from.last n) (omega arith)) (λ n. let there = other_at m [] lines k i from leads n in omega (arith, there))
    (λ d made n w revealed told at. start_made from.writes from.appended wrote d made n w revealed told at) leads.3)))
