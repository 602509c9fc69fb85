-- What stands on the disk in each crash state of the lines of a trace.
use Rattle.std.proofs.Common.{◌≡◌, inl, inr, ℕ, zero, suc, ◌+◌, List, [], ◌∷◌, ◌++◌, length, Option, Some, None, refl, sym, ◌∙◌, ap, subst, arith}
use Rattle.std.specs.Prelude.{◌≤◌, slice_get}
use Rattle.std.proofs.lemmas.Option.{same_Some}
use Rattle.labelled_disk.specs.FilesOn.{files_on}
use Rattle.labelled_disk.specs.File.{File}
use Rattle.labelled_disk.specs.CrashState.{crash_state}
use Rattle.labelled_disk.specs.Sectors.{Sector, AreSectors}
use Rattle.labelled_disk.specs.State.{DiskState}
use Rattle.swap_units.specs.declared.interval.Interval.{Interval}
use Rattle.file_manager.specs.declared.volume.Volume.{Volume}
use Rattle.flat_machine.specs.declared.call.Call.{Call}
use Rattle.flat_machine.specs.declared.call.Call.TheVariants.{Close}
use Rattle.flat_machine.specs.After.{TraceLine, after, next_line}
use Rattle.flat_machine.specs.Machine.{Machine}
use Rattle.flat_machine.specs.Next.{next}
use Rattle.flat_machine.specs.Settled.{Agrees, settled}
use Rattle.flat_machine.specs.Start.{start}
use Rattle.flat_machine.proofs.StartLemmas.{start_agrees}
use Rattle.volume_root.specs.Sound.{Sound}
use Rattle.session_words.specs.StandsFor.{RevealsSettled}
use Rattle.session_words.proofs.LooseLemmas.{stands_is_settled}
use Rattle.session_words.proofs.SettledLemmas.{settled_is_revealed}
use Rattle.pilot_engine.specs.Closing.{HasShut, IsStop, Throughout}
use Rattle.pilot_engine.specs.Opening.{KeepsFiles}
use Rattle.filer_kernel.specs.View.{View}
use Rattle.running_words.specs.Running.{IsRunning, exactly}
use Rattle.running_words.specs.Stages.{Passes}
use Rattle.pilot_top.specs.CrashStates.{Along, IsBy, IsCrashState, CrashStates, LineCrashStates, staged, step_of, steps_of}
use Rattle.pilot_top.proofs.NumberLemmas.{after_serial, counter_before, counter_after}
use Rattle.pilot_top.proofs.AlongLemmas.{by_equal, by_itself, by_most, along_less, along_none, along_shifted, along_then, along_throughout, along_wider}

-- disks that reveal what they hold are in form
abbrev pub AreInForm : DiskState → Type 0
AreInForm disk = (d : List Sector) → disk.contents ≡ Some d → AreSectors d

-- Machines at the places of a trace.

-- no step leaves the machine
pub step_none : (m : Machine) (line : Option TraceLine) → step_of m line 0 ≡ m
step_none m None = refl
step_none m (Some None) = refl
step_none m (Some (Some call)) = refl

-- later lines change nothing before them
pub staged_before : (m : Machine) (lines more : List TraceLine) (j i : ℕ) → IsBy j i (length lines) 0 → staged m (lines ++ more) j i ≡ staged m lines j i
staged_before m [] more zero zero by = step_none m (slice_get more 0)
staged_before m [] more zero (suc i) (inl less) = absurd (omega (arith, less))
staged_before m [] more zero (suc i) (inr few) = absurd (let none = few.1 in omega (arith, none))
staged_before m [] more (suc j) i (inl less) = absurd (omega (arith, less))
staged_before m [] more (suc j) i (inr few) = absurd (let none = few.0 in omega (arith, none))
staged_before m (line ∷ lines) more zero i by = refl
staged_before m (line ∷ lines) more (suc j) i (inl less) = staged_before (next_line m line) lines more j i (inl (omega (arith, less)))
staged_before m (line ∷ lines) more (suc j) i (inr few) = staged_before (next_line m line) lines more j i (inr (let same = few.0 in omega (arith, same), few.1))

-- and go on from the machine after these
pub staged_after : (m : Machine) (lines more : List TraceLine) (j i : ℕ) → staged m (lines ++ more) (length lines + j) i ≡ staged (after m lines (length lines)) more j i
staged_after m [] more j i = ap (λ (k : ℕ). staged m more k i) (let z : 0 + j ≡ j = omega arith in z)
staged_after m (line ∷ lines) more j i =
    ap (λ (k : ℕ). staged m (line ∷ (lines ++ more)) k i) (let z : suc (length lines) + j ≡ suc (length lines + j) = omega arith in z)
    ∙ staged_after (next_line m line) lines more j i

-- So many steps the line at a place has.

abbrev pub steps_at : Machine → List TraceLine → ℕ → ℕ
steps_at m lines j = steps_of (after m lines j) (slice_get lines j)

-- later lines take none away
pub steps_before : (m : Machine) (lines more : List TraceLine) (j i : ℕ) → IsBy j i (length lines) 0 → i ≤ steps_at m lines j → i ≤ steps_at m (lines ++ more) j
steps_before m [] more zero zero by few = omega arith
steps_before m [] more zero (suc i) by few = absurd (omega (arith, few))
steps_before m [] more (suc j) i (inl less) few = absurd (omega (arith, less))
steps_before m [] more (suc j) i (inr same) few = absurd (let none = same.0 in omega (arith, none))
steps_before m (line ∷ lines) more zero i by few = few
steps_before m (line ∷ lines) more (suc j) i (inl less) few = steps_before (next_line m line) lines more j i (inl (omega (arith, less))) few
steps_before m (line ∷ lines) more (suc j) i (inr same) few = steps_before (next_line m line) lines more j i (inr (let e = same.0 in omega (arith, e), same.1)) few

-- and have their own
pub steps_after : (m : Machine) (lines more : List TraceLine) (j : ℕ) → steps_at m (lines ++ more) (length lines + j) ≡ steps_at (after m lines (length lines)) more j
steps_after m [] more j = ap (λ (k : ℕ). steps_at m more k) (let z : 0 + j ≡ j = omega arith in z)
steps_after m (line ∷ lines) more j =
    ap (λ (k : ℕ). steps_at m (line ∷ (lines ++ more)) k) (let z : suc (length lines) + j ≡ suc (length lines + j) = omega arith in z)
    ∙ steps_after (next_line m line) lines more j

-- the machine after all lines
pub staged_end : (m : Machine) (lines : List TraceLine) → staged m lines (length lines) 0 ≡ after m lines (length lines)
staged_end m lines = step_none (after m lines (length lines)) (slice_get lines (length lines))

pub after_then : (m : Machine) (lines more : List TraceLine) → after m (lines ++ more) (length (lines ++ more)) ≡ after (after m lines (length lines)) more (length more)
after_then m [] more = refl
after_then m (line ∷ lines) more = after_then (next_line m line) lines more

-- Crash states of lines in a row.

pub longer : (xs ys : List TraceLine) → length (xs ++ ys) ≡ length xs + length ys
longer [] ys = let z : length ys ≡ 0 + length ys = omega arith in z
longer (x ∷ xs) ys = ap suc (longer xs ys) ∙ (let z : suc (length xs + length ys) ≡ suc (length xs) + length ys = omega arith in z)

-- the same crash state of more lines
pub crash_state_before : (m : Machine) (lines more : List TraceLine) (j i : ℕ) (d : List Sector) → IsBy j i (length lines) 0 → IsCrashState m lines j i d → IsCrashState m (lines ++ more) j i d
crash_state_before m lines more j i d by at = record {
  within = steps_before m lines more j i by at.within;
  revealed = subst (RevealsSettled d) (sym (staged_before m lines more j i by)) at.revealed;
  same_serial = at.same_serial;
  counter = counter_before m lines more j i d by at.counter;
  honest = at.honest;
}

pub crash_state_after : (m : Machine) (lines more : List TraceLine) (j i : ℕ) (d : List Sector) → IsCrashState (after m lines (length lines)) more j i d → IsCrashState m (lines ++ more) (length lines + j) i d
crash_state_after m lines more j i d at = record {
  within = subst (λ (n : ℕ). i ≤ n) (sym (steps_after m lines more j)) at.within;
  revealed = subst (RevealsSettled d) (sym (staged_after m lines more j i)) at.revealed;
  same_serial = at.same_serial ∙ after_serial m lines (length lines);
  counter = counter_after m lines more j d at.counter;
  honest = at.honest;
}

-- before more lines
abbrev pub from_prefix : (m : Machine) (lines more : List TraceLine) {a b : DiskState} → CrashStates m lines a b → Along (IsCrashState m (lines ++ more)) 0 0 (length lines) 0 a b
from_prefix m lines more on = along_less (IsCrashState m lines) (IsCrashState m (lines ++ more)) 0 0 (length lines) 0 (λ l g d after_first before_last at. crash_state_before m lines more l g d before_last at) on

abbrev pub crash_states_before : (m : Machine) (lines more : List TraceLine) {a b : DiskState} → CrashStates m lines a b → CrashStates m (lines ++ more) a b
crash_states_before m lines more on =
    along_wider (IsCrashState m (lines ++ more)) 0 0 0 0 (length lines) 0 (length (lines ++ more)) 0 (by_equal 0 0 0 refl) (by_most (length lines) (length (lines ++ more)) (let e = longer lines more in omega (arith, e)))
    (from_prefix m lines more on)

-- and then more lines
pub crash_states_then : (m : Machine) (lines more : List TraceLine) {a b c : DiskState} → CrashStates m lines a b → CrashStates (after m lines (length lines)) more b c → CrashStates m (lines ++ more) a c
crash_states_then m lines more on next =
    along_then (IsCrashState m (lines ++ more)) 0 0 (length lines) 0 (length (lines ++ more)) 0 (from_prefix m lines more on)
    (along_wider (IsCrashState m (lines ++ more)) (length lines + 0) 0 (length lines) 0 (length lines + length more) 0 (length (lines ++ more)) 0
    (by_equal (length lines) (length lines + 0) 0 (omega arith)) (by_equal (length lines + length more) (length (lines ++ more)) 0 (sym (longer lines more)))
    (along_shifted (IsCrashState (after m lines (length lines)) more) (IsCrashState m (lines ++ more)) (length lines) 0 0 (length more) 0
    (λ l g d after_first before_last at. crash_state_after m lines more l g d at) next))

-- The ways in.

-- a session is started
pub from_start : (d : List Sector) {a b : DiskState} → Sound d → a.contents ≡ Some d → KeepsFiles d a b → CrashStates (start d) [] a b
from_start d {a} sound revealed keeps = along_throughout (IsCrashState (start d) []) 0 0 (record { writes = keeps.writes; appended = keeps.appended; each = λ e k there. subst (λ (x : List Sector). IsCrashState (start d) [] 0 0 (crash_state x keeps.writes k)) (same_Some d e (sym revealed ∙ there)) (at k) })
  where
    agree : (k : ℕ) → Agrees (files_on (crash_state d keeps.writes k)) (settled (start d))
    agree k = subst (λ (fs : List File). Agrees fs (settled (start d))) (sym (keeps.right k).files) (start_agrees d).1

    at : (k : ℕ) → IsCrashState (start d) [] 0 0 (crash_state d keeps.writes k)
    at k = record {
      within = omega arith;
      revealed = record { agrees = agree k; right = (keeps.right k).right };
      same_serial = keeps.same_serial k;
      counter = inl (keeps.same_counter k);
      honest = λ set. elim (keeps.opened k) [
        | inl same ↦ subst Sound (sym same) sound
        | inr unset ↦ absurd (omega (arith, set, unset))
      ];
    }

-- nothing is done
pub from_nothing : (d : List Sector) {a : DiskState} → Sound d → a.contents ≡ Some d → CrashStates (start d) [] a a
from_nothing d {a} sound revealed = along_none (IsCrashState (start d) []) 0 0 (record { contents = refl; writes = refl }) (λ e there. subst (IsCrashState (start d) [] 0 0) (same_Some d e (sym revealed ∙ there)) (record {
  within = omega arith;
  revealed = record { agrees = (start_agrees d).1; right = sound.labels };
  same_serial = refl;
  counter = inl refl;
  honest = λ set. sound;
}))

-- a session stands: its disk reveals the settled files
pub stands_revealed : (m : Machine) {v : View} {kept : List Interval} {count : ℕ} {volume : Volume} → IsRunning v kept count volume m → AreInForm v.disk → (d : List Sector) → v.disk.contents ≡ Some d → IsCrashState m [] 0 0 d
stands_revealed m {v = v} is form d revealed =
    let here = stands_is_settled (exactly is.pages m.spaces) v.disk v.slots m d is.session.stands revealed (form d revealed) in
    record {
      within = omega arith;
      revealed = settled_is_revealed d m here;
      same_serial = here.root.has_serial;
      counter = inl here.root.has_counter;
      honest = λ set. absurd (let unset = here.root.open_flag in omega (arith, set, unset));
    }

-- a session is ended
pub from_end : (m : Machine) {a b : DiskState} → Throughout (IsStop m) a b → CrashStates m [] a b
from_end m all = along_throughout (IsCrashState m []) 0 0 (record { writes = all.writes; appended = all.appended; each = λ d k revealed. let at = all.each d k revealed in record { within = omega arith; revealed = at.revealed; same_serial = at.same_serial; counter = inl at.same_counter; honest = at.honest } })

-- it was closed
pub shut_revealed : (m : Machine) {disk : DiskState} → HasShut m disk → (d : List Sector) → disk.contents ≡ Some d → IsCrashState (next m Close) [] 0 0 d
shut_revealed m shut d revealed =
    let is = shut.reveals.shut in
    subst (λ (e : List Sector). IsCrashState (next m Close) [] 0 0 e) (same_Some shut.reveals.sectors d (sym shut.reveals.revealed ∙ revealed)) (record {
      within = omega arith;
      revealed = is.revealed;
      same_serial = is.same_serial;
      counter = inl is.same_counter;
      honest = λ set. is.sound;
    })

-- One line.

-- the line `close`, by which a session is ended
pub line_close : (m : Machine) {a b : DiskState} → Throughout (IsStop m) a b → LineCrashStates m (Some Close) a b
line_close m stops = along_wider (IsCrashState m (Some Close ∷ [])) 0 0 0 0 0 0 0 1 (by_itself 0 0) (inr (refl, omega arith)) (from_prefix m [] (Some Close ∷ []) (from_end m stops))

-- a call is carried out, or stops among its steps
pub line_step : (m : Machine) (call : Call) {a b : DiskState} → Passes m call a b → LineCrashStates m (Some call) a b
line_step m call passes = record {
  writes = passes.writes;
  appended = passes.appended;
  line = λ n. 0;
  step = passes.steps;
  rise = λ n k le. inr (refl, passes.rise n k le);
  first = λ n. inr (refl, omega arith);
  last = λ n. inr (refl, passes.within n);
  each = λ d n revealed. record {
    within = passes.within n;
    revealed = passes.reveals d n revealed;
    same_serial = (passes.numbers d n revealed).same_serial;
    counter = (passes.numbers d n revealed).counter;
    honest = λ set. absurd (let unset = passes.open_flag d n revealed in omega (arith, set, unset));
  };
}

-- a bad line
pub line_rest : (m : Machine) {v : View} {kept : List Interval} {count : ℕ} {volume : Volume} → IsRunning v kept count volume m → AreInForm v.disk → LineCrashStates m None v.disk v.disk
line_rest m is form = from_prefix m [] (None ∷ []) (along_none (IsCrashState m []) 0 0 (record { contents = refl; writes = refl }) (λ d revealed. stands_revealed m is form d revealed))

pub line_whole : (m : Machine) (line : TraceLine) {a b : DiskState} → LineCrashStates m line a b → CrashStates m (line ∷ []) a b
line_whole m line on = along_wider (IsCrashState m (line ∷ [])) 0 0 0 0 0 (steps_of m (Some line)) 1 0 (by_equal 0 0 0 refl) (inl (omega arith)) on
