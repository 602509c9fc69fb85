-- What stands on the disk in each crash state of a run.
use Rattle.std.specs.Prelude.{◌≡◌, ◌⊎◌, ℕ, suc, ◌<◌, ◌≤◌, List, [], ◌∷◌, length, Some, Option, slice_get}
use Rattle.labelled_disk.specs.declared.disk.DiskWrite.{DiskWrite}
use Rattle.labelled_disk.specs.CrashState.{crash_state}
use Rattle.labelled_disk.specs.Root.{counter_of, root_page, serial_of, short_at}
use Rattle.labelled_disk.specs.Sectors.{Sector}
use Rattle.labelled_disk.specs.State.{DiskState}
use Rattle.labelled_disk.specs.WriteRuns.{Appended}
use Rattle.labelled_disk.specs.Permitted.{Permitted}
use Rattle.flat_machine.specs.After.{TraceLine, after}
use Rattle.flat_machine.specs.Machine.{Machine}
use Rattle.volume_root.specs.Sound.{Sound}
use Rattle.session_words.specs.StandsFor.{RevealsSettled}
use Rattle.running_words.specs.Session.{AreOpen}
use Rattle.running_words.specs.Stages.{last_step, stage}
use Rattle.pilot_engine.specs.Closing.{ShutLast}

-- the machine after so many steps of a line
abbrev pub step_of : Machine → Option TraceLine → ℕ → Machine
step_of m (Some (Some call)) i = stage m call i
step_of m line i = m

-- how many steps a line has at most
abbrev pub steps_of : Machine → Option TraceLine → ℕ
steps_of m (Some (Some call)) = last_step m call
steps_of m line = 0

-- the machine after j lines and i steps of the next
abbrev pub staged : Machine → List TraceLine → ℕ → ℕ → Machine
staged m lines j i = step_of (after m lines j) (slice_get lines j) i

-- a place in a trace, so many lines and so many steps of the next, is not after another
abbrev pub IsBy : ℕ → ℕ → ℕ → ℕ → Type 0
IsBy j i k h = (j < k) ⊎ ((j ≡ k) × (i ≤ h))

-- Writes were made, and in each crash state of them the disk has what it has at a place of the trace; the places lie between
-- these two, and with each write there is the same or a later one.
pub record Along (P : ℕ → ℕ → List Sector → Type 0) (j i k h : ℕ) (old new : DiskState) : Type 0 where
  pub writes : List DiskWrite
  pub appended : Appended writes old new
  pub line : ℕ → ℕ
  pub step : ℕ → ℕ
  pub rise : (n m : ℕ) → n ≤ m → IsBy (line n) (step n) (line m) (step m)
  pub first : (n : ℕ) → IsBy j i (line n) (step n)
  pub last : (n : ℕ) → IsBy (line n) (step n) k h
  pub each : (d : List Sector) (n : ℕ) → old.contents ≡ Some d → P (line n) (step n) (crash_state d writes n)

-- the place is one of the trace; the disk reveals the settled files of the machine there, its labels are right, and its root has
-- the serial of all these machines and the counter of before the line or of after it; with a set clean flag the volume is sound
pub record IsCrashState (m : Machine) (lines : List TraceLine) (j i : ℕ) (d : List Sector) : Type 0 where
  pub within : i ≤ steps_of (after m lines j) (slice_get lines j)
  pub revealed : RevealsSettled d (staged m lines j i)
  pub same_serial : serial_of d ≡ m.serial
  pub counter : (counter_of d ≡ (after m lines j).counter) ⊎ (counter_of d ≡ (after m lines (suc j)).counter)
  pub honest : short_at (root_page d) 10 ≡ 1 → Sound d

-- the writes of a run of these lines, from the machine m
abbrev pub CrashStates : Machine → List TraceLine → DiskState → DiskState → Type 0
CrashStates m lines old new = Along (IsCrashState m lines) 0 0 (length lines) 0 old new

-- the writes of one line, none at a place after its steps
abbrev pub LineCrashStates : Machine → TraceLine → DiskState → DiskState → Type 0
LineCrashStates m line old new = Along (IsCrashState m (line ∷ [])) 0 0 0 (steps_of m (Some line)) old new

-- over any contents: each write was permitted where it is made, and none sets the clean flag
pub record Openly (old new : DiskState) : Type 0 where
  pub writes : List DiskWrite
  pub appended : Appended writes old new
  pub permitted : (d : List Sector) (k : ℕ) (w : DiskWrite) → old.contents ≡ Some d → slice_get writes k ≡ Some w → Permitted (crash_state d writes k) w
  pub opens : AreOpen writes

-- the same, but for the last of them, which may set it
pub record ShutsLast (old new : DiskState) : Type 0 where
  pub writes : List DiskWrite
  pub appended : Appended writes old new
  pub permitted : (d : List Sector) (k : ℕ) (w : DiskWrite) → old.contents ≡ Some d → slice_get writes k ≡ Some w → Permitted (crash_state d writes k) w
  pub shut : ShutLast writes

-- over any contents: each write was permitted where it is made, and after the first of them and up to the last the clean flag is 0
pub record Lawfully (old new : DiskState) : Type 0 where
  pub writes : List DiskWrite
  pub appended : Appended writes old new
  pub permitted : (d : List Sector) (k : ℕ) (w : DiskWrite) → old.contents ≡ Some d → slice_get writes k ≡ Some w → Permitted (crash_state d writes k) w
  pub open_flag : (d : List Sector) (k : ℕ) → old.contents ≡ Some d → 1 ≤ k → k < length writes → short_at (root_page (crash_state d writes k)) 10 ≡ 0
