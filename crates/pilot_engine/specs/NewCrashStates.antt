-- What stands on the disk while a session starts on a volume that is made for it.
use Rattle.std.specs.Prelude.{◌≡◌, ◌⊎◌, ℕ, List, []}
use Rattle.labelled_disk.specs.declared.disk.DiskWrite.{DiskWrite}
use Rattle.labelled_disk.specs.FilesOn.{files_on}
use Rattle.labelled_disk.specs.CrashState.{crash_state}
use Rattle.labelled_disk.specs.Root.{LabelsRight, counter_of, root_page, serial_of, short_at}
use Rattle.labelled_disk.specs.State.{DiskState}
use Rattle.labelled_disk.specs.WriteRuns.{Appended}
use Rattle.volume_root.specs.Format.{formatted}
use Rattle.pilot_engine.specs.Fresh.{MadeVolume}

-- A new volume was made of the whole disk. In each crash state of what was written after it all labels are right, there is no
-- permanent file, and serial and counter are 1; and the clean flag is 0, or the volume is as it was made.
pub record KeepsNew (old new : DiskState) : Type 0 where
  pub made : DiskState
  pub volume : MadeVolume old made
  pub writes : List DiskWrite
  pub appended : Appended writes made new
  pub right : (k : ℕ) → LabelsRight (crash_state (formatted old.sectors 1 1) writes k)
  pub no_files : (k : ℕ) → files_on (crash_state (formatted old.sectors 1 1) writes k) ≡ []
  pub has_serial : (k : ℕ) → serial_of (crash_state (formatted old.sectors 1 1) writes k) ≡ 1
  pub has_counter : (k : ℕ) → counter_of (crash_state (formatted old.sectors 1 1) writes k) ≡ 1
  pub opened : (k : ℕ) → (crash_state (formatted old.sectors 1 1) writes k ≡ formatted old.sectors 1 1)
      ⊎ (short_at (root_page (crash_state (formatted old.sectors 1 1) writes k)) 10 ≡ 0)
