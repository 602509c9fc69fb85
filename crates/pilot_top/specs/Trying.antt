-- What `trial` does, by its status.
use Rattle.std.specs.Prelude.{◌≡◌, ◌⊎◌, ℕ, List, length}
use Rattle.labelled_disk.specs.declared.evidence.Evidence.{Evidence}
use Rattle.labelled_disk.specs.Layout.{IsCount}
use Rattle.labelled_disk.specs.Sectors.{Sector}
use Rattle.flat_machine.specs.declared.call.Reply.{Reply}
use Rattle.filer_kernel.specs.Evidence.{IsEvident}
use Rattle.pilot_top.specs.Trial.{HasNoFile, IsTrial, TriesLawfully, trial_line}
use Rattle.pilot_top.specs.World.{World, Holds, DiskFailed, SinkFailed, Writes, WritesPrefix, WritesLast}
use Rattle.pilot_top.specs.declared.last.Cause.TheVariants as cause
use Rattle.pilot_top.specs.declared.status.Status.{Status}
use Rattle.pilot_top.specs.declared.status.Status.TheVariants as status

-- A `trial` ended with this status, and left disk and sink so: what the machine allows to drawn calls is revealed in a line, and a
-- sound volume without a file is left.
pub record Tried (seed calls : ℕ) (s : Status) (before after : World) : Type 0 where
  pub line : (d : List Sector) → Holds before d → s ≡ status.Done → (replies : List Reply) × IsTrial before.disk.sectors seed calls replies × Writes before after (trial_line calls replies)
  pub part_of_line : (d : List Sector) → Holds before d → s ≡ status.StreamFault
      → (replies : List Reply) × IsTrial before.disk.sectors seed calls replies × WritesPrefix before after (trial_line calls replies)
  -- Whatever the disk holds, it is the line about as many replies as calls.
  pub some_line : s ≡ status.Done → (replies : List Reply) × (length replies ≡ calls) × Writes before after (trial_line calls replies)
  pub some_prefix : s ≡ status.StreamFault → (replies : List Reply) × (length replies ≡ calls) × WritesPrefix before after (trial_line calls replies)
  pub emptied : (d : List Sector) → Holds before d → (s ≡ status.Done) ⊎ (s ≡ status.StreamFault) → HasNoFile after.disk
  -- It does all its work where nothing failed, and refuses a count of sectors alone.
  pub complete : (d : List Sector) → Holds before d → IsCount before.disk.sectors → ¬ DiskFailed before after → ¬ SinkFailed before after
      → (s ≡ status.Done) ⊎ (s ≡ status.NoMemory)
  pub only_count : s ≡ status.NotOpened → ¬ IsCount before.disk.sectors
  -- Over any contents each write after those of the new volume is permitted where it is made.
  pub permitted : TriesLawfully before.disk after.disk
  -- The line of a disk that failed, and of one that reveals nothing and was found damaged: what is revealed of it is so.
  pub disk_line : s ≡ status.DiskFault → WritesLast before after cause.DiskFault
  pub damage_line : s ≡ status.Damaged → (evidence : Evidence) × IsEvident after.disk evidence × WritesLast before after (cause.Damaged evidence)
