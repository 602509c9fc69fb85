-- How a trial ends: its line, and why it stopped.
use Rattle.std.specs.Prelude.{◌≡◌, ℕ, List, length, Option}
use Rattle.std.specs.Io.KnownBytes.{Appends}
use Rattle.labelled_disk.specs.declared.evidence.Evidence.{Evidence}
use Rattle.labelled_disk.specs.Calls.{Rose}
use Rattle.labelled_disk.specs.State.{DiskState}
use Rattle.flat_machine.specs.declared.call.Reply.{Reply}
use Rattle.filer_kernel.specs.Evidence.{IsEvident}
use Rattle.trace_io.specs.Stream.{IsPrefixOf}
use Rattle.pilot_top.specs.Last.{last_line}
use Rattle.pilot_top.specs.Trial.{trial_line}
use Rattle.pilot_top.specs.declared.last.Cause.TheVariants as cause
use Rattle.pilot_top.specs.declared.status.Status.{Status}
use Rattle.pilot_top.specs.declared.status.Status.TheVariants as status

-- The line about as many replies as calls was put into the sink, or a prefix of it where the sink failed. `tried` says of replies that they are
-- those of the trial.
pub record PutsTrial (calls : ℕ) (s : Status) (tried : List Reply → Type 0) (took now : Option (List ℕ)) : Type 0 where
  pub line : s ≡ status.Done → (replies : List Reply) × (length replies ≡ calls) × tried replies × Appends took now (trial_line calls replies)
  pub part_of_line : s ≡ status.StreamFault
      → (replies : List Reply) × (length replies ≡ calls) × tried replies × (prefix : List ℕ) × IsPrefixOf prefix (trial_line calls replies) × Appends took now prefix

-- Why it stopped: the disk failed, or the sink, of which `failed` says so; or the volume was found damaged, and what is revealed of it is so.
-- `puts` says of a line that it was written.
pub record StopsTrial (s : Status) (old new : DiskState) (failed : Type 0) (puts : List ℕ → Type 0) : Type 0 where
  pub disk_cause : s ≡ status.DiskFault → Rose old.faults new.faults
  pub disk_line : s ≡ status.DiskFault → puts (last_line cause.DiskFault)
  pub stream_cause : s ≡ status.StreamFault → failed
  pub damage_line : s ≡ status.Damaged → (e : Evidence) × IsEvident new e × puts (last_line (cause.Damaged e))
