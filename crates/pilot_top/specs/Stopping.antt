-- How a session that stopped, or that did not start, is revealed.
use Rattle.std.specs.Prelude.{◌≡◌, ℕ, List}
use Rattle.labelled_disk.specs.declared.evidence.Halt.{Halt}
use Rattle.labelled_disk.specs.declared.evidence.Halt.TheVariants as halt
use Rattle.labelled_disk.specs.declared.layout.RootFault.TheVariants as fault
use Rattle.pilot_engine.specs.declared.fault.StartFault.{StartFault}
use Rattle.pilot_engine.specs.declared.fault.StartFault.TheVariants as start_fault
use Rattle.pilot_top.specs.Last.{last_line}
use Rattle.pilot_top.specs.declared.last.Cause.{Cause}
use Rattle.pilot_top.specs.declared.last.Cause.TheVariants as cause
use Rattle.pilot_top.specs.declared.status.Status.{Status}
use Rattle.pilot_top.specs.declared.status.Status.TheVariants as status

-- the status after a halt
abbrev pub status_of : Halt → Status
status_of halt.Disk = status.DiskFault
status_of (halt.Damaged evidence) = status.Damaged

-- and why, in the last line
abbrev pub cause_of : Halt → Cause
cause_of halt.Disk = cause.DiskFault
cause_of (halt.Damaged evidence) = cause.Damaged evidence

-- the status where no session started; `puts` says of a line that it was written, and where there was no memory none is
abbrev pub StopsAs : {K : Type 0} → StartFault → Status → K → K → (List ℕ → Type 0) → Type 0
StopsAs (start_fault.Root fault.Disk) s old new puts = (s ≡ status.DiskFault) × puts (last_line cause.DiskFault)
StopsAs (start_fault.Root why) s old new puts = (s ≡ status.NotOpened) × puts (last_line (cause.Root why))
StopsAs start_fault.NoMemory s old new puts = (s ≡ status.NoMemory) × (new ≡ old)
StopsAs (start_fault.Halt why) s old new puts = (s ≡ status_of why) × puts (last_line (cause_of why))
