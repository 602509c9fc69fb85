-- How the program ends.
use Rattle.std.specs.Prelude.{ℕ}
use Rattle.volume_view.specs.declared.condition.Condition.{Condition}
use Rattle.volume_view.specs.declared.condition.Condition.TheVariants as condition
use Rattle.volume_look.specs.declared.status.Status.{Status}
use Rattle.volume_look.specs.declared.status.Status.TheVariants as status

-- the exit status of the program: 0 where what was asked for was done, 2 to 7 where it was not, and 8 to 10 where a
-- listing was written of a volume that is not sound
abbrev pub exit_of : Status → ℕ
exit_of status.Done = 0
exit_of status.Usage = 2
exit_of status.DiskFault = 3
exit_of status.StreamFault = 4
exit_of status.NoImage = 5
exit_of status.NoFile = 6
exit_of status.NoMemory = 7
exit_of status.NotClosed = 8
exit_of status.Damaged = 9
exit_of status.Refused = 10

-- how a listing ends of a volume that stands so
abbrev pub status_of : Condition → Status
status_of condition.Sound = status.Done
status_of condition.NotClosed = status.NotClosed
status_of condition.Damaged = status.Damaged
status_of condition.Refused = status.Refused
