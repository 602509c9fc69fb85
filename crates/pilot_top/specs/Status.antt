-- The exit statuses.
use Rattle.std.specs.Prelude.{ℕ}
use Rattle.pilot_top.specs.declared.status.Status.{Status}
use Rattle.pilot_top.specs.declared.status.Status.TheVariants as status

-- the exit status of the program: 0 where the work was done, and 2 to 9 otherwise
abbrev pub exit_of : Status → ℕ
exit_of status.Done = 0
exit_of status.Usage = 2
exit_of status.DiskFault = 3
exit_of status.StreamFault = 4
exit_of status.NotOpened = 5
exit_of status.Long = 6
exit_of status.NoMemory = 7
exit_of status.Damaged = 8
exit_of status.Unfit = 9
