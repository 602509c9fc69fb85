-- What calls in a row leave of a disk.
use Rattle.std.specs.Prelude.{◌≡◌, ◌≤◌}
use Rattle.labelled_disk.specs.State.{DiskState}

-- the same disk, later
pub record IsLater (old new : DiskState) : Type 0 where
  pub sectors : new.sectors ≡ old.sectors
  pub lent : new.lent ≡ old.lent
  pub faults : old.faults ≤ new.faults
