-- A disk at two times.
use Rattle.std.specs.Prelude.{◌≡◌, ◌≤◌}
use Rattle.labelled_disk.specs.State.{DiskState}

-- the same disk later: it has as many sectors, and no fault that was counted is lost
pub record Later (old new : DiskState) : Type 0 where
  pub sectors : new.sectors ≡ old.sectors
  pub faults : old.faults ≤ new.faults
