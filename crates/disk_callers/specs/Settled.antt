-- A write that stands on the medium.
use Rattle.std.specs.Prelude.{◌≡◌, true, option_map}
use Rattle.labelled_disk.specs.declared.disk.DiskWrite.{DiskWrite}
use Rattle.labelled_disk.specs.CrashState.{written}
use Rattle.labelled_disk.specs.State.{DiskState}

-- the write was made, and all is on the medium
pub record StandsSettled (write : DiskWrite) (old new : DiskState) : Type 0 where
  pub contents : new.contents ≡ option_map (written write) old.contents
  pub synced : new.synced ≡ true
