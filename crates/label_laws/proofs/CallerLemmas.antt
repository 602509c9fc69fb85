-- The loop of a caller that writes as permitted.
use Rattle.std.proofs.Common.{◌≡◌}
use Rattle.labelled_disk.specs.State.{DiskState}
use Rattle.label_laws.specs.PermittedRuns.{LawfullyLater}

-- so far
pub record SoFar (first now : DiskState) : Type 0 where
  pub permitted : LawfullyLater first now
  pub sectors : now.sectors ≡ first.sectors
