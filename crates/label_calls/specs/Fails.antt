-- How calls on labels fail.
use Rattle.std.specs.Prelude.{◌≡◌, List}
use Rattle.labelled_disk.specs.declared.evidence.Evidence.{Evidence}
use Rattle.labelled_disk.specs.declared.evidence.Halt.{Halt}
use Rattle.labelled_disk.specs.declared.evidence.Halt.TheVariants.{Disk}
use Rattle.labelled_disk.specs.Sectors.{Sector}
use Rattle.labelled_disk.specs.State.{DiskState}
use Rattle.frame_pool.specs.Frames.{Slots}
use Rattle.swapper_kernel.specs.Halts.{HasCause}
use Rattle.swapper_kernel.specs.Stands.{Stands}

-- Over a memory that is right for the call, it is the disk that failed. Else a fault of the disk was counted, or the evidence is
-- such, of the disk as it was and as it is then.
pub record FailsBy (right : List Sector → Type 0) (shown : DiskState → Evidence → Type 0) (old : DiskState) (slots : Slots) (new : DiskState) (e : Halt) : Type 0 where
  pub sound : (m : List Sector) → Stands old slots m → right m → e ≡ Disk
  pub cause : HasCause (shown old) old new e
  pub evidence_seen : HasCause (shown new) old new e
