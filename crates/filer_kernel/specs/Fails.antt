-- How a call fails that moves sectors.
use Rattle.std.specs.Prelude.{◌≡◌}
use Rattle.labelled_disk.specs.declared.evidence.Halt.{Halt}
use Rattle.labelled_disk.specs.declared.evidence.Halt.TheVariants as halt
use Rattle.labelled_disk.specs.Calls.{Rose}
use Rattle.filer_kernel.specs.Evidence.{ShowsEvidence}
use Rattle.filer_kernel.specs.View.{View}

-- The halt has this cause. It is a fault of the disk only where the disk counted one, and its evidence of damage is so of the disk.
pub record Fails (why : Halt → Type 0) (v w : View) (e : Halt) : Type 0 where
  pub cause : why e
  pub counted : e ≡ halt.Disk → Rose v.disk.faults w.disk.faults
  pub evidence_seen : ShowsEvidence w.disk e
