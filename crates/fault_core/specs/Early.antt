-- What a call leaves that stops before the pages that were asked for are brought in.
use Rattle.labelled_disk.specs.declared.evidence.Evidence.TheVariants.{Mismatch, Malformed, Missing}
use Rattle.labelled_disk.specs.declared.evidence.Halt.{Halt}
use Rattle.labelled_disk.specs.declared.evidence.Halt.TheVariants.{Disk, Damaged}
use Rattle.frame_pool.specs.Frames.{Slots}
use Rattle.fault_core.specs.Reach.{BringsOwn, StayOrYield}

-- No page of a client's file came into a frame; and each frame stays where it is, with its bytes, but where a page of the file map or of the
-- space tables, which was asked, has its slot.
pub record KeepsClients (before after : Slots) : Type 0 where
  pub came : BringsOwn before after
  pub stay : StayOrYield before after

-- where the halt is that a page has no home, or that a page of the file map or of the tables is broken, this holds
abbrev pub IfUnfound : Type 0 → Halt → Type 0
IfUnfound P Disk = Unit {0}
IfUnfound P (Damaged (Mismatch sector wanted found)) = Unit {0}
IfUnfound P (Damaged (Malformed structure page)) = P
IfUnfound P (Damaged (Missing id page)) = P
