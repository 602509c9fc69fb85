-- Why a call stops the session.
use Rattle.std.specs.Prelude.{◌≡◌, ◌⊎◌, ℕ, false}
use Rattle.labelled_disk.specs.declared.label.Label.{Label}
use Rattle.labelled_disk.specs.declared.label.Wanted.{Wanted}
use Rattle.labelled_disk.specs.declared.evidence.Evidence.{Evidence}
use Rattle.labelled_disk.specs.declared.evidence.Evidence.TheVariants.{Mismatch, Malformed, Missing}
use Rattle.labelled_disk.specs.declared.evidence.Halt.{Halt}
use Rattle.labelled_disk.specs.declared.evidence.Halt.TheVariants.{Disk, Damaged}
use Rattle.labelled_disk.specs.Calls.{Rose}
use Rattle.labelled_disk.specs.Label.{names}
use Rattle.labelled_disk.specs.State.{DiskState, HasLabel}
use Rattle.frame_pool.specs.Frames.{Slots}
use Rattle.swapper_kernel.specs.Homes.{Homes, home_at, IsHeld}

-- The disk has this label in the sector, which doesn't name the wanted page; and one of these homes is the reason to
-- want it there.
pub record IsOther (grounds : Homes) (disk : DiskState) (sector : ℕ) (wanted : Wanted) (label : Label) : Type 0 where
  pub there : HasLabel disk sector label
  pub other : names label wanted ≡ false
  pub reason : grounds (home_at sector wanted)

-- the evidence is a label, another than that of one of these homes
abbrev pub IsMismatch : Homes → DiskState → Evidence → Type 0
IsMismatch grounds disk (Mismatch sector wanted found) = IsOther grounds disk sector wanted found
IsMismatch grounds disk (Malformed structure page) = ⊥
IsMismatch grounds disk (Missing id page) = ⊥

-- a fault of the disk was counted, or the evidence is so
abbrev pub HasCause : (Evidence → Type 0) → DiskState → DiskState → Halt → Type 0
HasCause shown old new Disk = Rose old.faults new.faults
HasCause shown old new (Damaged evidence) = shown evidence

-- the homes that frames had, and these
abbrev pub held_or : Slots → Homes → Homes
held_or slots homes home = IsHeld slots home ⊎ homes home

-- The halt of a call to which these homes were given: a fault of the disk was counted, or a label was read that doesn't
-- name the page of a home that was given or that a frame had.
abbrev pub Halts : Homes → DiskState → Slots → DiskState → Halt → Type 0
Halts given old before new halt = HasCause (IsMismatch (held_or before given) old) old new halt
