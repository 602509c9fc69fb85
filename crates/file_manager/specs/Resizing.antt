-- A file gets another size: what is written, whatever the volume holds.
use Rattle.std.specs.Prelude.{◌⊎◌, ℕ, ◌-◌, ◌≤◌, ◌<◌}
use Rattle.labelled_disk.specs.State.{DiskState}
use Rattle.frame_pool.specs.Frames.{Slots}
use Rattle.file_manager.specs.Freeing.{MakesFree, MakesSomeFree}
use Rattle.file_manager.specs.Making.{MakesAll, MakesSome}

-- labels of pages up to so many were made, or those of as many pages as there were above that were freed
abbrev pub Resizes : ℕ → ℕ → DiskState → Slots → DiskState → Slots → Type 0
Resizes id pages old before new after =
    ((kind : ℕ) × (size : ℕ) × (size ≤ pages) × MakesAll id kind size (pages - size) old before new after) ⊎ ((size : ℕ) × (pages < size) × MakesFree (size - pages) old before new after)

-- some of them
abbrev pub ResizesSome : ℕ → ℕ → DiskState → Slots → DiskState → Slots → Type 0
ResizesSome id pages old before new after =
    ((kind : ℕ) × (size : ℕ) × MakesSome id kind size (pages - size) old before new after) ⊎ MakesSomeFree old before new after
