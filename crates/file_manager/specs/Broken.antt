-- What a growth or a mark that stopped has written.
use Rattle.std.specs.Prelude.{◌≡◌, ◌⊎◌, ℕ, ◌≤◌, true, List, [], ◌∷◌, length, take, Some, slice_get}
use Rattle.labelled_disk.specs.declared.label.Label.{Label}
use Rattle.labelled_disk.specs.declared.disk.DiskWrite.TheVariants.{LabelOnly}
use Rattle.labelled_disk.specs.Label.{names, leader_page}
use Rattle.labelled_disk.specs.Runs.{growth}
use Rattle.labelled_disk.specs.Sectors.{Sector}
use Rattle.labelled_disk.specs.State.{DiskState}
use Rattle.frame_pool.specs.Frames.{Slots}
use Rattle.swapper_kernel.specs.Goes.{Makes}
use Rattle.swapper_kernel.specs.Stands.{labels_of}
use Rattle.session_words.specs.GrowLaws.{AreFree}
use Rattle.session_words.specs.Volume.{volume_page}

-- The first of the labels of such a growth were written, in sectors that were free in this memory, at most so many.
pub record GrewSome (id kind page most : ℕ) (memory : List Sector) (old : DiskState) (before : Slots) (new : DiskState) (after : Slots) : Type 0 where
  pub sectors : List ℕ
  pub few : length sectors ≤ most
  pub free : AreFree id kind page sectors (labels_of memory)
  pub count : ℕ
  pub makes : Makes volume_page (take count (growth id kind page sectors)) old before new after

-- The leader, which stood in this sector of the memory, got its label with the mark.
pub record MarkedSome (id : ℕ) (mark : Label → Label) (memory : List Sector) (old : DiskState) (before : Slots) (new : DiskState) (after : Slots) : Type 0 where
  pub leader : ℕ
  pub s : Sector
  pub here : slice_get memory leader ≡ Some s
  pub named : names s.0 (record { id = id; page = leader_page }) ≡ true
  pub makes : Makes volume_page (LabelOnly leader (mark s.0) ∷ []) old before new after

-- that, or no label was written
abbrev pub MarksFirst : ℕ → (Label → Label) → List Sector → DiskState → Slots → DiskState → Slots → Type 0
MarksFirst id mark memory old before new after = Makes volume_page [] old before new after ⊎ MarkedSome id mark memory old before new after
