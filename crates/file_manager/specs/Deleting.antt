-- A file that is deleted.
use Rattle.std.specs.Prelude.{◌≡◌, ◌⊎◌, ℕ, ◌+◌, true, List, [], ◌∷◌, length}
use Rattle.labelled_disk.specs.declared.layout.Layout.{Layout}
use Rattle.labelled_disk.specs.FilesOn.{leads_file}
use Rattle.labelled_disk.specs.Runs.{freeing, IsAt, ArePagesUp}
use Rattle.labelled_disk.specs.Sectors.{Sector}
use Rattle.labelled_disk.specs.State.{DiskState}
use Rattle.frame_pool.specs.Frames.{Slots}
use Rattle.swapper_kernel.specs.Goes.{Makes}
use Rattle.swapper_kernel.specs.Stands.{labels_of}
use Rattle.filer_kernel.specs.declared.cached.CachedRuns.{CachedRuns}
use Rattle.session_words.specs.DeleteLaws.{all_pages}
use Rattle.session_words.specs.FreeLaws.{Frees}
use Rattle.session_words.specs.Volume.{volume_page}
use Rattle.file_manager.specs.Book.{Leads}
use Rattle.file_manager.specs.Freeing.{MakesFree}

-- on any disk with the labels of this memory these are the file's leader, and its pages from 0 up
abbrev pub AreOfDeleted : ℕ → List Sector → ℕ → List ℕ → Type 0
AreOfDeleted id memory leader sectors = (d : List Sector) → labels_of d ≡ labels_of memory → IsAt (leads_file true id) d leader × ArePagesUp d id 0 sectors

-- The sectors of a leader and of so many pages, and their freeing led from disk and frames to later ones: all pages of the file went.
pub record DeletedBy (id size : ℕ) (memory : List Sector) (old : DiskState) (before : Slots) (layout : Layout) (new : DiskState) (after : Slots) (runs : CachedRuns) : Type 0 where
  pub leader : ℕ
  pub sectors : List ℕ
  pub long : length sectors ≡ size
  pub leads : Leads (Frees (all_pages id)) (freeing (leader ∷ sectors)) old before layout new after runs
  pub stops : AreOfDeleted id memory leader sectors

-- the label of the leader was freed, and those of the first pages
pub record DeletesSome (id : ℕ) (memory : List Sector) (old : DiskState) (before : Slots) (new : DiskState) (after : Slots) : Type 0 where
  pub leader : ℕ
  pub sectors : List ℕ
  pub makes : Makes volume_page (freeing (leader ∷ sectors)) old before new after
  pub stops : AreOfDeleted id memory leader sectors

-- that, or no label was written
abbrev pub DeletesFirst : ℕ → List Sector → DiskState → Slots → DiskState → Slots → Type 0
DeletesFirst id memory old before new after = Makes volume_page [] old before new after ⊎ DeletesSome id memory old before new after

-- the labels of some sectors, one at least, were freed
abbrev pub MakesOneFree : DiskState → Slots → DiskState → Slots → Type 0
MakesOneFree old before new after = (more : ℕ) × MakesFree (more + 1) old before new after
