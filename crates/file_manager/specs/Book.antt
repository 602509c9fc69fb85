-- What the calls on files know of a memory: its maps are in form and say what its labels say.
use Rattle.std.specs.Prelude.{◌≡◌, ℕ, ◌≤◌, true, List, length, Some, slice_get, IsSomeAnd, IsTrue}
use Rattle.labelled_disk.specs.declared.label.Label.{Label}
use Rattle.labelled_disk.specs.declared.layout.Layout.{Layout}
use Rattle.labelled_disk.specs.declared.disk.DiskWrite.{DiskWrite}
use Rattle.labelled_disk.specs.Label.{names, wanted_root}
use Rattle.labelled_disk.specs.Sectors.{Sector, AreSectors}
use Rattle.labelled_disk.specs.State.{DiskState}
use Rattle.frame_pool.specs.Frames.{Slots}
use Rattle.file_map.specs.declared.run.Run.{Run}
use Rattle.file_map.specs.Run.{holds, sector_at}
use Rattle.file_map.specs.FileMap.{Triples}
use Rattle.file_map.specs.InSectors.{MapNames}
use Rattle.flat_machine.specs.declared.space.Space.{Space}
use Rattle.swapper_kernel.specs.Stands.{Stands, labels_of}
use Rattle.swapper_kernel.specs.Goes.{Goes, Change}
use Rattle.swapper_kernel.specs.Homes.{Brings}
use Rattle.filer_kernel.specs.declared.cached.CachedRuns.{CachedRuns}
use Rattle.filer_kernel.specs.Cached.{runs_of}
use Rattle.session_words.specs.Parts.{Shapes, HasLabelsUpto, HasMapLabels, MarksFit, HasTriples, IsTriple, is_marked}
use Rattle.session_words.specs.Found.{AreShapes}
use Rattle.session_words.specs.FrameLaws.{HasFrames}
use Rattle.session_words.specs.Volume.{volume_page}

-- each page of each of the runs stands where the run says, by the labels
abbrev pub AreTrue : List Label → List Run → Type 0
AreTrue labels runs = (k : ℕ) (r : Run) → slice_get runs k ≡ Some r → (page : ℕ) → holds r r.id page ≡ true → IsTriple labels r.id page (sector_at r page)

-- The labels are those of so many pages of the space tables and of files of these shapes, and both maps say so. The runs
-- that are kept are true.
pub record IsBookedUpto (tables : ℕ) (layout : Layout) (runs : List Run) (shapes : Shapes) (memory : List Sector) : Type 0 where
  pub sectors : AreSectors memory
  pub long : length memory ≡ layout.sectors
  pub files : AreShapes shapes
  pub root_label : IsSomeAnd (slice_get (labels_of memory) 0) (λ l. IsTrue (names l wanted_root))
  pub map_labels : HasMapLabels (labels_of memory)
  pub labels : HasLabelsUpto tables (labels_of memory) shapes
  pub bits : MarksFit (is_marked memory) (labels_of memory)
  pub named : Triples
  pub map : MapNames memory named
  pub triples : HasTriples named (labels_of memory)
  pub kept : AreTrue (labels_of memory) runs

-- of all 96 of them
abbrev pub IsBooked : Layout → List Run → Shapes → List Sector → Type 0
IsBooked layout runs shapes memory = IsBookedUpto 96 layout runs shapes memory

-- disk and frames make this memory, which is such; and each frame is of a page of the volume's own, or of one that a window of these spaces shows
pub record BooksUpto (tables : ℕ) (disk : DiskState) (slots : Slots) (layout : Layout) (runs : CachedRuns) (shapes : Shapes) (spaces : List Space) (memory : List Sector) : Type 0 where
  pub stands : Stands disk slots memory
  pub booked : IsBookedUpto tables layout (runs_of layout.sectors runs) shapes memory
  pub frames : HasFrames slots spaces

-- with all 96 pages of the space tables
abbrev pub Books : DiskState → Slots → Layout → CachedRuns → Shapes → List Space → List Sector → Type 0
Books disk slots layout runs shapes spaces memory = BooksUpto 96 disk slots layout runs shapes spaces memory

-- pages of the maps and of the space tables alone came into frames
abbrev pub BringsOwn : Slots → Slots → Type 0
BringsOwn before after = Brings (λ home. (1 ≤ home.id) × (home.id ≤ 3)) before after

-- A call led from disk and frames to later ones: P holds of the memories before and after it, it wrote these labels, and the runs that are kept are true.
pub record Leads (P : Change) (writes : List DiskWrite) (old : DiskState) (before : Slots) (layout : Layout) (new : DiskState) (after : Slots) (runs : CachedRuns) : Type 0 where
  pub goes : Goes P volume_page writes old before new after
  pub brings : BringsOwn before after
  pub true_runs : (m : List Sector) → Stands new after m → AreTrue (labels_of m) (runs_of layout.sectors runs)
