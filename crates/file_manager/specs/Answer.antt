-- What the calls that ask answer of the files.
use Rattle.std.specs.Prelude.{◌≡◌, ◌≢◌, ◌⊎◌, ℕ, ◌<◌, ◌≤◌, true, List, [], ◌∷◌, Option, Some, None, slice_get}
use Rattle.labelled_disk.specs.declared.label.Label.{Label}
use Rattle.labelled_disk.specs.declared.layout.Layout.{Layout}
use Rattle.labelled_disk.specs.declared.disk.DiskWrite.TheVariants.{LabelOnly}
use Rattle.labelled_disk.specs.Label.{names, leader_page}
use Rattle.labelled_disk.specs.Sectors.{Sector}
use Rattle.labelled_disk.specs.State.{DiskState}
use Rattle.frame_pool.specs.Frames.{Slots}
use Rattle.filer_kernel.specs.declared.cached.CachedRuns.{CachedRuns}
use Rattle.swapper_kernel.specs.Goes.{Makes}
use Rattle.label_calls.specs.declared.page.Mark.{Mark}
use Rattle.label_calls.specs.Labels.{with_mark}
use Rattle.session_words.specs.MarkLaws.{Marks}
use Rattle.session_words.specs.Volume.{volume_page}
use Rattle.file_manager.specs.Book.{Leads}
use Rattle.session_words.specs.Parts.{Shapes, IsTriple}

-- the leader of the file stands in this sector, or there is no such file
abbrev pub IsLeaderOf : List Label → Shapes → ℕ → Option ℕ → Type 0
IsLeaderOf labels shapes id (Some sector) = IsTriple labels id leader_page sector
IsLeaderOf labels shapes id None = shapes id ≡ None

-- the least identifier of a file above this one, or there is none
abbrev pub IsNextFile : Shapes → ℕ → Option ℕ → Type 0
IsNextFile shapes id (Some next) = (id < next) × (shapes next ≢ None) × ((other : ℕ) → id < other → shapes other ≢ None → next ≤ other)
IsNextFile shapes id None = (other : ℕ) → id < other → shapes other ≡ None

-- The leader, which stood in this sector, has the mark, and nothing else changed.
pub record IsMarked (id : ℕ) (mark : Label → Label) (memory : List Sector) (old : DiskState) (before : Slots) (layout : Layout) (new : DiskState) (after : Slots) (runs : CachedRuns) : Type 0 where
  pub leader : ℕ
  pub s : Sector
  pub here : slice_get memory leader ≡ Some s
  pub named : names s.0 (record { id = id; page = leader_page }) ≡ true
  pub leads : Leads (Marks id mark) (LabelOnly leader (mark s.0) ∷ []) old before layout new after runs

-- nothing was written, or one label with a mark more
abbrev pub WritesMark : Mark → DiskState → Slots → DiskState → Slots → Type 0
WritesMark mark old before new after =
    Makes volume_page [] old before new after ⊎ ((sector : ℕ) × (label : Label) × Makes volume_page (LabelOnly sector (with_mark mark label) ∷ []) old before new after)
