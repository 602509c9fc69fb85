-- The pages of the space tables, made at a session's start and freed at its close.
use Rattle.std.specs.Prelude.{◌≡◌, ℕ, ◌+◌, ◌≤◌, ◌==◌, Bool, List, [], ◌∷◌, length}
use Rattle.labelled_disk.specs.declared.layout.Layout.{Layout}
use Rattle.labelled_disk.specs.Label.{names}
use Rattle.labelled_disk.specs.Runs.{growth, freeing, IsAt}
use Rattle.labelled_disk.specs.Sectors.{Sector}
use Rattle.labelled_disk.specs.State.{DiskState}
use Rattle.frame_pool.specs.Frames.{Slots}
use Rattle.flat_machine.specs.declared.space.Space.{Space}
use Rattle.filer_kernel.specs.declared.cached.CachedRuns.{CachedRuns}
use Rattle.swapper_kernel.specs.Goes.{Makes}
use Rattle.swapper_kernel.specs.Stands.{labels_of}
use Rattle.session_words.specs.Parts.{Shapes}
use Rattle.session_words.specs.FreeLaws.{Frees}
use Rattle.session_words.specs.OpenLaws.{TablesMade}
use Rattle.session_words.specs.Volume.{volume_page}
use Rattle.file_manager.specs.Book.{BooksUpto, Leads}
use Rattle.file_manager.specs.Making.{ShowsNoFree, free_count}

-- The pages of the space tables may be made: none of them is there, the maps are right, no window shows what a free label
-- would name, and as many data sectors are free.
pub record MayBegin (disk : DiskState) (slots : Slots) (layout : Layout) (runs : CachedRuns) (shapes : Shapes) (spaces : List Space) (memory : List Sector) : Type 0 where
  pub books : BooksUpto 0 disk slots layout runs shapes spaces memory
  pub hidden : ShowsNoFree spaces
  pub enough : 96 ≤ free_count layout memory

-- 96 sectors, and their making led from disk and frames to later ones
pub record BegunBy (old : DiskState) (before : Slots) (layout : Layout) (new : DiskState) (after : Slots) (runs : CachedRuns) : Type 0 where
  pub sectors : List ℕ
  pub leads : Leads (TablesMade sectors) (growth 3 0 0 sectors) old before layout new after runs

-- the page is one of the space tables
abbrev pub of_tables : ℕ → ℕ → Bool
of_tables id page = id == 3

-- data sectors whose labels are those of the pages of the space tables from this one up
abbrev pub AreTablePages : List Sector → ℕ → List ℕ → Type 0
AreTablePages d page [] = Unit {0}
AreTablePages d page (i ∷ is) = IsAt (λ s. names s.0 (record { id = 3; page = page })) d i × AreTablePages d (page + 1) is

-- The sectors of the 96 pages, and their freeing led from disk and frames to later ones. On each disk with the labels of
-- the memory they have these pages, from page 0 up.
pub record EndedBy (memory : List Sector) (old : DiskState) (before : Slots) (layout : Layout) (new : DiskState) (after : Slots) (runs : CachedRuns) : Type 0 where
  pub sectors : List ℕ
  pub long : length sectors ≡ 96
  pub were : (d : List Sector) → labels_of d ≡ labels_of memory → AreTablePages d 0 sectors
  pub leads : Leads (Frees of_tables) (freeing sectors) old before layout new after runs

-- The labels of the first of the pages were freed: on each disk with the labels of the memory the sectors have these
-- pages, from page 0 up.
pub record EndedSome (memory : List Sector) (old : DiskState) (before : Slots) (new : DiskState) (after : Slots) : Type 0 where
  pub sectors : List ℕ
  pub were : (d : List Sector) → labels_of d ≡ labels_of memory → AreTablePages d 0 sectors
  pub makes : Makes volume_page (freeing sectors) old before new after
