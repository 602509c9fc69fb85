-- Pages of a file that are made in free sectors.
use Rattle.std.specs.Prelude.{◌≡◌, ℕ, ◌+◌, ◌-◌, ◌≤◌, ◌<◌, false, List, [], ◌∷◌, length, take, Some, None}
use Rattle.std.specs.List.{range_with_len}
use Rattle.labelled_disk.specs.declared.layout.Layout.{Layout}
use Rattle.labelled_disk.specs.Runs.{growth, creation}
use Rattle.labelled_disk.specs.Label.{leader_page}
use Rattle.labelled_disk.specs.Sectors.{Sector}
use Rattle.labelled_disk.specs.State.{DiskState}
use Rattle.frame_pool.specs.Frames.{Slots}
use Rattle.file_map.specs.declared.run.Run.{Run}
use Rattle.file_map.specs.Run.{IsRun}
use Rattle.swapper_kernel.specs.Goes.{Makes}
use Rattle.filer_kernel.specs.Marks.{free_sectors}
use Rattle.filer_kernel.specs.declared.cached.CachedRuns.{CachedRuns}
use Rattle.session_words.specs.Found.{AreShapes}
use Rattle.session_words.specs.GrowLaws.{Grows}
use Rattle.file_manager.specs.Book.{BooksUpto, Leads}
use Rattle.session_words.specs.Parts.{Shape, Shapes, is_owned_upto, is_marked}
use Rattle.flat_machine.specs.declared.space.Space.{Space}
use Rattle.session_words.specs.FrameLaws.{is_shown}
use Rattle.session_words.specs.Volume.{volume_page}

-- so many pages of the file, from this one on, are there for no shape, nor among the first so many of the space tables
abbrev pub AreUnownedUpto : ℕ → Shapes → ℕ → ℕ → ℕ → Type 0
AreUnownedUpto tables shapes id page pages = (p : ℕ) → page ≤ p → p < page + pages → is_owned_upto tables shapes id p ≡ false

-- nor among all 96
abbrev pub AreUnowned : Shapes → ℕ → ℕ → ℕ → Type 0
AreUnowned shapes id page pages = AreUnownedUpto 96 shapes id page pages

-- no window shows a page that a free label would name
abbrev pub ShowsNoFree : List Space → Type 0
ShowsNoFree spaces = (page : ℕ) → is_shown spaces 0 page ≡ false

-- how many data sectors the memory's allocation map has as free
abbrev pub free_count : Layout → List Sector → ℕ
free_count layout memory = free_sectors layout (is_marked memory)

-- the sectors of a run, in order
abbrev pub sectors_of : Run → List ℕ
sectors_of run = range_with_len run.sector run.pages

-- a run of a volume of n sectors: this page of this file and those after it, at most so many
pub record IsRunFor (n id page most : ℕ) (run : Run) : Type 0 where
  pub form : IsRun n run
  pub same_id : run.id ≡ id
  pub same_first : run.first ≡ page
  pub few : run.pages ≤ most

-- The first of the labels of such a growth were written, the sectors being these, at most so many.
pub record MakesSome (id kind page most : ℕ) (old : DiskState) (before : Slots) (new : DiskState) (after : Slots) : Type 0 where
  pub sectors : List ℕ
  pub few : length sectors ≤ most
  pub count : ℕ
  pub makes : Makes volume_page (take count (growth id kind page sectors)) old before new after

-- The file of this shape may grow up to this many pages, beside so many of the space tables: the maps are right, no window
-- shows what a free label would name, and as many data sectors are free.
pub record MayGrowUpto (tables : ℕ) (disk : DiskState) (slots : Slots) (layout : Layout) (runs : CachedRuns) (shapes : Shapes) (spaces : List Space) (id : ℕ) (f : Shape) (pages : ℕ) (memory : List Sector) : Type 0 where
  pub books : BooksUpto tables disk slots layout runs shapes spaces memory
  pub hidden : ShowsNoFree spaces
  pub are : AreShapes shapes
  pub found : shapes id ≡ Some f
  pub enough : pages - f.size ≤ free_count layout memory

-- beside all 96 of them
abbrev pub MayGrow : DiskState → Slots → Layout → CachedRuns → Shapes → List Space → ℕ → Shape → ℕ → List Sector → Type 0
MayGrow disk slots layout runs shapes spaces id f pages memory = MayGrowUpto 96 disk slots layout runs shapes spaces id f pages memory

-- so many sectors, and the growth into them led from disk and frames to later ones
pub record GrownBy (id kind from pages : ℕ) (old : DiskState) (before : Slots) (layout : Layout) (new : DiskState) (after : Slots) (runs : CachedRuns) : Type 0 where
  pub sectors : List ℕ
  pub long : length sectors ≡ pages
  pub leads : Leads (Grows id kind from sectors) (growth id kind from sectors) old before layout new after runs

-- so many sectors, and their labels were written
pub record MakesAll (id kind from pages : ℕ) (old : DiskState) (before : Slots) (new : DiskState) (after : Slots) : Type 0 where
  pub sectors : List ℕ
  pub long : length sectors ≡ pages
  pub makes : Makes volume_page (growth id kind from sectors) old before new after

-- The file may be made with so many pages, beside so many of the space tables: the maps are right, no window shows what a
-- free label would name, no shape is this file's, and a data sector more than its pages is free.
pub record MayCreateUpto (tables : ℕ) (disk : DiskState) (slots : Slots) (layout : Layout) (runs : CachedRuns) (shapes : Shapes) (spaces : List Space) (id pages : ℕ) (memory : List Sector) : Type 0 where
  pub books : BooksUpto tables disk slots layout runs shapes spaces memory
  pub hidden : ShowsNoFree spaces
  pub are : AreShapes shapes
  pub none : shapes id ≡ None
  pub enough : pages + 1 ≤ free_count layout memory

-- beside all 96 of them
abbrev pub MayCreate : DiskState → Slots → Layout → CachedRuns → Shapes → List Space → ℕ → ℕ → List Sector → Type 0
MayCreate disk slots layout runs shapes spaces id pages memory = MayCreateUpto 96 disk slots layout runs shapes spaces id pages memory

-- the leader is made, then the pages, and the maps say so
pub record LedAndGrown (id kind leader : ℕ) (is : List ℕ) (m n : List Sector) : Type 0 where
  pub middle : List Sector
  pub led : Grows id kind leader_page (leader ∷ []) m middle
  pub grown : Grows id kind 0 is middle n

-- a sector for the leader and so many for the pages, and the creation in them led from disk and frames to later ones
pub record CreatedBy (id kind pages : ℕ) (old : DiskState) (before : Slots) (layout : Layout) (new : DiskState) (after : Slots) (runs : CachedRuns) : Type 0 where
  pub leader : ℕ
  pub sectors : List ℕ
  pub long : length sectors ≡ pages
  pub leads : Leads (LedAndGrown id kind leader sectors) (creation id kind leader sectors) old before layout new after runs

-- the first of the labels of such a creation were written, the sectors being these: one for the leader and at most so many
-- for the pages
pub record CreatesSome (id kind pages : ℕ) (old : DiskState) (before : Slots) (new : DiskState) (after : Slots) : Type 0 where
  pub leader : ℕ
  pub sectors : List ℕ
  pub few : length sectors ≤ pages
  pub count : ℕ
  pub makes : Makes volume_page (take count (creation id kind leader sectors)) old before new after

-- a sector for the leader and so many for the pages, and their labels were written
pub record CreatesAll (id kind pages : ℕ) (old : DiskState) (before : Slots) (new : DiskState) (after : Slots) : Type 0 where
  pub leader : ℕ
  pub sectors : List ℕ
  pub long : length sectors ≡ pages
  pub makes : Makes volume_page (creation id kind leader sectors) old before new after
