-- The last pages of a file become free, the last one first.
use Rattle.std.specs.Prelude.{◌≡◌, ℕ, zero, suc, ◌+◌, ◌-◌, ◌≤◌, ◌<◌, true, false, List, [], ◌∷◌, length, map, Some}
use Rattle.std.specs.List.{range_with_len}
use Rattle.labelled_disk.specs.declared.layout.Layout.{Layout}
use Rattle.labelled_disk.specs.Label.{leader_page}
use Rattle.labelled_disk.specs.Runs.{freeing, ArePagesDown}
use Rattle.labelled_disk.specs.Sectors.{Sector}
use Rattle.labelled_disk.specs.State.{DiskState}
use Rattle.frame_pool.specs.Frames.{Slots}
use Rattle.file_map.specs.declared.run.Run.{Run}
use Rattle.file_map.specs.Run.{IsRun}
use Rattle.file_map.specs.FileMap.{Triples, with_run, without_from}
use Rattle.flat_machine.specs.declared.space.Space.{Space}
use Rattle.swapper_kernel.specs.Stands.{labels_of}
use Rattle.swapper_kernel.specs.Goes.{Goes, Makes}
use Rattle.filer_kernel.specs.declared.cached.CachedRuns.{CachedRuns}
use Rattle.session_words.specs.FrameLaws.{is_shown}
use Rattle.session_words.specs.FreeLaws.{Frees, cut_pages}
use Rattle.session_words.specs.Parts.{Shape, Shapes}
use Rattle.session_words.specs.Volume.{volume_page}
use Rattle.file_manager.specs.Book.{Books, BringsOwn, Leads}
use Rattle.file_manager.specs.Freeing.{FreesSectors, MayFree}

-- the sectors of a run, the last one first
abbrev pub run_down : Run → List ℕ
run_down run = map (λ k. run.sector + (run.pages - (k + 1))) (range_with_len 0 run.pages)

-- the sectors of the pages below this one, the last one first, by the file map
abbrev pub AreNamedDown : Triples → ℕ → ℕ → List ℕ → Type 0
AreNamedDown named id page [] = Unit {0}
AreNamedDown named id zero (i ∷ is) = ⊥
AreNamedDown named id (suc page) (i ∷ is) = (named id page i ≡ true) × AreNamedDown named id page is

-- a run of a volume of n sectors: the last page of this file below one and those before it, none of them below another
pub record IsLastPart (n id from end : ℕ) (run : Run) : Type 0 where
  pub form : IsRun n run
  pub same_id : run.id ≡ id
  pub above : from ≤ run.first
  pub reaches : run.first + run.pages ≡ end

-- So many pages below one were freed, and the others may be.
pub record FreedDown (layout : Layout) (named : Triples) (spaces : List Space) (id from pages end : ℕ) (old : DiskState) (before : Slots) (new : DiskState) (after : Slots) (runs : CachedRuns) : Type 0 where
  pub sectors : List ℕ
  pub long : length sectors ≡ pages
  pub down : AreNamedDown named id end sectors
  pub goes : Goes (FreesSectors layout sectors) volume_page (freeing sectors) old before new after
  pub brings : BringsOwn before after
  pub memory : List Sector
  pub rest : MayFree new after layout runs named spaces id from (end - pages) memory

-- the labels of the last of the pages up to one were freed, at most so many
pub record StoppedDown (named : Triples) (id pages end : ℕ) (old : DiskState) (before : Slots) (new : DiskState) (after : Slots) : Type 0 where
  pub sectors : List ℕ
  pub few : length sectors ≤ pages
  pub down : AreNamedDown named id end sectors
  pub makes : Makes volume_page (freeing sectors) old before new after

-- the leader of a file, as a run
abbrev pub leader_run : ℕ → ℕ → Run
leader_run id sector = record { id = id; first = leader_page; pages = 1; sector = sector }

-- the triples without those of the pages of a file from one on, its leader in this sector
abbrev pub cut_triples : Triples → ℕ → ℕ → ℕ → Triples
cut_triples named id from leader = with_run (without_from named id from) (leader_run id leader)

-- no page but the leader has the leader's sector
abbrev pub IsLeaderAlone : Triples → ℕ → ℕ → Type 0
IsLeaderAlone named id leader = (i p : ℕ) → named i p leader ≡ true → (i ≡ id) × (p ≡ leader_page)

-- The file of this shape may be cut down to this many pages: the maps are right, it has more, and no window shows it.
pub record MayShrink (disk : DiskState) (slots : Slots) (layout : Layout) (runs : CachedRuns) (shapes : Shapes) (spaces : List Space) (id : ℕ) (f : Shape) (pages : ℕ) (memory : List Sector) : Type 0 where
  pub books : Books disk slots layout runs shapes spaces memory
  pub found : shapes id ≡ Some f
  pub fewer : pages < f.size
  pub hidden : (page : ℕ) → is_shown spaces id page ≡ false

-- on each disk with the labels of this memory they are the sectors of the last pages of a file of n pages, the last one first
abbrev pub AreLast : List Sector → ℕ → ℕ → List ℕ → Type 0
AreLast memory id n sectors = (d : List Sector) → labels_of d ≡ labels_of memory → ArePagesDown d id n sectors

-- the pages of a file from one on up to its size: so many sectors, and their freeing led from disk and frames to later ones
pub record ShrunkBy (id pages size : ℕ) (memory : List Sector) (old : DiskState) (before : Slots) (layout : Layout) (new : DiskState) (after : Slots) (runs : CachedRuns) : Type 0 where
  pub sectors : List ℕ
  pub long : length sectors ≡ size - pages
  pub last : AreLast memory id size sectors
  pub leads : Leads (Frees (cut_pages id pages)) (freeing sectors) old before layout new after runs

-- the labels of some of these pages were freed, the last page first
pub record ShrunkSome (id pages size : ℕ) (memory : List Sector) (old : DiskState) (before : Slots) (new : DiskState) (after : Slots) : Type 0 where
  pub sectors : List ℕ
  pub few : length sectors ≤ size - pages
  pub last : AreLast memory id size sectors
  pub makes : Makes volume_page (freeing sectors) old before new after
