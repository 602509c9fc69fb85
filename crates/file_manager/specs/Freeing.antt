-- Pages of a file that become free: what that does to a memory whose file map stays.
use Rattle.std.specs.Prelude.{◌≡◌, ◌≢◌, ◌⊎◌, ℕ, ◌+◌, ◌≤◌, ◌<◌, true, false, List, [], ◌∷◌, length, Some, slice_get}
use Rattle.std.specs.List.{range_with_len}
use Rattle.labelled_disk.specs.declared.layout.Layout.{Layout}
use Rattle.labelled_disk.specs.Label.{leader_page}
use Rattle.labelled_disk.specs.Runs.{freeing}
use Rattle.labelled_disk.specs.Sectors.{Sector, free_label}
use Rattle.labelled_disk.specs.State.{DiskState}
use Rattle.frame_pool.specs.Frames.{Slots}
use Rattle.file_map.specs.declared.run.Run.{Run}
use Rattle.file_map.specs.Run.{IsRun}
use Rattle.file_map.specs.FileMap.{Triples}
use Rattle.flat_machine.specs.declared.space.Space.{Space}
use Rattle.swapper_kernel.specs.declared.manager.Manager.{Manager}
use Rattle.swapper_kernel.specs.declared.manager.Manager.TheVariants.{AllocationMap}
use Rattle.swapper_kernel.specs.Maps.{IsMapHome}
use Rattle.swapper_kernel.specs.Homes.{AreNamed}
use Rattle.swapper_kernel.specs.Stands.{Stands, labels_of}
use Rattle.swapper_kernel.specs.Goes.{Goes, Makes}
use Rattle.swapper_kernel.specs.Window.{in_map}
use Rattle.label_calls.specs.Labels.{HasOne, ones_of}
use Rattle.filer_kernel.specs.declared.cached.CachedRuns.{CachedRuns}
use Rattle.filer_kernel.specs.Cached.{runs_of}
use Rattle.filer_kernel.specs.Marks.{Marks, BitsAre}
use Rattle.filer_kernel.specs.Triples.{MapIs, AreOf}
use Rattle.session_words.specs.FrameLaws.{HasFrames, IsThere, is_shown}
use Rattle.session_words.specs.Volume.{volume_page}
use Rattle.file_manager.specs.Book.{BringsOwn}

-- the sector is none of these
abbrev pub IsNone : List ℕ → ℕ → Type 0
IsNone is k = (j : ℕ) → slice_get is j ≢ Some k

-- these sectors are marked free, and all others as they were
pub record ClearsBits (is : List ℕ) (marks later : Marks) : Type 0 where
  pub cleared : (j k : ℕ) → slice_get is j ≡ Some k → later k ≡ false
  pub others : (k : ℕ) → IsNone is k → later k ≡ marks k

-- The labels of these sectors are free, all other sectors but those of the allocation map are the same, and that map says so.
pub record FreesSectors (layout : Layout) (is : List ℕ) (m n : List Sector) : Type 0 where
  pub long : length n ≡ length m
  pub freed : (j k : ℕ) → slice_get is j ≡ Some k → k < length m → slice_get (labels_of n) k ≡ Some free_label
  pub labels : (k : ℕ) → IsNone is k → slice_get (labels_of n) k ≡ slice_get (labels_of m) k
  pub pages : (k : ℕ) (s : Sector) → slice_get m k ≡ Some s → IsNone is k → in_map AllocationMap layout k s.0 ≡ false → slice_get n k ≡ Some s
  pub bits : (marks : Marks) → BitsAre layout marks m → (later : Marks) × BitsAre layout later n × ClearsBits is marks later

-- the sectors of the pages from this one up, by the file map
abbrev pub AreNamedUp : Triples → ℕ → ℕ → List ℕ → Type 0
AreNamedUp named id page [] = Unit {0}
AreNamedUp named id page (i ∷ is) = (named id page i ≡ true) × AreNamedUp named id (page + 1) is

-- the data sector's label is that of the page
abbrev pub HasPageAt : Layout → List Sector → ℕ → ℕ → ℕ → Type 0
HasPageAt layout memory id page sector = (layout.first ≤ sector) × HasOne (ones_of (record { id = id; page = page })) memory sector

-- no window of these spaces shows the file, which is one of a client's; or no frame has a page of it
abbrev pub IsHidden : Slots → List Space → ℕ → Type 0
IsHidden slots spaces id = ((16 ≤ id) × ((page : ℕ) → is_shown spaces id page ≡ false)) ⊎ ((page : ℕ) → IsThere slots id page → ⊥)

-- The pages of a file from one up to another may be freed: the file map has them and says what their labels say, and the
-- file is hidden.
pub record MayFree (disk : DiskState) (slots : Slots) (layout : Layout) (runs : CachedRuns) (named : Triples) (spaces : List Space) (id from end : ℕ) (memory : List Sector) : Type 0 where
  pub stands : Stands disk slots memory
  pub long : length memory ≡ layout.sectors
  pub map : MapIs layout named memory
  pub kept : AreOf named (runs_of layout.sectors runs)
  pub marks : Marks
  pub bits : BitsAre layout marks memory
  pub map_labels : (which : Manager) → AreNamed memory (IsMapHome which layout)
  pub frames : HasFrames slots spaces
  pub hidden : IsHidden slots spaces id
  pub mapped : (page : ℕ) → from ≤ page → page < end → (sector : ℕ) × (named id page sector ≡ true)
  pub labelled : (page sector : ℕ) → from ≤ page → page < end → named id page sector ≡ true → HasPageAt layout memory id page sector

-- the sectors of a run, in order
abbrev pub run_sectors : Run → List ℕ
run_sectors run = range_with_len run.sector run.pages

-- a run of a volume of n sectors: this page of this file and those after it, below another
pub record IsPartOf (n id page end : ℕ) (run : Run) : Type 0 where
  pub form : IsRun n run
  pub same_id : run.id ≡ id
  pub same_first : run.first ≡ page
  pub few : page + run.pages ≤ end

-- the sectors of the run are named for its pages
abbrev pub NamesAll : Triples → Run → Type 0
NamesAll named run = (k : ℕ) → k < run.pages → named run.id (run.first + k) (run.sector + k) ≡ true

-- So many pages from one on were freed, and the others may be.
pub record Freed (layout : Layout) (named : Triples) (spaces : List Space) (id from pages end : ℕ) (old : DiskState) (before : Slots) (new : DiskState) (after : Slots) (runs : CachedRuns) : Type 0 where
  pub sectors : List ℕ
  pub long : length sectors ≡ pages
  pub up : AreNamedUp named id from sectors
  pub goes : Goes (FreesSectors layout sectors) volume_page (freeing sectors) old before new after
  pub brings : BringsOwn before after
  pub memory : List Sector
  pub rest : MayFree new after layout runs named spaces id (from + pages) end memory

-- the labels of so many sectors were freed
pub record MakesFree (pages : ℕ) (old : DiskState) (before : Slots) (new : DiskState) (after : Slots) : Type 0 where
  pub sectors : List ℕ
  pub long : length sectors ≡ pages
  pub makes : Makes volume_page (freeing sectors) old before new after

-- the labels of some sectors were freed
pub record MakesSomeFree (old : DiskState) (before : Slots) (new : DiskState) (after : Slots) : Type 0 where
  pub sectors : List ℕ
  pub makes : Makes volume_page (freeing sectors) old before new after

-- the labels of the first of the pages from this one up to another were freed, in the sectors that the file map names
pub record FreedSome (named : Triples) (id page end : ℕ) (old : DiskState) (before : Slots) (new : DiskState) (after : Slots) : Type 0 where
  pub sectors : List ℕ
  pub few : page + length sectors ≤ end
  pub up : AreNamedUp named id page sectors
  pub makes : Makes volume_page (freeing sectors) old before new after

-- the label of the leader was freed, and those of the first of so many pages
pub record LeaderFreed (named : Triples) (id pages : ℕ) (old : DiskState) (before : Slots) (new : DiskState) (after : Slots) : Type 0 where
  pub leader : ℕ
  pub leads : named id leader_page leader ≡ true
  pub sectors : List ℕ
  pub few : length sectors ≤ pages
  pub up : AreNamedUp named id 0 sectors
  pub makes : Makes volume_page (freeing (leader ∷ sectors)) old before new after

-- that, or none was
abbrev pub FreedFirst : Triples → ℕ → ℕ → DiskState → Slots → DiskState → Slots → Type 0
FreedFirst named id pages old before new after = Makes volume_page [] old before new after ⊎ LeaderFreed named id pages old before new after

-- The leader of a file was freed, and then so many pages from 0 up.
pub record FreedAll (layout : Layout) (named : Triples) (spaces : List Space) (id pages : ℕ) (old : DiskState) (before : Slots) (new : DiskState) (after : Slots) (runs : CachedRuns) : Type 0 where
  pub leader : ℕ
  pub leads : named id leader_page leader ≡ true
  pub sectors : List ℕ
  pub long : length sectors ≡ pages
  pub up : AreNamedUp named id 0 sectors
  pub goes : Goes (FreesSectors layout (leader ∷ sectors)) volume_page (freeing (leader ∷ sectors)) old before new after
  pub brings : BringsOwn before after
  pub memory : List Sector
  pub rest : MayFree new after layout runs named spaces id pages pages memory

-- the leader of a file and its pages below one may be freed
pub record MayFreeAll (disk : DiskState) (slots : Slots) (layout : Layout) (runs : CachedRuns) (named : Triples) (spaces : List Space) (id pages : ℕ) (memory : List Sector) : Type 0 where
  pub leader : MayFree disk slots layout runs named spaces id leader_page (leader_page + 1) memory
  pub rest : MayFree disk slots layout runs named spaces id 0 pages memory
