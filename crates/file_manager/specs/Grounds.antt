-- Why the calls that free and make pages of files stop the session: what was wanted in a sector, and what the maps said.
use Rattle.std.specs.Prelude.{◌≡◌, ◌≢◌, ◌⊎◌, ℕ, ◌<◌, ◌≤◌, ◌+◌, true, false, List, ◌++◌, Some, slice_get}
use Rattle.labelled_disk.specs.declared.disk.DiskWrite.{DiskWrite}
use Rattle.labelled_disk.specs.declared.disk.DiskWrite.TheVariants.{Whole}
use Rattle.labelled_disk.specs.declared.evidence.Evidence.{Evidence}
use Rattle.labelled_disk.specs.declared.evidence.Evidence.TheVariants.{Mismatch, Malformed, Missing}
use Rattle.labelled_disk.specs.Structure.{IsOfFileMap}
use Rattle.labelled_disk.specs.declared.evidence.Halt.{Halt}
use Rattle.labelled_disk.specs.declared.layout.Layout.{Layout}
use Rattle.labelled_disk.specs.Label.{leader_page, page_label}
use Rattle.labelled_disk.specs.Runs.{growth, zero_bytes}
use Rattle.labelled_disk.specs.Sectors.{Sector}
use Rattle.labelled_disk.specs.State.{DiskState}
use Rattle.frame_pool.specs.declared.home.Home.{Home}
use Rattle.frame_pool.specs.Frames.{Slots}
use Rattle.file_map.specs.declared.run.Run.{Run}
use Rattle.file_map.specs.FileMap.{Triples, IsSize, most_records}
use Rattle.file_map.specs.Cause.{IsBroken, IsMost, IsToCut}
use Rattle.swapper_kernel.specs.declared.manager.Manager.{Manager}
use Rattle.swapper_kernel.specs.declared.manager.Manager.TheVariants.{AllocationMap, FileMap}
use Rattle.swapper_kernel.specs.Maps.{IsMapHome}
use Rattle.swapper_kernel.specs.Homes.{Homes, Brings, home_at}
use Rattle.swapper_kernel.specs.Halts.{HasCause, IsOther, held_or}
use Rattle.swapper_kernel.specs.Stands.{Stands}
use Rattle.swapper_kernel.specs.Goes.{Makes}
use Rattle.swapper_kernel.specs.Window.{Reveals, Beside}
use Rattle.label_calls.specs.Labels.{HasOne, nobody}
use Rattle.file_map.specs.Entries.{Stops}
use Rattle.filer_kernel.specs.Causes.{MapShows, MapCounts, IsGiven, IsRunHome}
use Rattle.filer_kernel.specs.Marks.{Marks, BitsAre, AreAll}
use Rattle.filer_kernel.specs.Triples.{MapIs, IsOneOf}
use Rattle.session_words.specs.FrameLaws.{IsThere}
use Rattle.session_words.specs.Volume.{volume_page}
use Rattle.file_manager.specs.Causes.{NamesNone, LeaderEvidence}
use Rattle.file_manager.specs.Making.{sectors_of}
use Rattle.file_manager.specs.Taking.{IsTakenFor, TakesLabels, TakesFor, AddsPages, NamesNoneOf, every_page, no_page_of}

-- a page of either map, where the layout has it
abbrev pub IsMapsHome : Layout → Homes
IsMapsHome layout home = (which : Manager) × IsMapHome which layout home

-- no frame has a page of the file
abbrev pub IsUnframed : Slots → ℕ → Type 0
IsUnframed slots id = (page : ℕ) → IsThere slots id page → ⊥

-- frames have none but the 96 pages of the space tables
abbrev pub AreTables : Slots → Type 0
AreTables slots = (page : ℕ) → IsThere slots 3 page → page < 96

-- ---- Pages that are freed. What the file map said at the start is known where something is given.

-- a page of the file on a data sector, where a run that was kept, or a record of the map, has it
pub record IsOwnHome (given : Type 0) (layout : Layout) (kept : List Run) (id : ℕ) (disk : DiskState) (slots : Slots) (home : Home) : Type 0 where
  pub of_file : home.id ≡ id
  pub from : layout.first ≤ home.sector
  pub below : home.sector < layout.sectors
  pub by_run : given → IsRunHome layout disk slots kept home

-- The evidence is a label in a home of a map, of a frame, or of a page of the file; or a page of the map that broke its form;
-- or one of these pages of the file, of which the map had no record.
abbrev pub FreeEvidence : Type 0 → Layout → List Run → ℕ → (ℕ → Type 0) → DiskState → Slots → Evidence → Type 0
FreeEvidence given layout kept id pages disk slots (Mismatch sector wanted found) = held_or slots (λ home. IsMapsHome layout home ⊎ IsOwnHome given layout kept id disk slots home) (home_at sector wanted)
FreeEvidence given layout kept id pages disk slots (Malformed structure page) = IsOfFileMap structure × (given → IsBroken layout.sectors (MapShows layout disk slots) page)
FreeEvidence given layout kept id pages disk slots (Missing missing page) = (missing ≡ id) × pages page × (given → NamesNone layout disk slots id page)

-- the evidence is a page of the map, of which a record of the file, or a part of one, was to be taken out
abbrev pub TakesOut : Type 0 → Layout → ℕ → ℕ → DiskState → Slots → Evidence → Type 0
TakesOut given layout id from disk slots (Mismatch sector wanted found) = ⊥
TakesOut given layout id from disk slots (Malformed structure page) = IsOfFileMap structure × (given → IsToCut id from (MapShows layout disk slots))
TakesOut given layout id from disk slots (Missing missing page) = ⊥

-- the page is below the size of the file that the map reveals
abbrev pub IsBelowSize : Layout → DiskState → Slots → ℕ → ℕ → Type 0
IsBelowSize layout disk slots id page = (m : List Sector) (named : Triples) → Stands disk slots m → MapIs layout named m → (size : ℕ) × IsSize named id size × (page < size)

-- the halt of a call that frees these pages of a file
abbrev pub FreeHalts : Type 0 → Layout → List Run → ℕ → (ℕ → Type 0) → DiskState → Slots → DiskState → Halt → Type 0
FreeHalts given layout kept id pages old before new halt = HasCause (FreeEvidence given layout kept id pages old before) old new halt

-- the halt of a call that frees these pages, and takes the file from page `from` on out of the map
abbrev pub CutFileHalts : Type 0 → Layout → List Run → ℕ → ℕ → (ℕ → Type 0) → DiskState → Slots → DiskState → Halt → Type 0
CutFileHalts given layout kept id from pages old before new halt =
    HasCause (λ evidence. FreeEvidence given layout kept id pages old before evidence ⊎ TakesOut given layout id from old before evidence) old new halt

-- the leader, or a page below the size
abbrev pub IsPageOf : Layout → DiskState → Slots → ℕ → ℕ → Type 0
IsPageOf layout disk slots id page = (page ≡ leader_page) ⊎ IsBelowSize layout disk slots id page

-- the halt of a call that deletes a file; what the map said is known where no frame had a page of it
abbrev pub DeleteHalts : Layout → List Run → ℕ → DiskState → Slots → DiskState → Halt → Type 0
DeleteHalts layout kept id old before new halt = CutFileHalts (IsUnframed before id) layout kept id 0 (IsPageOf layout old before id) old before new halt

-- What calls on a file leave: pages of the maps alone came into frames; and where something is given, the bytes of the file
-- map are reported as they were, no frame has a page of the file, and runs that are kept were kept or are records of the map.
pub record KeepsMap (given : Type 0) (layout : Layout) (id : ℕ) (old : DiskState) (before : Slots) (kept : List Run) (new : DiskState) (after : Slots) (runs : List Run) : Type 0 where
  pub faults : old.faults ≤ new.faults
  pub brings : Brings (IsMapsHome layout) before after
  pub unframed : given → IsUnframed after id
  pub revealed : given → (b : List ℕ) → Reveals FileMap old before layout b → Reveals FileMap new after layout b
  pub runs_given : given → (r : Run) → IsOneOf r runs → IsGiven layout old before kept r

-- ---- Pages that are made.

-- What calls that make these pages of a file leave: pages of the maps alone came into frames; and where no frame had a page
-- that a free label would name, the file took sectors for these pages, and nothing else of labels and maps changed.
pub record MakesFor (layout : Layout) (id : ℕ) (pages : ℕ → Type 0) (old : DiskState) (before : Slots) (new : DiskState) (after : Slots) : Type 0 where
  pub brings : Brings (IsMapsHome layout) before after
  pub memory : IsUnframed before 0 → (m : List Sector) → Stands old before m → (n : List Sector) × Stands new after n × TakesFor layout id pages m n

-- the page of the map breaks its form, or no record can be put in there, or it is page 0 and the map has as many as it may
abbrev pub IsBrokenOrFull : Layout → ℕ → DiskState → Slots → Type 0
IsBrokenOrFull layout page disk slots = (IsBroken layout.sectors (MapShows layout disk slots) page ⊎ MapShows layout disk slots (Stops page)) ⊎ ((page ≡ 0) × IsMost layout.sectors (MapCounts layout disk slots))

-- the label of a page of this file is among the writes
abbrev pub LabelsOne : ℕ → List DiskWrite → Type 0
LabelsOne id run = (k sector kind page : ℕ) × (slice_get run k ≡ Some (Whole sector (page_label id kind page) zero_bytes))

-- The file has taken sectors of a memory, and this sector is past the volume's end; or it had been marked used, or was taken.
pub record EndsAt (layout : Layout) (id : ℕ) (m : List Sector) (marks : Marks) (disk : DiskState) (slots : Slots) (sector : ℕ) : Type 0 where
  pub memory : List Sector
  pub stands : Stands disk slots memory
  pub labels : TakesLabels layout id m memory
  pub ends : (layout.sectors ≤ sector) ⊎ ((marks sector ≡ true) ⊎ IsTakenFor id m memory sector)

-- The labels of a run of this file were the last that were written. It is the leader's; or, where no frame had a page that a
-- free label would name, the allocation map let it be no longer.
pub record LabelsRun (layout : Layout) (id : ℕ) (old : DiskState) (before : Slots) (disk : DiskState) (slots : Slots) : Type 0 where
  pub prefix : List DiskWrite
  pub kind : ℕ
  pub run : Run
  pub some : 1 ≤ run.pages
  pub from : layout.first ≤ run.sector
  pub makes : Makes volume_page (prefix ++ growth id kind run.first (sectors_of run)) old before disk slots
  pub ended : (run.first ≡ leader_page) ⊎ (IsUnframed before 0 → (m : List Sector) (marks : Marks) → Stands old before m → BitsAre layout marks m → EndsAt layout id m marks disk slots (run.sector + run.pages))

-- a run of this file had been added, and then other labels of the file were written
pub record HadAdded (layout : Layout) (id : ℕ) (old : DiskState) (before : Slots) (new : DiskState) (after : Slots) : Type 0 where
  pub disk : DiskState
  pub slots : Slots
  pub added : LabelsRun layout id old before disk slots
  pub more : List DiskWrite
  pub until : Makes volume_page more disk slots new after
  pub labelled : LabelsOne id more

-- When the last accesses to the file map began, it was in form, and had as many records as it may: it named what it had named
-- before, and besides it pages of this file alone.
pub record IsFilled (layout : Layout) (id : ℕ) (named : Triples) (new : DiskState) (after : Slots) : Type 0 where
  pub disk : DiskState
  pub slots : Slots
  pub memory : List Sector
  pub stands : Stands disk slots memory
  pub later : Triples
  pub map : MapIs layout later memory
  pub adds : AddsPages id every_page named later
  pub full : MapCounts layout disk slots (most_records layout.sectors)
  pub until : Beside FileMap disk slots layout new after layout

-- where the map was in form, and named none of these pages of the file, it is page 0, and the file has filled the map
abbrev pub StopsInForm : Layout → ℕ → (ℕ → Type 0) → ℕ → DiskState → Slots → DiskState → Slots → Type 0
StopsInForm layout id pages page old before new after =
    IsUnframed before 0 → (m : List Sector) (named : Triples) → Stands old before m → MapIs layout named m → NamesNoneOf id pages named → (page ≡ 0) × IsFilled layout id named new after

-- The page of the map stops the addition of a run of the file, of whose pages labels were written. The page was broken or full
-- at the start, where no frame had a page that a free label would name; or another run of the file had been added.
pub record StopsAddition (layout : Layout) (id : ℕ) (pages : ℕ → Type 0) (page : ℕ) (old : DiskState) (before : Slots) (new : DiskState) (after : Slots) : Type 0 where
  pub run : List DiskWrite
  pub makes : Makes volume_page run old before new after
  pub labelled : LabelsOne id run
  pub in_form : StopsInForm layout id pages page old before new after
  pub bytes : (IsUnframed before 0 → IsBrokenOrFull layout page old before) ⊎ HadAdded layout id old before new after

-- where no frame had a page that a free label would name, the allocation map had the sector as free
abbrev pub WasClear : Layout → DiskState → Slots → ℕ → Type 0
WasClear layout disk slots sector = IsUnframed slots 0 → (m : List Sector) (marks : Marks) → Stands disk slots m → BitsAre layout marks m → marks sector ≡ false

-- the evidence is a label, another than that of a home of the allocation map or of a frame; or a page of the space tables, where
-- no data sector is free, and the memory is as it was
abbrev pub TakeEvidence : Layout → DiskState → Slots → DiskState → Slots → Evidence → Type 0
TakeEvidence layout old before new after (Mismatch sector wanted found) = IsOther (held_or before (IsMapHome AllocationMap layout)) old sector wanted found
TakeEvidence layout old before new after (Malformed structure page) = ⊥
TakeEvidence layout old before new after (Missing id page) =
    (id ≡ 3) × (page ≡ 0) × ((m : List Sector) (marks : Marks) → Stands old before m → BitsAre layout marks m → AreAll true marks layout.first layout.sectors × Stands new after m)

-- the halt of a call that takes sectors
abbrev pub TakeHalts : Layout → DiskState → Slots → DiskState → Slots → Halt → Type 0
TakeHalts layout old before new after halt = HasCause (TakeEvidence layout old before new after) old new halt

-- Each data sector that the allocation map had as free was taken for the file; and where its identifier is not 0, one of the pages
-- that were wanted got none.
pub record TookAll (layout : Layout) (id : ℕ) (wanted : ℕ → Type 0) (m : List Sector) (marks : Marks) (new : DiskState) (after : Slots) : Type 0 where
  pub memory : List Sector
  pub stands : Stands new after memory
  pub labels : TakesLabels layout id m memory
  pub all : (sector : ℕ) → layout.first ≤ sector → sector < layout.sectors → marks sector ≡ false → IsTakenFor id m memory sector
  pub missing_page : id ≢ 0 → (page : ℕ) × wanted page × ((sector : ℕ) → layout.first ≤ sector → IsTakenFor id m memory sector → HasOne (λ label. label.page ≡ page) memory sector → ⊥)

-- that is so, where no frame had a page that a free label would name
abbrev pub HasNoRoom : Layout → ℕ → (ℕ → Type 0) → DiskState → Slots → DiskState → Slots → Type 0
HasNoRoom layout id wanted old before new after = IsUnframed before 0 → (m : List Sector) (marks : Marks) → Stands old before m → BitsAre layout marks m → TookAll layout id wanted m marks new after

-- a data sector, where nobody's page is wanted, since the allocation map had it as free
pub record IsToBeFree (layout : Layout) (old : DiskState) (before : Slots) (home : Home) : Type 0 where
  pub free : home ≡ home_at home.sector nobody
  pub from : layout.first ≤ home.sector
  pub below : home.sector < layout.sectors
  pub was : WasClear layout old before home.sector

-- The evidence is a label in a home of a map or of a frame, or one of a data sector that was to be free; or a page of the
-- map that stops an addition; or a page of the space tables, where no data sector is left for one of the pages that are wanted.
abbrev pub MakeEvidence : Layout → ℕ → (ℕ → Type 0) → (ℕ → Type 0) → DiskState → Slots → DiskState → Slots → Evidence → Type 0
MakeEvidence layout file pages wanted old before new after (Mismatch sector other found) = held_or before (λ home. IsMapsHome layout home ⊎ IsToBeFree layout old before home) (home_at sector other)
MakeEvidence layout file pages wanted old before new after (Malformed structure page) = IsOfFileMap structure × StopsAddition layout file pages page old before new after
MakeEvidence layout file pages wanted old before new after (Missing id page) = (id ≡ 3) × (page ≡ 0) × HasNoRoom layout file wanted old before new after

-- the halt of a call that makes pages of a file: these, which are wanted, or some of those
abbrev pub MakeHalts : Layout → ℕ → (ℕ → Type 0) → (ℕ → Type 0) → DiskState → Slots → DiskState → Slots → Halt → Type 0
MakeHalts layout id pages wanted old before new after halt = HasCause (MakeEvidence layout id pages wanted old before new after) old new halt

-- the halt of a call that makes those from one on, before another
abbrev pub RangeHalts : Layout → ℕ → ℕ → ℕ → DiskState → Slots → DiskState → Slots → Halt → Type 0
RangeHalts layout id from end old before new after halt = MakeHalts layout id (λ p. (from ≤ p) × (p < end)) (λ p. (from ≤ p) × (p < end)) old before new after halt

-- the page is the leader of a new file of this size, or below it
abbrev pub IsNewPage : ℕ → ℕ → Type 0
IsNewPage pages page = (page ≡ leader_page) ⊎ (page < pages)

-- ---- A new file, which the map is cut of first.

-- The page of the map stops an addition, after a label of the file was written.
pub record StopsCreation (layout : Layout) (id page : ℕ) (old : DiskState) (before : Slots) (new : DiskState) (after : Slots) : Type 0 where
  pub run : List DiskWrite
  pub makes : Makes volume_page run old before new after
  pub labelled : LabelsOne id run
  pub in_form : StopsInForm layout id every_page page old before new after

-- As where its pages are made. Or the page of the map broke its form at the start; or the map had a record of the file, which
-- was to be taken out.
abbrev pub CreateEvidence : Layout → ℕ → (ℕ → Type 0) → DiskState → Slots → DiskState → Slots → Evidence → Type 0
CreateEvidence layout file wanted old before new after (Mismatch sector other found) = held_or before (λ home. IsMapsHome layout home ⊎ IsToBeFree layout old before home) (home_at sector other)
CreateEvidence layout file wanted old before new after (Malformed structure page) =
    IsOfFileMap structure × (IsBroken layout.sectors (MapShows layout old before) page ⊎ (IsToCut file 0 (MapShows layout old before) ⊎ StopsCreation layout file page old before new after))
CreateEvidence layout file wanted old before new after (Missing id page) = (id ≡ 3) × (page ≡ 0) × HasNoRoom layout file wanted old before new after

-- the halt of a call that creates this file, with the pages that are wanted
abbrev pub CreateHalts : Layout → ℕ → (ℕ → Type 0) → DiskState → Slots → DiskState → Slots → Halt → Type 0
CreateHalts layout id wanted old before new after halt = HasCause (CreateEvidence layout id wanted old before new after) old new halt

-- ---- Another size.

-- When the last accesses to the file map began, it was in form, and had as many records as it may: it named nothing that it
-- had not named before.
pub record IsFullStill (layout : Layout) (named : Triples) (new : DiskState) (after : Slots) : Type 0 where
  pub disk : DiskState
  pub slots : Slots
  pub memory : List Sector
  pub stands : Stands disk slots memory
  pub later : Triples
  pub map : MapIs layout later memory
  pub only : (id page sector : ℕ) → later id page sector ≡ true → named id page sector ≡ true
  pub full : MapCounts layout disk slots (most_records layout.sectors)
  pub until : Beside FileMap disk slots layout new after layout

-- the evidence is a page of the map: where that was in form and something is given, it is page 0, and the map is full
abbrev pub PutsBack : Type 0 → Layout → DiskState → Slots → DiskState → Slots → Evidence → Type 0
PutsBack given layout old before new after (Mismatch sector wanted found) = ⊥
PutsBack given layout old before new after (Malformed structure page) =
    IsOfFileMap structure × (given → (m : List Sector) (named : Triples) → Stands old before m → MapIs layout named m → (page ≡ 0) × IsFullStill layout named new after)
PutsBack given layout old before new after (Missing id page) = ⊥

-- The halt of a call that frees these pages of a file, takes it from page `from` on out of the map, and puts its leader in
-- again.
abbrev pub ShrinkHalts : Type 0 → Layout → List Run → ℕ → ℕ → (ℕ → Type 0) → DiskState → Slots → DiskState → Slots → Halt → Type 0
ShrinkHalts given layout kept id from pages old before new after halt =
    HasCause (λ evidence. FreeEvidence given layout kept id pages old before evidence ⊎ (TakesOut given layout id from old before evidence ⊎ PutsBack given layout old before new after evidence)) old new halt

-- The halt of a call that gives a file so many pages: it has no leader; or pages could not be made; or as where those from the
-- new size on are freed.
abbrev pub ResizeHalts : Layout → List Run → ℕ → ℕ → DiskState → Slots → DiskState → Slots → Halt → Type 0
ResizeHalts layout kept id pages old before new after halt =
    HasCause (λ evidence. LeaderEvidence layout kept id old before evidence ⊎ (MakeEvidence layout id no_page_of (λ page. (page < pages) × NamesNone layout old before id page) old before new after evidence
    ⊎ (FreeEvidence (IsUnframed before id) layout kept id (λ page. (pages ≤ page) × IsBelowSize layout old before id page) old before evidence
    ⊎ (TakesOut (IsUnframed before id) layout id pages old before evidence ⊎ PutsBack (IsUnframed before id) layout old before new after evidence)))) old new halt
