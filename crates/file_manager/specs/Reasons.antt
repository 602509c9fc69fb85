-- Why a page may be wanted in a sector: what both maps said when a time began, and what was given and given up since then.
use Rattle.std.specs.Prelude.{◌≡◌, ◌≢◌, ◌⊎◌, ◌≤◌, ◌<◌, ◌+◌, ◌*◌, ℕ, true, false, List, [], ◌++◌, Option, Some, None, IfSome, length, slice_get}
use Rattle.labelled_disk.specs.declared.disk.Disk.{Ghosts}
use Rattle.labelled_disk.specs.declared.disk.DiskWrite.{DiskWrite}
use Rattle.labelled_disk.specs.declared.disk.DiskWrite.TheVariants.{LabelOnly, Whole}
use Rattle.labelled_disk.specs.declared.evidence.Evidence.{Evidence}
use Rattle.labelled_disk.specs.declared.evidence.Evidence.TheVariants.{Mismatch, Malformed, Missing}
use Rattle.labelled_disk.specs.Structure.{IsOfFileMap, IsOfTables}
use Rattle.labelled_disk.specs.declared.evidence.Halt.{Halt}
use Rattle.labelled_disk.specs.declared.evidence.Halt.TheVariants.{Disk, Damaged}
use Rattle.labelled_disk.specs.declared.label.Label.{Label}
use Rattle.labelled_disk.specs.declared.layout.Layout.{Layout}
use Rattle.flat_mem.specs.Memory.{part}
use Rattle.labelled_disk.specs.Label.{leader_page, page_label}
use Rattle.labelled_disk.specs.Root.{root_page}
use Rattle.labelled_disk.specs.Runs.{zero_bytes}
use Rattle.labelled_disk.specs.Sectors.{Sector, free_label}
use Rattle.labelled_disk.specs.State.{DiskState}
use Rattle.frame_pool.specs.declared.home.Home.{Home}
use Rattle.frame_pool.specs.Frames.{Slots}
use Rattle.file_map.specs.declared.run.Run.{Run}
use Rattle.file_map.specs.FileMap.{Triples, most_records}
use Rattle.swapper_kernel.specs.Homes.{Homes, IsHeld, home_at}
use Rattle.swapper_kernel.specs.Stands.{Stands}
use Rattle.label_calls.specs.Labels.{nobody}
use Rattle.filer_kernel.specs.declared.filer.Filer.{Filer}
use Rattle.filer_kernel.specs.Cached.{runs_of}
use Rattle.filer_kernel.specs.Marks.{Marks, BitsAre}
use Rattle.filer_kernel.specs.Tables.{AreOverTables, IsTablePage}
use Rattle.filer_kernel.specs.Triples.{MapIs, AreOf}
use Rattle.session_words.specs.Parts.{is_marked}
use Rattle.volume_root.specs.declared.root.Root.{Root}
use Rattle.volume_root.specs.RootPage.{root_in}
use Rattle.file_manager.specs.Creating.{IsMonotone, next_id}
use Rattle.file_manager.specs.Grounds.{IsMapsHome, IsUnframed}
use Rattle.filer_kernel.specs.View.{view_of}

-- What stood when the time began: which triples the file map named, which sectors the allocation map had as used, the root, and
-- the writes that had been made. Beside it what is so meanwhile: from which identifier on no root that was written since has given
-- one out; and, where they are revealed, the bytes that the first pages of the space tables have.
pub record InitialState : Type 0 where
  pub named : Triples
  pub marks : Marks
  pub root : Root
  pub writes : List DiskWrite
  pub next : ℕ
  pub tables : Option (List ℕ)

-- on a disk of these sectors, whose file map names these triples, and which reveals that so much was written
abbrev pub initial_state : List Sector → Triples → List DiskWrite → InitialState
initial_state sectors named writes = record { named = named; marks = is_marked sectors; root = root_in (root_page sectors); writes = writes; next = next_id (root_in (root_page sectors)); tables = None }

-- the same, with these bytes of the space tables revealed
abbrev pub telling : InitialState → List ℕ → InitialState
telling o bytes = record o { tables = Some bytes }

-- the same, where no root that was written since has given out an identifier from this one on
abbrev pub giving : InitialState → ℕ → InitialState
giving o next = record o { next = next }

-- the root is that of the initial state or a later one, and none that was written since has given out the identifier that it gives out next
pub record IsNotOlder (o : InitialState) (root : Root) : Type 0 where
  pub monotone : IsMonotone o.root root
  pub next : o.next ≤ next_id root

-- the identifier is not that of the space tables, or no page of them is revealed
abbrev pub LeavesTables : InitialState → ℕ → Type 0
LeavesTables o id = id ≡ 3 → IfSome o.tables (λ b. b ≡ [])

-- the disk reveals its writes: those, and more
abbrev pub IsSince : InitialState → DiskState → Type 0
IsSince o disk = (more : List DiskWrite) × (disk.writes ≡ Some (o.writes ++ more))

-- this is so of one of the writes that are revealed after these: of all of them, and its turn among them
pub record HasMade (writes : List DiskWrite) (now : Option (List DiskWrite)) (is : List DiskWrite → ℕ → Type 0) : Type 0 where
  pub more : List DiskWrite
  pub revealed : now ≡ Some (writes ++ more)
  pub turn : ℕ
  pub evidence_seen : is more turn

-- the write at that turn is this one
abbrev pub IsAt : DiskWrite → List DiskWrite → ℕ → Type 0
IsAt w more turn = slice_get more turn ≡ Some w

-- this is one of the writes that the disk reveals since then
abbrev pub WasMade : InitialState → DiskState → DiskWrite → Type 0
WasMade o disk w = HasMade o.writes disk.writes (IsAt w)

-- the sector was given to the page since then
abbrev pub WasGiven : InitialState → DiskState → Home → Type 0
WasGiven o disk home = (kind : ℕ) × WasMade o disk (Whole home.sector (page_label home.id kind home.page) zero_bytes)

-- a page of a file is or was at home in the sector: the file map named it there at the initial state, or it was given the sector since
abbrev pub IsAtHome : InitialState → DiskState → Home → Type 0
IsAtHome o disk home = (o.named home.id home.page home.sector ≡ true) ⊎ WasGiven o disk home

-- the page is or was at home in some sector
abbrev pub WasThere : InitialState → DiskState → ℕ → ℕ → Type 0
WasThere o disk id page = (sector : ℕ) × IsAtHome o disk (record { sector = sector; id = id; page = page })

-- this page of the file, or a later one but the leader, is or was
abbrev pub WasBelow : InitialState → DiskState → ℕ → ℕ → Type 0
WasBelow o disk id page = (later : ℕ) × (page ≤ later) × (later < leader_page) × WasThere o disk id later

-- the page is the leader, which is or was at home, or is at most as high as such a page of the file
abbrev pub IsOfFile : InitialState → DiskState → ℕ → ℕ → Type 0
IsOfFile o disk id page = ((page ≡ leader_page) × WasThere o disk id leader_page) ⊎ WasBelow o disk id page

-- the write at that turn is of a page in sector 0, which has this root
abbrev pub HasRoot : Root → List DiskWrite → ℕ → Type 0
HasRoot root more turn = (label : Label) × ((page : List ℕ) × (IsAt (Whole 0 label page) more turn × (root_in page ≡ root)))

-- the later root is of the same volume; under it this identifier was the last that had been given out, and under the earlier one it
-- had not been
pub record IsCountedAs (old root : Root) (id : ℕ) : Type 0 where
  pub serial : root.serial ≡ old.serial
  pub last : id + 1 ≡ next_id root
  pub since : next_id old ≤ id

-- The write at that turn gives the identifier out: it is of a root under which this was the last that had been given out, and it had
-- not been under the earlier one, nor under any that was written before.
pub record GivesOut (old : Root) (id : ℕ) (more : List DiskWrite) (turn : ℕ) : Type 0 where
  pub root : Root
  pub is : HasRoot root more turn
  pub counts : IsCountedAs old root id
  pub first : (earlier : ℕ) (other : Root) → earlier < turn → HasRoot other more earlier → next_id other ≤ id

-- the file map named some page of the file at the initial state
abbrev pub HadNamed : InitialState → ℕ → Type 0
HadNamed o id = (page sector : ℕ) × (o.named id page sector ≡ true)

-- the write at that turn lets a home of a page: it gives its sector up, or gives out the identifier of the page's file, of which the
-- file map lied before
abbrev pub Releases : Type 0 → Root → Home → List DiskWrite → ℕ → Type 0
Releases lied old home more turn = IsAt (LabelOnly home.sector free_label) more turn ⊎ (lied × GivesOut old home.id more turn)

-- the write gives the sector to the page
abbrev pub Gives : Home → DiskWrite → Type 0
Gives home w = (kind : ℕ) × (w ≡ Whole home.sector (page_label home.id kind home.page) zero_bytes)

-- it gives the sector to some page
abbrev pub Takes : ℕ → DiskWrite → Type 0
Takes sector w = (id page : ℕ) × Gives (record { sector = sector; id = id; page = page }) w

-- it gives the sector up
abbrev pub GivesUp : ℕ → DiskWrite → Type 0
GivesUp sector w = w ≡ LabelOnly sector free_label

-- the write at that turn does so
abbrev pub IsOne : (DiskWrite → Type 0) → List DiskWrite → ℕ → Type 0
IsOne does more turn = (w : DiskWrite) × does w × IsAt w more turn

-- after each of the writes of the one kind there is one of the other
abbrev pub AreAnswered : (DiskWrite → Type 0) → (List DiskWrite → ℕ → Type 0) → List DiskWrite → Type 0
AreAnswered gives releases ws = (turn : ℕ) (w : DiskWrite) → slice_get ws turn ≡ Some w → gives w → (later : ℕ) × (turn < later) × releases ws later

-- so it is of the writes that are revealed after these
abbrev pub AnsweredSince : List DiskWrite → Option (List DiskWrite) → (DiskWrite → Type 0) → (List DiskWrite → ℕ → Type 0) → Type 0
AnsweredSince writes now gives releases = (more : List DiskWrite) × (now ≡ Some (writes ++ more)) × AreAnswered gives releases more

-- The sector may be free: it was so at first, or was given up since; and after each write since then that gave it to a page it was
-- given up.
pub record IsFreeSince (was : Type 0) (writes : List DiskWrite) (now : Option (List DiskWrite)) (sector : ℕ) : Type 0 where
  pub initial_state : was ⊎ HasMade writes now (IsAt (LabelOnly sector free_label))
  pub since : AnsweredSince writes now (Takes sector) (IsOne (GivesUp sector))

-- by what the allocation map had as free at the initial state
abbrev pub MayBeFree : InitialState → DiskState → ℕ → Type 0
MayBeFree o disk sector = IsFreeSince (o.marks sector ≡ false) o.writes disk.writes sector

-- It is used: it was so at first, or was given to a page since; and after each write since then that gave it up it was given to a
-- page.
pub record IsUsedSince (was : Type 0) (writes : List DiskWrite) (now : Option (List DiskWrite)) (sector : ℕ) : Type 0 where
  pub initial_state : was ⊎ HasMade writes now (IsOne (Takes sector))
  pub since : AnsweredSince writes now (GivesUp sector) (IsOne (Takes sector))

-- by what the allocation map had as used at the initial state
abbrev pub IsUsed : InitialState → DiskState → ℕ → Type 0
IsUsed o disk sector = IsUsedSince (o.marks sector ≡ true) o.writes disk.writes sector

-- Nothing makes the page be at home there: what was so at first was released since; and after each write since then that gave the sector
-- to the page there is one that lets it.
pub record IsReleasedSince (was lied : Type 0) (old : Root) (writes : List DiskWrite) (now : Option (List DiskWrite)) (home : Home) : Type 0 where
  pub initial_state : was → HasMade writes now (Releases lied old home)
  pub since : AnsweredSince writes now (Gives home) (Releases lied old home)

-- by what the file map named at the initial state: a root lets pages only of a file of which it named some page then, though the identifier
-- had not been given out
abbrev pub IsReleased : InitialState → DiskState → Home → Type 0
IsReleased o disk home = IsReleasedSince (o.named home.id home.page home.sector ≡ true) (HadNamed o home.id) o.root o.writes disk.writes home

-- a file may be given pages: it is none of a client's, its identifier was given out, or the file map named a page of it at the initial state
abbrev pub MayTake : InitialState → ℕ → Type 0
MayTake o id = 16 ≤ id → (id < o.next) ⊎ HadNamed o id

-- so is each home that these triples have of some pages of a file
abbrev pub AreReleased : InitialState → DiskState → Triples → ℕ → (ℕ → Type 0) → Type 0
AreReleased o disk named id pages = (page sector : ℕ) → pages page → named id page sector ≡ true → IsReleased o disk (record { sector = sector; id = id; page = page })

-- nothing makes the page be at home in any data sector
abbrev pub IsGone : InitialState → Layout → DiskState → ℕ → ℕ → Type 0
IsGone o layout disk id page = (sector : ℕ) → layout.first ≤ sector → IsReleased o disk (record { sector = sector; id = id; page = page })

-- each data sector is used
abbrev pub IsTakenUp : InitialState → Layout → DiskState → Type 0
IsTakenUp o layout disk = (sector : ℕ) → layout.first ≤ sector → sector < layout.sectors → IsUsed o disk sector

-- so many homes, of different pages
pub record AreHomes (are : Homes) (count : ℕ) : Type 0 where
  pub homes : List Home
  pub counted : length homes ≡ count
  pub each : (k : ℕ) (home : Home) → slice_get homes k ≡ Some home → are home
  pub apart : (j k : ℕ) (x y : Home) → slice_get homes j ≡ Some x → slice_get homes k ≡ Some y → j < k → x.id ≡ y.id → x.page ≢ y.page

-- as many pages are or were at home as the file map may have records, and one more
abbrev pub IsFilledUp : InitialState → Layout → DiskState → Type 0
IsFilledUp o layout disk = AreHomes (IsAtHome o disk) (most_records layout.sectors + 1)

-- the first pages of the space tables have these bytes, where the file map has them
pub record AreTabled (layout : Layout) (named : Triples) (memory : List Sector) (bytes : List ℕ) : Type 0 where
  pub count : ℕ
  pub most : count ≤ 96
  pub long : length bytes ≡ 512 * count
  pub page : (k : ℕ) → k < count → IsTablePage layout named memory k (part bytes (512 * k) 512)

-- Disk and frames make a memory whose file map is in form. Each page that it names is or was at home there, and so is each page of
-- a frame, unless the layout has it there; runs that are kept are the map's; and each data sector that the allocation map has as
-- free may be so. The other way, each home of a page of a client's file is named, or let, and each data sector that the
-- allocation map has as used is used. Each root that was written since has given out only lower identifiers than that which the
-- initial state has for them, and pages were given to such files alone as may be given some. Frames of pages of the space tables are where
-- the map has these; and where bytes of these are revealed, they have them.
pub record KeepsTo (o : InitialState) (layout : Layout) (runs : List Run) (disk : DiskState) (slots : Slots) (named : Triples) : Type 0 where
  pub since : IsSince o disk
  pub memory : List Sector
  pub stands : Stands disk slots memory
  pub size : disk.sectors ≡ layout.sectors
  pub map : MapIs layout named memory
  pub homes : (home : Home) → named home.id home.page home.sector ≡ true → IsAtHome o disk home
  pub kept : AreOf named runs
  pub frames : (home : Home) → IsHeld slots home → IsMapsHome layout home ⊎ IsAtHome o disk home
  pub unframed : IsUnframed slots 0
  pub over : AreOverTables slots named
  pub marks : Marks
  pub bits : BitsAre layout marks memory
  pub free : (sector : ℕ) → layout.first ≤ sector → sector < layout.sectors → marks sector ≡ false → MayBeFree o disk sector
  pub rest : (home : Home) → layout.first ≤ home.sector → 16 ≤ home.id → (named home.id home.page home.sector ≡ true) ⊎ IsReleased o disk home
  pub used : (sector : ℕ) → layout.first ≤ sector → sector < layout.sectors → marks sector ≡ true → IsUsed o disk sector
  pub roots : (root : Root) → HasMade o.writes disk.writes (HasRoot root) → next_id root ≤ o.next
  pub taken : (home : Home) → WasGiven o disk home → MayTake o home.id
  pub tabled : IfSome o.tables (AreTabled layout named memory)

-- A label is revealed where the layout has the page of a map there, where the wanted page is or was at home, or where nobody's is
-- wanted and the sector may be free. Of the file map page 0 alone is reported as broken, where more pages are or were at home than it
-- may have records; of the space tables any page is, unless their bytes are revealed. A page is reported as missing that nothing makes be at
-- home anywhere, or page 0 of the space tables where each data sector is used.
abbrev pub HasReason : InitialState → Layout → DiskState → Evidence → Type 0
HasReason o layout disk (Mismatch sector wanted found) =
    IsMapsHome layout (home_at sector wanted) ⊎ (IsAtHome o disk (home_at sector wanted) ⊎ ((wanted ≡ nobody) × MayBeFree o disk sector))
HasReason o layout disk (Malformed structure page) = (IsOfFileMap structure × (page ≡ 0) × IsFilledUp o layout disk) ⊎ (IsOfTables structure × (o.tables ≡ None))
HasReason o layout disk (Missing id page) =
    ((id ≡ 3) × (page ≡ 0) × IsTakenUp o layout disk) ⊎ ((16 ≤ id) × IsGone o layout disk id page)

-- the file map has a sector for each page of the space tables
abbrev pub NamesTables : Triples → Type 0
NamesTables named = (page : ℕ) → page < 96 → (sector : ℕ) × (named 3 page sector ≡ true)

-- it has one for each, and their bytes are not revealed
abbrev pub HasTables : InitialState → Triples → Type 0
HasTables o named = NamesTables named × (o.tables ≡ None)

-- the page is one of a client's file, or one of the space tables, which are all named
abbrev pub MayLack : Triples → ℕ → ℕ → Type 0
MayLack named id page = (16 ≤ id) ⊎ ((id ≡ 3) × (page < 96) × NamesTables named)

-- a halt: the disk failed, or the evidence has such a reason
abbrev pub ShowsReason : InitialState → Layout → DiskState → Halt → Type 0
ShowsReason o layout disk Disk = Unit {0}
ShowsReason o layout disk (Damaged evidence) = HasReason o layout disk evidence

-- the halt is not that a page is missing
abbrev pub MissesNone : Halt → Type 0
MissesNone Disk = Unit {0}
MissesNone (Damaged (Mismatch sector wanted found)) = Unit {0}
MissesNone (Damaged (Malformed structure page)) = Unit {0}
MissesNone (Damaged (Missing id page)) = ⊥

module _ {D A : Type 0} {G : Ghosts D} where
  -- a filer's disk, frames and runs keep to it, and its file map names these triples
  abbrev pub Keeps : InitialState → Filer D A G → Triples → Type 0
  Keeps o f named = KeepsTo o (view_of f).layout (runs_of (view_of f).layout.sectors f.runs) (view_of f).disk (view_of f).slots named

  -- whatever it names, all pages of the space tables where these were named
  abbrev pub KeepsFrom : InitialState → Triples → Filer D A G → Type 0
  KeepsFrom o named f = (later : Triples) × Keeps o f later × (NamesTables named → NamesTables later)

  -- whatever it names, all pages of the space tables among it, whose bytes are not revealed
  abbrev pub KeepsOn : InitialState → Filer D A G → Type 0
  KeepsOn o f = (named : Triples) × (Keeps o f named × HasTables o named)

  -- whatever it names, the bytes of the space tables not revealed
  abbrev pub KeepsBare : InitialState → Filer D A G → Type 0
  KeepsBare o f = (named : Triples) × (Keeps o f named × (o.tables ≡ None))

  -- whatever it names, all pages of the space tables among it, with bytes that are revealed
  abbrev pub KeepsRevealed : InitialState → Filer D A G → Type 0
  KeepsRevealed o f = (named : Triples) × ((b : List ℕ) × (Keeps (telling o b) f named × ((length b ≡ 512 * 96) × NamesTables named)))
