-- The parts of what a session stands for: each speaks of labels, and of the pages of one kind.
use Rattle.std.specs.Prelude.{◌≡◌, ◌⊎◌, ℕ, ◌+◌, ◌*◌, ◌/◌, ◌%◌, ◌<◌, ◌≤◌, Bool, true, false, not, ◌&&◌, ◌||◌, ◌==◌, nat_lt, nat_le, List, length, map, Option, Some, option_map, slice_get, IsSomeAnd, IsTrue}
use Rattle.std.specs.Option.{option_map_or}
use Rattle.labelled_disk.specs.declared.label.Label.{Label}
use Rattle.labelled_disk.specs.Label.{is_free, names, leader_page, is_permanent, is_immutable}
use Rattle.labelled_disk.specs.Layout.{vam, vfm, first_data, capacity}
use Rattle.labelled_disk.specs.Sectors.{Sector}
use Rattle.labelled_disk.specs.File.{File, Page, byte, size, file_at}
use Rattle.labelled_disk.specs.Root.{IsRoot, page_in, number_at, short_at}
use Rattle.file_map.specs.FileMap.{Triples}
use Rattle.alloc_map.specs.Bits.{is_used}
use Rattle.frame_pool.specs.Frames.{Slots}
use Rattle.flat_machine.specs.declared.space.Space.{Space}
use Rattle.flat_machine.specs.declared.space.FilePage.{FilePage}
use Rattle.flat_machine.specs.Settled.{PageAgrees, is_unforced}
use Rattle.swapper_kernel.specs.Kinds.{HasKind, the_tables, a_file}
use Rattle.swapper_kernel.specs.Goes.{IsDirty}

-- Files without their cells.

-- what a leader and the number of pages reveal of a file
pub record Shape : Type 0 where
  pub kind : ℕ
  pub permanent : Bool
  pub immutable : Bool
  pub size : ℕ

abbrev pub shape_of : File → Shape
shape_of f = record { kind = f.kind; permanent = f.permanent; immutable = f.immutable; size = size f }

-- by identifiers
abbrev pub Shapes : Type 0
Shapes = ℕ → Option Shape

abbrev pub shapes_of : List File → Shapes
shapes_of files id = option_map shape_of (file_at files id)

-- Sector 0.

-- on a disk of n sectors, sector 0 has these numbers, and the volume is open
pub record HasRoot (n : ℕ) (sector : Option Sector) (serial counter room : ℕ) : Type 0 where
  pub valid : IsRoot n sector
  pub has_serial : number_at (page_in sector) 16 ≡ serial
  pub has_counter : number_at (page_in sector) 20 ≡ counter
  pub has_room : capacity n ≡ room
  pub open_flag : short_at (page_in sector) 10 ≡ 0

-- Labels.

-- a data sector has this label
pub record HasLabel (labels : List Label) (place : ℕ) (label : Label) : Type 0 where
  pub is_data : first_data (length labels) ≤ place
  pub here : slice_get labels place ≡ Some label

-- the page is one of the first so many of the space tables, or a page or the leader of a file
abbrev pub is_owned_upto : ℕ → Shapes → ℕ → ℕ → Bool
is_owned_upto n shapes id page = (id == 3 && nat_lt page n) || option_map_or (λ f. page == leader_page || nat_lt page f.size) (shapes id) false

-- all 96 pages of the space tables are there
abbrev pub is_owned : Shapes → ℕ → ℕ → Bool
is_owned shapes id page = is_owned_upto 96 shapes id page

-- the label is that of an owned page
pub record IsOwned (owned : ℕ → ℕ → Bool) (label : Label) : Type 0 where
  pub is : owned label.id label.page ≡ true
  pub named : names label (record { id = label.id; page = label.page }) ≡ true

-- a data sector has the label of this page
pub record HasPlace (labels : List Label) (id page : ℕ) : Type 0 where
  pub place : ℕ
  pub label : Label
  pub there : HasLabel labels place label
  pub taken : is_free label ≡ false
  pub same_id : label.id ≡ id
  pub same_page : label.page ≡ page

-- the label reveals type and marks
pub record IsLeader (label : Label) (f : Shape) : Type 0 where
  pub kind : label.kind ≡ f.kind
  pub permanent : is_permanent label ≡ f.permanent
  pub immutable : is_immutable label ≡ f.immutable

-- the data labels that aren't free are those of these pages, each once
pub record HasPages (labels : List Label) (owned : ℕ → ℕ → Bool) : Type 0 where
  pub only : (k : ℕ) (l : Label) → HasLabel labels k l → is_free l ≡ false → IsOwned owned l
  pub all : (id page : ℕ) → owned id page ≡ true → HasPlace labels id page
  pub once : (i j : ℕ) (a b : Label) → HasLabel labels i a → HasLabel labels j b → is_free a ≡ false → a.id ≡ b.id → a.page ≡ b.page → i ≡ j

-- the leaders reveal the files
pub record HasLeaders (labels : List Label) (shapes : Shapes) : Type 0 where
  pub reveal : (k : ℕ) (l : Label) (f : Shape) → HasLabel labels k l → shapes l.id ≡ Some f → l.page ≡ leader_page → IsLeader l f

-- the labels are those of so many pages of the space tables, and of files
pub record HasLabelsUpto (n : ℕ) (labels : List Label) (shapes : Shapes) : Type 0 where
  pub pages : HasPages labels (is_owned_upto n shapes)
  pub leaders : HasLeaders labels shapes

-- of all 96, and of files
abbrev pub HasLabels : List Label → Shapes → Type 0
HasLabels labels shapes = HasLabelsUpto 96 labels shapes

-- the labels between root and data name the pages of both maps
pub record HasMapLabels (labels : List Label) : Type 0 where
  pub allocation : (k : ℕ) → k < vam (length labels) → IsSomeAnd (slice_get labels (1 + k)) (λ l. IsTrue (names l (record { id = 1; page = k })))
  pub file_map : (k : ℕ) → k < vfm (length labels) → IsSomeAnd (slice_get labels (1 + vam (length labels) + k)) (λ l. IsTrue (names l (record { id = 2; page = k })))

-- The allocation map.

-- the bit of a sector, in the page of the map that has it
abbrev pub is_marked : List Sector → ℕ → Bool
is_marked memory i = is_used (page_in (slice_get memory (1 + i / 4096))) (i % 4096)

-- a bit of the map on n sectors that is of no data sector: of the root or of a map, or past the end
abbrev pub IsBesideData : ℕ → ℕ → Type 0
IsBesideData n k = (k < first_data n) ⊎ ((n ≤ k) × (k < 4096 * vam n))

-- root and maps are marked, a data sector exactly where its label isn't free, and nothing past the end
pub record MarksFit (marks : ℕ → Bool) (labels : List Label) : Type 0 where
  pub low : (k : ℕ) → k < first_data (length labels) → marks k ≡ true
  pub bits : (k : ℕ) (l : Label) → HasLabel labels k l → marks k ≡ not (is_free l)
  pub past : (k : ℕ) → length labels ≤ k → k < 4096 * vam (length labels) → marks k ≡ false

-- The file map.

-- the sector's label is that of the page
pub record IsTriple (labels : List Label) (id page sector : ℕ) : Type 0 where
  pub label : Label
  pub there : HasLabel labels sector label
  pub taken : is_free label ≡ false
  pub same_id : label.id ≡ id
  pub same_page : label.page ≡ page

-- these are the triples of the labels
pub record HasTriples (named : Triples) (labels : List Label) : Type 0 where
  pub only : (id page sector : ℕ) → named id page sector ≡ true → IsTriple labels id page sector
  pub all : (id page sector : ℕ) → IsTriple labels id page sector → named id page sector ≡ true

-- Files.

-- each page of a file agrees with its cells, but for some pages
pub record HasCells (but : ℕ → ℕ → Bool) (memory : List Sector) (files : List File) : Type 0 where
  pub agrees : (k : ℕ) (s : Sector) (f : File) (p : Page) → HasKind memory k s a_file → file_at files s.0.id ≡ Some f → slice_get f.pages s.0.page ≡ Some p
      → but s.0.id s.0.page ≡ false → PageAgrees (map byte s.1) p

-- no page
abbrev pub but_none : ℕ → ℕ → Bool
but_none id page = false

-- The space tables. What 96 pages reveal is a parameter.

-- what the pages of file 3 mean
abbrev pub TablesMeaning : Type 0
TablesMeaning = List (List ℕ) → Option (List Space)

-- the pages of file 3 mean these spaces
pub record HasTables (spaces_of : TablesMeaning) (memory : List Sector) (spaces : List Space) : Type 0 where
  pub pages : List (List ℕ)
  pub revealed : spaces_of pages ≡ Some spaces
  pub count : length pages ≡ 96
  pub each : (k : ℕ) (s : Sector) → HasKind memory k s the_tables → slice_get pages s.0.page ≡ Some s.1

-- Frames.

-- Whatever bytes stand in the page, the settled files are the same: it is one of a map, of the space tables, or unforced.
abbrev pub is_loose : List FilePage → ℕ → ℕ → Bool
is_loose unforced id page = nat_lt id 4 || (nat_le 16 id && is_unforced unforced id page)

-- of labels, whatever their place
abbrev pub is_loose_at : List FilePage → ℕ → Label → Bool
is_loose_at unforced place l = is_loose unforced l.id l.page

-- the page of each dirty frame is loose
abbrev pub DirtyAreLoose : Slots → List FilePage → Type 0
DirtyAreLoose slots unforced = (id page : ℕ) → IsDirty slots id page → is_loose unforced id page ≡ true
