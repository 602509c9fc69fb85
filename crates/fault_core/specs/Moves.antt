-- The bytes that a load gives, and what a store makes of the memory.
use Rattle.std.specs.Prelude.{◌≡◌, ◌⊎◌, ℕ, ◌+◌, ◌/◌, ◌%◌, ◌≤◌, List, [], ◌∷◌, length, take, Some}
use Rattle.labelled_disk.specs.Sectors.{Sector}
use Rattle.flat_mem.specs.Memory.{part}
use Rattle.file_map.specs.FileMap.{Triples}
use Rattle.flat_machine.specs.declared.space.Space.{Space}
use Rattle.flat_machine.specs.declared.space.FilePage.{FilePage}
use Rattle.flat_machine.specs.At.{shown_at}
use Rattle.swap_units.specs.declared.interval.Interval.{Interval}
use Rattle.swap_units.specs.Unit.{Holds}
use Rattle.swapper_kernel.specs.Goes.{Change, Pages}
use Rattle.swapper_kernel.specs.Kinds.{HasKind, a_file}
use Rattle.swapper_kernel.specs.Stands.{labels_of}
use Rattle.session_words.specs.CellLaws.{Stores, StoresPieces, pieces}
use Rattle.fault_core.specs.declared.reference.Access.{Access}
use Rattle.fault_core.specs.declared.reference.Access.TheVariants.{Done, NoMap, ReadOnly}
use Rattle.fault_core.specs.Access.{last_page}
use Rattle.fault_core.specs.Revealed.{Known}
use Rattle.filer_kernel.specs.View.{View}
use Rattle.fault_core.specs.Unit.{AreShownStored, file_page}

-- these bytes stand in the sector of a file's page, from this byte of it on
pub record HasBytes (id page at : ℕ) (bytes : List ℕ) (m : List Sector) : Type 0 where
  pub place : ℕ
  pub s : Sector
  pub there : HasKind m place s a_file
  pub same_id : s.0.id ≡ id
  pub same_page : s.0.page ≡ page
  pub inside : at + length bytes ≤ 512
  pub are : bytes ≡ part s.1 at (length bytes)

-- they stand at an address, in one page that is shown there
pub record LoadsIn (spaces : List Space) (address : ℕ) (bytes : List ℕ) (m : List Sector) : Type 0 where
  pub shown : FilePage
  pub is_shown : shown_at spaces (address / 512) ≡ Some shown
  pub has : HasBytes shown.file shown.page (address % 512) bytes m

-- each piece stands so
abbrev pub LoadsPieces : List Space → List (ℕ × List ℕ) → List Sector → Type 0
LoadsPieces spaces [] m = Unit {0}
LoadsPieces spaces (piece ∷ more) m = LoadsIn spaces piece.0 piece.1 m × LoadsPieces spaces more m

-- the bytes that the windows show from an address on are these
abbrev pub Loads : List Space → ℕ → List ℕ → List Sector → Type 0
Loads spaces address bytes m = LoadsPieces spaces (pieces address bytes) m

-- some first pieces of a store were stored
pub record StoresSome (spaces : List Space) (address : ℕ) (bytes : List ℕ) (m n : List Sector) : Type 0 where
  pub k : ℕ
  pub stored : StoresPieces spaces (take k (pieces address bytes)) m n

-- what a store that came to this makes of the memory
abbrev pub StoresAs : Access → List Space → ℕ → List ℕ → Change
StoresAs Done spaces address bytes m n = Stores spaces address bytes m n
StoresAs (NoMap page) spaces address bytes m n = n ≡ m
StoresAs (ReadOnly page) spaces address bytes m n = n ≡ m

-- the windows show what the interval says, and each page of it has a sector
pub record AreSeen (spaces : List Space) (named : Triples) (m : List Sector) (x : Interval) : Type 0 where
  pub shown : (page : ℕ) → Holds x page → shown_at spaces page ≡ Some (record { file = x.id; page = file_page x page })
  pub stored : AreShownStored named m x

-- the pages of files that these intervals show at the first and at the last page of a reference
abbrev pub of_reference : Interval → Interval → ℕ → ℕ → Pages
of_reference first last address count id page =
    ((id ≡ first.id) × (page ≡ file_page first (address / 512))) ⊎ ((id ≡ last.id) × (page ≡ file_page last (last_page address count)))

-- a page of a client's file
abbrev pub client_page : Pages
client_page id page = 16 ≤ id

-- a memory that is known of the state is left, so changed, under the same labels
pub record Leaves (P : Change) (m : List Sector) (named : Triples) (b : List ℕ) (w : View) : Type 0 where
  pub memory : List Sector
  pub changed : P m memory
  pub known : Known w memory named b
  pub labels : labels_of memory ≡ labels_of m
