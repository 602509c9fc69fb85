-- Calls that change cells alone: a store, and a kill.
use Rattle.std.specs.Prelude.{◌⊎◌, ◌≡◌, ℕ, ◌+◌, ◌-◌, ◌/◌, ◌%◌, ◌≤◌, Bool, ◌&&◌, nat_le, if◌then◌else◌, List, [], ◌∷◌, length, take, drop, Some, None, slice_get, slice_set}
use Rattle.labelled_disk.specs.declared.label.Label.{Label}
use Rattle.labelled_disk.specs.Sectors.{Sector, IsSector, AreSectors}
use Rattle.labelled_disk.specs.File.{File}
use Rattle.labelled_disk.specs.State.{DiskState}
use Rattle.frame_pool.specs.Frames.{Slots}
use Rattle.flat_mem.specs.Memory.{overwritten}
use Rattle.flat_machine.specs.declared.space.Space.{Space}
use Rattle.flat_machine.specs.declared.space.FilePage.{FilePage}
use Rattle.flat_machine.specs.declared.call.Call.TheVariants.{Store, Kill}
use Rattle.flat_machine.specs.Machine.{Machine}
use Rattle.flat_machine.specs.IsMachine.{IsMachine}
use Rattle.flat_machine.specs.At.{shown_at, pages_of}
use Rattle.flat_machine.specs.Refusal.{refusal}
use Rattle.flat_machine.specs.Next.{next, is_writable_within}
use Rattle.flat_machine.specs.Space.{space_at}
use Rattle.flat_machine.specs.Form.{IsTyped}
use Rattle.swapper_kernel.specs.Goes.{Goes, Change}
use Rattle.session_words.specs.Volume.{volume_page}
use Rattle.swapper_kernel.specs.Kinds.{HasKind, SameBut, of_kinds, a_file, files_alone}
use Rattle.swapper_kernel.specs.Differs.{Differs}
use Rattle.session_words.specs.Parts.{TablesMeaning, HasCells, but_none, shapes_of}
use Rattle.session_words.specs.FrameLaws.{BringsKnown}
use Rattle.session_words.specs.StandsFor.{IsFor, StandsFor}

-- Bytes were stored in the sector of a file's page, from this byte of it on.
pub record StoresAt (id page at : ℕ) (bytes : List ℕ) (m n : List Sector) : Type 0 where
  pub place : ℕ
  pub s : Sector
  pub there : HasKind m place s a_file
  pub same_id : s.0.id ≡ id
  pub same_page : s.0.page ≡ page
  pub inside : at + length bytes ≤ 512
  pub fits : IsSector (s.0, overwritten s.1 at bytes)
  pub is : n ≡ slice_set m place (s.0, overwritten s.1 at bytes)

-- they were stored at an address, in one page that is shown there
pub record StoresIn (spaces : List Space) (address : ℕ) (bytes : List ℕ) (m n : List Sector) : Type 0 where
  pub shown : FilePage
  pub is_shown : shown_at spaces (address / 512) ≡ Some shown
  pub stored : StoresAt shown.file shown.page (address % 512) bytes m n

-- the bytes of a store, by the pages of its addresses: one page or two
abbrev pub pieces : ℕ → List ℕ → List (ℕ × List ℕ)
pieces address bytes =
    if nat_le (address % 512 + length bytes) 512 then (address, bytes) ∷ []
    else (address, take (512 - address % 512) bytes) ∷ (address + (512 - address % 512), drop (512 - address % 512) bytes) ∷ []

-- each piece was stored, one after the other
abbrev pub StoresPieces : List Space → List (ℕ × List ℕ) → Change
StoresPieces spaces [] m n = n ≡ m
StoresPieces spaces (piece ∷ more) m n = (x : List Sector) × StoresIn spaces piece.0 piece.1 m x × StoresPieces spaces more x n

-- what a store does to the memory
abbrev pub Stores : List Space → ℕ → List ℕ → Change
Stores spaces address bytes = StoresPieces spaces (pieces address bytes)

-- a page that a reference touches shows this page
pub record IsTouched (spaces : List Space) (address count id page : ℕ) : Type 0 where
  pub k : ℕ
  pub virtual : ℕ
  pub touched : slice_get (pages_of address count) k ≡ Some virtual
  pub shown : shown_at spaces virtual ≡ Some (record { file = id; page = page })

-- it does, or it is one of the volume's own
abbrev pub IsTouchedOrOwn : List Space → ℕ → ℕ → ℕ → ℕ → Type 0
IsTouchedOrOwn spaces address count id page = IsTouched spaces address count id page ⊎ volume_page id page

-- a killed page: of a file, and shown by a writable window in the range
abbrev pub is_killed : ℕ → List Space → Space → ℕ → Label → Bool
is_killed n spaces range place l = of_kinds n files_alone place l && is_writable_within spaces range (record { file = l.id; page = l.page })

-- what a kill does to the memory: killed pages have other bytes, those of the disk
pub record Kills (spaces : List Space) (range : Space) (m n : List Sector) : Type 0 where
  pub differs : Differs (is_killed (length m) spaces range) m n
  pub sectors : AreSectors n

module _ (spaces_of : TablesMeaning) where
  -- only pages of files differ, and the files keep their shapes: the cells alone are to be argued for
  abbrev pub OnlyCells : Type 0
  OnlyCells = (x y : List Sector) (m : Machine) (files : List File) (unforced : List FilePage) → SameBut files_alone x y → AreSectors y
      → IsMachine (record m { files = files; unforced = unforced }) → shapes_of files ≡ shapes_of m.files → HasCells but_none y files
      → IsFor spaces_of x m → IsFor spaces_of y (record m { files = files; unforced = unforced })

  -- a store
  abbrev pub StoreStands : Type 0
  StoreStands = (address : ℕ) (bytes : List ℕ) (old new : DiskState) (before after : Slots) (m : Machine) → IsTyped (Store address bytes) → refusal m (Store address bytes) ≡ None
      → Goes (Stores m.spaces address bytes) (IsTouchedOrOwn m.spaces address (length bytes)) [] old before new after
      → BringsKnown m.spaces before after → StandsFor spaces_of old before m → StandsFor spaces_of new after (next m (Store address bytes))

  -- a kill
  abbrev pub KillStands : Type 0
  KillStands = (space : ℕ) (s : Space) (old new : DiskState) (before after : Slots) (m : Machine) → refusal m (Kill space) ≡ None → space_at m.spaces space ≡ Some s
      → Goes (Kills m.spaces s) volume_page [] old before new after → BringsKnown m.spaces before after → StandsFor spaces_of old before m → StandsFor spaces_of new after (next m (Kill space))

  pub record CellLaws : Type 0 where
    pub cells : OnlyCells
    pub store : StoreStands
    pub kill : KillStands
