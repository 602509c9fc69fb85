-- A reference on one page that is ready, and what a store to it changes; bytes of pages in a row that are ready.
use Rattle.std.specs.Prelude.{◌≡◌, ℕ, ◌+◌, ◌*◌, ◌/◌, ◌%◌, ◌<◌, ◌≤◌, Bool, true, false, List, [], ◌∷◌, length, slice_get, Some}
use Rattle.labelled_disk.specs.Sectors.{Sector}
use Rattle.labelled_disk.specs.Label.{is_file_id}
use Rattle.file_map.specs.FileMap.{Triples}
use Rattle.frame_pool.specs.Frames.{Slots, HasPage}
use Rattle.flat_machine.specs.declared.space.Space.{Space}
use Rattle.swap_units.specs.declared.interval.Interval.{Interval}
use Rattle.swap_units.specs.Unit.{Holds}
use Rattle.swapper_kernel.specs.Goes.{IsDirty, this_page}
use Rattle.session_words.specs.CellLaws.{StoresAt}
use Rattle.filer_kernel.specs.View.{View}
use Rattle.fault_core.specs.Access.{Shows, is_load_only}
use Rattle.fault_core.specs.Kept.{IsKept}
use Rattle.fault_core.specs.Moves.{Leaves, Loads}
use Rattle.fault_core.specs.Reach.{BringsOwn}
use Rattle.fault_core.specs.Revealed.{Known}
use Rattle.fault_core.specs.Room.{KeepsSlots}
use Rattle.fault_core.specs.Touch.{Touches}
use Rattle.fault_core.specs.Unit.{IsWhole, file_page}

-- The reference is on one page. A kept interval shows it, and may be stored to where the reference writes; the page's swap
-- unit is resident, and the page is in this slot.
pub record IsAtHand (kept : List Interval) (slots : Slots) (writes : Bool) (address count slot : ℕ) : Type 0 where
  pub interval : Interval
  pub is_kept : IsKept kept interval
  pub shows : Shows interval (address / 512)
  pub allowed : writes ≡ true → is_load_only interval ≡ false
  pub whole : IsWhole slots interval (address / 512)
  pub has : HasPage slots slot interval.id (file_page interval (address / 512))
  pub inside : address % 512 + count ≤ 512

-- A page was at hand, and these bytes were stored to it and nothing else: its frame is dirty, each page is in the slot that
-- it had, and the disk is as it was.
pub record IsChanged (kept : List Interval) (address : ℕ) (bytes : List ℕ) (v w : View) : Type 0 where
  pub slot : ℕ
  pub hand : IsAtHand kept v.slots true address (length bytes) slot
  pub stored : (m : List Sector) (named : Triples) (b : List ℕ) → Known v m named b → is_file_id hand.interval.id ≡ true
      → Leaves (StoresAt hand.interval.id (file_page hand.interval (address / 512)) (address % 512) bytes) m named b w
  pub dirty : IsDirty w.slots hand.interval.id (file_page hand.interval (address / 512))
  pub touches : Touches (this_page hand.interval.id (file_page hand.interval (address / 512))) v w
  pub came : BringsOwn v.slots w.slots
  pub slots : KeepsSlots v.slots w.slots
  pub disk : w.disk ≡ v.disk

-- each page with one of so many bytes from an address on is the interval's, and its whole swap unit is resident
abbrev pub AreHere : Slots → Interval → ℕ → ℕ → Type 0
AreHere slots x address count =
    (page : ℕ) → address / 512 ≤ page → page * 512 < address + count → Holds x page × IsWhole slots x page

-- the first of these bytes, so many, are what the windows show from an address on
abbrev pub AreLoaded : List Space → ℕ → ℕ → List ℕ → List Sector → Type 0
AreLoaded spaces address count bytes m =
    (k b : ℕ) → k < count → slice_get bytes k ≡ Some b → Loads spaces (address + k) (b ∷ []) m
