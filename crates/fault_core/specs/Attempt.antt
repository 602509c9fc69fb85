-- What comes of a reference that brings in no page of a client.
use Rattle.std.specs.Prelude.{◌≡◌, ◌⊎◌, true, ℕ, ◌/◌, ◌<◌, ◌≤◌, Bool, List, Some, slice_get}
use Rattle.frame_pool.specs.Frames.{Slots, HasPage}
use Rattle.flat_machine.specs.declared.space.Space.{Space}
use Rattle.flat_machine.specs.declared.space.FilePage.{FilePage}
use Rattle.flat_machine.specs.At.{shown_at, pages_of}
use Rattle.swap_units.specs.declared.interval.Interval.{Interval}
use Rattle.swap_units.specs.Mode.{is_mapped}
use Rattle.swap_units.specs.Unit.{Holds}
use Rattle.swapper_kernel.specs.Goes.{Change, Pages}
use Rattle.fault_core.specs.declared.reference.Access.{Access}
use Rattle.fault_core.specs.declared.reference.Access.TheVariants as access
use Rattle.fault_core.specs.declared.attempt.Attempt.{Attempt}
use Rattle.fault_core.specs.declared.attempt.Attempt.TheVariants as attempt
use Rattle.fault_core.specs.declared.attempt.Prospect.{Prospect}
use Rattle.fault_core.specs.declared.attempt.Prospect.TheVariants as prospect
use Rattle.fault_core.specs.Access.{access_of, last_page}
use Rattle.fault_core.specs.Kept.{IsKept}
use Rattle.fault_core.specs.Kill.{is_absent}
use Rattle.fault_core.specs.Moves.{StoresAs}
use Rattle.fault_core.specs.Unit.{IsResident, IsSlotOf, file_page}

-- ---- The answer.

-- where it came to an access, this holds of that
abbrev pub IfAccess : (Access → Type 0) → Attempt → Type 0
IfAccess P (attempt.Access came) = P came
IfAccess P (attempt.Absent page) = Unit {0}

-- where a page is not resident, this holds of that
abbrev pub IfAbsent : (ℕ → Type 0) → Attempt → Type 0
IfAbsent P (attempt.Access came) = Unit {0}
IfAbsent P (attempt.Absent page) = P page

-- all bytes of the reference were moved
abbrev pub moved : Attempt
moved = attempt.Access access.Done

-- what an attempt to store that came to this makes of the memory
abbrev pub StoresTried : Attempt → List Space → ℕ → List ℕ → Change
StoresTried (attempt.Access came) spaces address bytes m n = StoresAs came spaces address bytes m n
StoresTried (attempt.Absent page) spaces address bytes m n = n ≡ m

-- ---- The pages of a reference, and the frames.

-- the page is one of the reference's
pub record IsReferred (address count page : ℕ) : Type 0 where
  pub k : ℕ
  pub touched : slice_get (pages_of address count) k ≡ Some page

-- the page of a file that is shown there is resident
abbrev pub IsPresent : List Space → Slots → ℕ → Type 0
IsPresent spaces slots page = (slot : ℕ) × IsSlotOf spaces slots page slot

-- it is not
pub record IsAway (spaces : List Space) (slots : Slots) (page : ℕ) : Type 0 where
  pub shown : FilePage
  pub is_shown : shown_at spaces page ≡ Some shown
  pub absent : is_absent slots shown.file shown.page

-- each page of the reference is resident
abbrev pub ArePresent : List Space → Slots → ℕ → ℕ → Type 0
ArePresent spaces slots address count = (k page : ℕ) → slice_get (pages_of address count) k ≡ Some page → IsPresent spaces slots page

-- this is the first page of the reference that is not
pub record IsFirstAway (spaces : List Space) (slots : Slots) (address count page : ℕ) : Type 0 where
  pub k : ℕ
  pub touched : slice_get (pages_of address count) k ≡ Some page
  pub away : IsAway spaces slots page
  pub before : (j earlier : ℕ) → j < k → slice_get (pages_of address count) j ≡ Some earlier → IsPresent spaces slots earlier

-- the reference is not refused, and this is its first page that is not resident
abbrev pub IsAbsent : List Space → Slots → Bool → ℕ → ℕ → ℕ → Type 0
IsAbsent spaces slots writes address count page = (access_of spaces writes address count ≡ access.Done) × IsFirstAway spaces slots address count page

-- a kept interval that is mapped has the page, and the page itself is resident
pub record IsHere (kept : List Interval) (slots : Slots) (page : ℕ) : Type 0 where
  pub interval : Interval
  pub is_kept : IsKept kept interval
  pub holds : Holds interval page
  pub mapped : is_mapped interval.mode ≡ true
  pub resident : IsResident slots interval.id (file_page interval page)

-- ---- Before a byte is moved.

-- where all pages are resident, this holds of the slots of the first and of the last one
abbrev pub IfReady : (ℕ → ℕ → Type 0) → Prospect → Type 0
IfReady P (prospect.Ready first last) = P first last
IfReady P (prospect.Settled answer) = Unit {0}

-- where the answer is known, this holds of it
abbrev pub IfSettled : (Attempt → Type 0) → Prospect → Type 0
IfSettled P (prospect.Ready first last) = Unit {0}
IfSettled P (prospect.Settled answer) = P answer

-- one of these two pages of files
abbrev pub either : ℕ → ℕ → ℕ → ℕ → Pages
either i p j q id page = ((id ≡ i) × (page ≡ p)) ⊎ ((id ≡ j) × (page ≡ q))

-- the slot has a page of a client's file
pub record HasClient (slots : Slots) (slot : ℕ) : Type 0 where
  pub id : ℕ
  pub page : ℕ
  pub has : HasPage slots slot id page
  pub client : 16 ≤ id

-- the first of the pages that these intervals show at the first and at the last page of a reference, which is not resident
abbrev pub IsUnfound : Slots → Interval → Interval → ℕ → ℕ → ℕ → Type 0
IsUnfound slots first last address count page =
    ((page ≡ address / 512) × is_absent slots first.id (file_page first (address / 512)))
    ⊎ ((page ≡ last_page address count) × is_absent slots last.id (file_page last (last_page address count)) × IsResident slots first.id (file_page first (address / 512)))
