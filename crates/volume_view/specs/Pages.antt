-- Pages of a disk, and why they are not there.
use Rattle.std.specs.Prelude.{◌≡◌, ◌↔◌, ℕ, ◌+◌, ◌<◌, Bool, true, IsSomeAnd, IsTrue, List, take, drop, slice_get, Some}
use Rattle.labelled_disk.specs.Label.{names}
use Rattle.std.specs.List.{flat_map}
use Rattle.labelled_disk.specs.Sectors.{Sector}
use Rattle.volume_view.specs.declared.fault.LookFault.{LookFault}
use Rattle.volume_view.specs.declared.fault.LookFault.TheVariants.{BadCount, Disk, NoMemory}

-- the bytes of the pages of so many sectors from one on
abbrev pub bytes_of : List Sector → ℕ → ℕ → List ℕ
bytes_of d first count = flat_map (λ s. s.1) (take count (drop first d))

-- the labels of so many sectors from one on name the pages of this file, in order
abbrev pub NamePages : List Sector → ℕ → ℕ → ℕ → Type 0
NamePages d id first count = (k : ℕ) → k < count
    → IsSomeAnd (slice_get d (first + k)) (λ s. IsTrue (names s.0 (record { id = id; page = k })))

-- afterwards it is said that the labels are right where it was said before and these are
abbrev pub SaysNamed : Bool → Bool → List Sector → ℕ → ℕ → ℕ → Type 0
SaysNamed before after d id first count = (after ≡ true) ↔ ((before ≡ true) × NamePages d id first count)

-- the sector has this page
pub record HasPage (d : List Sector) (sector : ℕ) (page : List ℕ) : Type 0 where
  pub s : Sector
  pub here : slice_get d sector ≡ Some s
  pub is : page ≡ s.1

-- the disk failed, or there was no memory
abbrev pub IsDiskOrMemory : LookFault → Type 0
IsDiskOrMemory (BadCount n) = ⊥
IsDiskOrMemory Disk = Unit {0}
IsDiskOrMemory NoMemory = Unit {0}
