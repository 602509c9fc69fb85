-- What may stand on a disk where the power went. What was written before the disk was last settled stands there; of the
-- writes since, each label and each 16 bytes of a page are there or are not, on their own.
use Rattle.std.specs.Prelude.{◌≡◌, ℕ, ◌*◌, ◌≤◌, List, length, take, drop, slice_get, Some}
use Rattle.labelled_disk.specs.declared.label.Label.{Label}
use Rattle.labelled_disk.specs.declared.disk.DiskWrite.{DiskWrite}
use Rattle.labelled_disk.specs.CrashState.{crash_state}
use Rattle.labelled_disk.specs.Sectors.{Sector}

-- Unit u of a page, or of its cells: the 16 from 16 * u on. A label is one unit, a page is 32.
abbrev pub unit : {X : Type 0} → ℕ → List X → List X
unit u page = take 16 (drop (16 * u) page)

-- P of some number from s to k
abbrev pub AtSome : ℕ → ℕ → (ℕ → Type 0) → Type 0
AtSome s k P = (j : ℕ) × (s ≤ j) × (j ≤ k) × P j

-- sector i has this label
abbrev pub HasLabelAt : List Sector → ℕ → Label → Type 0
HasLabelAt d i label = (s : Sector) × (slice_get d i ≡ Some s) × (s.0 ≡ label)

-- unit u of the page of sector i is these bytes
abbrev pub HasUnitAt : List Sector → ℕ → ℕ → List ℕ → Type 0
HasUnitAt d i u bytes = (s : Sector) × (slice_get d i ≡ Some s) × (unit u s.1 ≡ bytes)

-- Each label of e, and each unit of its pages, stood there in some crash state of these writes from s to k, each at one of
-- its own.
pub record IsCut (d : List Sector) (writes : List DiskWrite) (s k : ℕ) (e : List Sector) : Type 0 where
  pub sectors : length e ≡ length d
  pub labels : (i : ℕ) (t : Sector) → slice_get e i ≡ Some t → AtSome s k (λ j. HasLabelAt (crash_state d writes j) i t.0)
  pub units : (i u : ℕ) (t : Sector) → slice_get e i ≡ Some t
      → AtSome s k (λ j. HasUnitAt (crash_state d writes j) i u (unit u t.1))

-- any part of these writes, which were made since the disk d was settled
abbrev pub IsCutSince : List Sector → List DiskWrite → List Sector → Type 0
IsCutSince d writes e = IsCut d writes 0 (length writes) e
