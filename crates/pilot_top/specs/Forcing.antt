-- Where the power goes: what the settled files of the machine have in common since the disk was synced.
use Rattle.std.specs.Prelude.{◌≡◌, ℕ, ◌≤◌, Bool, false, List, length, map, slice_get, Some, None}
use Rattle.labelled_disk.specs.File.{File, byte, file_at, size}
use Rattle.labelled_disk.specs.FilesOn.{disk_file}
use Rattle.labelled_disk.specs.Sectors.{Sector}
use Rattle.labelled_disk.specs.State.{DiskState}
use Rattle.flat_machine.specs.After.{TraceLine}
use Rattle.flat_machine.specs.Machine.{Machine}
use Rattle.flat_machine.specs.Settled.{settled}
use Rattle.cut_laws.specs.Cut.{AtSome, IsCut}
use Rattle.pilot_top.specs.CrashStates.{CrashStates, staged}

-- the file is of this type, immutable or not
abbrev pub IsOfType : ℕ → Bool → File → Type 0
IsOfType kind immutable f = (f.kind ≡ kind) × (f.immutable ≡ immutable)

-- a settled file of the machine, of this type, immutable or not
abbrev pub HasSettled : ℕ → ℕ → Bool → Machine → Type 0
HasSettled id kind immutable m = (f : File) × (file_at (settled m) id ≡ Some f) × IsOfType kind immutable f

-- one of so many pages
abbrev pub HasSettledSize : ℕ → ℕ → Machine → Type 0
HasSettledSize id pages m = (f : File) × (file_at (settled m) id ≡ Some f) × (size f ≡ pages)

-- none
abbrev pub HasNoneSettled : ℕ → Machine → Type 0
HasNoneSettled id m = file_at (settled m) id ≡ None

-- a page of it that has these bytes: what was stored there was forced
abbrev pub HasForced : ℕ → ℕ → List ℕ → Machine → Type 0
HasForced id page bytes m = (f : File) × (file_at (settled m) id ≡ Some f) × (slice_get f.pages page ≡ Some (map byte bytes))

-- so it is of the machine at the place of each crash state from s to k
abbrev pub AtEach : Machine → List TraceLine → (ℕ → ℕ) → (ℕ → ℕ) → ℕ → ℕ → (Machine → Type 0) → Type 0
AtEach m lines line step s k has = (i : ℕ) → s ≤ i → i ≤ k → has (staged m lines (line i) (step i))

-- In each crash state of the writes of a run the disk has the settled files of a place of the trace. A cut e of those from s to k, where the
-- disk was synced after s of them and not since, when k were made: a file that is at all these places, of one type and immutable at all of
-- them or at none, is there, so, with the size that it has at one of them, and with each page that has the same bytes at all of them. One
-- that is at none of them is not there. So it is whatever the places.
pub record KeepsForced (m : Machine) (lines : List TraceLine) (d : List Sector) (old new : DiskState) : Type 0 where
  pub places : CrashStates m lines old new
  pub files : (at : CrashStates m lines old new) (id kind s k : ℕ) (immutable : Bool) (e : List Sector) → s ≤ k → k ≤ length at.writes
      → IsCut d at.writes s k e → AtEach m lines at.line at.step s k (HasSettled id kind immutable)
      → (f : File) × (disk_file false e id ≡ Some f) × IsOfType kind immutable f
      × AtSome s k (λ i. HasSettledSize id (size f) (staged m lines (at.line i) (at.step i)))
      × ((page : ℕ) (bytes : List ℕ) → AtEach m lines at.line at.step s k (HasForced id page bytes) → slice_get f.pages page ≡ Some (map byte bytes))
  pub no_other : (at : CrashStates m lines old new) (id s k : ℕ) (e : List Sector) → s ≤ k → k ≤ length at.writes → IsCut d at.writes s k e
      → AtEach m lines at.line at.step s k (HasNoneSettled id) → disk_file false e id ≡ None
