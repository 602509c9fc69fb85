-- Bytes that are a file's own: no byte of another file, and none that was there before it.
use Rattle.std.specs.Prelude.{◌≡◌, ◌⊎◌, ℕ, ◌≤◌, Bool, true, List, [], length, slice_get, Some}
use Rattle.labelled_disk.specs.declared.label.Label.{Label}
use Rattle.labelled_disk.specs.declared.disk.DiskWrite.{DiskWrite}
use Rattle.labelled_disk.specs.FilesOn.{is_of, is_page}
use Rattle.labelled_disk.specs.Label.{is_free}
use Rattle.labelled_disk.specs.Layout.{first_data}
use Rattle.labelled_disk.specs.CrashState.{crash_state}
use Rattle.labelled_disk.specs.Runs.{zero_bytes}
use Rattle.labelled_disk.specs.Sectors.{Sector}
use Rattle.labelled_disk.specs.WriteLaws.{HasData}
use Rattle.label_laws.specs.PermittedRuns.{ArePermitted}
use Rattle.cut_laws.specs.Cut.{unit, AtSome, IsCutSince}
use Rattle.cut_laws.specs.Windows.{FreeIsUnwritten}

-- labels of this file; of this page of it
abbrev pub of_file : ℕ → Label → Bool
of_file id l = is_of id (l, [])

abbrev pub of_page : ℕ → ℕ → Label → Bool
of_page id p l = is_page id p (l, [])

-- sector i passes or is free in each crash state, and where it was free at first its page was zeros
pub record IsOwnOrFree (test : Label → Bool) (d : List Sector) (writes : List DiskWrite) (i : ℕ) : Type 0 where
  pub own_or_free : (j : ℕ) (s : Sector) → j ≤ length writes → slice_get (crash_state d writes j) i ≡ Some s
      → (test s.0 ≡ true) ⊎ (is_free s.0 ≡ true)
  pub zeros : (s : Sector) → slice_get d i ≡ Some s → is_free s.0 ≡ true → s.1 ≡ zero_bytes

-- each data sector that passes in some crash state is so
abbrev pub AreOwnOrFree : (Label → Bool) → List Sector → List DiskWrite → Type 0
AreOwnOrFree test d writes = (i j : ℕ) (s : Sector) → first_data (length d) ≤ i → j ≤ length writes
    → slice_get (crash_state d writes j) i ≡ Some s → test s.0 ≡ true → IsOwnOrFree test d writes i

-- these bytes stood in unit u of sector i while it passed
abbrev pub StoodThere : (Label → Bool) → List Sector → ℕ → ℕ → List ℕ → Type 0
StoodThere test d i u bytes = (s : Sector) × (slice_get d i ≡ Some s) × (test s.0 ≡ true) × (unit u s.1 ≡ bytes)

-- each unit of a sector that passes in the cut stood there while the sector passed
abbrev pub OwnBytesBy : (Label → Bool) → Type 0
OwnBytesBy test = (d : List Sector) (writes : List DiskWrite) (e : List Sector) → ArePermitted d writes
    → IsCutSince d writes e → FreeIsUnwritten d writes → AreOwnOrFree test d writes
    → (i u : ℕ) (t : Sector) → HasData e i t → test t.0 ≡ true
    → AtSome 0 (length writes) (λ j. StoodThere test (crash_state d writes j) i u (unit u t.1))

-- of a file, and of a page of it
pub record OwnBytes (id : ℕ) : Type 0 where
  pub files : OwnBytesBy (of_file id)
  pub pages : (p : ℕ) → OwnBytesBy (of_page id p)
