-- Pages that a file got since the last sync: in a cut they are its own.
use Rattle.std.specs.Prelude.{◌≡◌, ℕ, suc, ◌+◌, ◌<◌, ◌≤◌, Bool, true, List, length, slice_get, Some}
use Rattle.labelled_disk.specs.declared.disk.DiskWrite.{DiskWrite}
use Rattle.labelled_disk.specs.CrashState.{crash_state}
use Rattle.labelled_disk.specs.File.{File, Page as Cells, size, zero_page}
use Rattle.labelled_disk.specs.FilesOn.{disk_file}
use Rattle.labelled_disk.specs.Label.{is_free}
use Rattle.labelled_disk.specs.Layout.{IsCount}
use Rattle.labelled_disk.specs.Sectors.{Sector}
use Rattle.labelled_disk.specs.WriteLaws.{HasData}
use Rattle.volume_root.specs.Format.{formatted}
use Rattle.label_laws.specs.Cleared.{is_plain}
use Rattle.label_laws.specs.PermittedRuns.{ArePermitted}
use Rattle.cut_laws.specs.ChangeRows.{AreApart}
use Rattle.cut_laws.specs.Cut.{AtSome, IsCut}
use Rattle.cut_laws.specs.Honest.{IsBetweenSyncs}
use Rattle.cut_laws.specs.OneCrashState.{AreFilesWhole, HasUnitOf}

-- each free data sector has a plain label
abbrev pub HasPlainFree : List Sector → Type 0
HasPlainFree d = (i : ℕ) (s : Sector) → HasData d i s → is_free s.0 ≡ true → is_plain s.0 ≡ true

-- a new volume has plain free labels
abbrev pub NewIsPlain : Type 0
NewIsPlain = (n serial counter : ℕ) → IsCount n → HasPlainFree (formatted n serial counter)

-- permitted writes keep it so
abbrev pub PlainFreeStays : Type 0
PlainFreeStays = (d : List Sector) (writes : List DiskWrite) → ArePermitted d writes → HasPlainFree d
    → (j : ℕ) → HasPlainFree (crash_state d writes j)

module _ (with_temporary : Bool) where
  -- The file does not have page p in this crash state. Where there is no such file, each page is so.
  abbrev pub IsNoPageAt : ℕ → ℕ → List Sector → Type 0
  IsNoPageAt id p d = (f : File) → disk_file with_temporary d id ≡ Some f → size f ≤ p

  -- A page that the file did not have in crash state s is made of units that stood in it since. Where it was added, zeros stood
  -- there first.
  abbrev pub HasOwnNewPages : ℕ → List Sector → List DiskWrite → ℕ → ℕ → List Sector → Type 0
  HasOwnNewPages id d writes s k e = (p : ℕ) (g : File) → disk_file with_temporary e id ≡ Some g → p < size g
      → IsNoPageAt id p (crash_state d writes s) → (cells : Cells) × (slice_get g.pages p ≡ Some cells)
      × ((u : ℕ) → AtSome s k (λ j. HasUnitOf with_temporary id p u cells (crash_state d writes j)))

  -- so it is where changes are apart, and free labels are plain at the last sync
  abbrev pub NewPagesAreOwn : Type 0
  NewPagesAreOwn = (d : List Sector) (made : ℕ) (writes : List DiskWrite) (syncs : List ℕ) (failed : Bool) → ArePermitted d writes
      → ((j : ℕ) → j ≤ length writes → AreFilesWhole with_temporary (crash_state d writes j))
      → AreApart with_temporary syncs made d writes failed
      → (k s : ℕ) (e : List Sector) → k ≤ length writes → IsBetweenSyncs syncs (made + s) (made + k)
      → IsCut d writes s k e → HasPlainFree (crash_state d writes s) → (id : ℕ) → HasOwnNewPages id d writes s k e

  -- a write that adds a page to a file that is there adds zeros
  abbrev pub AddsZeros : ℕ → List Sector → List DiskWrite → Type 0
  AddsZeros id d writes = (j p : ℕ) (f g : File) → disk_file with_temporary (crash_state d writes j) id ≡ Some f → size f ≤ p
      → disk_file with_temporary (crash_state d writes (suc j)) id ≡ Some g → p < size g
      → slice_get g.pages p ≡ Some zero_page

  -- so does each permitted write, where files are whole in each crash state
  abbrev pub PagesAreAddedAsZeros : Type 0
  PagesAreAddedAsZeros = (d : List Sector) (writes : List DiskWrite) → ArePermitted d writes
      → ((j : ℕ) → j ≤ length writes → AreFilesWhole with_temporary (crash_state d writes j)) → (id : ℕ)
      → AddsZeros id d writes
