-- Files that get more pages, or fewer.
use Rattle.std.specs.Prelude.{◌≡◌, ◌≢◌, ℕ, ◌≤◌, Bool, List, length, slice_get, Some}
use Rattle.labelled_disk.specs.declared.disk.DiskWrite.{DiskWrite}
use Rattle.labelled_disk.specs.declared.disk.DiskWrite.TheVariants.{Whole, LabelOnly, Page}
use Rattle.labelled_disk.specs.File.{File}
use Rattle.labelled_disk.specs.FilesOn.{disk_file}
use Rattle.labelled_disk.specs.Label.{leader_page}
use Rattle.labelled_disk.specs.CrashState.{crash_state}
use Rattle.labelled_disk.specs.Right.{FilesRight}
use Rattle.labelled_disk.specs.Sectors.{Sector}
use Rattle.label_laws.specs.PermittedRuns.{ArePermitted}
use Rattle.label_laws.specs.Shape.{SameShape}
use Rattle.cut_laws.specs.Cut.{AtSome, IsCutSince}
use Rattle.cut_laws.specs.OwnBytes.{AreOwnOrFree, of_page}
use Rattle.cut_laws.specs.ShapeLaws.{IsWholeOn}
use Rattle.cut_laws.specs.Windows.{EachWrite, FreeIsUnwritten, IsLabelWriteOf, PagesOfCrashStates}

-- the file is there and whole in each crash state
abbrev pub IsWholeThroughout : List Sector → List DiskWrite → ℕ → Type 0
IsWholeThroughout d writes id = (j : ℕ) → j ≤ length writes → IsWholeOn (crash_state d writes j) id

-- a page of the file is made or freed, and not its leader
abbrev pub IsOnPage : List Sector → DiskWrite → Type 0
IsOnPage now (Whole sector label page) = label.page ≢ leader_page
IsOnPage now (LabelOnly sector label) = (s : Sector) × (slice_get now sector ≡ Some s) × (s.0.page ≢ leader_page)
IsOnPage now (Page sector wanted page) = ⊥

-- the file has the size, and all else but its bytes, that it had in one crash state
abbrev pub SizeOfOneCrashState : Bool → Type 0
SizeOfOneCrashState with_temporary = (d : List Sector) (writes : List DiskWrite) (e : List Sector) (id : ℕ)
    → ArePermitted d writes → IsCutSince d writes e → IsWholeThroughout d writes id
    → EachWrite (λ now write. IsLabelWriteOf id now write → IsOnPage now write) d writes
    → AtSome 0 (length writes) (λ j. SameShape with_temporary (crash_state d writes j) e id)

-- and each unit of its pages stood there as that page in some crash state, where their sectors were no other's
abbrev pub PagesAreOwn : Type 0
PagesAreOwn = (d : List Sector) (writes : List DiskWrite) (e : List Sector) (id : ℕ) → ArePermitted d writes
    → IsCutSince d writes e → IsWholeThroughout d writes id
    → FreeIsUnwritten d writes → ((p : ℕ) → AreOwnOrFree (of_page id p) d writes) → PagesOfCrashStates d writes e id

-- where labels are right, the file is whole
abbrev pub RightIsWhole : Bool → Type 0
RightIsWhole with_temporary = (serial counter : ℕ) (d : List Sector) (id : ℕ) (f : File)
    → FilesRight with_temporary serial counter d → disk_file with_temporary d id ≡ Some f → IsWholeOn d id
