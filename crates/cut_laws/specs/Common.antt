-- What a file has in each crash state.
use Rattle.std.specs.Prelude.{◌≡◌, ℕ, ◌<◌, ◌≤◌, Bool, List, length, map, Some}
use Rattle.labelled_disk.specs.declared.disk.DiskWrite.{DiskWrite}
use Rattle.labelled_disk.specs.CrashState.{crash_state}
use Rattle.labelled_disk.specs.File.{File, byte, size}
use Rattle.labelled_disk.specs.FilesOn.{disk_file}
use Rattle.labelled_disk.specs.Sectors.{Sector}
use Rattle.label_laws.specs.Shape.{SameShape}
use Rattle.cut_laws.specs.Cut.{IsCutSince}
use Rattle.cut_laws.specs.SizeLaws.{IsWholeThroughout}
use Rattle.cut_laws.specs.Windows.{PagesOfCrashStates, disk_page}

-- a page with the same bytes in each crash state has them in the cut
abbrev pub SamePagesStay : List Sector → List DiskWrite → List Sector → ℕ → ℕ → Type 0
SamePagesStay d writes e id n = (p : ℕ) (bytes : List ℕ) → p < n
    → ((j : ℕ) → j ≤ length writes → disk_page (crash_state d writes j) id p ≡ Some (map byte bytes))
    → disk_page e id p ≡ Some (map byte bytes)

-- a file that is whole in each crash state, with one shape, has this shape in the cut, and each unit of its pages stood there, as
-- that page of it, in some crash state
abbrev pub CommonStays : Bool → Type 0
CommonStays with_temporary = (d : List Sector) (writes : List DiskWrite) (e : List Sector) (id : ℕ) (f : File)
    → IsCutSince d writes e → IsWholeThroughout d writes id
    → disk_file with_temporary d id ≡ Some f
    → ((j : ℕ) → j ≤ length writes → SameShape with_temporary d (crash_state d writes j) id)
    → SameShape with_temporary d e id × PagesOfCrashStates d writes e id × SamePagesStay d writes e id (size f)
