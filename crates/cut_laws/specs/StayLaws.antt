-- Files that no write is of, and files that there are not.
use Rattle.std.specs.Prelude.{◌≡◌, ℕ, ◌≤◌, ◌<◌, Bool, List, length, slice_get, Some, None}
use Rattle.labelled_disk.specs.declared.disk.DiskWrite.{DiskWrite}
use Rattle.labelled_disk.specs.File.{File, size}
use Rattle.labelled_disk.specs.FilesOn.{disk_file}
use Rattle.labelled_disk.specs.CrashState.{crash_state}
use Rattle.labelled_disk.specs.Sectors.{Sector}
use Rattle.label_laws.specs.PermittedRuns.{ArePermitted}
use Rattle.label_laws.specs.OneFile.{NoneOf}
use Rattle.cut_laws.specs.Cut.{IsCutSince}
use Rattle.cut_laws.specs.Windows.{disk_page}

module _ (with_temporary : Bool) where
  -- a file that no write is of is there as it was, byte by byte
  abbrev pub OthersStayInCuts : Type 0
  OthersStayInCuts = (d : List Sector) (writes : List DiskWrite) (e : List Sector) (id : ℕ) → ArePermitted d writes
      → IsCutSince d writes e → NoneOf id d writes
      → disk_file with_temporary e id ≡ disk_file with_temporary d id

  -- a file that is there in no crash state is not there
  abbrev pub NoneAppears : Type 0
  NoneAppears = (d : List Sector) (writes : List DiskWrite) (e : List Sector) (id : ℕ) → IsCutSince d writes e
      → ((j : ℕ) → j ≤ length writes → disk_file with_temporary (crash_state d writes j) id ≡ None)
      → disk_file with_temporary e id ≡ None

  -- the pages of a file are those of the sectors
  abbrev pub PagesOfFile : Type 0
  PagesOfFile = (d : List Sector) (id p : ℕ) (f : File) → disk_file with_temporary d id ≡ Some f → p < size f
      → slice_get f.pages p ≡ disk_page d id p
