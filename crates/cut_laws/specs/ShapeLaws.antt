-- Files of which no label, or that of the leader alone, was written.
use Rattle.std.specs.Prelude.{◌≡◌, ◌≢◌, ◌⊎◌, ℕ, ◌<◌, ◌≤◌, Bool, true, List, length, slice_get, Some, None}
use Rattle.labelled_disk.specs.declared.disk.DiskWrite.{DiskWrite}
use Rattle.labelled_disk.specs.declared.disk.DiskWrite.TheVariants.{Whole, LabelOnly, Page}
use Rattle.labelled_disk.specs.File.{File, size}
use Rattle.labelled_disk.specs.FilesOn.{disk_file, leads_file}
use Rattle.labelled_disk.specs.Label.{leader_page}
use Rattle.labelled_disk.specs.Layout.{data_sectors}
use Rattle.labelled_disk.specs.CrashState.{crash_state}
use Rattle.labelled_disk.specs.Right.{IsWhole}
use Rattle.labelled_disk.specs.Sectors.{Sector, free_label}
use Rattle.label_laws.specs.PermittedRuns.{ArePermitted}
use Rattle.label_laws.specs.Shape.{SameShape}
use Rattle.cut_laws.specs.Cut.{AtSome, IsCutSince}
use Rattle.cut_laws.specs.Windows.{EachWrite, IsLabelWriteOf, NoLabelOf, IsUnwritten, PagesOfCrashStates, disk_page}

-- the file is there, temporary or not, and each sector of it is its leader or a page of it, once
abbrev pub IsWholeOn : List Sector → ℕ → Type 0
IsWholeOn d id = (f : File) × (disk_file true d id ≡ Some f) × IsWhole (data_sectors d) f

-- the label of the file's leader is written over
abbrev pub IsOnLeader : ℕ → List Sector → DiskWrite → Type 0
IsOnLeader id now (Whole sector label page) = ⊥
IsOnLeader id now (LabelOnly sector label) = (s : Sector) × (slice_get now sector ≡ Some s)
    × (leads_file true id s ≡ true)
IsOnLeader id now (Page sector wanted page) = ⊥

-- the file's leader is freed
abbrev pub FreesLeader : ℕ → List Sector → DiskWrite → Type 0
FreesLeader id now (Whole sector label page) = ⊥
FreesLeader id now (LabelOnly sector label) = IsOnLeader id now (LabelOnly sector label) × (label ≡ free_label)
FreesLeader id now (Page sector wanted page) = ⊥

-- the bytes of a file in a cut, where the labels of its pages stay
pub record PagesStay (d : List Sector) (writes : List DiskWrite) (e : List Sector) (id : ℕ) : Type 0 where
  pub pages : PagesOfCrashStates d writes e id
  pub unwritten : (p : ℕ) → p < leader_page → IsUnwritten id p d writes → disk_page e id p ≡ disk_page d id p

module _ (with_temporary : Bool) where
  -- no label of the file was written: it has the shape that it had throughout, and its bytes but for pages that were
  -- written
  abbrev pub NoLabelWritten : Type 0
  NoLabelWritten = (d : List Sector) (writes : List DiskWrite) (e : List Sector) (id : ℕ) → ArePermitted d writes
      → IsCutSince d writes e → NoLabelOf id d writes
      → ((j : ℕ) → j ≤ length writes → SameShape with_temporary (crash_state d writes j) e id) × PagesStay d writes e id

  -- labels of the leader alone were: the file has the marks of one crash state, or is not there, as in that crash state; it is
  -- there with all its pages, or not at all
  abbrev pub LeaderWritten : Type 0
  LeaderWritten = (d : List Sector) (writes : List DiskWrite) (e : List Sector) (id : ℕ) → ArePermitted d writes
      → IsCutSince d writes e → (whole : IsWholeOn d id)
      → EachWrite (λ now write. IsLabelWriteOf id now write → IsOnLeader id now write) d writes
      → AtSome 0 (length writes) (λ j. SameShape with_temporary (crash_state d writes j) e id)
      × ((g : File) → disk_file with_temporary e id ≡ Some g → size g ≡ size whole.0) × PagesStay d writes e id

  -- the leader was freed: the file is there whole, or it is not there
  abbrev pub LeaderFreed : Type 0
  LeaderFreed = (d : List Sector) (writes : List DiskWrite) (e : List Sector) (id : ℕ) → ArePermitted d writes
      → IsCutSince d writes e → IsWholeOn d id
      → EachWrite (λ now write. IsLabelWriteOf id now write → FreesLeader id now write) d writes
      → (SameShape with_temporary d e id ⊎ (disk_file with_temporary e id ≡ None)) × PagesStay d writes e id

  -- where labels of one file alone were written, or of files that there never are, all have the shapes of one crash state
  abbrev pub ShapesOfOneCrashState : Type 0
  ShapesOfOneCrashState = (d : List Sector) (writes : List DiskWrite) (e : List Sector) (id : ℕ) → ArePermitted d writes
      → IsCutSince d writes e
      → ((other : ℕ) → other ≢ id → NoLabelOf other d writes
      ⊎ ((j : ℕ) → j ≤ length writes → disk_file with_temporary (crash_state d writes j) other ≡ None))
      → AtSome 0 (length writes) (λ j. SameShape with_temporary (crash_state d writes j) e id)
      → AtSome 0 (length writes) (λ j. (each : ℕ) → SameShape with_temporary (crash_state d writes j) e each)
