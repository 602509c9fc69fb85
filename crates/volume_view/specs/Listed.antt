-- The lines of leaders, one by one.
use Rattle.std.specs.Prelude.{◌≡◌, ◌≢◌, ℕ, ◌<◌, false, List, map, slice_get, Option, Some, None}
use Rattle.labelled_disk.specs.Label.{leader_page}
use Rattle.labelled_disk.specs.Sectors.{Sector}
use Rattle.labelled_disk.specs.File.{File, size}
use Rattle.labelled_disk.specs.FilesOn.{disk_file}
use Rattle.labelled_disk.specs.Ascending.{IsAscending}
use Rattle.label_survey.specs.declared.triples.Triple.{Triple}
use Rattle.label_survey.specs.Triples.{AreNeeded, AreUp}
use Rattle.volume_view.specs.declared.files.FileLine.{FileLine}
use Rattle.volume_view.specs.Files.{IsLineOf}

-- the leaders and pages that the files of the disk need, in order
pub record AreSorted (d : List Sector) (triples : List Triple) : Type 0 where
  pub needed : AreNeeded d triples
  pub up : AreUp triples

-- where triple k is a leader, its file has so many pages
abbrev pub IsPages : List Sector → List Triple → ℕ → ℕ → Type 0
IsPages d triples k pages = (t : Triple) (f : File) → slice_get triples k ≡ Some t → t.page ≡ leader_page
    → disk_file false d t.id ≡ Some f → pages ≡ size f

-- the line is that of a file of the disk
pub record IsLine (d : List Sector) (line : FileLine) : Type 0 where
  pub f : File
  pub there : disk_file false d line.id ≡ Some f
  pub is : IsLineOf d line f

-- triple k is a leader, and this is the line of its file; or it is none
abbrev pub IsLineAt : List Sector → List Triple → ℕ → Option FileLine → Type 0
IsLineAt d triples k (Some line) = (t : Triple) × (slice_get triples k ≡ Some t) × (t.page ≡ leader_page)
    × (line.id ≡ t.id) × IsLine d line
IsLineAt d triples k None = (t : Triple) → slice_get triples k ≡ Some t → t.page ≢ leader_page

-- the lines of the leaders among the first k triples, in ascending identifiers
pub record AreLinesTo (d : List Sector) (triples : List Triple) (k : ℕ) (lines : List FileLine) : Type 0 where
  pub each : (j : ℕ) (line : FileLine) → slice_get lines j ≡ Some line
      → (i : ℕ) × (i < k) × IsLineAt d triples i (Some line)
  pub all : (i : ℕ) (t : Triple) → i < k → slice_get triples i ≡ Some t → t.page ≡ leader_page
      → (j : ℕ) × (line : FileLine) × (slice_get lines j ≡ Some line) × (line.id ≡ t.id)
  pub ascending : IsAscending (map (λ l. l.id) lines)
