-- The files of a cut are those of one crash state, where since the last sync one file alone changed, in one of three ways.
use Rattle.std.specs.Prelude.{◌≡◌, ◌≢◌, ◌⊎◌, ℕ, ◌<◌, ◌≤◌, Bool, true, List, [], ◌∷◌, length, slice_get, Some}
use Rattle.labelled_disk.specs.declared.disk.DiskWrite.{DiskWrite}
use Rattle.labelled_disk.specs.declared.disk.DiskWrite.TheVariants.{LabelOnly}
use Rattle.labelled_disk.specs.CrashState.{crash_state, written}
use Rattle.labelled_disk.specs.File.{File, Page as Cells, size}
use Rattle.labelled_disk.specs.FilesOn.{disk_file, leads_file}
use Rattle.labelled_disk.specs.Label.{leader_page}
use Rattle.labelled_disk.specs.Sectors.{Sector}
use Rattle.labelled_disk.specs.WriteLaws.{HasData}
use Rattle.label_laws.specs.Shape.{BareFile, SameShape, bare_file}
use Rattle.cut_laws.specs.Cut.{unit, AtSome, IsCutSince}
use Rattle.cut_laws.specs.ShapeLaws.{IsWholeOn}

-- one label was written, and nothing else: so a leader goes
abbrev pub IsOneLabel : List DiskWrite → Type 0
IsOneLabel (LabelOnly sector label ∷ []) = Unit {0}
IsOneLabel other = ⊥

module _ (with_temporary : Bool) where
  -- Which file changed.

  -- each file that counts is whole
  abbrev pub AreFilesWhole : List Sector → Type 0
  AreFilesWhole d = (id : ℕ) (f : File) → disk_file with_temporary d id ≡ Some f → IsWholeOn d id

  -- the file has one shape in each crash state, or there is none in any
  abbrev pub IsSteady : ℕ → List Sector → List DiskWrite → Type 0
  IsSteady id d writes = (j : ℕ) → j ≤ length writes → SameShape with_temporary d (crash_state d writes j) id

  -- it is there in each crash state, with one type and the same marks: it gets more pages, or fewer
  abbrev pub IsResizedAlone : ℕ → List Sector → List DiskWrite → Type 0
  IsResizedAlone id d writes = (bare : BareFile) × ((j : ℕ) → j ≤ length writes
      → (f : File) × (disk_file with_temporary (crash_state d writes j) id ≡ Some f)
      × (bare_file f ≡ record bare { pages = size f }))

  -- the first write gives its leader another label, by which it is there, and has one shape from then on: so it appears, or
  -- gets a mark
  abbrev pub IsMarkedFirst : ℕ → List Sector → List DiskWrite → Type 0
  IsMarkedFirst id d (LabelOnly sector label ∷ rest) = (s : Sector) × HasData d sector s × (s.0.page ≡ leader_page)
      × (leads_file with_temporary id (label, s.1) ≡ true)
      × ((f : File) × (disk_file with_temporary (written (LabelOnly sector label) d) id ≡ Some f))
      × IsSteady id (written (LabelOnly sector label) d) rest
  IsMarkedFirst id d other = ⊥

  -- the files are whole in each crash state, and one of them alone changed
  pub record ChangesOneFile (d : List Sector) (writes : List DiskWrite) (id : ℕ) : Type 0 where
    pub whole : (j : ℕ) → j ≤ length writes → AreFilesWhole (crash_state d writes j)
    pub others : (other : ℕ) → other ≢ id → IsSteady other d writes
    pub change : IsSteady id d writes ⊎ IsResizedAlone id d writes ⊎ IsMarkedFirst id d writes ⊎ IsOneLabel writes

  -- What a cut has then, of writes from s to k.

  -- page p is one of the file wherever the file is there
  abbrev pub IsPageThroughout : ℕ → ℕ → List Sector → List DiskWrite → ℕ → ℕ → Type 0
  IsPageThroughout id p d writes s k = (j : ℕ) (f : File) → s ≤ j → j ≤ k
      → disk_file with_temporary (crash_state d writes j) id ≡ Some f → p < size f

  -- unit u of page p of the file is that of these cells
  abbrev pub HasUnitOf : ℕ → ℕ → ℕ → Cells → List Sector → Type 0
  HasUnitOf id p u cells d = (f : File) × (disk_file with_temporary d id ≡ Some f)
      × (there : Cells) × (slice_get f.pages p ≡ Some there) × (unit u there ≡ unit u cells)

  -- a page that the file has wherever it is there is made of units that stood in it
  abbrev pub HasUnitsOfCrashStates : ℕ → List Sector → List DiskWrite → ℕ → ℕ → List Sector → Type 0
  HasUnitsOfCrashStates id d writes s k e = (p : ℕ) (g : File) → disk_file with_temporary e id ≡ Some g
      → IsPageThroughout id p d writes s k → (cells : Cells) × (slice_get g.pages p ≡ Some cells)
      × ((u : ℕ) → AtSome s k (λ j. HasUnitOf id p u cells (crash_state d writes j)))

  -- There is one crash state whose files these are: each is there or not, with type, marks and size, as in it. Of a page that
  -- was added or taken away nothing is said but that it is there or not.
  pub record FilesOfOneCrashState (d : List Sector) (writes : List DiskWrite) (s k : ℕ) (e : List Sector) : Type 0 where
    pub shapes : AtSome s k (λ j. (id : ℕ) → SameShape with_temporary (crash_state d writes j) e id)
    pub pages : (id : ℕ) → HasUnitsOfCrashStates id d writes s k e

  -- one file, whatever becomes of the others
  abbrev pub ResizedIsOfOneCrashState : Type 0
  ResizedIsOfOneCrashState = (d : List Sector) (writes : List DiskWrite) (e : List Sector) (id : ℕ)
      → IsCutSince d writes e → ((j : ℕ) → j ≤ length writes → IsWholeOn (crash_state d writes j) id)
      → IsResizedAlone id d writes
      → AtSome 0 (length writes) (λ j. SameShape with_temporary (crash_state d writes j) e id)
      × HasUnitsOfCrashStates id d writes 0 (length writes) e

  -- whatever else was written: bytes of pages, files that do not count, root and maps
  abbrev pub OneChangeIsOneCrashState : Type 0
  OneChangeIsOneCrashState = (d : List Sector) (writes : List DiskWrite) (e : List Sector) (id : ℕ)
      → IsCutSince d writes e → ChangesOneFile d writes id → FilesOfOneCrashState d writes 0 (length writes) e
