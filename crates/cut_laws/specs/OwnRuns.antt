-- The label writes of one file among writes of all.
use Rattle.std.specs.Prelude.{◌≡◌, ◌⊎◌, ℕ, ◌+◌, ◌<◌, true, ◌&&◌, ◌==◌, if◌then◌else◌, List, [], ◌∷◌, ◌++◌, length}
use Rattle.labelled_disk.specs.declared.label.Label.{Label}
use Rattle.labelled_disk.specs.declared.disk.DiskWrite.{DiskWrite}
use Rattle.labelled_disk.specs.declared.disk.DiskWrite.TheVariants.{LabelOnly}
use Rattle.labelled_disk.specs.File.{size}
use Rattle.labelled_disk.specs.FilesOn.{leads_file}
use Rattle.labelled_disk.specs.Label.{leader_page}
use Rattle.labelled_disk.specs.CrashState.{written}
use Rattle.labelled_disk.specs.Runs.{IsAt, ArePagesDown, freeing, growth}
use Rattle.labelled_disk.specs.Sectors.{Sector}
use Rattle.labelled_disk.specs.WriteRuns.{after_writes}
use Rattle.label_laws.specs.PermittedRuns.{ArePermitted}
use Rattle.label_laws.specs.Mixed.{gives_label}
use Rattle.label_laws.specs.OneFile.{id_of}
use Rattle.cut_laws.specs.ResizeLaws.{AddsNextPage, FreesLastPage}
use Rattle.cut_laws.specs.ShapeLaws.{FreesLeader, IsOnLeader, IsWholeOn}
use Rattle.cut_laws.specs.Windows.{EachWrite, IsLabelWriteOf, NoLabelOf}

-- those writes that give this file a label or take one from it, in their order
abbrev pub own_label_writes : ℕ → List Sector → List DiskWrite → List DiskWrite
own_label_writes id d [] = []
own_label_writes id d (write ∷ writes) =
    if gives_label write && id_of d write == id then write ∷ own_label_writes id (written write d) writes
    else own_label_writes id (written write d) writes

-- what the runs of a file are, said of each write
pub record OwnRunLaws (id : ℕ) : Type 0 where
  pub appended : (d : List Sector) (first next : List DiskWrite)
      → own_label_writes id d (first ++ next) ≡ own_label_writes id d first
      ++ own_label_writes id (after_writes first d) next
  pub none : (d : List Sector) (writes : List DiskWrite) → own_label_writes id d writes ≡ [] → NoLabelOf id d writes
  pub marked : (d : List Sector) (writes : List DiskWrite) (leader : ℕ) (label : Label) → ArePermitted d writes
      → IsAt (leads_file true id) d leader → own_label_writes id d writes ≡ LabelOnly leader label ∷ []
      → EachWrite (λ now write. IsLabelWriteOf id now write → IsOnLeader id now write) d writes
  pub freed : (d : List Sector) (writes : List DiskWrite) (leader : ℕ) → ArePermitted d writes
      → IsAt (leads_file true id) d leader → own_label_writes id d writes ≡ freeing (leader ∷ [])
      → EachWrite (λ now write. IsLabelWriteOf id now write → FreesLeader id now write) d writes
  pub shortened : (d : List Sector) (writes : List DiskWrite) (whole : IsWholeOn d id) (is : List ℕ)
      → ArePermitted d writes → ArePagesDown d id (size whole.0) is → own_label_writes id d writes ≡ freeing is
      → EachWrite (λ now write. IsLabelWriteOf id now write → FreesLastPage id now write ⊎ AddsNextPage id now write)
      d writes
  pub lengthened : (d : List Sector) (writes : List DiskWrite) (whole : IsWholeOn d id) (kind : ℕ) (is : List ℕ)
      → ArePermitted d writes → size whole.0 + length is < leader_page
      → own_label_writes id d writes ≡ growth id kind (size whole.0) is
      → EachWrite (λ now write. IsLabelWriteOf id now write → FreesLastPage id now write ⊎ AddsNextPage id now write)
      d writes
