-- The crash states of a conversion before its last write, and what its last writes are to a disk that has a root of today.
use Rattle.std.specs.Prelude.{◌≡◌, ◌⊎◌, ℕ, ◌<◌, ◌≤◌, List, [], ◌∷◌, ◌++◌, length, slice_get, slice_set}
use Rattle.std.specs.List.{AllByRecursion}
use Rattle.labelled_disk.specs.declared.label.Label.{Label}
use Rattle.labelled_disk.specs.declared.disk.DiskWrite.{DiskWrite}
use Rattle.labelled_disk.specs.declared.disk.DiskWrite.TheVariants.{Whole, LabelOnly, Page}
use Rattle.labelled_disk.specs.Layout.{first_data}
use Rattle.labelled_disk.specs.Sectors.{Sector}
use Rattle.labelled_disk.specs.CrashState.{crash_state}
use Rattle.labelled_disk.specs.WriteRuns.{after_writes}
use Rattle.old_files.specs.OldFiles.{files_old}
use Rattle.old_files.specs.Arranging.{IsSpareWrite}

-- a sector of a map is written whole
abbrev pub IsMapWrite : List Sector → DiskWrite → Type 0
IsMapWrite d (Whole i label page) = (0 < i) × (i < first_data (length d))
IsMapWrite d (LabelOnly i label) = ⊥
IsMapWrite d (Page i wanted page) = ⊥

-- the root as it was, and the same old files
pub record IsStillThat (d e : List Sector) : Type 0 where
  pub sectors : length e ≡ length d
  pub root : slice_get e 0 ≡ slice_get d 0
  pub files : files_old e ≡ files_old d

-- so it is in each crash state before the last write
abbrev pub CrashStatesBeforeRoot : Type 0
CrashStatesBeforeRoot = (d : List Sector) (writes : List DiskWrite) (last : DiskWrite)
    → AllByRecursion (λ w. IsSpareWrite d w ⊎ IsMapWrite d w) writes
    → (k : ℕ) → k ≤ length writes → IsStillThat d (crash_state d (writes ++ last ∷ []) k)

-- the maps and then the root make the same of a disk, whatever stands in sector 0
abbrev pub RootIsOverwritten : Type 0
RootIsOverwritten = (d : List Sector) (writes : List DiskWrite) (label : Label) (page : List ℕ) (t : Sector)
    → AllByRecursion (IsMapWrite d) writes
    → after_writes (writes ++ Whole 0 label page ∷ []) (slice_set d 0 t)
    ≡ after_writes (writes ++ Whole 0 label page ∷ []) d
