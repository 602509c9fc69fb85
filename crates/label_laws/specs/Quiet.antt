-- Writes of a file that does not count, mixed with writes of page bytes anywhere.
use Rattle.std.specs.Prelude.{◌≡◌, ℕ, Bool, List, [], ◌∷◌, ◌++◌, None}
use Rattle.labelled_disk.specs.declared.disk.DiskWrite.{DiskWrite}
use Rattle.labelled_disk.specs.declared.disk.DiskWrite.TheVariants.{Whole, LabelOnly, Page}
use Rattle.labelled_disk.specs.Sectors.{Sector}
use Rattle.labelled_disk.specs.CrashState.{crash_state, written}
use Rattle.labelled_disk.specs.FilesOn.{disk_file}
use Rattle.labelled_disk.specs.Right.{FilesRight}
use Rattle.labelled_disk.specs.WriteRuns.{after_writes}
use Rattle.label_laws.specs.MixedVolumes.{ShapesKept}
use Rattle.label_laws.specs.Unseen.{TakesLabel}

module _ (with_temporary : Bool) (id : ℕ) where
  -- page bytes, or a label that no file shows
  abbrev pub IsQuiet : List Sector → DiskWrite → Type 0
  IsQuiet d (Whole sector label page) = TakesLabel with_temporary id d sector label
  IsQuiet d (LabelOnly sector label) = TakesLabel with_temporary id d sector label
  IsQuiet d (Page sector wanted page) = Unit {0}

  -- each where those before it were made
  abbrev pub AreQuiet : List Sector → List DiskWrite → Type 0
  AreQuiet d [] = Unit {0}
  AreQuiet d (write ∷ writes) = IsQuiet d write × AreQuiet (written write d) writes

  abbrev pub QuietAppended : Type 0
  QuietAppended = (d : List Sector) (first next : List DiskWrite) → AreQuiet d first → AreQuiet (after_writes first d) next → AreQuiet d (first ++ next)

  -- in each crash state all files have their shapes, and the labels of the files are right
  abbrev pub QuietCrashStates : ℕ → ℕ → Type 0
  QuietCrashStates serial counter = (d : List Sector) (writes : List DiskWrite) → FilesRight with_temporary serial counter d → disk_file with_temporary d id ≡ None → AreQuiet d writes
      → (k : ℕ) → ShapesKept with_temporary serial counter d (crash_state d writes k)
