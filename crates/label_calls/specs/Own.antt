-- Labels that are written over those of one file alone.
use Rattle.std.specs.Prelude.{◌≡◌, ℕ, List, ◌++◌, Some, slice_get}
use Rattle.labelled_disk.specs.declared.label.Label.{Label}
use Rattle.labelled_disk.specs.declared.disk.DiskWrite.{DiskWrite}
use Rattle.labelled_disk.specs.declared.disk.DiskWrite.TheVariants.{LabelOnly}
use Rattle.labelled_disk.specs.CrashState.{crash_state}
use Rattle.labelled_disk.specs.Sectors.{Sector}
use Rattle.labelled_disk.specs.State.{DiskState}

-- From the one state to the other, each label that was written without a page stands, where it is made, over a label of this
-- identifier.
pub record RelabelsOwn (id : ℕ) (old new : DiskState) : Type 0 where
  pub own : (d : List Sector) (before writes : List DiskWrite) → old.contents ≡ Some d → old.writes ≡ Some before → new.writes ≡ Some (before ++ writes)
      → (k sector : ℕ) (label : Label) → slice_get writes k ≡ Some (LabelOnly sector label)
      → (s : Sector) → slice_get (crash_state d writes k) sector ≡ Some s → s.0.id ≡ id
