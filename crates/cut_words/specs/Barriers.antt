-- Writes of which the first and the last stand alone between two syncs.
use Rattle.std.specs.Prelude.{◌≡◌, ◌⊎◌, ℕ, ◌-◌, ◌≤◌, List, length, take}
use Rattle.labelled_disk.specs.declared.disk.DiskWrite.{DiskWrite}
use Rattle.labelled_disk.specs.Sectors.{Sector}
use Rattle.labelled_disk.specs.State.{DiskState}
use Rattle.labelled_disk.specs.WriteRuns.{Appended}
use Rattle.cut_words.specs.Between.{IsCutBetween, SyncedAfter}
use Rattle.cut_words.specs.Cut.{IsCut}

-- The first of these writes were made, so many: none after the first of all before there was a sync, and not the last one
-- before there was a sync after all others.
pub record HasBarriers (writes : List DiskWrite) (made : ℕ) (old new : DiskState) : Type 0 where
  pub few : made ≤ length writes
  pub appended : Appended (take made writes) old new
  pub first : 2 ≤ made → SyncedAfter 1 old new
  pub last : made ≡ length writes → SyncedAfter (length writes - 1) old new

-- From the sync after the first write on, a cut has parts of all writes but the first and the last, or a part of the last
-- one.
abbrev pub BarriersLeaveTwoWindows : Type 0
BarriersLeaveTwoWindows = (writes : List DiskWrite) (made : ℕ) (old new : DiskState) → HasBarriers writes made old new
    → (d e : List Sector) (s k : ℕ) → IsCutBetween old new d s k e → (1 ≤ s) ⊎ (2 ≤ k)
    → IsCut d writes 1 (length writes - 1) e ⊎ IsCut d writes (length writes - 1) (length writes) e
