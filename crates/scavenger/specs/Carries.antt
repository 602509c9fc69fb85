-- Writes in a row as calls of a disk make them.
use Rattle.std.specs.Prelude.{◌≤◌, ℕ, ◌+◌, List, length, Result, Ok, Err, OnOk, OnErr}
use Rattle.cut_words.specs.Barriers.{HasBarriers}
use Rattle.cut_words.specs.Between.{KeepsSyncs}
use Rattle.labelled_disk.specs.declared.disk.DiskWrite.{DiskWrite}
use Rattle.labelled_disk.specs.Calls.{Rose}
use Rattle.labelled_disk.specs.State.{DiskState}
use Rattle.labelled_disk.specs.WriteRuns.{Appended}
use Rattle.volume_root.specs.Format.{PartMade}
use Rattle.volume_root.specs.Later.{IsLater}

-- these writes were made, or where the disk failed some first ones of them; each moved one sector at most, and no sync is lost
pub record Carries {E : Type 0} (writes : List DiskWrite) (old : DiskState) (result : Result (Unit {0}) E) (new : DiskState) : Type 0 where
  pub all : OnOk result (Appended writes old new)
  pub part : OnErr result (PartMade writes old new)
  pub cause : OnErr result (Rose old.faults new.faults)
  pub later : IsLater old new
  pub syncs : KeepsSyncs old new
  pub transfers : new.transfers ≤ old.transfers + length writes

-- these writes were made, or where the disk failed some first ones of them: the first and the last alone between two syncs
abbrev pub MakesWithBarriers : {E : Type 0} → List DiskWrite → DiskState → Result (Unit {0}) E → DiskState → Type 0
MakesWithBarriers writes old (Ok x) new = HasBarriers writes (length writes) old new
MakesWithBarriers writes old (Err e) new = (made : ℕ) × HasBarriers writes made old new
