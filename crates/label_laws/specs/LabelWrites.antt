-- The label writes among writes in a row, and states of a disk that are later by permitted writes with these label writes.
use Rattle.std.specs.Prelude.{◌≡◌, ◌⊎◌, ℕ, ◌<◌, true, List, [], ◌∷◌, ◌++◌, Some, Result, OnOk, OnErr}
use Rattle.labelled_disk.specs.declared.label.Wanted.{Wanted}
use Rattle.labelled_disk.specs.declared.disk.DiskError.{DiskError}
use Rattle.labelled_disk.specs.declared.disk.DiskWrite.{DiskWrite}
use Rattle.labelled_disk.specs.Calls.{RevealsSame, RevealsWrite, Writes, WritesData}
use Rattle.labelled_disk.specs.Sectors.{Sector}
use Rattle.labelled_disk.specs.State.{DiskState}
use Rattle.labelled_disk.specs.WriteRuns.{Appended}
use Rattle.label_laws.specs.PermittedRuns.{ArePermitted, PermittedThere, LawfullyLater}
use Rattle.label_laws.specs.Mixed.{gives_label, label_writes}

-- the label writes of two rows, one after the other, are those of both
abbrev pub LabelWritesAppended : Type 0
LabelWritesAppended = (first next : List DiskWrite) → label_writes (first ++ next) ≡ label_writes first ++ label_writes next

-- Where the contents are revealed, what was written since is permitted, and its label writes are this run, in order.
pub record LaterByLabels (run : List DiskWrite) (old new : DiskState) : Type 0 where
  pub by : (d : List Sector) → old.contents ≡ Some d
      → (writes : List DiskWrite) × Appended writes old new × ArePermitted d writes × (label_writes writes ≡ run)

-- states of a disk, later and later by label writes
pub record LabelLaterLaws : Type 0 where
  pub same : (a b : DiskState) → RevealsSame a b → LaterByLabels [] a b
  pub then_later : (run more : List DiskWrite) (a b c : DiskState) → LaterByLabels run a b → LaterByLabels more b c → LaterByLabels (run ++ more) a c
  -- a label write is made, or after an error is made or not
  pub one : (a b : DiskState) (write : DiskWrite) → RevealsWrite write a b → PermittedThere a write → gives_label write ≡ true → LaterByLabels (write ∷ []) a b
  pub writes : (a b : DiskState) (write : DiskWrite) (result : Result (Unit {0}) DiskError) → Writes write a result b → PermittedThere a write → gives_label write ≡ true
      → OnOk result (LaterByLabels (write ∷ []) a b) × OnErr result (LaterByLabels [] a b ⊎ LaterByLabels (write ∷ []) a b)
  -- page bytes are no label write, whatever the answer
  pub writes_data : (a b : DiskState) (sector : ℕ) (wanted : Wanted) (page : List ℕ) (result : Result (Unit {0}) DiskError) → 0 < sector
      → WritesData sector wanted page a result b → LaterByLabels [] a b
  pub permitted : (run : List DiskWrite) (a b : DiskState) → LaterByLabels run a b → LawfullyLater a b
