-- Files that a session spares: of each sector after the root, what its label says of the file stays.
use Rattle.std.specs.Prelude.{◌≡◌, ◌≢◌, ◌⊎◌, ◌==◌, ◌<◌, ◌≤◌, ℕ, true, false, Bool, if◌then◌else◌, List, [], ◌∷◌, Option, Some, None, slice_get}
use Rattle.labelled_disk.specs.declared.label.Label.{Label}
use Rattle.labelled_disk.specs.declared.disk.DiskWrite.{DiskWrite}
use Rattle.labelled_disk.specs.declared.disk.DiskWrite.TheVariants.{Whole, LabelOnly, Page}
use Rattle.labelled_disk.specs.CrashState.{crash_state}
use Rattle.labelled_disk.specs.Label.{is_permanent, leader_page}
use Rattle.labelled_disk.specs.Sectors.{Sector}
use Rattle.labelled_disk.specs.State.{DiskState}
use Rattle.labelled_disk.specs.WriteRuns.{Appended}

-- the label of a sector, where it names this file
abbrev pub label_for : ℕ → Option Sector → Option Label
label_for id None = None
label_for id (Some s) = if s.0.id == id then Some s.0 else None

-- no sector after the root lost a label of the file, and none got one
abbrev pub HasSameLabels : ℕ → List Sector → List Sector → Type 0
HasSameLabels id d e = (i : ℕ) → 0 < i → label_for id (slice_get e i) ≡ label_for id (slice_get d i)

-- each leader of the file is a permanent one's
abbrev pub IsLasting : ℕ → List Sector → Type 0
IsLasting id d = (i : ℕ) (s : Sector) → 0 < i → slice_get d i ≡ Some s → s.0.id ≡ id → s.0.page ≡ leader_page → is_permanent s.0 ≡ true

-- Writes were made, and where the disk reveals them, a file whose leaders are all permanent has in each crash state of them the labels that
-- it had.
pub record Spares (id : ℕ) (old new : DiskState) : Type 0 where
  pub writes : List DiskWrite
  pub appended : Appended writes old new
  pub same : (d : List Sector) (earlier : List DiskWrite) → old.contents ≡ Some d → old.writes ≡ Some earlier → IsLasting id d
      → (k : ℕ) → HasSameLabels id d (crash_state d writes k)

-- what a call may be asked to leave alone: a file of a client's
abbrev pub SparesBut : ℕ → DiskState → DiskState → Type 0
SparesBut named old new = (id : ℕ) → 16 ≤ id → named ≢ id → Spares id old new

-- every file of a client's
abbrev pub SparesAll : DiskState → DiskState → Type 0
SparesAll old new = (id : ℕ) → 16 ≤ id → Spares id old new
