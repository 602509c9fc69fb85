-- Writes in a row that are permitted, each on the disk that those before it leave.
use Rattle.std.specs.Prelude.{◌≡◌, ℕ, ◌<◌, List, [], ◌∷◌, ◌++◌, slice_get, Some, Result}
use Rattle.labelled_disk.specs.declared.label.Wanted.{Wanted}
use Rattle.labelled_disk.specs.declared.disk.DiskError.{DiskError}
use Rattle.labelled_disk.specs.declared.disk.DiskWrite.{DiskWrite}
use Rattle.labelled_disk.specs.Calls.{OnlyReads, RevealsSame, RevealsWrite, Writes, WritesData}
use Rattle.labelled_disk.specs.Permitted.{Permitted}
use Rattle.labelled_disk.specs.CrashState.{crash_state, written}
use Rattle.labelled_disk.specs.Runs.{IsWriteInForm}
use Rattle.labelled_disk.specs.Sectors.{Sector, AreSectors}
use Rattle.labelled_disk.specs.State.{DiskState, lent_state}
use Rattle.labelled_disk.specs.WriteRuns.{after_writes, Appended}

-- each of these writes may be made where those before it were made
abbrev pub ArePermitted : List Sector → List DiskWrite → Type 0
ArePermitted d [] = Unit {0}
ArePermitted d (write ∷ writes) = Permitted d write × ArePermitted (written write d) writes

-- Where the contents are revealed, what was written since is permitted.
pub record LawfullyLater (old new : DiskState) : Type 0 where
  pub by : (d : List Sector) → old.contents ≡ Some d → (writes : List DiskWrite) × Appended writes old new × ArePermitted d writes

-- where the contents are revealed, the write may be made
abbrev pub PermittedThere : DiskState → DiskWrite → Type 0
PermittedThere disk write = (d : List Sector) → disk.contents ≡ Some d → Permitted d write

-- one row and then another are one row
abbrev pub PermittedAppended : Type 0
PermittedAppended = (d : List Sector) (first next : List DiskWrite) → ArePermitted d first → ArePermitted (after_writes first d) next → ArePermitted d (first ++ next)

-- and one row is two
abbrev pub PermittedSplit : Type 0
PermittedSplit = (d : List Sector) (first next : List DiskWrite) → ArePermitted d (first ++ next) → ArePermitted d first × ArePermitted (after_writes first d) next

-- each write of a permitted row is permitted on the crash state before it
abbrev pub EachIsPermitted : Type 0
EachIsPermitted = (d : List Sector) (writes : List DiskWrite) → ArePermitted d writes → (k : ℕ) (write : DiskWrite) → slice_get writes k ≡ Some write → Permitted (crash_state d writes k) write

-- and a row of such writes is permitted
abbrev pub PermittedByEach : Type 0
PermittedByEach = (d : List Sector) (writes : List DiskWrite) → ((k : ℕ) (write : DiskWrite) → slice_get writes k ≡ Some write → Permitted (crash_state d writes k) write) → ArePermitted d writes

-- where contents and writes were revealed, these more are revealed now, and each is permitted on the crash state before it
pub record RevealsPermitted (d : List Sector) (earlier : List DiskWrite) (now : DiskState) : Type 0 where
  pub more : List DiskWrite
  pub writes : now.writes ≡ Some (earlier ++ more)
  pub contents : now.contents ≡ Some (after_writes more d)
  pub each : (k : ℕ) (write : DiskWrite) → slice_get more k ≡ Some write → Permitted (crash_state d more k) write

-- where the labels and pages of the writes fit, each crash state of sectors has sectors
abbrev pub CrashStatesAreSectors : Type 0
CrashStatesAreSectors = (d : List Sector) (writes : List DiskWrite) (k : ℕ) → AreSectors d
    → ((j : ℕ) (write : DiskWrite) → slice_get writes j ≡ Some write → IsWriteInForm write) → AreSectors (crash_state d writes k)

-- permitted rows
pub record PermittedLaws : Type 0 where
  pub appended : PermittedAppended
  pub split : PermittedSplit
  pub each : EachIsPermitted
  pub by_each : PermittedByEach
  pub form : CrashStatesAreSectors

-- states of a disk, later and later
pub record LaterLaws : Type 0 where
  pub same : (a b : DiskState) → RevealsSame a b → LawfullyLater a b
  pub then_later : (a b c : DiskState) → LawfullyLater a b → LawfullyLater b c → LawfullyLater a c
  pub one : (a b : DiskState) (write : DiskWrite) → RevealsWrite write a b → PermittedThere a write → LawfullyLater a b
  pub only_reads : (a b : DiskState) → OnlyReads a b → LawfullyLater a b
  pub writes : (a b : DiskState) (write : DiskWrite) (result : Result (Unit {0}) DiskError) → Writes write a result b → PermittedThere a write → LawfullyLater a b
  pub writes_data : (a b : DiskState) (sector : ℕ) (wanted : Wanted) (page : List ℕ) (result : Result (Unit {0}) DiskError) → 0 < sector
      → WritesData sector wanted page a result b → LawfullyLater a b
  pub reveals : (a b : DiskState) (d : List Sector) (earlier : List DiskWrite) → LawfullyLater a b → a.contents ≡ Some d → a.writes ≡ Some earlier → RevealsPermitted d earlier b
  pub lent : (name : ℕ) (a b : DiskState) → LawfullyLater a b → LawfullyLater (lent_state name a) (lent_state name b)
  pub given_back : (name : ℕ) (a b : DiskState) → LawfullyLater (lent_state name a) (lent_state name b) → LawfullyLater a b
