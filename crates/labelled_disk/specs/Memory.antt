-- What a disk in memory holds, reveals and was made to do.
use Rattle.std.specs.Prelude.{◌≡◌, ℕ, ◌+◌, ◌-◌, ◌^◌, ◌≤◌, min, length, Bool, false, List, [], Contains, slice_get, Option, Some, None, Result, Ok, Err, if◌then◌else◌}
use Rattle.std.specs.Option.{option_map_or}
use Rattle.labelled_disk.specs.declared.label.Wanted.{Wanted}
use Rattle.labelled_disk.specs.declared.disk.DiskWrite.{DiskWrite}
use Rattle.labelled_disk.specs.declared.disk.DiskError.{DiskError}
use Rattle.labelled_disk.specs.declared.disk.DiskError.TheVariants.{Failed, Wrong}
use Rattle.labelled_disk.specs.Label.{names}
use Rattle.std.proofs.Common.{subst}
use Rattle.std.proofs.lemmas.Option.{same_Some}
use Rattle.labelled_disk.specs.declared.memory.MemoryDisk.{MemoryDisk}
use Rattle.labelled_disk.specs.State.{DiskState}

-- the writes, where they are kept
abbrev pub kept_writes : Bool → List DiskWrite → Option (List DiskWrite)
kept_writes recording writes = if recording then Some writes else None

-- how many writes are kept, where they are
abbrev pub kept_room : Bool → ℕ → Option ℕ
kept_room recording room = if recording then Some room else None

abbrev pub memory_state : {A : Type 0} → MemoryDisk A → DiskState
memory_state d = record {
  sectors = length d.cells.items;
  contents = Some d.cells.items;
  writes = if d.recording then Some d.writes.items else None;
  syncs = if d.recording then Some d.syncs.items else None;
  transfers = d.transfers;
  faults = d.faults;
  synced = d.synced;
  lent = [];
}

-- which calls fail, and how many writes are kept, where they are kept
pub record Plan : Type 0 where
  pub calls : List ℕ
  pub room : Option ℕ

abbrev pub memory_plan : {A : Type 0} → MemoryDisk A → Plan
memory_plan d = record { calls = d.failing.items; room = if d.recording then Some d.room else None }

-- the number of the next call that moves a sector; the count stays at the last value of u64
abbrev pub next_call : {A : Type 0} → MemoryDisk A → ℕ
next_call d = min (d.transfers + 1) (2 ^ 64 - 1)

-- the next call that moves a sector is one that is to fail
abbrev pub FailsNext : {A : Type 0} → MemoryDisk A → Type 0
FailsNext d = Contains (memory_plan d).calls (next_call d)

-- there is room for some writes alone, and these are as many
abbrev pub FillsRoom : Option ℕ → Option (List DiskWrite) → Type 0
FillsRoom (Some room) (Some writes) = room ≤ length writes
FillsRoom (Some room) None = ⊥
FillsRoom None writes = ⊥

-- writes are kept, and there is no room for one more
abbrev pub IsFull : {A : Type 0} → MemoryDisk A → Type 0
IsFull d = FillsRoom (memory_plan d).room (memory_state d).writes

-- the label of that sector names the page
abbrev pub names_at : {A : Type 0} → MemoryDisk A → ℕ → Wanted → Bool
names_at d sector wanted = option_map_or (λ s. names s.0 wanted) (slice_get d.cells.items sector) false

-- the disk failed
abbrev pub IsFailed : {T : Type 0} → Result T DiskError → Type 0
IsFailed (Ok x) = ⊥
IsFailed (Err Failed) = Unit {0}
IsFailed (Err (Wrong found)) = ⊥

-- one fault more where the disk failed, up to the last value of u64, and none more else
abbrev pub CountsFault : {T : Type 0} → Result T DiskError → ℕ → ℕ → Type 0
CountsFault (Ok x) before now = now ≡ before
CountsFault (Err Failed) before now = now ≡ min (before + 1) (2 ^ 64 - 1)
CountsFault (Err (Wrong found)) before now = now ≡ before

-- a call that moves a sector: its number is the transfers after it, a failure is a fault more, and the plan stays
pub record Counts {A T : Type 0} (result : Result T DiskError) (old new : MemoryDisk A) : Type 0 where
  pub transfers : new.transfers ≡ next_call old
  pub faults : CountsFault result old.faults new.faults
  pub plan : memory_plan new ≡ memory_plan old

-- a write that was made is not on the medium yet, and one that was not made leaves that as it was
abbrev pub StaysSyncedIfErr : {T : Type 0} → Result T DiskError → DiskState → DiskState → Type 0
StaysSyncedIfErr (Ok x) old new = new.synced ≡ false
StaysSyncedIfErr (Err e) old new = new.synced ≡ old.synced

-- what holds of the revealed list holds of the list
pub same_some : {X : Type 0} {x y : X} → Some x ≡ Some y → (P : X → Type 0) → P x → P y
same_some is P holds = subst P (same_Some _ _ is) holds
