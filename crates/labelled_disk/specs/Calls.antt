-- What one call does to a disk.
use Rattle.std.specs.Prelude.{◌≡◌, ◌⊎◌, ℕ, ◌+◌, ◌≤◌, true, false, List, [], ◌∷◌, ◌++◌, option_map, Result, Ok, Err, IfOk, IfErr, OnOk, OnErr}
pub use Rattle.flat_mem.specs.Rises.{Rose}
use Rattle.labelled_disk.specs.declared.label.Label.{Label}
use Rattle.labelled_disk.specs.declared.label.Wanted.{Wanted}
use Rattle.labelled_disk.specs.declared.disk.DiskError.{DiskError}
use Rattle.labelled_disk.specs.declared.disk.DiskError.TheVariants.{Failed, Wrong}
use Rattle.labelled_disk.specs.declared.disk.DiskWrite.{DiskWrite}
use Rattle.labelled_disk.specs.declared.disk.DiskWrite.TheVariants.{Page}
use Rattle.labelled_disk.specs.Label.{names}
use Rattle.labelled_disk.specs.CrashState.{written}
use Rattle.labelled_disk.specs.Syncing.{synced_by}
use Rattle.labelled_disk.specs.State.{DiskState, Holds, HasLabel, NamesThere}

-- a count of transfers rose by one at most
pub record Moved (before now : ℕ) : Type 0 where
  pub later : before ≤ now
  pub by_one : now ≤ before + 1

-- P, where a call failed
abbrev pub OnFailed : {T : Type 0} → Result T DiskError → Type 0 → Type 0
OnFailed (Ok x) P = Unit {0}
OnFailed (Err Failed) P = P
OnFailed (Err (Wrong found)) P = Unit {0}

-- P of the label that was found in place of the wanted one
abbrev pub OnWrong : {T : Type 0} → Result T DiskError → (Label → Type 0) → Type 0
OnWrong (Ok x) P = Unit {0}
OnWrong (Err Failed) P = Unit {0}
OnWrong (Err (Wrong found)) P = P found

-- the disk reveals the same
pub record RevealsSame (old new : DiskState) : Type 0 where
  pub contents : new.contents ≡ old.contents
  pub writes : new.writes ≡ old.writes

-- the disk reveals of one write more
pub record RevealsWrite (write : DiskWrite) (old new : DiskState) : Type 0 where
  pub contents : new.contents ≡ option_map (written write) old.contents
  pub writes : new.writes ≡ option_map (λ writes. writes ++ write ∷ []) old.writes

-- a call that moves a sector
pub record Moves (old new : DiskState) : Type 0 where
  pub sectors : new.sectors ≡ old.sectors
  pub lent : new.lent ≡ old.lent
  pub syncs : new.syncs ≡ old.syncs
  pub transfers : Moved old.transfers new.transfers
  pub faults : old.faults ≤ new.faults

-- an error is a failure, and a fault was counted
pub record FailsWith {T : Type 0} (result : Result T DiskError) (old new : DiskState) : Type 0 where
  pub failed : IfErr result (λ e. e ≡ Failed)
  pub cause : OnErr result (Rose old.faults new.faults)

-- the label and page of the sector, and nothing changes
pub record Reads (old : DiskState) (sector : ℕ) (page : List ℕ) (result : Result Label DiskError) (new : DiskState) : Type 0 where
  pub found : IfOk result (λ label. Holds old sector (label, page))
  pub same : RevealsSame old new
  pub moves : Moves old new
  pub fails : FailsWith result old new
  pub synced : old.synced ≡ true → new.synced ≡ true

-- the write is made whole, or after an error whole or not at all
pub record Writes (write : DiskWrite) (old : DiskState) (result : Result (Unit {0}) DiskError) (new : DiskState) : Type 0 where
  pub written : OnOk result (RevealsWrite write old new)
  pub whole_or_absent : OnErr result (RevealsSame old new ⊎ RevealsWrite write old new)
  pub moves : Moves old new
  pub fails : FailsWith result old new

-- a page is written where the label names it, and nowhere else, whatever the answer
pub record WritesData (sector : ℕ) (wanted : Wanted) (page : List ℕ) (old : DiskState) (result : Result (Unit {0}) DiskError) (new : DiskState) : Type 0 where
  pub written : OnOk result (RevealsWrite (Page sector wanted page) old new)
  pub named : OnOk result (NamesThere old sector wanted true)
  pub wrong : OnWrong result (λ found. (names found wanted ≡ false) × HasLabel old sector found × RevealsSame old new)
  pub whole_or_absent : OnFailed result (RevealsSame old new ⊎ (RevealsWrite (Page sector wanted page) old new × NamesThere old sector wanted true))
  pub cause : OnFailed result (Rose old.faults new.faults)
  pub moves : Moves old new

-- all earlier writes are on the medium, and no sector moved
pub record Syncs (old : DiskState) (result : Result (Unit {0}) DiskError) (new : DiskState) : Type 0 where
  pub synced : OnOk result (new.synced ≡ true)
  pub sync_counts : OnOk result (new.syncs ≡ synced_by old.writes old.syncs)
  pub no_sync : OnErr result (new.syncs ≡ old.syncs)
  pub same : RevealsSame old new
  pub sectors : new.sectors ≡ old.sectors
  pub lent : new.lent ≡ old.lent
  pub transfers : new.transfers ≡ old.transfers
  pub faults : old.faults ≤ new.faults
  pub fails : FailsWith result old new

-- Calls in a row that wrote nothing.
pub record OnlyReads (old new : DiskState) : Type 0 where
  pub sectors : new.sectors ≡ old.sectors
  pub lent : new.lent ≡ old.lent
  pub contents : new.contents ≡ old.contents
  pub writes : new.writes ≡ old.writes
  pub syncs : new.syncs ≡ old.syncs
  pub transfers : old.transfers ≤ new.transfers
  pub faults : old.faults ≤ new.faults
  pub synced : old.synced ≡ true → new.synced ≡ true

-- Calls in a row that wrote nothing, and moved so many sectors at most.
pub record ReadsAtMost (most : ℕ) (old new : DiskState) : Type 0 where
  pub only : OnlyReads old new
  pub moved : new.transfers ≤ old.transfers + most
