-- Labels of permanent files' leaders, and the syncs around what is written over them.
use Rattle.std.specs.Prelude.{◌≡◌, ◌⊎◌, ℕ, suc, ◌+◌, ◌≤◌, Bool, true, false, List, ◌++◌, length, Some, slice_get, Contains, MatchResult, Result}
use Rattle.labelled_disk.specs.declared.evidence.Halt.{Halt}
use Rattle.labelled_disk.specs.declared.label.Label.{Label}
use Rattle.labelled_disk.specs.declared.disk.DiskWrite.{DiskWrite}
use Rattle.labelled_disk.specs.declared.disk.DiskWrite.TheVariants.{LabelOnly}
use Rattle.labelled_disk.specs.CrashState.{crash_state}
use Rattle.labelled_disk.specs.Label.{is_free, is_permanent}
use Rattle.labelled_disk.specs.Sectors.{Sector}
use Rattle.labelled_disk.specs.State.{DiskState}
use Rattle.label_laws.specs.Cleared.{IsAfterClearing}
use Rattle.swapper_kernel.specs.Goes.{is_page_write}
use Rattle.label_calls.specs.Own.{RelabelsOwn}

-- The label `now` is written over `was`, after n writes. Where either is that of a permanent file's leader the disk was synced
-- just before. Where such a leader goes the disk was synced just after, too, or that is how it ended.
pub record IsSyncedAround (ended : Type 0) (syncs : List ℕ) (n : ℕ) (was now : Label) : Type 0 where
  pub before : (is_permanent was ≡ true) ⊎ (is_permanent now ≡ true) → Contains syncs n
  pub after : is_permanent was ≡ true → is_free now ≡ true → Contains syncs (suc n) ⊎ ended

-- so is each of these writes that is of a label without its page, made after n others on a disk that held d; one that failed may
-- end with the last
abbrev pub AreSyncedAround : Bool → List ℕ → ℕ → List Sector → List DiskWrite → Type 0
AreSyncedAround failed syncs n d writes = (k sector : ℕ) (now : Label) → slice_get writes k ≡ Some (LabelOnly sector now)
    → (s : Sector) → slice_get (crash_state d writes k) sector ≡ Some s
    → IsSyncedAround ((failed ≡ true) × (suc k ≡ length writes)) syncs (n + k) s.0 now

-- so is what was written between the two states
pub record SyncsAround (failed : Bool) (old new : DiskState) : Type 0 where
  pub around : (d : List Sector) (earlier writes : List DiskWrite) (before syncs : List ℕ) → old.contents ≡ Some d
      → old.writes ≡ Some earlier → new.writes ≡ Some (earlier ++ writes) → old.syncs ≡ Some before → new.syncs ≡ Some syncs
      → AreSyncedAround failed syncs (length earlier) d writes

-- so is what a call wrote; one that failed may end with a label
abbrev pub SyncsLeaders : {T : Type 0} → Result T Halt → DiskState → DiskState → Type 0
SyncsLeaders result old new = MatchResult result (λ x. SyncsAround false old new) (λ e. SyncsAround true old new)

-- labels without a page are written over those of one file alone, and a permanent one's leader between syncs
pub record RelabelsAround {T : Type 0} (id : ℕ) (result : Result T Halt) (old new : DiskState) : Type 0 where
  pub own : RelabelsOwn id old new
  pub around : SyncsLeaders result old new

-- so is one label that was written over another, or that may have been
abbrev pub SyncsAroundOne : Bool → Label → Label → DiskState → DiskState → Type 0
SyncsAroundOne failed was now old new = (earlier : List DiskWrite) (before syncs : List ℕ) → old.writes ≡ Some earlier
    → old.syncs ≡ Some before → new.syncs ≡ Some syncs → IsSyncedAround (failed ≡ true) syncs (length earlier) was now

-- the disk was synced after all that it reveals
abbrev pub SyncedThere : DiskState → DiskState → Type 0
SyncedThere old new = (earlier : List DiskWrite) (before syncs : List ℕ) → old.writes ≡ Some earlier → old.syncs ≡ Some before
    → new.syncs ≡ Some syncs → Contains syncs (length earlier)

-- Each label among these writes, made from this state on after n others, comes after a sync that was made since, or an earlier one with
-- nothing written since; where the contents are revealed, over what had been cleared by then.
abbrev pub AreAfterSync : DiskState → List ℕ → ℕ → List DiskWrite → Type 0
AreAfterSync old syncs n writes = (k : ℕ) (w : DiskWrite) → slice_get writes k ≡ Some w → is_page_write w ≡ false
    → (s : ℕ) × (s ≤ k) × Contains syncs (n + s) × ((d : List Sector) → old.contents ≡ Some d → IsAfterClearing d writes s k w)

-- Each label that was written between the two states comes after a sync that was made between them, or an earlier one with nothing
-- written since; where the contents are revealed, a fresh one over a sector that had been cleared by then, one without a page after no fresh
-- one. So once one is written all that was written before the first of the two is on the medium. So are the zeros under a fresh one,
-- where the free label of its sector was plain (identifier 0, page 0, flags below 4, last byte 0); under another free label the page may
-- be anything.
pub record LabelsAfterSync (old new : DiskState) : Type 0 where
  pub after : (earlier writes : List DiskWrite) (before syncs : List ℕ) → old.writes ≡ Some earlier → new.writes ≡ Some (earlier ++ writes)
      → old.syncs ≡ Some before → new.syncs ≡ Some syncs → AreAfterSync old syncs (length earlier) writes
