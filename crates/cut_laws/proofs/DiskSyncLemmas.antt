-- The cuts of a disk that reveals when it was settled.
use Rattle.std.proofs.Common.{◌≡◌, ◌≢◌, ◌⊎◌, inl, inr, ℕ, ◌<◌, ◌≤◌, ◌-◌, Bool, true, List, [], ◌∷◌, ◌++◌, length, Some, refl, sym, ◌∙◌, ap, subst, arith}
use Rattle.std.specs.Prelude.{Contains}
use Rattle.std.proofs.lemmas.List.Elements.{All-contains}
use Rattle.std.proofs.lemmas.Option.{same_Some, slice_get_within, get_or_from_slice_get}
use Rattle.labelled_disk.specs.declared.disk.DiskWrite.{DiskWrite}
use Rattle.labelled_disk.specs.CrashState.{crash_state}
use Rattle.labelled_disk.specs.Sectors.{Sector}
use Rattle.labelled_disk.specs.Syncing.{last_of, synced_at, AreSyncs, RevealsSyncs}
use Rattle.labelled_disk.specs.State.{DiskState}
use Rattle.labelled_disk.proofs.SyncLemmas.{added}
use Rattle.cut_laws.specs.Cut.{IsCut}
use Rattle.cut_laws.specs.Syncs.{last_sync, IsLastSync, Tears}
use Rattle.cut_laws.specs.SettledDisks.{DiskTears, IsDiskCut, DiskSyncLaws, SyncedHasNoOther}
use Rattle.cut_laws.proofs.CutLemmas.{cut_laws}
use Rattle.cut_laws.proofs.SyncLemmas.{sync_laws}

-- the last of the numbers is one of them
has_last : (xs : List ℕ) (n : ℕ) → last_of xs ≡ Some n → Contains xs n
has_last xs n is = (length xs - 1, slice_get_within xs (length xs - 1) n is, get_or_from_slice_get xs (length xs - 1) n n is)

module _ (n : ℕ) (synced : Bool) (syncs : List ℕ) (are : AreSyncs n synced syncs) where
  none_above : (s : ℕ) → Contains syncs s → s ≤ n
  none_above s has = All-contains (λ s. s ≤ n) syncs s are.made has

  -- where the last one is n, it is the last from n on
  last_from : last_of syncs ≡ Some n → (k : ℕ) → n ≤ k → last_sync syncs k ≡ Some n
  last_from is k low = ((sync_laws syncs k).revealed n).1 (record { made = has_last syncs n is; by_then = low; none_between = λ later has by. none_above later has })

  before : (k : ℕ) → k < n → last_sync (synced_at n syncs) k ≡ last_sync syncs k
  before k low = elim (added n syncs) [
    | inl same ↦ ap (λ (xs : List ℕ). last_sync xs k) same.0
    | inr more ↦ ap (λ (xs : List ℕ). last_sync xs k) more.0 ∙ (sync_laws syncs k).later n low
  ]

  after : (k : ℕ) → n ≤ k → last_sync (synced_at n syncs) k ≡ Some n
  after k low = elim (added n syncs) [
    | inl same ↦ ap (λ (xs : List ℕ). last_sync xs k) same.0 ∙ last_from same.1 k low
    | inr more ↦ ap (λ (xs : List ℕ). last_sync xs k) more.0 ∙ (sync_laws syncs k).last n low none_above
  ]

  pub disk_sync_laws : DiskSyncLaws n synced syncs
  disk_sync_laws = record {
    by_then = λ k s is. none_above s (((sync_laws syncs k).revealed s).0 is).made;
    now = λ is. last_from (are.last is) n (omega arith);
    before = before;
    after = after;
  }

pub synced_has_no_other : SyncedHasNoOther
synced_has_no_other d disk writes e reveals synced wrote cut =
    let same : cut.writes ≡ writes = same_Some cut.writes writes (sym cut.wrote ∙ wrote) in
    let are = reveals.are writes cut.syncs wrote cut.settled in
    let laws = disk_sync_laws (length writes) disk.synced cut.syncs are in
    let last : cut.last ≡ length writes = same_Some cut.last (length writes) (sym cut.is_last ∙ laws.now synced) in
    cut_laws.settled d writes (length writes) e
    (subst (λ (s : ℕ). IsCut d writes s (length writes) e) last (subst (λ (ws : List DiskWrite). IsCut d ws cut.last (length writes) e) same cut.cut))

-- what is so of each cut of a disk is so of one
pub tears_at : (P : ℕ → List Sector → Type 0) (d : List Sector) (disk : DiskState) (k : ℕ) (e : List Sector) → DiskTears P d disk → IsDiskCut d disk k e → P k e
tears_at P d disk k e tears cut = tears cut.writes cut.syncs cut.wrote cut.settled k cut.last e cut.is_last cut.cut

-- and what is so of each one, of all
pub tears_of_each : (P : ℕ → List Sector → Type 0) (d : List Sector) (disk : DiskState) → ((k : ℕ) (e : List Sector) → IsDiskCut d disk k e → P k e) → DiskTears P d disk
tears_of_each P d disk each writes syncs wrote settled k s e is cut =
    each k e (record { writes = writes; syncs = syncs; wrote = wrote; settled = settled; last = s; is_last = is; cut = cut })
