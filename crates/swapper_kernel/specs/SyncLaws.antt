-- A sync, as a call among others.
use Rattle.std.proofs.Common.{◌≡◌, ◌⊎◌, inl, inr, ℕ, Bool, List, [], ◌∷◌, ◌++◌, length, true, Option, Some, None, Result, Ok, Err, ◌∙◌, refl, sym, ap, subst, arith}
use Rattle.std.specs.Prelude.{Contains, is_some, option_map}
use Rattle.std.proofs.lemmas.Bool.{true≢false}
use Rattle.std.proofs.lemmas.List.Elements.{Contains-append_left}
use Rattle.labelled_disk.specs.declared.disk.DiskError.{DiskError}
use Rattle.labelled_disk.specs.declared.disk.DiskWrite.{DiskWrite}
use Rattle.labelled_disk.specs.Calls.{Syncs}
use Rattle.labelled_disk.specs.Sectors.{Sector}
use Rattle.labelled_disk.specs.State.{DiskState}
use Rattle.labelled_disk.specs.Syncing.{AreSyncs, RevealsSyncs, synced_at, synced_by}
use Rattle.labelled_disk.proofs.SyncLemmas.{added, syncing_laws}
use Rattle.frame_pool.specs.Frames.{Slots}
use Rattle.swapper_kernel.specs.Goes.{KeepsSyncs, Swaps, Went, no_page}
use Rattle.swapper_kernel.specs.GoesLaws.{wrote_none}
use Rattle.swapper_kernel.specs.Stands.{Stands}

-- the disk was synced after so many writes, where it reveals its syncs
abbrev pub HasSync : DiskState → ℕ → Type 0
HasSync disk n = (syncs : List ℕ) × (disk.syncs ≡ Some syncs) × Contains syncs n

-- a sync loses none of those before it
keeps_at : (n : ℕ) (syncs : List ℕ) (s : ℕ) → Contains syncs s → Contains (synced_at n syncs) s
keeps_at n syncs s has = elim (added n syncs) [
  | inl same ↦ subst (λ (xs : List ℕ). Contains xs s) (sym same.0) has
  | inr more ↦ subst (λ (xs : List ℕ). Contains xs s) (sym more.0) (Contains-append_left syncs (n ∷ []) s has)
]

keeps_by : (writes : Option (List DiskWrite)) (revealed : Option (List ℕ)) (syncs : List ℕ) → revealed ≡ Some syncs
    → (later : List ℕ) × (synced_by writes revealed ≡ Some later) × ((s : ℕ) → Contains syncs s → Contains later s)
keeps_by None revealed syncs is = (syncs, is, λ s has. has)
keeps_by (Some writes) revealed syncs is =
    (synced_at (length writes) syncs, ap (option_map (synced_at (length writes))) is, keeps_at (length writes) syncs)

syncs_kept : (old new : DiskState) (result : Result (Unit {0}) DiskError) → Syncs old result new → KeepsSyncs old new
syncs_kept old new (Ok done) s syncs is =
    let kept = keeps_by old.writes old.syncs syncs is in
    (kept.0, s.sync_counts ∙ kept.1, kept.2)
syncs_kept old new (Err e) s syncs is = (syncs, s.no_sync ∙ is, λ s has. has)

-- the same disk later
pub synced_went : (old new : DiskState) (result : Result (Unit {0}) DiskError) → Syncs old result new → Went old new
synced_went old new result s = record {
  sectors = s.sectors;
  lent = s.lent;
  syncs = syncs_kept old new result s;
  faults = s.faults;
  transfers = omega (arith, s.transfers);
}

-- and the same memory
pub synced_swaps : (old new : DiskState) (result : Result (Unit {0}) DiskError) (slots : Slots) → Syncs old result new
    → Swaps old slots new slots
synced_swaps old new result slots s = record {
  makes = record {
    went = synced_went old new result s;
    dirty = λ id page is. inl is;
    wrote = wrote_none no_page slots s.same;
    count = refl;
  };
  memory = λ m stands. (m, record { sectors = stands.sectors; revealed = s.same.contents ∙ stands.revealed; merged = stands.merged }, refl);
}

-- what was synced stays so
pub has_sync_later : {a b : DiskState} (n : ℕ) → Went a b → HasSync a n → HasSync b n
has_sync_later n went has =
    let later = went.syncs has.0 has.1 in
    (later.0, later.1, later.2 n has.2)

last_has : (n : ℕ) (syncs : List ℕ) → AreSyncs n true syncs → Contains syncs n
last_has n syncs are = elim (added n syncs) [
  | inl same ↦ subst (λ (xs : List ℕ). Contains xs n) same.0 (((syncing_laws n true syncs are).added n).1 (inr refl))
  | inr more ↦ absurd (more.1 (are.last refl))
]

-- where all writes are on the medium, the last sync was after them
pub synced_has : (disk : DiskState) → RevealsSyncs disk.writes disk.syncs disk.synced → disk.synced ≡ true
    → (writes : List DiskWrite) → disk.writes ≡ Some writes → HasSync disk (length writes)
synced_has disk reveals synced writes is = by_syncs disk.syncs refl
  where
    by_syncs : (syncs : Option (List ℕ)) → disk.syncs ≡ syncs → HasSync disk (length writes)
    by_syncs (Some syncs) have = (
      syncs,
      have,
      last_has (length writes) syncs
          (subst (λ (b : Bool). AreSyncs (length writes) b syncs) synced (reveals.are writes syncs is have)),
    )
    by_syncs None none = absurd (true≢false (sym (ap is_some is) ∙ sym reveals.revealed ∙ ap is_some none))
