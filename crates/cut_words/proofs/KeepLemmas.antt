-- Syncs that were made, after later calls.
use Rattle.std.proofs.Common.{◌≡◌, inl, inr, ℕ, ◌+◌, ◌-◌, List, [], ◌∷◌, ◌++◌, length, length-append, Option, Some, None, Result, Ok, Err, refl, sym, ◌∙◌, ap, subst}
use Rattle.std.specs.Prelude.{Contains, option_map}
use Rattle.std.proofs.lemmas.List.Elements.{Contains-push, Contains-append_left}
use Rattle.std.proofs.lemmas.Option.{same_Some, none-some, slice_get_within, get_or_from_slice_get}
use Rattle.labelled_disk.specs.declared.disk.DiskError.{DiskError}
use Rattle.labelled_disk.specs.declared.disk.DiskWrite.{DiskWrite}
use Rattle.labelled_disk.specs.Calls.{Moves, OnlyReads, Syncs}
use Rattle.labelled_disk.specs.State.{DiskState}
use Rattle.labelled_disk.specs.Syncing.{last_of, synced_at, synced_by}
use Rattle.labelled_disk.specs.WriteRuns.{Appended}
use Rattle.labelled_disk.proofs.SyncLemmas.{added}
use Rattle.cut_words.specs.Between.{KeepsSyncs, SyncedAfter}

-- where the syncs are the same
pub keeps_same : (a b : DiskState) → b.syncs ≡ a.syncs → KeepsSyncs a b
keeps_same a b same syncs revealed = (syncs, sym same ∙ revealed, λ s has. has)

pub keeps_then : (a b c : DiskState) → KeepsSyncs a b → KeepsSyncs b c → KeepsSyncs a c
keeps_then a b c first next syncs revealed =
    let mid = next syncs revealed in
    let low = first mid.0 mid.1 in
    (low.0, low.1, λ s has. mid.2 s (low.2 s has))

pub moved_keeps : (a b : DiskState) → Moves a b → KeepsSyncs a b
moved_keeps a b moves = keeps_same a b moves.syncs

pub reads_keep : (a b : DiskState) → OnlyReads a b → KeepsSyncs a b
reads_keep a b only = keeps_same a b only.syncs

-- the last of the numbers is one of them
has_last : (xs : List ℕ) (n : ℕ) → last_of xs ≡ Some n → Contains xs n
has_last xs n is = (length xs - 1, slice_get_within xs (length xs - 1) n is, get_or_from_slice_get xs (length xs - 1) n n is)

-- one sync more
kept_at : (n : ℕ) (xs : List ℕ) (s : ℕ) → Contains xs s → Contains (synced_at n xs) s
kept_at n xs s has = elim (added n xs) [
  | inl same ↦ subst (λ (l : List ℕ). Contains l s) (sym same.0) has
  | inr more ↦ subst (λ (l : List ℕ). Contains l s) (sym more.0) (Contains-append_left xs (n ∷ []) s has)
]

there_at : (n : ℕ) (xs : List ℕ) → Contains (synced_at n xs) n
there_at n xs = elim (added n xs) [
  | inl same ↦ subst (λ (l : List ℕ). Contains l n) (sym same.0) (has_last xs n same.1)
  | inr more ↦ subst (λ (l : List ℕ). Contains l n) (sym more.0) (Contains-push xs n)
]

-- what a disk reveals after one more: those of before, and it
revealed_by : (writes : Option (List DiskWrite)) (before : Option (List ℕ)) (syncs : List ℕ) → synced_by writes before ≡ Some syncs
    → (xs : List ℕ) × (before ≡ Some xs) × ((s : ℕ) → Contains xs s → Contains syncs s) × ((made : List DiskWrite) → writes ≡ Some made → Contains syncs (length made))
revealed_by None before syncs is = (syncs, is, λ s has. has, λ made wrote. absurd (none-some made wrote))
revealed_by (Some made) None syncs is = absurd (none-some syncs is)
revealed_by (Some made) (Some xs) syncs is =
    let same : synced_at (length made) xs ≡ syncs = same_Some (synced_at (length made) xs) syncs is in (
      xs,
      refl,
      λ s has. subst (λ (l : List ℕ). Contains l s) same (kept_at (length made) xs s has),
      λ other wrote. subst (λ (l : List DiskWrite). Contains syncs (length l)) (same_Some made other wrote)
          (subst (λ (l : List ℕ). Contains l (length made)) same (there_at (length made) xs)),
    )

-- a sync, whatever its answer
pub sync_keeps : (a b : DiskState) (r : Result (Unit {0}) DiskError) → Syncs a r b → KeepsSyncs a b
sync_keeps a b (Ok x) call syncs revealed =
    let by = revealed_by a.writes a.syncs syncs (sym call.sync_counts ∙ revealed) in (by.0, by.1, by.2)
sync_keeps a b (Err e) call syncs revealed = keeps_same a b call.no_sync syncs revealed

-- the sync after these writes
pub synced_now : (a b c : DiskState) (writes : List DiskWrite) → Appended writes a b → Syncs b (Ok tt) c → SyncedAfter (length writes) a c
synced_now a b c writes made call earlier syncs wrote revealed =
    let by = revealed_by b.writes b.syncs syncs (sym call.sync_counts ∙ revealed) in
    subst (λ (n : ℕ). Contains syncs n) (length-append earlier writes)
    (by.3 (earlier ++ writes) (made.revealed ∙ ap (option_map (λ (l : List DiskWrite). l ++ writes)) wrote))

-- is not lost
pub synced_later : (a b c : DiskState) (i : ℕ) → SyncedAfter i a b → KeepsSyncs b c → SyncedAfter i a c
synced_later a b c i has keeps earlier syncs wrote revealed =
    let before = keeps syncs revealed in before.2 (length earlier + i) (has earlier before.0 wrote before.1)
