-- Three rows of writes as calls make them, the first and the last of one write, with a sync after each.
use Rattle.std.proofs.Common.{◌≡◌, ℕ, ◌+◌, ◌≤◌, List, [], ◌++◌, length, length-append, take, Ok, Err, sym, ap, subst, arith, append_assoc}
use Rattle.std.proofs.lemmas.List.{take_all}
use Rattle.labelled_disk.specs.declared.disk.DiskError.{DiskError}
use Rattle.labelled_disk.specs.declared.disk.DiskWrite.{DiskWrite}
use Rattle.labelled_disk.specs.Calls.{Syncs}
use Rattle.labelled_disk.specs.State.{DiskState}
use Rattle.labelled_disk.specs.WriteRuns.{Appended}
use Rattle.labelled_disk.proofs.WriteRunLemmas.{appended_then, appended_no_more}
use Rattle.cut_words.specs.Barriers.{HasBarriers}
use Rattle.cut_words.specs.Between.{KeepsSyncs, SyncedAfter}
use Rattle.cut_words.proofs.BarrierRunLemmas.{stopped_first, stopped_middle, stopped_last, all_rows}
use Rattle.cut_words.proofs.KeepLemmas.{keeps_same, sync_keeps, synced_now, synced_later}

-- some first ones of a row were made
abbrev pub Part : List DiskWrite → DiskState → DiskState → Type 0
Part writes a b = (k : ℕ) × (k ≤ length writes) × Appended (take k writes) a b

-- some first ones of the three rows were made, with their syncs
abbrev pub MadePart : List DiskWrite → DiskState → DiskState → Type 0
MadePart writes a b = (made : ℕ) × HasBarriers writes made a b

module _ (first middle last : List DiskWrite) (one : length first ≡ 1) (end : length last ≡ 1) where
  abbrev row : List DiskWrite
  row = first ++ (middle ++ last)

  -- the first row is on the medium
  pub record IsFirstSynced (a b : DiskState) : Type 0 where
    pub made : Appended first a b
    pub synced : SyncedAfter 1 a b

  -- so are the first two
  pub record AreTwoSynced (a b : DiskState) : Type 0 where
    pub made : Appended (first ++ middle) a b
    pub synced : SyncedAfter 1 a b
    pub both : SyncedAfter (length first + length middle) a b

  pub first_failed : (a b : DiskState) → Part first a b → MadePart row a b
  first_failed a b part = (part.0, stopped_first first middle last one end part.0 a b part.1 part.2)

  pub first_unsynced : (a b c : DiskState) (e : DiskError) → Appended first a b → Syncs b (Err e) c → MadePart row a c
  first_unsynced a b c e made call = (
    length first,
    stopped_first first middle last one end (length first) a c (omega arith)
        (subst (λ (ws : List DiskWrite). Appended ws a c) (sym (take_all (length first) first (omega arith))) (appended_no_more first made call.same)),
  )

  pub first_synced : (a b c : DiskState) → Appended first a b → Syncs b (Ok tt) c → IsFirstSynced a c
  first_synced a b c made call = record {
    made = appended_no_more first made call.same;
    synced = subst (λ (n : ℕ). SyncedAfter n a c) one (synced_now a b c first made call);
  }

  pub middle_failed : (a b c : DiskState) → IsFirstSynced a b → Part middle b c → KeepsSyncs b c → MadePart row a c
  middle_failed a b c so_far part keeps = (
    length first + part.0,
    stopped_middle first middle last one end part.0 a c part.1
        (appended_then first (take part.0 middle) so_far.made part.2) (synced_later a b c 1 so_far.synced keeps),
  )

  module _ (a b c : DiskState) (so_far : IsFirstSynced a b) (more : Appended middle b c) (keeps : KeepsSyncs b c) where
    both_made : Appended (first ++ middle) a c
    both_made = appended_then first middle so_far.made more

    pub middle_unsynced : (f : DiskState) (e : DiskError) → Syncs c (Err e) f → MadePart row a f
    middle_unsynced f e call = (
      length first + length middle,
      stopped_middle first middle last one end (length middle) a f (omega arith)
          (subst (λ (ws : List DiskWrite). Appended (first ++ ws) a f) (sym (take_all (length middle) middle (omega arith))) (appended_no_more (first ++ middle) both_made call.same))
          (synced_later a c f 1 (synced_later a b c 1 so_far.synced keeps) (sync_keeps c f (Err e) call)),
    )

    pub middle_synced : (f : DiskState) → Syncs c (Ok tt) f → AreTwoSynced a f
    middle_synced f call = record {
      made = appended_no_more (first ++ middle) both_made call.same;
      synced = synced_later a c f 1 (synced_later a b c 1 so_far.synced keeps) (sync_keeps c f (Ok tt) call);
      both = subst (λ (n : ℕ). SyncedAfter n a f) (length-append first middle) (synced_now a c f (first ++ middle) both_made call);
    }

  module _ (a b c : DiskState) (so_far : AreTwoSynced a b) (keeps : KeepsSyncs b c) where
    abbrev before : ℕ
    before = length first + length middle

    pub last_failed : Part last b c → MadePart row a c
    last_failed part = (
      length first + (length middle + part.0),
      stopped_last first middle last one end part.0 a c part.1
          (subst (λ (ws : List DiskWrite). Appended ws a c) (append_assoc first middle (take part.0 last)) (appended_then (first ++ middle) (take part.0 last) so_far.made part.2))
          (synced_later a b c 1 so_far.synced keeps) (synced_later a b c before so_far.both keeps),
    )

    module _ (made : Appended last b c) where
      all_made : (f : DiskState) → KeepsSyncs c f → Appended row a f → HasBarriers row (length row) a f
      all_made f stay whole =
          all_rows first middle last one end a f whole (synced_later a c f 1 (synced_later a b c 1 so_far.synced keeps) stay)
          (synced_later a c f before (synced_later a b c before so_far.both keeps) stay)

      whole : Appended row a c
      whole = subst (λ (ws : List DiskWrite). Appended ws a c) (append_assoc first middle last) (appended_then (first ++ middle) last so_far.made made)

      pub last_unsynced : (f : DiskState) (e : DiskError) → Syncs c (Err e) f → MadePart row a f
      last_unsynced f e call = (length row, all_made f (sync_keeps c f (Err e) call) (appended_no_more row whole call.same))

      pub last_synced : (f : DiskState) → Syncs c (Ok tt) f → HasBarriers row (length row) a f
      last_synced f call = all_made f (sync_keeps c f (Ok tt) call) (appended_no_more row whole call.same)
