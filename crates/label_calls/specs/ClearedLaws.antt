-- Labels that come after a sync, fresh ones over sectors that were cleared: calls in a row, and calls that write no label.
use Rattle.std.proofs.Common.{◌≡◌, inl, inr, ℕ, zero, suc, ◌+◌, ◌-◌, ◌<◌, true, List, [], ◌∷◌, ◌++◌, length, Some, sym, ◌∙◌, ap, subst, arith}
use Rattle.std.specs.Prelude.{slice_get, filter, not, option_map, Contains}
use Rattle.std.proofs.lemmas.Bool.{true≢false}
use Rattle.std.proofs.lemmas.List.{append_cancel_left, length-append}
use Rattle.std.proofs.lemmas.Option.{same_Some, none-some}
use Rattle.labelled_disk.specs.declared.disk.DiskWrite.{DiskWrite}
use Rattle.labelled_disk.specs.declared.disk.DiskWrite.TheVariants as write
use Rattle.labelled_disk.specs.CrashState.{crash_state}
use Rattle.labelled_disk.specs.Sectors.{Sector}
use Rattle.labelled_disk.specs.State.{DiskState}
use Rattle.labelled_disk.specs.WriteRuns.{Appended, after_writes}
use Rattle.labelled_disk.proofs.WriteRunLemmas.{appended_then, crash_state-earlier, crash_state-later}
use Rattle.frame_pool.specs.Frames.{Slots}
use Rattle.swapper_kernel.specs.Goes.{KeepsSyncs, Makes, Pages, is_page_write}
use Rattle.label_laws.specs.Cleared.{IsAfterClearing}
use Rattle.label_calls.specs.OwnLaws.{place_in, revealed_after}
use Rattle.label_calls.specs.Synced.{AreAfterSync, LabelsAfterSync}
use Rattle.label_calls.specs.SyncedLaws.{kept_at, kept_then}

-- the labels of the writes that were made come after a sync, fresh ones over what was cleared
pub record WroteAfterSync (old new : DiskState) : Type 0 where
  pub writes : List DiskWrite
  pub appended : Appended writes old new
  pub kept : KeepsSyncs old new
  pub after : (earlier : List DiskWrite) (before syncs : List ℕ) → old.writes ≡ Some earlier → old.syncs ≡ Some before → new.syncs ≡ Some syncs → AreAfterSync old syncs (length earlier) writes

pub labels_after_sync : {a b : DiskState} → WroteAfterSync a b → LabelsAfterSync a b
labels_after_sync {a = a} wrote = record {
  after = λ earlier writes before syncs was now had has.
      subst (AreAfterSync a syncs (length earlier)) (append_cancel_left earlier wrote.writes writes (same_Some (earlier ++ wrote.writes) (earlier ++ writes) (sym (revealed_after wrote.writes earlier wrote.appended was) ∙ now))) (wrote.after earlier before syncs was had has);
}

-- what a call says of its writes
pub wrote_after_sync : {pages : Pages} {run : List DiskWrite} {a b : DiskState} {s t : Slots} → Makes pages run a s b t → LabelsAfterSync a b → WroteAfterSync a b
wrote_after_sync makes labels = record {
  writes = makes.wrote.writes;
  appended = makes.wrote.appended;
  kept = makes.went.syncs;
  after = λ earlier before syncs was had has. labels.after earlier makes.wrote.writes before syncs was (revealed_after makes.wrote.writes earlier makes.wrote.appended was) had has;
}

-- where no label is among them, all are pages
pub pages_alone : (writes : List DiskWrite) → filter (λ w. not (is_page_write w)) writes ≡ [] → (k : ℕ) (w : DiskWrite) → slice_get writes k ≡ Some w → is_page_write w ≡ true
pages_alone [] none k w is = absurd (none-some w is)
pages_alone (write.Whole i l bytes ∷ writes) none k w is = absurd (let e = ap length none in omega (arith, e))
pages_alone (write.LabelOnly i l ∷ writes) none k w is = absurd (let e = ap length none in omega (arith, e))
pages_alone (write.Page i wanted bytes ∷ writes) none zero w is = ap is_page_write (sym (same_Some (write.Page i wanted bytes) w is))
pages_alone (write.Page i wanted bytes ∷ writes) none (suc k) w is = pages_alone writes none k w is

-- a call that wrote no label
pub quiet_after_sync : {pages : Pages} {a b : DiskState} {s t : Slots} → Makes pages [] a s b t → WroteAfterSync a b
quiet_after_sync makes = record {
  writes = makes.wrote.writes;
  appended = makes.wrote.appended;
  kept = makes.went.syncs;
  after = λ earlier before syncs was had has k w is label. absurd (true≢false (sym (pages_alone makes.wrote.writes makes.wrote.labels k w is) ∙ label));
}

-- what is so of a label among the first of two rows of writes is so of it among both
pub clearing_earlier : (d : List Sector) (first next : List DiskWrite) (s k : ℕ) (w : DiskWrite) → k < length first → IsAfterClearing d first s k w → IsAfterClearing d (first ++ next) s k w
clearing_earlier d first next s k (write.Whole sector label page) below stays = λ j from to.
    let t = stays j from to in
    (t.0, ap (λ (l : List Sector). slice_get l sector) (crash_state-earlier d first next j (omega (arith, to, below))) ∙ t.1, t.2)
clearing_earlier d first next s k (write.LabelOnly sector label) below none = λ j i fresh page from to at. elim (place_in first next j (write.Whole i fresh page) at) [
  | inl (low, there) ↦ none j i fresh page from to there
  | inr (m, past, there) ↦ absurd (omega (arith, past, to, below))
]
clearing_earlier d first next s k (write.Page sector wanted page) below is = tt

-- and so it is among the later ones
pub clearing_later : (d : List Sector) (first next : List DiskWrite) (s k : ℕ) (w : DiskWrite) → IsAfterClearing (after_writes first d) next s k w → IsAfterClearing d (first ++ next) (length first + s) (length first + k) w
clearing_later d first next s k (write.Whole sector label page) stays = λ j from to.
    let past : j ≡ length first + (j - length first) = omega (arith, from) in
    let t = stays (j - length first) (omega (arith, from)) (omega (arith, from, to)) in
    (t.0, ap (λ (l : List Sector). slice_get l sector) (ap (crash_state d (first ++ next)) past ∙ crash_state-later d first next (j - length first)) ∙ t.1, t.2)
clearing_later d first next s k (write.LabelOnly sector label) none = λ j i fresh page from to at. elim (place_in first next j (write.Whole i fresh page) at) [
  | inl (low, there) ↦ absurd (omega (arith, from, low))
  | inr (m, past, there) ↦ none m i fresh page (omega (arith, from, past)) (omega (arith, to, past)) there
]
clearing_later d first next s k (write.Page sector wanted page) is = tt

-- one call, and then another
pub after_sync_then : {a b c : DiskState} → WroteAfterSync a b → WroteAfterSync b c → WroteAfterSync a c
after_sync_then {a = a} {b = b} {c = c} one more = record {
  writes = one.writes ++ more.writes;
  appended = appended_then one.writes more.writes one.appended more.appended;
  kept = kept_then a b c one.kept more.kept;
  after = λ earlier before syncs was had has k w is label.
      let between = one.kept before had in
      let first = one.after earlier before between.0 was had between.1 in
      let next = more.after (earlier ++ one.writes) between.0 syncs (revealed_after one.writes earlier one.appended was) between.1 has in
      elim (place_in one.writes more.writes k w is) [
        | inl (below, there) ↦
            let at = first k w there label in
            (at.0, at.1, kept_at b c (length earlier + at.0) between.0 syncs more.kept between.1 has at.2, λ d revealed. clearing_earlier d one.writes more.writes at.0 k w below (at.3 d revealed))
        | inr (j, past, there) ↦
            let at = next j w there label in
            let later = at.1 in
            let long : length (earlier ++ one.writes) ≡ length earlier + length one.writes = length-append earlier one.writes in
            let place : length (earlier ++ one.writes) + at.0 ≡ length earlier + (length one.writes + at.0) = omega (arith, long) in (
              length one.writes + at.0,
              omega (arith, later, past),
              subst (Contains syncs) place at.2,
              λ d revealed.
                  let between_it = one.appended.contents ∙ ap (option_map (after_writes one.writes)) revealed in
                  subst (λ (n : ℕ). IsAfterClearing d (one.writes ++ more.writes) (length one.writes + at.0) n w) (sym past)
                  (clearing_later d one.writes more.writes at.0 j w (at.3 (after_writes one.writes d) between_it)),
            )
      ];
}

-- a call that wrote no label has none before a sync
pub quiet_after : {pages : Pages} {a b : DiskState} {s t : Slots} → Makes pages [] a s b t → LabelsAfterSync a b
quiet_after makes = labels_after_sync (quiet_after_sync makes)

-- labels after a sync, before a call that wrote none
pub earlier_after_sync : {pages more : Pages} {run : List DiskWrite} {a b c : DiskState} {s t u v : Slots} → Makes pages run a s b t → LabelsAfterSync a b → Makes more [] b u c v → LabelsAfterSync a c
earlier_after_sync made labels next = labels_after_sync (after_sync_then (wrote_after_sync made labels) (quiet_after_sync next))

-- labels after a sync, after a call that wrote none
pub later_after_sync : {pages more : Pages} {run : List DiskWrite} {a b c : DiskState} {s t u v : Slots} → Makes pages [] a s b t → Makes more run b u c v → LabelsAfterSync b c → LabelsAfterSync a c
later_after_sync first made labels = labels_after_sync (after_sync_then (quiet_after_sync first) (wrote_after_sync made labels))

-- labels after a sync, and then others
pub both_after_sync : {pages more : Pages} {run rest : List DiskWrite} {a b c : DiskState} {s t u v : Slots} → Makes pages run a s b t → LabelsAfterSync a b → Makes more rest b u c v → LabelsAfterSync b c → LabelsAfterSync a c
both_after_sync made labels next also = labels_after_sync (after_sync_then (wrote_after_sync made labels) (wrote_after_sync next also))
