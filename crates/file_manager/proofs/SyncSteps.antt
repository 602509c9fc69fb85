-- The syncs of calls in a row.
use Rattle.std.proofs.Common.{◌≡◌, ◌≢◌, ◌⊎◌, inl, inr, ℕ, zero, suc, ◌+◌, ◌≤◌, Bool, true, false, List, [], ◌∷◌, ◌++◌, length, Some, refl, sym, ◌∙◌, ap, subst, arith}
use Rattle.std.specs.Prelude.{slice_get, filter, not, Contains}
use Rattle.std.proofs.lemmas.Bool.{true≢false}
use Rattle.std.proofs.lemmas.List.{append_cancel_left, length-append}
use Rattle.std.proofs.lemmas.Option.{same_Some, none-some}
use Rattle.labelled_disk.specs.declared.disk.DiskWrite.{DiskWrite}
use Rattle.labelled_disk.specs.declared.disk.DiskWrite.TheVariants as write
use Rattle.labelled_disk.specs.Calls.{RevealsSame, Rose}
use Rattle.labelled_disk.specs.Runs.{freeing}
use Rattle.labelled_disk.specs.declared.evidence.Evidence.{Evidence}
use Rattle.labelled_disk.specs.declared.evidence.Halt.{Halt}
use Rattle.labelled_disk.specs.declared.evidence.Halt.TheVariants.{Disk}
use Rattle.labelled_disk.specs.declared.label.Label.{Label}
use Rattle.labelled_disk.specs.declared.layout.Layout.{Layout}
use Rattle.labelled_disk.specs.Sectors.{Sector}
use Rattle.labelled_disk.specs.State.{DiskState, HasLabel}
use Rattle.labelled_disk.specs.WriteRuns.{Appended}
use Rattle.labelled_disk.proofs.WriteRunLemmas.{appended_none, appended_then}
use Rattle.label_laws.specs.Cleared.{IsAfterClearing}
use Rattle.frame_pool.specs.Frames.{Slots}
use Rattle.swapper_kernel.specs.Goes.{Makes, Pages, Went, no_page, is_page_write}
use Rattle.swapper_kernel.specs.declared.manager.Manager.{Manager}
use Rattle.swapper_kernel.specs.Halts.{HasCause}
use Rattle.swapper_kernel.specs.HaltLaws.{rose_wider}
use Rattle.filer_kernel.specs.Becomes.{Becomes}
use Rattle.filer_kernel.specs.Causes.{IsFaultOrMismatch}
use Rattle.label_calls.specs.declared.page.Mark.{Mark}
use Rattle.label_calls.specs.ClearedLaws.{labels_after_sync, pages_alone}
pub use Rattle.label_calls.specs.ClearedLaws.{quiet_after}
use Rattle.label_calls.specs.Labels.{MayHaveWritten, with_mark}
use Rattle.label_calls.specs.OwnLaws.{place_in, revealed_after}
use Rattle.label_calls.specs.Synced.{SyncedThere, SyncsAround}
use Rattle.label_calls.specs.SyncedLaws.{WroteSynced, kept_at, kept_then, may_synced, wrote_synced}
use Rattle.file_manager.specs.Synced.{LabelsAfterSync, LabelsAreSynced, SyncsQuietly}

-- a sync alone
pub synced_alone : {a b : DiskState} → RevealsSame a b → Went a b → SyncedThere a b → SyncsQuietly a b
synced_alone {a = a} {b = b} same went there = record {
  writes = [];
  appended = appended_none same;
  pages = λ k w is. absurd (none-some w is);
  kept = went.syncs;
  place = 0;
  within = omega arith;
  synced = λ earlier before syncs was had has. let z : length earlier ≡ length earlier + 0 = omega arith in subst (Contains syncs) z (there earlier before syncs was had has);
}

-- after a call that wrote no label
pub quiet_first : {pages : Pages} {a b c : DiskState} {s t : Slots} → Makes pages [] a s b t → SyncsQuietly b c → SyncsQuietly a c
quiet_first {a = a} {b = b} {c = c} first next = record {
  writes = first.wrote.writes ++ next.writes;
  appended = appended_then first.wrote.writes next.writes first.wrote.appended next.appended;
  pages = λ k w is. elim (place_in first.wrote.writes next.writes k w is) [
    | inl (below, there) ↦ pages_alone first.wrote.writes first.wrote.labels k w there
    | inr (j, past, there) ↦ next.pages j w there
  ];
  kept = kept_then a b c first.went.syncs next.kept;
  place = length first.wrote.writes + next.place;
  within = let all : length (first.wrote.writes ++ next.writes) ≡ length first.wrote.writes + length next.writes = length-append first.wrote.writes next.writes in let within = next.within in omega (arith, all, within);
  synced = λ earlier before syncs was had has.
      let between = first.went.syncs before had in
      let there = next.synced (earlier ++ first.wrote.writes) between.0 syncs (revealed_after first.wrote.writes earlier first.wrote.appended was) between.1 has in
      let long : length (earlier ++ first.wrote.writes) ≡ length earlier + length first.wrote.writes = length-append earlier first.wrote.writes in
      let same : length (earlier ++ first.wrote.writes) + next.place ≡ length earlier + (length first.wrote.writes + next.place) = omega (arith, long) in
      subst (Contains syncs) same there;
}

-- before a call that wrote no label
pub quiet_last : {pages : Pages} {a b c : DiskState} {s t : Slots} → SyncsQuietly a b → Makes pages [] b s c t → SyncsQuietly a c
quiet_last {a = a} {b = b} {c = c} first next = record {
  writes = first.writes ++ next.wrote.writes;
  appended = appended_then first.writes next.wrote.writes first.appended next.wrote.appended;
  pages = λ k w is. elim (place_in first.writes next.wrote.writes k w is) [
    | inl (below, there) ↦ first.pages k w there
    | inr (j, past, there) ↦ pages_alone next.wrote.writes next.wrote.labels j w there
  ];
  kept = kept_then a b c first.kept next.went.syncs;
  place = first.place;
  within = let all : length (first.writes ++ next.wrote.writes) ≡ length first.writes + length next.wrote.writes = length-append first.writes next.wrote.writes in let within = first.within in omega (arith, all, within);
  synced = λ earlier before syncs was had has.
      let between = first.kept before had in
      kept_at b c (length earlier + first.place) between.0 syncs next.went.syncs between.1 has (first.synced earlier before between.0 was had between.1);
}

-- the writes of two calls in a row
same_writes : {a b c : DiskState} (first next earlier writes : List DiskWrite) → Appended first a b → Appended next b c → a.writes ≡ Some earlier → c.writes ≡ Some (earlier ++ writes) → first ++ next ≡ writes
same_writes first next earlier writes one two was now =
    append_cancel_left earlier (first ++ next) writes (same_Some (earlier ++ (first ++ next)) (earlier ++ writes) (sym (revealed_after (first ++ next) earlier (appended_then first next one two) was) ∙ now))

-- none of the labels is written with a page
abbrev AreBare : List DiskWrite → Type 0
AreBare [] = Unit {0}
AreBare (write.Whole i l bytes ∷ run) = ⊥
AreBare (write.LabelOnly i l ∷ run) = AreBare run
AreBare (write.Page i wanted bytes ∷ run) = AreBare run

-- where the writes of labels are such, so are all writes
bare_among : (writes : List DiskWrite) → AreBare (filter (λ w. not (is_page_write w)) writes) → AreBare writes
bare_among [] bare = tt
bare_among (write.Whole i l bytes ∷ writes) bare = absurd bare
bare_among (write.LabelOnly i l ∷ writes) bare = bare_among writes bare
bare_among (write.Page i wanted bytes ∷ writes) bare = bare_among writes bare

-- pages alone are such
pages_bare : (writes : List DiskWrite) → ((k : ℕ) (w : DiskWrite) → slice_get writes k ≡ Some w → is_page_write w ≡ true) → AreBare writes
pages_bare [] pages = tt
pages_bare (write.Whole i l bytes ∷ writes) pages = absurd (true≢false (sym (pages zero (write.Whole i l bytes) refl)))
pages_bare (write.LabelOnly i l ∷ writes) pages = pages_bare writes (λ k w is. pages (suc k) w is)
pages_bare (write.Page i wanted bytes ∷ writes) pages = pages_bare writes (λ k w is. pages (suc k) w is)

-- and both of two rows that are such
bare_then : (first next : List DiskWrite) → AreBare first → AreBare next → AreBare (first ++ next)
bare_then [] next one more = more
bare_then (write.Whole i l bytes ∷ first) next one more = absurd one
bare_then (write.LabelOnly i l ∷ first) next one more = bare_then first next one more
bare_then (write.Page i wanted bytes ∷ first) next one more = bare_then first next one more

-- pages that are freed
pub freeing_bare : (is : List ℕ) → AreBare (freeing is)
freeing_bare [] = tt
freeing_bare (i ∷ is) = freeing_bare is

-- the write is of a label with its page
abbrev is_whole : DiskWrite → Bool
is_whole (write.Whole i l bytes) = true
is_whole (write.LabelOnly i l) = false
is_whole (write.Page i wanted bytes) = false

-- no label with its page is among such writes
none_whole : (writes : List DiskWrite) → AreBare writes → (k i : ℕ) (l : Label) (page : List ℕ) → slice_get writes k ≢ Some (write.Whole i l page)
none_whole [] bare k i l page is = none-some (write.Whole i l page) is
none_whole (write.Whole j m bytes ∷ writes) bare k i l page is = bare
none_whole (write.LabelOnly j m ∷ writes) bare zero i l page is = true≢false (sym (ap is_whole (same_Some (write.LabelOnly j m) (write.Whole i l page) is)))
none_whole (write.LabelOnly j m ∷ writes) bare (suc k) i l page is = none_whole writes bare k i l page is
none_whole (write.Page j wanted bytes ∷ writes) bare zero i l page is = true≢false (sym (ap is_whole (same_Some (write.Page j wanted bytes) (write.Whole i l page) is)))
none_whole (write.Page j wanted bytes ∷ writes) bare (suc k) i l page is = none_whole writes bare k i l page is

-- so each label among them comes after no fresh one
bare_clearing : (d : List Sector) (writes : List DiskWrite) (s k : ℕ) (w : DiskWrite) → AreBare writes → slice_get writes k ≡ Some w → IsAfterClearing d writes s k w
bare_clearing d writes s k (write.Whole i l page) bare is = absurd (none_whole writes bare k i l page is)
bare_clearing d writes s k (write.LabelOnly i l) bare is = λ j sector fresh page from to. none_whole writes bare j sector fresh page
bare_clearing d writes s k (write.Page i wanted page) bare is = tt

-- labels after a sync, none of them with a page
pub labels_after : {pages : Pages} {run : List DiskWrite} {a b c : DiskState} {s t : Slots} → AreBare run → SyncsQuietly a b → Makes pages run b s c t → LabelsAfterSync a c
labels_after {a = a} {b = b} {c = c} bare first next = labels_after_sync (record {
  writes = first.writes ++ next.wrote.writes;
  appended = appended_then first.writes next.wrote.writes first.appended next.wrote.appended;
  kept = kept_then a b c first.kept next.went.syncs;
  after = λ earlier before syncs was had has k w is label.
      let between = first.kept before had in
      let synced = kept_at b c (length earlier + first.place) between.0 syncs next.went.syncs between.1 has (first.synced earlier before between.0 was had between.1) in
      let within = first.within in
      let all = bare_then first.writes next.wrote.writes (pages_bare first.writes first.pages) (bare_among next.wrote.writes (subst AreBare (sym next.wrote.labels) bare)) in
      elim (place_in first.writes next.wrote.writes k w is) [
        | inl (below, there) ↦ absurd (true≢false (sym (first.pages k w there) ∙ label))
        | inr (j, past, there) ↦ (first.place, omega (arith, within, past), synced, λ d revealed. bare_clearing d (first.writes ++ next.wrote.writes) first.place k w all is)
      ];
})

-- labels before a sync
pub labels_before : {pages : Pages} {run : List DiskWrite} {a b c : DiskState} {s t : Slots} → Makes pages run a s b t → SyncsQuietly b c → LabelsAreSynced a c
labels_before {c = c} first next = record {
  synced = λ earlier writes before syncs was now had has k w is label.
      let all = same_writes first.wrote.writes next.writes earlier writes first.wrote.appended next.appended was now in
      let between = first.went.syncs before had in
      let there = next.synced (earlier ++ first.wrote.writes) between.0 syncs (revealed_after first.wrote.writes earlier first.wrote.appended was) between.1 has in
      let long : length (earlier ++ first.wrote.writes) ≡ length earlier + length first.wrote.writes = length-append earlier first.wrote.writes in
      let same : length (earlier ++ first.wrote.writes) + next.place ≡ length earlier + (length first.wrote.writes + next.place) = omega (arith, long) in
      let count : length first.wrote.writes + length next.writes ≡ length writes = sym (length-append first.wrote.writes next.writes) ∙ ap length all in
      let within = next.within in
      elim (place_in first.wrote.writes next.writes k w (ap (λ (ws : List DiskWrite). slice_get ws k) all ∙ is)) [
        | inl (below, there_is) ↦ (length first.wrote.writes + next.place, omega (arith, below), omega (arith, within, count), subst (Contains syncs) same there)
        | inr (j, past, there_is) ↦ absurd (true≢false (sym (next.pages j w there_is) ∙ label))
      ];
}

-- after a call that wrote no label
pub quiet_before : {pages more : Pages} {run : List DiskWrite} {a b c : DiskState} {s t u v : Slots} → Makes pages [] a s b t → Makes more run b u c v → LabelsAreSynced b c → LabelsAreSynced a c
quiet_before first made next = record {
  synced = λ earlier writes before syncs was now had has k w is label.
      let all = same_writes first.wrote.writes made.wrote.writes earlier writes first.wrote.appended made.wrote.appended was now in
      let between = first.went.syncs before had in
      let long : length (earlier ++ first.wrote.writes) ≡ length earlier + length first.wrote.writes = length-append earlier first.wrote.writes in
      let count : length first.wrote.writes + length made.wrote.writes ≡ length writes = sym (length-append first.wrote.writes made.wrote.writes) ∙ ap length all in
      let mid = revealed_after first.wrote.writes earlier first.wrote.appended was in
      elim (place_in first.wrote.writes made.wrote.writes k w (ap (λ (ws : List DiskWrite). slice_get ws k) all ∙ is)) [
        | inl (below, there) ↦ absurd (true≢false (sym (pages_alone first.wrote.writes first.wrote.labels k w there) ∙ label))
        | inr (j, past, there) ↦
            let last = next.synced (earlier ++ first.wrote.writes) made.wrote.writes between.0 syncs mid (revealed_after made.wrote.writes (earlier ++ first.wrote.writes) made.wrote.appended mid) between.1 has j w there label in
            let later = last.1 in
            let within = last.2 in
            let same : length (earlier ++ first.wrote.writes) + last.0 ≡ length earlier + (length first.wrote.writes + last.0) = omega (arith, long) in
            (length first.wrote.writes + last.0, omega (arith, later, past), omega (arith, within, count), subst (Contains syncs) same last.3)
      ];
}

-- ---- A sync that failed, and a map before a sync.

pub fault_cause : (shown : Evidence → Type 0) (a b c : DiskState) (halt : Halt) → a.faults ≤ b.faults → (halt ≡ Disk) × Rose b.faults c.faults → HasCause shown a c halt
fault_cause shown a b c halt later is = subst (HasCause shown a c) (sym is.0) (rose_wider a.faults b.faults c.faults c.faults later (omega arith) is.1)

pub is_fault : (halt : Halt) → halt ≡ Disk → IsFaultOrMismatch halt
is_fault halt is = subst IsFaultOrMismatch (sym is) tt

pub became_read : {which : Manager} {layout : Layout} {m : List Sector} {P : List Sector → Type 0} {a b : DiskState} {s t : Slots} → RevealsSame a b → t ≡ s → Becomes which layout m P a s → Becomes which layout m P b t
became_read {which = which} {layout = layout} {m = m} {P = P} {b = b} same frames h = subst (λ (u : Slots). Becomes which layout m P b u) (sym frames) (record {
  memory = h.memory;
  stands = record { sectors = h.stands.sectors; revealed = same.contents ∙ h.stands.revealed; merged = h.stands.merged };
  differs = h.differs;
  is = h.is;
})

-- ---- A leader whose label may have got a mark.

pub leader_synced : {failed : Bool} {sector : ℕ} (mark : Mark) {a b : DiskState} {s t : Slots} → Makes no_page [] a s b t ⊎ ((label : Label) × HasLabel a sector label × MayHaveWritten (write.LabelOnly sector (with_mark mark label)) a s b) → SyncsAround failed a b → WroteSynced failed a b
leader_synced mark (inl nothing) around = wrote_synced nothing around
leader_synced mark (inr may) around = may_synced may.2 around
