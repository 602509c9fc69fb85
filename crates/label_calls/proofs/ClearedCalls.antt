-- Sectors that were cleared, a sync, and the labels of pages.
use Rattle.std.proofs.Common.{◌≡◌, ℕ, ◌+◌, ◌≤◌, ◌<◌, List, [], length, take, Option, Some, None, refl, sym, ◌∙◌, ap, subst, arith}
use Rattle.std.specs.Prelude.{slice_get, option_map, Contains}
use Rattle.std.specs.List.{range_with_len}
use Rattle.std.proofs.lemmas.Option.{same_Some, none-some}
use Rattle.labelled_disk.specs.declared.label.Label.{Label}
use Rattle.labelled_disk.specs.declared.disk.DiskWrite.{DiskWrite}
use Rattle.labelled_disk.specs.declared.evidence.Evidence.{Evidence}
use Rattle.labelled_disk.specs.declared.evidence.Evidence.TheVariants as evidence
use Rattle.labelled_disk.specs.declared.evidence.Halt.{Halt}
use Rattle.labelled_disk.specs.declared.evidence.Halt.TheVariants as halt
use Rattle.labelled_disk.specs.Calls.{RevealsSame, Rose}
use Rattle.labelled_disk.specs.Runs.{growth}
use Rattle.labelled_disk.specs.Sectors.{Sector}
use Rattle.labelled_disk.specs.State.{DiskState, HasLabel}
use Rattle.labelled_disk.specs.WriteRuns.{after_writes}
use Rattle.labelled_disk.proofs.CallLemmas.{rose_earlier}
use Rattle.frame_pool.specs.Frames.{Slots}
use Rattle.swapper_kernel.specs.Goes.{Change, Makes, Pages, Same, Went, no_page, this_page}
use Rattle.swapper_kernel.specs.GoesLaws.{goes_then, goes_wider, makes_then, makes_wider, swaps_wider}
use Rattle.swapper_kernel.specs.Halts.{HasCause}
use Rattle.label_laws.specs.Cleared.{IsAfterClearing}
use Rattle.label_calls.specs.ClearedLaws.{later_after_sync}
use Rattle.label_calls.specs.Clearing.{Clears, ClearsPages, IsZeros, NamedCleared, RelabelsCleared, WritesFresh}
use Rattle.label_calls.specs.Fails.{FailsBy}
use Rattle.label_calls.specs.Labels.{Labels, HasOne, free_ones}
use Rattle.label_calls.specs.Own.{RelabelsOwn}
use Rattle.label_calls.specs.OwnLaws.{first_whole, growth_whole, quiet_own, relabels_own, whole_own}
use Rattle.label_calls.specs.Runs.{AreRight, IsOneTaken, NamedSome, RelabelsOnes}
use Rattle.label_calls.specs.Synced.{LabelsAfterSync, SyncedThere}
use Rattle.label_calls.specs.SyncedLaws.{kept_at}
use Rattle.label_calls.proofs.ClearingLemmas.{holds_after}
use Rattle.label_calls.proofs.RelabelLemmas.{same_swaps}

-- ---- Labels of one file.

growth_own : (other id kind page : ℕ) (is : List ℕ) {pages : Pages} {a b : DiskState} {s t : Slots} → Makes pages (growth id kind page is) a s b t → RelabelsOwn other a b
growth_own other id kind page is makes = relabels_own (whole_own other (growth_whole id kind page is) makes)

first_own : (other id kind page : ℕ) (is : List ℕ) (count : ℕ) {pages : Pages} {a b : DiskState} {s t : Slots} → Makes pages (take count (growth id kind page is)) a s b t → RelabelsOwn other a b
first_own other id kind page is count makes = relabels_own (whole_own other (first_whole count (growth id kind page is) (growth_whole id kind page is)) makes)

pub none_own : (other : ℕ) {pages : Pages} {a b : DiskState} {s t : Slots} → Makes pages [] a s b t → RelabelsOwn other a b
none_own other makes = relabels_own (quiet_own other makes)

-- ---- What stays.

-- the memory is what the writes make of it
abbrev IsMadeBy : List DiskWrite → Change
IsMadeBy run m n = n ≡ after_writes run m

-- sectors that were cleared, and a call that wrote nothing
pub clears_then_same : {sector pages done : ℕ} {a b c : DiskState} {slots : Slots} → Clears sector pages done a slots b → RevealsSame b c → Went b c → Clears sector pages done a slots c
clears_then_same {sector = sector} {pages = pages} {slots = slots} clears same went =
    let none = same_swaps slots same went in
    record {
      makes = makes_then clears.makes (makes_wider (this_page 0 0) (λ id page no. absurd no) none.makes);
      labels = λ d e was now. clears.labels d e was (sym same.contents ∙ now);
      zeros = λ e now. clears.zeros e (sym same.contents ∙ now);
      goes = λ free. goes_then (ClearsPages sector pages) Same (ClearsPages sector pages) (λ m n o is stays. subst (ClearsPages sector pages m) (sym stays) is) (clears.goes free) (swaps_wider (this_page 0 0) none);
    }

-- a sector whose label stayed had one of these labels where it has one now
same_one : (labels : Labels) (o p : Option Sector) → option_map (λ s. s.0) o ≡ option_map (λ s. s.0) p → (s : Sector) → p ≡ Some s → labels s.0 → (t : Sector) × (o ≡ Some t) × labels t.0
same_one labels None p same s here is = absurd (none-some s.0 (same ∙ ap (option_map (λ (t : Sector). t.0)) here))
same_one labels (Some t) p same s here is = (t, refl, subst labels (sym (same_Some t.0 s.0 (same ∙ ap (option_map (λ (x : Sector). x.0)) here))) is)

has_one : (labels : Labels) (m n : List Sector) (j : ℕ) → option_map (λ s. s.0) (slice_get m j) ≡ option_map (λ s. s.0) (slice_get n j) → HasOne labels n j → HasOne labels m j
has_one labels m n j same one = same_one labels (slice_get m j) (slice_get n j) same one.0 one.1 one.2

module _ {sector pages : ℕ} {a b c : DiskState} {slots : Slots} (first : Clears sector pages pages a slots b) (same : RevealsSame b c) (went : Went b c) where
  clears : Clears sector pages pages a slots c
  clears = clears_then_same first same went

  -- labels that sectors have were there at first
  one_before : (labels : Labels) (j : ℕ) → ((e : List Sector) → c.contents ≡ Some e → HasOne labels e j) → (d : List Sector) → a.contents ≡ Some d → HasOne labels d j
  one_before labels j one d was =
      let now = holds_after clears.makes d was in
      let e = after_writes clears.makes.wrote.writes d in
      has_one labels d e j (sym (clears.labels d e was now j)) (one e now)

  label_before : (j : ℕ) (found : Label) → HasLabel c j found → HasLabel a j found
  label_before j found there d was =
      let now = holds_after clears.makes d was in
      let e = after_writes clears.makes.wrote.writes d in
      sym (clears.labels d e was now j) ∙ there e now

  taken_before : (evidence : Evidence) → IsOneTaken sector pages c evidence → IsOneTaken sector pages a evidence
  taken_before (evidence.Mismatch i wanted found) is = (is.0, is.1, (is.2.0, is.2.1, label_before (sector + is.0) found is.2.2, is.2.3))
  taken_before (evidence.Malformed structure page) is = absurd is.2
  taken_before (evidence.Missing id page) is = absurd is.2

  -- the writes of the run after those of the zeros
  then_run : {run : List DiskWrite} {e : DiskState} {t : Slots} → Makes no_page run c slots e t → Makes (this_page 0 0) run a slots e t
  then_run made = makes_then clears.makes (makes_wider (this_page 0 0) (λ id page no. absurd no) made)

  -- a halt of the last call is one of the whole call
  cause_before : (e : DiskState) (h : Halt) → HasCause (IsOneTaken sector pages c) c e h → HasCause (IsOneTaken sector pages a) a e h
  cause_before e halt.Disk is = let faults = clears.makes.went.faults in rose_earlier a.faults c.faults e.faults faults is
  cause_before e (halt.Damaged evidence) is = taken_before evidence is

  seen_before : (e : DiskState) (h : Halt) → HasCause (IsOneTaken sector pages e) c e h → HasCause (IsOneTaken sector pages e) a e h
  seen_before e halt.Disk is = let faults = clears.makes.went.faults in rose_earlier a.faults c.faults e.faults faults is
  seen_before e (halt.Damaged evidence) is = is

  module _ {pool : Slots} (frames : pool ≡ slots) {e : DiskState} where
    -- the labels of pages
    pub cleared_made : (id kind page : ℕ) → RelabelsOnes (λ k. free_ones) sector pages (growth id kind page (range_with_len sector pages)) c pool e
        → RelabelsCleared sector pages (growth id kind page (range_with_len sector pages)) a slots e
    cleared_made id kind page ones =
        let run : List DiskWrite = growth id kind page (range_with_len sector pages) in
        let made = subst (λ (t : Slots). RelabelsOnes (λ k. free_ones) sector pages (growth id kind page (range_with_len sector pages)) c t e) frames ones in
        record {
          were = λ d was k below. one_before free_ones (sector + k) (λ f now. made.were f now k below) d was;
          makes = then_run made.relabels.makes;
          goes = λ free. goes_then (ClearsPages sector pages) (IsMadeBy run) (IsMadeBy run) (λ m n o is now. now ∙ is.1 id kind page) (clears.goes free)
              (goes_wider (IsMadeBy run) (IsMadeBy run) (this_page 0 0) (λ m n is. is) (λ i p no. absurd no) (made.relabels.goes free));
        }

    pub cleared_stopped : (run : List DiskWrite) → NamedSome (λ k. sector + k) (λ k. free_ones) run c pool e → NamedCleared (λ k. sector + k) (λ k. free_ones) run a slots e
    cleared_stopped run some =
        let made = subst (λ (t : Slots). NamedSome (λ k. sector + k) (λ k. free_ones) run c t e) frames some in
        record {
          count = made.count;
          within = made.within;
          makes = then_run made.makes;
          found = λ d was k below. one_before free_ones (sector + k) (λ f now. made.found f now k below) d was;
        }

    -- labels of one file
    pub cleared_own : (other id kind page : ℕ) → RelabelsOnes (λ k. free_ones) sector pages (growth id kind page (range_with_len sector pages)) c pool e → RelabelsOwn other a e
    cleared_own other id kind page ones = growth_own other id kind page (range_with_len sector pages) (cleared_made id kind page ones).makes

    pub stopped_own : (other id kind page : ℕ) → NamedSome (λ k. sector + k) (λ k. free_ones) (growth id kind page (range_with_len sector pages)) c pool e → RelabelsOwn other a e
    stopped_own other id kind page some =
        let stopped = cleared_stopped (growth id kind page (range_with_len sector pages)) some in
        first_own other id kind page (range_with_len sector pages) stopped.count stopped.makes

    -- how the whole call fails
    pub cleared_fails : (h : Halt) → FailsBy (AreRight (λ k. free_ones) sector pages pool) (IsOneTaken sector pages) c pool e h → FailsBy (AreRight (λ k. free_ones) sector pages slots) (IsOneTaken sector pages) a slots e h
    cleared_fails h how =
        let fails = subst (λ (t : Slots). FailsBy (AreRight (λ k. free_ones) sector pages t) (IsOneTaken sector pages) c t e h) frames how in
        record {
          sound = λ m stands right.
              let n = (clears.goes right.0).memory m stands in
              fails.sound n.0 n.1 (right.0, λ k below. has_one free_ones n.0 m (sector + k) (n.2.0 (sector + k)) (right.1 k below));
          cause = cause_before e h fails.cause;
          evidence_seen = seen_before e h fails.evidence_seen;
        }

-- ---- Where no label was written.

pub none_made : {a b : DiskState} {slots : Slots} (place : ℕ → ℕ) (labels : ℕ → Labels) (run : List DiskWrite) → Makes (this_page 0 0) [] a slots b slots → NamedCleared place labels run a slots b
none_made place labels run makes = record { count = 0; within = omega arith; makes = makes; found = λ d was k below. absurd (omega (arith, below)) }

pub fault_fails : (a b c : DiskState) {slots : Slots} (right : List Sector → Type 0) (shown : DiskState → Evidence → Type 0) (h : Halt) → a.faults ≤ b.faults → (h ≡ halt.Disk) × Rose b.faults c.faults → FailsBy right shown a slots c h
fault_fails a b c right shown h later is = record {
  sound = λ m stands fits. is.0;
  cause = subst (HasCause (shown a) a c) (sym is.0) (rose_earlier a.faults b.faults c.faults later is.1);
  evidence_seen = subst (HasCause (shown c) a c) (sym is.0) (rose_earlier a.faults b.faults c.faults later is.1);
}

-- ---- Labels after the sync.

-- fresh labels over sectors that were cleared before a sync
fresh_labels : (sector pages : ℕ) {b c e : DiskState} → ((d : List Sector) → b.contents ≡ Some d → (k : ℕ) → k < pages → IsZeros d (sector + k)) → RevealsSame b c → SyncedThere b c → Went b c → Went c e
    → WritesFresh sector pages c e → LabelsAfterSync b e
fresh_labels sector pages {c = c} {e = e} zeros same there went later fresh = record {
  after = λ earlier writes before syncs was now had has k w is label.
      let between = went.syncs before had in
      let synced = kept_at c e (length earlier) between.0 syncs later.syncs between.1 has (there earlier before between.0 was had between.1) in
      let place : length earlier ≡ length earlier + 0 = omega arith in (
        0,
        omega arith,
        subst (Contains syncs) place synced,
        λ d revealed.
            let one = fresh.fresh d earlier writes (same.contents ∙ revealed) (same.writes ∙ was) now k w is in
            subst (IsAfterClearing d writes 0 k) (sym one.3) (λ j from to. (one.4.0, one.5 j to ∙ one.4.1, record { free = one.4.2; zeros = zeros d revealed one.0 one.2 one.4.0 one.4.1 })),
      );
}

pub cleared_after_sync : {sector pages : ℕ} {a b c e : DiskState} {run : List DiskWrite} {slots t u v : Slots} → Clears sector pages pages a slots b → RevealsSame b c → SyncedThere b c → Makes no_page [] b t c u
    → Makes no_page run c u e v → WritesFresh sector pages c e → LabelsAfterSync a e
cleared_after_sync {sector = sector} {pages = pages} clears same there waits made fresh =
    later_after_sync clears.makes (makes_then waits made) (fresh_labels sector pages clears.zeros same there waits.went made.went fresh)
