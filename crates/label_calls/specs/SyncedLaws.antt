-- The syncs around leaders of permanent files: calls in a row, calls that write no label without its page, and one label over
-- another that was read.
use Rattle.std.proofs.Common.{◌≡◌, ◌⊎◌, inl, inr, ℕ, zero, suc, ◌+◌, Bool, true, false, List, [], ◌∷◌, ◌++◌, length, Some, refl, sym, ◌∙◌, ap, subst, arith}
use Rattle.std.specs.Prelude.{slice_get, option_map, Contains}
use Rattle.std.proofs.lemmas.Bool.{true≢false}
use Rattle.std.proofs.lemmas.List.{append_cancel_left, length-append}
use Rattle.std.proofs.lemmas.Option.{same_Some, none-some}
use Rattle.labelled_disk.specs.declared.label.Label.{Label}
use Rattle.labelled_disk.specs.declared.disk.DiskWrite.{DiskWrite}
use Rattle.labelled_disk.specs.declared.disk.DiskWrite.TheVariants as write
use Rattle.labelled_disk.specs.Calls.{RevealsSame, RevealsWrite}
use Rattle.labelled_disk.specs.CrashState.{crash_state}
use Rattle.labelled_disk.specs.Label.{is_free, is_permanent}
use Rattle.labelled_disk.specs.Sectors.{Sector}
use Rattle.labelled_disk.specs.State.{DiskState, HasLabel}
use Rattle.labelled_disk.specs.WriteRuns.{Appended, after_writes}
use Rattle.labelled_disk.proofs.WriteRunLemmas.{appended_none, appended_one, appended_then, crash_state-earlier, crash_state-later}
use Rattle.frame_pool.specs.Frames.{Slots}
use Rattle.swapper_kernel.specs.Goes.{KeepsSyncs, Pages, Makes, Went}
use Rattle.label_calls.specs.Labels.{MayHaveWritten}
use Rattle.label_calls.specs.OwnLaws.{AreWhole, none_alone, place_in, revealed_after, whole_among}
use Rattle.label_calls.specs.Synced.{IsSyncedAround, AreSyncedAround, SyncsAround, SyncsAroundOne}

-- the writes that were made are such
pub record WroteSynced (failed : Bool) (old new : DiskState) : Type 0 where
  pub writes : List DiskWrite
  pub appended : Appended writes old new
  pub kept : KeepsSyncs old new
  pub around : (d : List Sector) (earlier : List DiskWrite) (before syncs : List ℕ) → old.contents ≡ Some d → old.writes ≡ Some earlier → old.syncs ≡ Some before → new.syncs ≡ Some syncs
      → AreSyncedAround failed syncs (length earlier) d writes

pub syncs_around : {failed : Bool} {a b : DiskState} → WroteSynced failed a b → SyncsAround failed a b
syncs_around {failed = failed} wrote = record {
  around = λ d earlier writes before syncs revealed was now had has.
      subst (AreSyncedAround failed syncs (length earlier) d) (append_cancel_left earlier wrote.writes writes (same_Some (earlier ++ wrote.writes) (earlier ++ writes) (sym (revealed_after wrote.writes earlier wrote.appended was) ∙ now))) (wrote.around d earlier before syncs revealed was had has);
}

-- what a call says of its writes
pub wrote_synced : {failed : Bool} {pages : Pages} {run : List DiskWrite} {a b : DiskState} {s t : Slots} → Makes pages run a s b t → SyncsAround failed a b → WroteSynced failed a b
wrote_synced makes around = record {
  writes = makes.wrote.writes;
  appended = makes.wrote.appended;
  kept = makes.went.syncs;
  around = λ d earlier before syncs revealed was had has. around.around d earlier makes.wrote.writes before syncs revealed was (revealed_after makes.wrote.writes earlier makes.wrote.appended was) had has;
}

-- a call that wrote labels with their pages alone
pub whole_synced : (failed : Bool) {pages : Pages} {run : List DiskWrite} {a b : DiskState} {s t : Slots} → AreWhole run → Makes pages run a s b t → WroteSynced failed a b
whole_synced failed whole makes = record {
  writes = makes.wrote.writes;
  appended = makes.wrote.appended;
  kept = makes.went.syncs;
  around = λ d earlier before syncs revealed was had has k sector now at s here. absurd (none_alone makes.wrote.writes (whole_among makes.wrote.writes (subst AreWhole (sym makes.wrote.labels) whole)) k sector now at);
}

-- a call that wrote no label
pub quiet_synced : (failed : Bool) {pages : Pages} {a b : DiskState} {s t : Slots} → Makes pages [] a s b t → WroteSynced failed a b
quiet_synced failed makes = whole_synced failed tt makes

pub same_synced : (failed : Bool) {a b : DiskState} → RevealsSame a b → Went a b → WroteSynced failed a b
same_synced failed same went = record {
  writes = [];
  appended = appended_none same;
  kept = went.syncs;
  around = λ d earlier before syncs revealed was had has k sector now at s here. absurd (none-some (write.LabelOnly sector now) at);
}

-- the one after the other, of what a disk kept
pub kept_then : (a b c : DiskState) → KeepsSyncs a b → KeepsSyncs b c → KeepsSyncs a c
kept_then a b c first next syncs is =
    let between = first syncs is in
    let later = next between.0 between.1 in
    (later.0, later.1, λ s has. later.2 s (between.2 s has))

-- a sync that an earlier call made
pub kept_at : (b c : DiskState) (n : ℕ) (between syncs : List ℕ) → KeepsSyncs b c → b.syncs ≡ Some between → c.syncs ≡ Some syncs → Contains between n → Contains syncs n
kept_at b c n between syncs kept was now has =
    let later = kept between was in
    subst (λ (xs : List ℕ). Contains xs n) (same_Some later.0 syncs (sym later.1 ∙ now)) (later.2 n has)

-- one call that did not fail, and then another
pub synced_then : {failed : Bool} {a b c : DiskState} → WroteSynced false a b → WroteSynced failed b c → WroteSynced failed a c
synced_then {failed = failed} {a = a} {b = b} {c = c} one more = record {
  writes = one.writes ++ more.writes;
  appended = appended_then one.writes more.writes one.appended more.appended;
  kept = kept_then a b c one.kept more.kept;
  around = λ d earlier before syncs revealed was had has k sector now at s here.
      let between = one.kept before had in
      let first = one.around d earlier before between.0 revealed was had between.1 in
      let next = more.around (after_writes one.writes d) (earlier ++ one.writes) between.0 syncs
      (one.appended.contents ∙ ap (option_map (after_writes one.writes)) revealed) (revealed_after one.writes earlier one.appended was) between.1 has in
      elim (place_in one.writes more.writes k (write.LabelOnly sector now) at) [
        | inl (below, there) ↦
            let is = first k sector now there s (sym (ap (λ (l : List Sector). slice_get l sector) (crash_state-earlier d one.writes more.writes k (omega (arith, below)))) ∙ here) in
            record {
              before = λ of. kept_at b c (length earlier + k) between.0 syncs more.kept between.1 has (is.before of);
              after = λ goes free. elim (is.after goes free) [
                | inl synced ↦ inl (kept_at b c (suc (length earlier + k)) between.0 syncs more.kept between.1 has synced)
                | inr ended ↦ absurd (true≢false (sym ended.0))
              ];
            }
        | inr (j, past, there) ↦
            let is = next j sector now there s (sym (ap (λ (l : List Sector). slice_get l sector) (ap (crash_state d (one.writes ++ more.writes)) past ∙ crash_state-later d one.writes more.writes j)) ∙ here) in
            let long : length (earlier ++ one.writes) ≡ length earlier + length one.writes = length-append earlier one.writes in
            let all : length (one.writes ++ more.writes) ≡ length one.writes + length more.writes = length-append one.writes more.writes in
            let place : length (earlier ++ one.writes) + j ≡ length earlier + k = omega (arith, long, past) in
            record {
              before = λ of. subst (Contains syncs) place (is.before of);
              after = λ goes free. elim (is.after goes free) [
                | inl synced ↦ inl (subst (λ (n : ℕ). Contains syncs (suc n)) place synced)
                | inr ended ↦ let last = ended.1 in inr (ended.0, omega (arith, last, past, all))
              ];
            }
      ];
}

-- a call before another
pub around_after : {failed : Bool} {a b c : DiskState} → WroteSynced false a b → WroteSynced failed b c → SyncsAround failed a c
around_after first next = syncs_around (synced_then first next)

-- one write, over a label that was read
one_around : {failed : Bool} {syncs : List ℕ} {n : ℕ} {found : Label} (sector : ℕ) (label : Label) (d : List Sector) → option_map (λ (s : Sector). s.0) (slice_get d sector) ≡ Some found
    → IsSyncedAround (failed ≡ true) syncs n found label → AreSyncedAround failed syncs n d (write.LabelOnly sector label ∷ [])
one_around {failed = failed} {syncs = syncs} {n = n} {found = found} sector label d there is zero place next at s here =
    let same_place : sector ≡ place = ap sector_in (same_Some (write.LabelOnly sector label) (write.LabelOnly place next) at) in
    let same_label : label ≡ next = ap (label_in label) (same_Some (write.LabelOnly sector label) (write.LabelOnly place next) at) in
    let same_found : found ≡ s.0 = same_Some found s.0 (sym there ∙ ap (option_map (λ (x : Sector). x.0)) (ap (slice_get d) same_place ∙ here)) in
    let z : n ≡ n + 0 = omega arith in
    let end : ◌≡◌ {A = ℕ} (suc zero) 1 = refl in
    record {
      before = λ of. subst (Contains syncs) z (is.before (elim of [
        | inl goes ↦ inl (ap is_permanent same_found ∙ goes)
        | inr comes ↦ inr (ap is_permanent same_label ∙ comes)
      ]));
      after = λ goes free. elim (is.after (ap is_permanent same_found ∙ goes) (ap is_free same_label ∙ free)) [
        | inl synced ↦ inl (subst (λ (k : ℕ). Contains syncs (suc k)) z synced)
        | inr failing ↦ inr (failing, end)
      ];
    }
  where
    sector_in : DiskWrite → ℕ
    sector_in (write.Whole i l bytes) = i
    sector_in (write.LabelOnly i l) = i
    sector_in (write.Page i w bytes) = i

    label_in : Label → DiskWrite → Label
    label_in other (write.Whole i l bytes) = l
    label_in other (write.LabelOnly i l) = l
    label_in other (write.Page i w bytes) = other
one_around sector label d there is (suc k) place next at s here = absurd (none-some (write.LabelOnly place next) at)

wrote_one : {failed : Bool} {a b : DiskState} (sector : ℕ) (found label : Label) → HasLabel a sector found → RevealsWrite (write.LabelOnly sector label) a b → Went a b
    → SyncsAroundOne failed found label a b → WroteSynced failed a b
wrote_one sector found label there made went around = record {
  writes = write.LabelOnly sector label ∷ [];
  appended = appended_one (write.LabelOnly sector label) made;
  kept = went.syncs;
  around = λ d earlier before syncs revealed was had has. one_around sector label d (there d revealed) (around earlier before syncs was had has);
}

-- the label that was read is there still
has_label : {a b : DiskState} {sector : ℕ} {found : Label} → RevealsSame a b → HasLabel a sector found → HasLabel b sector found
has_label same there d revealed = there d (sym same.contents ∙ revealed)

-- A label was read, and another written over it.
pub read_synced : {a b c : DiskState} (sector : ℕ) (found label : Label) → HasLabel a sector found → RevealsSame a b → Went a b → RevealsWrite (write.LabelOnly sector label) b c → Went b c
    → SyncsAroundOne false found label b c → SyncsAround false a c
read_synced sector found label there same read made went around = around_after (same_synced false same read) (wrote_one sector found label (has_label same there) made went around)

-- or it may have been
pub read_stopped : {a b c : DiskState} (sector : ℕ) (found label : Label) → HasLabel a sector found → RevealsSame a b → Went a b
    → RevealsSame b c ⊎ RevealsWrite (write.LabelOnly sector label) b c → Went b c → RevealsSame b c ⊎ SyncsAroundOne true found label b c → SyncsAround true a c
read_stopped sector found label there same read (inl nothing) went around = around_after (same_synced false same read) (same_synced true nothing went)
read_stopped sector found label there same read (inr made) went (inl nothing) = around_after (same_synced false same read) (same_synced true nothing went)
read_stopped sector found label there same read (inr made) went (inr around) = around_after (same_synced false same read) (wrote_one sector found label (has_label same there) made went around)

-- a write that may have been made
pub may_synced : {failed : Bool} {w : DiskWrite} {a b : DiskState} {slots : Slots} → MayHaveWritten w a slots b → SyncsAround failed a b → WroteSynced failed a b
may_synced (inl nothing) around = wrote_synced nothing around
may_synced (inr made) around = wrote_synced made around
