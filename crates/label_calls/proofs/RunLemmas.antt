-- One label after the other.
use Rattle.std.proofs.Common.{◌≡◌, ◌≢◌, inl, inr, ℕ, zero, suc, ◌+◌, ◌*◌, ◌≤◌, ◌<◌, List, [], ◌∷◌, ◌++◌, map, Option, Some, None, refl, sym, ◌∙◌, ap, subst, arith}
use Rattle.std.specs.Prelude.{slice_get, slice_set, option_map, take}
use Rattle.std.specs.List.{range_with_len}
use Rattle.std.specs.Option.{option_map_or}
use Rattle.std.proofs.lemmas.Bool.{cases_eq}
use Rattle.std.proofs.lemmas.List.FromFn.{map-range_with_len_more, length-map-range_with_len, take-map-range_with_len}
use Rattle.labelled_disk.specs.declared.label.Label.{Label}
use Rattle.labelled_disk.specs.declared.layout.Layout.{Layout}
use Rattle.labelled_disk.specs.declared.disk.DiskWrite.{DiskWrite}
use Rattle.labelled_disk.specs.declared.disk.DiskWrite.TheVariants as write
use Rattle.labelled_disk.specs.declared.label.Wanted.{Wanted}
use Rattle.labelled_disk.specs.declared.evidence.Evidence.{Evidence}
use Rattle.labelled_disk.specs.declared.evidence.Evidence.TheVariants as evidence
use Rattle.labelled_disk.specs.declared.evidence.Halt.{Halt}
use Rattle.labelled_disk.specs.declared.evidence.Halt.TheVariants as halt
use Rattle.labelled_disk.specs.CrashState.{written}
use Rattle.labelled_disk.specs.Runs.{growth, freeing, zero_bytes}
use Rattle.labelled_disk.specs.Label.{page_label}
use Rattle.labelled_disk.specs.Sectors.{Sector, free_label}
use Rattle.labelled_disk.specs.State.{DiskState, HasLabel}
use Rattle.labelled_disk.specs.WriteRuns.{Appended, after_writes}
use Rattle.labelled_disk.proofs.Finds.{get_set_other}
use Rattle.labelled_disk.proofs.CallLemmas.{rose_earlier}
use Rattle.labelled_disk.proofs.WriteRunLemmas.{appended_none, appended_then, after_writes-append}
use Rattle.frame_pool.specs.Frames.{Slots}
use Rattle.swapper_kernel.specs.Goes.{Goes, Makes, no_page}
use Rattle.swapper_kernel.specs.GoesLaws.{makes_nothing, makes_then, goes_itself, goes_then}
use Rattle.swapper_kernel.specs.Halts.{HasCause}
use Rattle.swapper_kernel.specs.Stands.{Stands}
use Rattle.swapper_kernel.specs.StepLaws.{IsLabelled}
use Rattle.label_calls.specs.Fails.{FailsBy}
use Rattle.label_calls.specs.Labels.{Labels, HasOne, IsUncovered, Relabels, MayRelabel, IsTaken, IsNotOf}
use Rattle.label_calls.specs.Runs.{AreUncovered, RelabelsRun, NamedSome}

-- a label write leaves all other sectors
pub write_elsewhere : (w : DiskWrite) (k j : ℕ) (d : List Sector) → IsLabelled w k → j ≢ k → slice_get (written w d) j ≡ slice_get d j
write_elsewhere (write.Whole sector label page) k j d is apart = get_set_other d sector j (label, page) (λ same. apart (same ∙ is))
write_elsewhere (write.LabelOnly sector label) k j d is apart = either (slice_get d sector)
  where
    either : (o : Option Sector) → slice_get (option_map_or (λ old. slice_set d sector (label, old.1)) o d) j ≡ slice_get d j
    either None = refl
    either (Some old) = get_set_other d sector j (label, old.1) (λ same. apart (same ∙ is))
write_elsewhere (write.Page sector wanted page) k j d is apart = absurd is

-- the writes of the first k turns
abbrev pub turns : (ℕ → DiskWrite) → ℕ → List DiskWrite
turns f k = map f (range_with_len 0 k)

pub turns_more : (f : ℕ → DiskWrite) (k : ℕ) → turns f (k + 1) ≡ turns f k ++ f k ∷ []
turns_more f k = map-range_with_len_more f 0 k k (omega arith)

pub turns_next : (f : ℕ → DiskWrite) (k : ℕ) → turns f (suc k) ≡ turns f k ++ f k ∷ []
turns_next f k = let z : suc k ≡ k + 1 = omega arith in ap (turns f) z ∙ turns_more f k

-- they leave the sectors that aren't in their places
pub turns_elsewhere : (place : ℕ → ℕ) (f : ℕ → DiskWrite) → ((i : ℕ) → IsLabelled (f i) (place i)) → (k : ℕ) (d : List Sector) (j : ℕ) → ((i : ℕ) → i < k → j ≢ place i) → slice_get (after_writes (turns f k) d) j ≡ slice_get d j
turns_elsewhere place f is zero d j apart = refl
turns_elsewhere place f is (suc k) d j apart =
    ap (λ (run : List DiskWrite). slice_get (after_writes run d) j) (turns_next f k)
    ∙ ap (λ (l : List Sector). slice_get l j) (sym (after_writes-append (turns f k) (f k ∷ []) d))
    ∙ write_elsewhere (f k) (place k) j (after_writes (turns f k) d) (is k) (apart k (omega arith))
    ∙ turns_elsewhere place f is k d j (λ i below. apart i (omega (arith, below)))

-- At turn i a label is written into the sector of its place. The first k turns are over.
pub record IsSoFar (place : ℕ → ℕ) (f : ℕ → DiskWrite) (labels : ℕ → Labels) (covered : Type 0) (old : DiskState) (slots : Slots) (layout : Layout) (new : DiskState) (after : Slots) (later : Layout) (k : ℕ) : Type 0 where
  pub appended : Appended (turns f k) old new
  pub makes : Makes no_page (turns f k) old slots new slots
  pub others : (d : List Sector) (j : ℕ) → ((i : ℕ) → i < k → j ≢ place i) → slice_get (after_writes (turns f k) d) j ≡ slice_get d j
  pub goes : covered → Goes (λ m n. n ≡ after_writes (turns f k) m) no_page (turns f k) old slots new slots
  pub found : (d : List Sector) → old.contents ≡ Some d → (i : ℕ) → i < k → HasOne (labels i) d (place i)
  pub same_pool : after ≡ slots
  pub same_layout : later ≡ layout
  pub size : new.sectors ≡ later.sectors
  pub cost : new.transfers ≤ old.transfers + 2 * k

pub so_far_none : (place : ℕ → ℕ) (f : ℕ → DiskWrite) (labels : ℕ → Labels) (covered : Type 0) (old : DiskState) (slots : Slots) (layout : Layout) → old.sectors ≡ layout.sectors → IsSoFar place f labels covered old slots layout old slots layout 0
so_far_none place f labels covered old slots layout size = record {
  appended = appended_none (record { contents = refl; writes = refl });
  makes = makes_nothing no_page old slots;
  others = λ d j apart. refl;
  goes = λ free. goes_itself (λ m n. n ≡ m) no_page old slots (λ m. refl);
  found = λ d revealed i below. absurd (omega (arith, below));
  same_pool = refl;
  same_layout = refl;
  size = size;
  cost = omega arith;
}

module _ (place : ℕ → ℕ) (f : ℕ → DiskWrite) (labels : ℕ → Labels) (covered : Type 0) (old : DiskState) (slots : Slots) (layout : Layout) (mid : DiskState) (pool : Slots) (later : Layout) (k : ℕ)
    (so_far : IsSoFar place f labels covered old slots layout mid pool later k) (apart : (i : ℕ) → i < k → place k ≢ place i) where
  -- one turn more
  pub so_far_more : (new : DiskState) (after : Slots) (last : Layout) → IsLabelled (f k) (place k) → (covered → IsUncovered slots (place k)) → Relabels (labels k) (place k) (f k) mid pool new
      → after ≡ pool → last ≡ later → new.transfers ≤ mid.transfers + 2 → IsSoFar place f labels covered old slots layout new after last (k + 1)
  so_far_more new after last is free here frames stays cost =
      let did : Relabels (labels k) (place k) (f k) mid slots new = subst (λ (t : Slots). Relabels (labels k) (place k) (f k) mid t new) so_far.same_pool here in
      record {
        appended = subst (λ (run : List DiskWrite). Appended run old new) (sym (turns_more f k)) (appended_then (turns f k) (f k ∷ []) so_far.appended did.appended);
        makes = subst (λ (run : List DiskWrite). Makes no_page run old slots new slots) (sym (turns_more f k)) (makes_then so_far.makes did.makes);
        others = λ d j away.
            ap (λ (run : List DiskWrite). slice_get (after_writes run d) j) (turns_more f k)
            ∙ ap (λ (l : List Sector). slice_get l j) (sym (after_writes-append (turns f k) (f k ∷ []) d))
            ∙ write_elsewhere (f k) (place k) j (after_writes (turns f k) d) is (away k (omega (arith)))
            ∙ so_far.others d j (λ i below. away i (omega (arith, below)));
        goes = λ c. subst (λ (run : List DiskWrite). Goes (λ m n. n ≡ after_writes run m) no_page run old slots new slots) (sym (turns_more f k))
            (goes_then (λ m n. n ≡ after_writes (turns f k) m) (λ m n. n ≡ written (f k) m) (λ m n. n ≡ after_writes (turns f k ++ f k ∷ []) m)
            (λ m n o first next. next ∙ ap (written (f k)) first ∙ after_writes-append (turns f k) (f k ∷ []) m) (so_far.goes c) (did.goes (free c)));
        found = λ d revealed i below. elim (cases_eq i k) [
          | inl same ↦ rw same (let one = did.found (after_writes (turns f k) d) (so_far.appended.contents ∙ ap (option_map (after_writes (turns f k))) revealed) in (one.0, sym (so_far.others d (place k) apart) ∙ one.1, one.2))
          | inr other ↦ so_far.found d revealed i (omega (arith, below, other))
        ];
        same_pool = frames ∙ so_far.same_pool;
        same_layout = stays ∙ so_far.same_layout;
        size = did.makes.went.sectors ∙ so_far.size ∙ ap (λ (l : Layout). l.sectors) (sym stays);
        cost = let before = so_far.cost in omega (arith, before, cost);
      }

  -- what stands at the place of the next turn is what stood there at first
  pub still_there : (d : List Sector) → slice_get (after_writes (turns f k) d) (place k) ≡ slice_get d (place k)
  still_there d = so_far.others d (place k) apart

  -- a label that was read there was there at first
  pub label_before : (found : Label) → HasLabel mid (place k) found → HasLabel old (place k) found
  label_before found there d revealed =
      ap (option_map (λ (s : Sector). s.0)) (sym (still_there d)) ∙ there (after_writes (turns f k) d) (so_far.appended.contents ∙ ap (option_map (after_writes (turns f k))) revealed)

  pub taken_before : (evidence : Evidence) → IsTaken (place k) mid evidence → IsTaken (place k) old evidence
  taken_before (evidence.Mismatch sector wanted found) is = (is.0, is.1, label_before found is.2, is.3)
  taken_before (evidence.Malformed structure page) is = absurd is
  taken_before (evidence.Missing id page) is = absurd is

  pub not_of_before : (w : Wanted) (evidence : Evidence) → IsNotOf (place k) w mid evidence → IsNotOf (place k) w old evidence
  not_of_before w (evidence.Mismatch sector wanted found) is = (is.0, is.1, label_before found is.2, is.3)
  not_of_before w (evidence.Malformed structure page) is = absurd is
  not_of_before w (evidence.Missing id page) is = absurd is

  -- the memory has it there too, where no frame is over the sectors
  pub one_still_there : covered → (m : List Sector) → Stands old slots m → HasOne (labels k) m (place k) → (n : List Sector) × Stands mid pool n × HasOne (labels k) n (place k)
  one_still_there c m stands one =
      let n = (so_far.goes c).memory m stands in
      (n.0, subst (λ (t : Slots). Stands mid t n.0) (sym so_far.same_pool) n.1, (one.0, ap (λ (l : List Sector). slice_get l (place k)) n.2 ∙ still_there m ∙ one.1, one.2))

  taken_makes : (all : ℕ) → k < all → (new : DiskState) → Makes no_page [] mid slots new slots → Makes no_page (take k (turns f all)) old slots new slots
  taken_makes all below new nothing =
      subst (λ (run : List DiskWrite). Makes no_page run old slots new slots) (append_nothing (turns f k) ∙ sym (take-map-range_with_len f 0 all k (omega (arith, below)))) (makes_then so_far.makes nothing)
    where
      append_nothing : (xs : List DiskWrite) → xs ++ [] ≡ xs
      append_nothing [] = refl
      append_nothing (x ∷ xs) = ap (λ (l : List DiskWrite). x ∷ l) (append_nothing xs)

  none_more : (all : ℕ) (run : List DiskWrite) → turns f all ≡ run → k < all → (new : DiskState) → Makes no_page [] mid pool new pool → NamedSome place labels run old slots new
  none_more all run is below new nothing = subst (λ (r : List DiskWrite). NamedSome place labels r old slots new) is (record {
    count = k;
    within = subst (λ (n : ℕ). k ≤ n) (sym (length-map-range_with_len f 0 all)) (omega (arith, below));
    makes = taken_makes all below new (subst (λ (t : Slots). Makes no_page [] mid t new t) so_far.same_pool nothing);
    found = so_far.found;
  })

  -- some of the writes were made, and the sectors of these had their labels
  pub named_some : (all : ℕ) (run : List DiskWrite) → turns f all ≡ run → k < all → (new : DiskState) → MayRelabel (labels k) (place k) (f k) mid pool new → NamedSome place labels run old slots new
  named_some all run is below new (inl nothing) = none_more all run is below new nothing
  named_some all run is below new (inr (had, inl nothing)) = none_more all run is below new nothing
  named_some all run is below new (inr (had, inr made)) = subst (λ (r : List DiskWrite). NamedSome place labels r old slots new) is (record {
    count = k + 1;
    within = subst (λ (n : ℕ). k + 1 ≤ n) (sym (length-map-range_with_len f 0 all)) (omega (arith, below));
    makes = subst (λ (r : List DiskWrite). Makes no_page r old slots new slots) (sym (turns_more f k) ∙ sym (take-map-range_with_len f 0 all (k + 1) (omega (arith, below)))) (makes_then so_far.makes (subst (λ (t : Slots). Makes no_page (f k ∷ []) mid t new t) so_far.same_pool made));
    found = λ d revealed i less. elim (cases_eq i k) [
      | inl same ↦ rw same (let one = had (after_writes (turns f k) d) (so_far.appended.contents ∙ ap (option_map (after_writes (turns f k))) revealed) in (one.0, sym (so_far.others d (place k) apart) ∙ one.1, one.2))
      | inr other ↦ so_far.found d revealed i (omega (arith, less, other))
    ];
  })

  -- the halt of the next turn is one of the whole run
  cause_before : (shown whole : Evidence → Type 0) (new : DiskState) (e : Halt) → ((evidence : Evidence) → shown evidence → whole evidence) → HasCause shown mid new e → HasCause whole old new e
  cause_before shown whole new halt.Disk less is = let faults = so_far.makes.went.faults in rose_earlier old.faults mid.faults new.faults faults is
  cause_before shown whole new (halt.Damaged evidence) less is = less evidence is

  -- how the next turn fails is how the whole run does
  pub fails_before : (right : List Sector → Type 0) (turn whole : DiskState → Evidence → Type 0) (new : DiskState) (e : Halt) → ((m : List Sector) → right m → covered × HasOne (labels k) m (place k))
      → ((d : DiskState) (evidence : Evidence) → turn d evidence → whole d evidence) → ((evidence : Evidence) → turn mid evidence → turn old evidence)
      → FailsBy (λ m. HasOne (labels k) m (place k)) turn mid pool new e → FailsBy right whole old slots new e
  fails_before right turn whole new e one less back fails = record {
    sound = λ m stands is. let there = one_still_there (one m is).0 m stands (one m is).1 in fails.sound there.0 there.1 there.2;
    cause = cause_before (turn mid) (whole old) new e (λ evidence shown. less old evidence (back evidence shown)) fails.cause;
    evidence_seen = cause_before (turn new) (whole new) new e (less new) fails.evidence_seen;
  }

-- all turns are over
pub run_is : (place : ℕ → ℕ) (f : ℕ → DiskWrite) (labels : ℕ → Labels) (sector pages : ℕ) (run : List DiskWrite) (old new : DiskState) (slots after : Slots) (layout later : Layout) → turns f pages ≡ run
    → IsSoFar place f labels (AreUncovered slots sector pages) old slots layout new after later pages → RelabelsRun sector pages run old slots new
run_is place f labels sector pages run old new slots after layout later is all =
    subst (λ (r : List DiskWrite). RelabelsRun sector pages r old slots new) is (record { appended = all.appended; makes = all.makes; goes = all.goes })

-- pages made in a row are a growth
pub growth_is : (id kind page sector pages i : ℕ) → map (λ k. write.Whole (sector + k) (page_label id kind (page + k)) zero_bytes) (range_with_len i pages) ≡ growth id kind (page + i) (range_with_len (sector + i) pages)
growth_is id kind page sector zero i = refl
growth_is id kind page sector (suc pages) i =
    ap (λ (l : List DiskWrite). write.Whole (sector + i) (page_label id kind (page + i)) zero_bytes ∷ l)
    (growth_is id kind page sector pages (i + 1) ∙ (λ j. growth id kind (let e : page + (i + 1) ≡ page + i + 1 = omega arith in e j) (range_with_len (let e : sector + (i + 1) ≡ sector + i + 1 = omega arith in e j) pages)))

-- labels made free in a row
pub freeing_is : (place : ℕ → ℕ) (is : List ℕ) → map (λ k. write.LabelOnly (place k) free_label) is ≡ freeing (map place is)
freeing_is place [] = refl
freeing_is place (i ∷ is) = ap (λ (l : List DiskWrite). write.LabelOnly (place i) free_label ∷ l) (freeing_is place is)

-- numbers in a row, from another one on
pub row_is : (sector pages i : ℕ) → map (λ k. sector + k) (range_with_len i pages) ≡ range_with_len (sector + i) pages
row_is sector zero i = refl
row_is sector (suc pages) i = ap (λ (l : List ℕ). (sector + i) ∷ l) (row_is sector pages (i + 1) ∙ (λ j. range_with_len (let e : sector + (i + 1) ≡ sector + i + 1 = omega arith in e j) pages))
