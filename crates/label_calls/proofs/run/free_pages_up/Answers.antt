use Rattle.std.proofs.Common.{◌≡◌, ◌≢◌, ℕ, ◌+◌, ◌<◌, false, rules, refl, ◌∙◌, ap, arith}
use Rattle.std.specs.List.{range_with_len}
use Rattle.labelled_disk.specs.declared.label.Wanted.{Wanted}
use Rattle.labelled_disk.specs.declared.disk.DiskWrite.TheVariants as write
use Rattle.labelled_disk.specs.Runs.{freeing}
use Rattle.labelled_disk.specs.Sectors.{free_label}
use Rattle.label_calls.specs.Labels.{IsNotOf, ones_of}
use Rattle.label_calls.specs.Runs.{AreRight, IsOneNotOf}
use Rattle.label_calls.proofs.RunLemmas.{so_far_none, so_far_more, fails_before, run_is, freeing_is, row_is, not_of_before, named_some}
use Rattle.label_calls.specs.OwnLaws.{relabels_own, own_then, may_own, relabelled}
use Rattle.swapper_kernel.specs.GoesLaws.{went_itself}
use Rattle.label_calls.specs.SyncedLaws.{syncs_around, same_synced, wrote_synced, around_after, may_synced}
use Rattle.label_calls.proofs.OwnLemmas.{of_page, so_far_own}
use Rattle.label_calls.proofs.run.free_pages_up.Goals as goal

pub loop-k-init : goal.loop-k-init
loop-k-init g c = (so_far_none _ _ _ _ _ _ _ c.requires.data.size, syncs_around (same_synced false (record { contents = refl; writes = refl }) (went_itself _)))

apart : (sector k : ℕ) → (i : ℕ) → i < k → sector + k ≢ sector + i
apart sector k i below same = omega (arith, below, same)

pub loop-k-preserved : goal.loop-k-preserved
loop-k-preserved g c =
    let below : c.loop-k.k < c.args.pages = search rules in (
      so_far_more (λ k. c.args.sector + k) (λ k. write.LabelOnly (c.args.sector + k) free_label) _ _ _ _ _ _ _ _ c.loop-k.k c.loop-k.invariant.0 (apart c.args.sector c.loop-k.k)
          _ _ _ refl (λ free. free c.loop-k.k below) c.in-Ok.ensures.freed c.in-Ok.ensures.frames c.in-Ok.ensures.layout c.in-Ok.ensures.cost,
      around_after (wrote_synced c.loop-k.invariant.0.makes c.loop-k.invariant.1) (wrote_synced c.in-Ok.ensures.freed.makes c.in-Ok.ensures.labels.around),
    )

pub returns-in-Err-clause-stopped : goal.returns-in-Err-clause-stopped
returns-in-Err-clause-stopped g c =
    let below : c.loop-k.k < c.args.pages = search rules in
    named_some (λ k. c.args.sector + k) (λ k. write.LabelOnly (c.args.sector + k) free_label) _ _ _ _ _ _ _ _ c.loop-k.k c.loop-k.invariant.0 (apart c.args.sector c.loop-k.k)
    c.args.pages (freeing (range_with_len c.args.sector c.args.pages)) (freeing_is (λ k. c.args.sector + k) (range_with_len 0 c.args.pages) ∙ ap freeing (row_is c.args.sector c.args.pages 0 ∙ (λ j. range_with_len (let e : c.args.sector + 0 ≡ c.args.sector = omega arith in e j) c.args.pages))) below _ c.in-Err.ensures.stopped

pub returns-in-Err-clause-fails : goal.returns-in-Err-clause-fails
returns-in-Err-clause-fails g c =
    let below : c.loop-k.k < c.args.pages = search rules in
    let place : ℕ → ℕ = λ k. c.args.sector + k in
    let wanted : Wanted = record { id = c.args.id; page = c.args.page + c.loop-k.k } in
    fails_before place _ _ _ _ _ _ _ _ _ c.loop-k.k c.loop-k.invariant.0 (apart c.args.sector c.loop-k.k) (AreRight (λ k. ones_of (record { id = c.args.id; page = c.args.page + k })) c.args.sector c.args.pages c.args.memory.now.pool)
    (IsNotOf (place c.loop-k.k) wanted) (IsOneNotOf c.args.sector c.args.pages (λ k. record { id = c.args.id; page = c.args.page + k })) _ c.in-Err.halt
    (λ m right. (right.0, right.1 c.loop-k.k below)) (λ d evidence is. (c.loop-k.k, below, is)) (not_of_before place _ _ _ _ _ _ _ _ _ c.loop-k.k c.loop-k.invariant.0 (apart c.args.sector c.loop-k.k) wanted) c.in-Err.ensures.fails

pub returns-clause-freed : goal.returns-clause-freed
returns-clause-freed g c =
    let all : c.loop-k.k ≡ c.args.pages = search rules in
    let so_far = rw all at c.loop-k.invariant.0 in
    record {
      were = λ d revealed k below. c.loop-k.invariant.0.found d revealed k (omega (arith, all, below));
      relabels = run_is (λ k. c.args.sector + k) (λ k. write.LabelOnly (c.args.sector + k) free_label) _ c.args.sector c.args.pages _ _ _ _ _ _ _ (freeing_is (λ k. c.args.sector + k) (range_with_len 0 c.args.pages) ∙ ap freeing (row_is c.args.sector c.args.pages 0 ∙ (λ j. range_with_len (let e : c.args.sector + 0 ≡ c.args.sector = omega arith in e j) c.args.pages))) so_far;
    }

pub returns-in-Err-clause-labels : goal.returns-in-Err-clause-labels
returns-in-Err-clause-labels g c =
    record {
      own = relabels_own (own_then (so_far_own (λ k. c.args.sector + k) free_label _ c.args.id c.loop-k.k c.loop-k.invariant.0 (λ i l named. of_page _ l named) (λ i below. apart c.args.sector i)) (may_own (relabelled c.in-Err.ensures.stopped) c.in-Err.ensures.labels.own));
      around = around_after (wrote_synced c.loop-k.invariant.0.makes c.loop-k.invariant.1) (may_synced (relabelled c.in-Err.ensures.stopped) c.in-Err.ensures.labels.around);
    }

pub returns-clause-labels : goal.returns-clause-labels
returns-clause-labels g c =
    record {
      own = relabels_own (so_far_own (λ k. c.args.sector + k) free_label _ c.args.id c.loop-k.k c.loop-k.invariant.0 (λ i l named. of_page _ l named) (λ i below. apart c.args.sector i));
      around = c.loop-k.invariant.1;
    }
