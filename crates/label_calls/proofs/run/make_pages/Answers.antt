use Rattle.std.proofs.Common.{◌≡◌, ◌≢◌, ℕ, ◌+◌, ◌<◌, rules, refl, ◌∙◌, arith}
use Rattle.std.specs.List.{range_with_len}
use Rattle.labelled_disk.specs.declared.disk.DiskWrite.TheVariants as write
use Rattle.labelled_disk.specs.Runs.{growth, zero_bytes}
use Rattle.labelled_disk.specs.Label.{page_label}
use Rattle.label_calls.specs.Labels.{IsTaken, free_ones}
use Rattle.label_calls.specs.Runs.{AreRight, IsOneTaken}
use Rattle.label_calls.proofs.RunLemmas.{turns, so_far_none, so_far_more, fails_before, named_some, run_is, growth_is, taken_before}
use Rattle.label_calls.specs.OwnLaws.{relabels_own, own_then, may_own, relabelled}
use Rattle.label_calls.proofs.FreshLemmas.{fresh_stopped, fresh_turns}
use Rattle.label_calls.proofs.OwnLemmas.{so_far_whole}
use Rattle.label_calls.proofs.run.make_pages.Goals as goal

pub loop-k-init : goal.loop-k-init
loop-k-init g c = so_far_none _ _ _ _ _ _ _ c.requires.data.size

apart : (sector k : ℕ) → (i : ℕ) → i < k → sector + k ≢ sector + i
apart sector k i below same = omega (arith, below, same)

-- all of the writes are a growth
all_are : (id kind page sector pages : ℕ) → turns (λ k. write.Whole (sector + k) (page_label id kind (page + k)) zero_bytes) pages ≡ growth id kind page (range_with_len sector pages)
all_are id kind page sector pages =
    growth_is id kind page sector pages 0 ∙ (λ j. growth id kind (let e : page + 0 ≡ page = omega arith in e j) (range_with_len (let e : sector + 0 ≡ sector = omega arith in e j) pages))

pub loop-k-preserved : goal.loop-k-preserved
loop-k-preserved g c =
    let below : c.loop-k.k < c.args.pages = search rules in
    so_far_more (λ k. c.args.sector + k) (λ k. write.Whole (c.args.sector + k) (page_label c.args.id c.args.kind (c.args.page + k)) zero_bytes) _ _ _ _ _ _ _ _ c.loop-k.k c.loop-k.invariant (apart c.args.sector c.loop-k.k)
    _ _ _ refl (λ free. free c.loop-k.k below) (rw c.of_page-label.ensures at c.in-Ok.ensures.made) c.in-Ok.ensures.frames c.in-Ok.ensures.layout c.in-Ok.ensures.cost

pub returns-in-Err-clause-own : goal.returns-in-Err-clause-own
returns-in-Err-clause-own g c = λ other.
    relabels_own (own_then (so_far_whole (λ k. c.args.sector + k) (λ k. page_label c.args.id c.args.kind (c.args.page + k)) zero_bytes _ other c.loop-k.k c.loop-k.invariant) (may_own (relabelled c.in-Err.ensures.stopped) (c.in-Err.ensures.own other)))

pub returns-clause-own : goal.returns-clause-own
returns-clause-own g c = λ other. relabels_own (so_far_whole (λ k. c.args.sector + k) (λ k. page_label c.args.id c.args.kind (c.args.page + k)) zero_bytes _ other c.loop-k.k c.loop-k.invariant)

pub returns-in-Err-clause-stopped : goal.returns-in-Err-clause-stopped
returns-in-Err-clause-stopped g c =
    let below : c.loop-k.k < c.args.pages = search rules in
    named_some (λ k. c.args.sector + k) (λ k. write.Whole (c.args.sector + k) (page_label c.args.id c.args.kind (c.args.page + k)) zero_bytes) _ _ _ _ _ _ _ _ c.loop-k.k c.loop-k.invariant (apart c.args.sector c.loop-k.k)
    c.args.pages (growth c.args.id c.args.kind c.args.page (range_with_len c.args.sector c.args.pages)) (all_are c.args.id c.args.kind c.args.page c.args.sector c.args.pages) below _ (rw c.of_page-label.ensures at c.in-Err.ensures.stopped)

pub returns-in-Err-clause-fails : goal.returns-in-Err-clause-fails
returns-in-Err-clause-fails g c =
    let below : c.loop-k.k < c.args.pages = search rules in
    let place : ℕ → ℕ = λ k. c.args.sector + k in
    fails_before place _ _ _ _ _ _ _ _ _ c.loop-k.k c.loop-k.invariant (apart c.args.sector c.loop-k.k) (AreRight (λ k. free_ones) c.args.sector c.args.pages c.args.memory.now.pool) (IsTaken (place c.loop-k.k)) (IsOneTaken c.args.sector c.args.pages) _ c.in-Err.halt
    (λ m right. (right.0, right.1 c.loop-k.k below)) (λ d evidence is. (c.loop-k.k, below, is)) (taken_before place _ _ _ _ _ _ _ _ _ c.loop-k.k c.loop-k.invariant (apart c.args.sector c.loop-k.k)) c.in-Err.ensures.fails

pub returns-clause-made : goal.returns-clause-made
returns-clause-made g c =
    let all : c.loop-k.k ≡ c.args.pages = search rules in
    let so_far = rw all at c.loop-k.invariant in
    record {
      were = λ d revealed k below. c.loop-k.invariant.found d revealed k (omega (arith, all, below));
      relabels = run_is (λ k. c.args.sector + k) (λ k. write.Whole (c.args.sector + k) (page_label c.args.id c.args.kind (c.args.page + k)) zero_bytes) _ c.args.sector c.args.pages _ _ _ _ _ _ _ (all_are c.args.id c.args.kind c.args.page c.args.sector c.args.pages) so_far;
    }

pub returns-in-Err-clause-fresh : goal.returns-in-Err-clause-fresh
returns-in-Err-clause-fresh g c =
    let below : c.loop-k.k < c.args.pages = search rules in
    fresh_stopped c.args.sector (λ k. page_label c.args.id c.args.kind (c.args.page + k)) c.args.pages c.loop-k.k below c.loop-k.invariant (rw c.of_page-label.ensures at c.in-Err.ensures.alone)

pub returns-clause-fresh : goal.returns-clause-fresh
returns-clause-fresh g c =
    let all : c.loop-k.k ≡ c.args.pages = search rules in
    fresh_turns c.args.sector (λ k. page_label c.args.id c.args.kind (c.args.page + k)) c.args.pages c.loop-k.k (omega (arith, all)) c.loop-k.invariant.appended c.loop-k.invariant.found
