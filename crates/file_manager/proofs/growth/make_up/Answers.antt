use Rattle.std.proofs.Common.{rules, inr, ◌≡◌, ◌<◌, ◌≤◌, arith}
use Rattle.file_manager.specs.TabledLaws.{file_untold}
use Rattle.file_manager.proofs.UpTo.{up_all, up_cause, up_cost, up_none, up_more, up_sound, up_stopped}
use Rattle.file_manager.proofs.GrowBroken.{up_broken}
use Rattle.file_manager.proofs.Faults.{counted_then}
use Rattle.swapper_kernel.specs.HaltLaws.{brings_then}
use Rattle.file_manager.proofs.KeptUpTo.{tables_still}
use Rattle.label_calls.specs.ClearedLaws.{both_after_sync}
use Rattle.file_manager.proofs.growth.make_up.Goals as goal
use Rattle.filer_kernel.specs.View.{accepted, view_of}

pub loop-page-init : goal.loop-page-init
loop-page-init g c = up_none _ _ _ _ _ _ _ _ c.requires.order c.requires.size

pub make_run-requires-clause-to_make : goal.make_run-requires-clause-to_make
make_run-requires-clause-to_make g c =
    let below : c.loop-page.page < c.args.end = search rules in
    let numbers = c.requires.numbers in
    record { pages = (omega (arith, below), omega (arith, below, numbers)); of_file = inr c.requires.of_file }

pub loop-page-preserved : goal.loop-page-preserved
loop-page-preserved g c =
    let below : c.loop-page.page < c.args.end = search rules in
    up_more _ _ _ _ c.loop-page.page _ _ _ (accepted c.args.filer.now) _ _ _ _ _ c.loop-page.invariant c.requires.numbers c.in-Ok.run' _ _ _ _ below c.in-Ok.ensures.run.0 c.in-Ok.ensures.writes c.in-Ok.ensures.made c.in-Ok.ensures.stays.layout c.in-Ok.ensures.stays.runs c.in-Ok.ensures.cost.1 c.make_run.ensures.stays.come c.in-Ok.ensures.run.2 c.in-Ok.ensures.run.1 (λ o named h may untold none. c.in-Ok.ensures.accounts o named h none may untold) c.make_run.ensures.cleared

pub returns-in-Err-clause-made : goal.returns-in-Err-clause-made
returns-in-Err-clause-made g c =
    let below : c.loop-page.page < c.args.end = search rules in
    let sound = up_sound _ c.args.kind _ _ c.loop-page.page _ _ _ (accepted c.args.filer.now) _ _ _ _ _ c.loop-page.invariant c.requires.numbers c.in-Err.halt below c.in-Err.ensures.made in
    let broken = up_broken _ c.args.kind _ _ c.loop-page.page _ _ _ (accepted c.args.filer.now) _ _ _ _ _ c.loop-page.invariant c.requires.numbers _ _ below c.in-Err.ensures.broken in
    λ tables x shapes spaces f may size. (sound tables x shapes spaces f may size, broken tables x shapes spaces f may size)

pub returns-in-Err-clause-writes : goal.returns-in-Err-clause-writes
returns-in-Err-clause-writes g c =
    up_stopped _ _ _ _ c.loop-page.page _ _ _ (accepted c.args.filer.now) _ _ _ _ _ c.loop-page.invariant c.requires.numbers _ _ c.loop-page.invariant.below c.in-Err.ensures.writes

pub returns-clause-made : goal.returns-clause-made
returns-clause-made g c =
    let all : c.loop-page.page ≡ c.args.end = search rules in
    up_all _ _ _ _ c.loop-page.page _ _ _ _ _ _ _ _ all c.loop-page.invariant

pub returns-in-Err-clause-cost : goal.returns-in-Err-clause-cost
returns-in-Err-clause-cost g c =
    let below : c.loop-page.page < c.args.end = search rules in
    up_cost _ c.args.kind _ _ c.loop-page.page _ _ _ (accepted c.args.filer.now) _ _ _ _ _ c.loop-page.invariant c.requires.numbers (view_of c.make_run.new.filer).disk below c.in-Err.ensures.cost.0

pub returns-in-Err-clause-fails : goal.returns-in-Err-clause-fails
returns-in-Err-clause-fails g c = record {
  cause =
      let below : c.loop-page.page < c.args.end = search rules in
      up_cause _ c.args.kind _ _ c.loop-page.page _ _ _ (accepted c.args.filer.now) _ _ _ _ _ c.loop-page.invariant c.requires.numbers (λ p. (c.args.from ≤ p) × (p < c.args.end)) (λ p own. own) (view_of c.make_run.new.filer).disk (view_of c.make_run.new.filer).slots c.in-Err.halt below (rw c.loop-page.invariant.same_layout at c.in-Err.ensures.fails.cause);
  counted = counted_then _ _ _ c.loop-page.invariant.makes.makes.went.faults c.in-Err.ensures.fails.counted;
  evidence_seen = search rules;
}

pub returns-in-Err-clause-stays : goal.returns-in-Err-clause-stays
returns-in-Err-clause-stays g c = record {
  come = brings_then c.loop-page.invariant.come (rw c.loop-page.invariant.same_layout at c.in-Err.ensures.stays.come);
  layout = search rules;
  runs = search rules;
}

pub returns-clause-stays : goal.returns-clause-stays
returns-clause-stays g c = record { come = c.loop-page.invariant.come; layout = search rules; runs = search rules }

pub returns-clause-writes : goal.returns-clause-writes
returns-clause-writes g c = (search rules, let all : c.loop-page.page ≡ c.args.end = search rules in rw all at c.loop-page.invariant.takes)

pub returns-clause-accounts : goal.returns-clause-accounts
returns-clause-accounts g c = λ o named h may none. let now = c.loop-page.invariant.keeps o named h may (file_untold o c.args.id c.requires.of_file) none in (now.0, now.1, tables_still named now.0 now.3)

pub returns-in-Err-clause-accounts : goal.returns-in-Err-clause-accounts
returns-in-Err-clause-accounts g c = λ o named h may none.
    let below : c.loop-page.page < c.args.end = search rules in
    let now = c.loop-page.invariant.keeps o named h may (file_untold o c.args.id c.requires.of_file) none in
    rw c.loop-page.invariant.same_layout at (c.in-Err.ensures.accounts o now.0 now.1 (λ p sector own. let last = own.1 in now.2 p sector (own.0, omega (arith, last, below))))

pub returns-clause-cleared : goal.returns-clause-cleared
returns-clause-cleared g c = c.loop-page.invariant.cleared

pub returns-in-Err-clause-cleared : goal.returns-in-Err-clause-cleared
returns-in-Err-clause-cleared g c = λ clear. both_after_sync c.loop-page.invariant.makes.makes (c.loop-page.invariant.cleared clear) c.in-Err.ensures.writes.makes (c.make_run.ensures.cleared clear)
