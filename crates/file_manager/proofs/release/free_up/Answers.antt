use Rattle.std.proofs.Common.{arith, rules, ◌≡◌, ◌<◌, subst}
use Rattle.file_manager.proofs.FreedRun.{stops_then}
use Rattle.file_manager.proofs.FreedUpTo.{to_none, to_then, to_rest, to_all, to_made, to_spent, to_stopped_cost, to_halts}
use Rattle.file_manager.proofs.StoppedFree.{some_then}
use Rattle.file_manager.proofs.Faults.{counted_then}
use Rattle.label_calls.specs.OwnLaws.{relabels_own}
use Rattle.file_manager.proofs.OwnSteps.{some_own, own_after}
use Rattle.labelled_disk.specs.declared.layout.Layout.{Layout}
use Rattle.file_manager.specs.Reasons.{ShowsReason}
use Rattle.label_calls.specs.SyncedLaws.{around_after, syncs_around, wrote_synced}
use Rattle.file_manager.proofs.release.free_up.Goals as goal
use Rattle.filer_kernel.specs.View.{view_of}

pub loop-page-init : goal.loop-page-init
loop-page-init g c = to_none _ _ _ _ _ _ _ c.requires.order c.requires.size

pub loop-page-preserved : goal.loop-page-preserved
loop-page-preserved g c =
    let below : c.loop-page.page < c.args.end = search rules in
    to_then c.loop-page.invariant below c.in-Ok.ensures.some c.in-Ok.ensures.stays.layout c.in-Ok.ensures.cost.1 c.in-Ok.ensures.writes c.in-Ok.ensures.stays.keeps c.in-Ok.ensures.freed c.in-Ok.ensures.labels.own c.in-Ok.ensures.labels.around (λ z0 z1 z2 z3. (c.in-Ok.ensures.accounts z0 z1 z2 z3).0) (λ z0 z1 z2 z3. (c.in-Ok.ensures.accounts z0 z1 z2 z3).1)

pub returns-in-Err-clause-freed : goal.returns-in-Err-clause-freed
returns-in-Err-clause-freed g c = λ named spaces m may.
    let below : c.loop-page.page < c.args.end = search rules in
    let rest = to_rest c.loop-page.invariant below named spaces m may in (
      (c.in-Err.ensures.freed named spaces rest.0 rest.1).0,
      some_then c.loop-page.invariant below named spaces m may ((c.in-Err.ensures.freed named spaces rest.0 rest.1).1),
    )

pub returns-in-Err-clause-writes : goal.returns-in-Err-clause-writes
returns-in-Err-clause-writes g c = stops_then c.loop-page.invariant.makes c.in-Err.ensures.writes

pub returns-in-Err-clause-cost : goal.returns-in-Err-clause-cost
returns-in-Err-clause-cost g c =
    let below : c.loop-page.page < c.args.end = search rules in
    to_stopped_cost c.loop-page.invariant (view_of c.free_run.new.filer).disk below c.in-Err.ensures.cost.0

pub returns-clause-freed : goal.returns-clause-freed
returns-clause-freed g c =
    let all : c.loop-page.page ≡ c.args.end = search rules in
    to_all c.loop-page.invariant all

pub returns-clause-writes : goal.returns-clause-writes
returns-clause-writes g c =
    let all : c.loop-page.page ≡ c.args.end = search rules in
    to_made c.loop-page.invariant all

pub returns-clause-cost : goal.returns-clause-cost
returns-clause-cost g c =
    let all : c.loop-page.page ≡ c.args.end = search rules in
    to_spent c.loop-page.invariant all

pub returns-in-Err-clause-fails : goal.returns-in-Err-clause-fails
returns-in-Err-clause-fails g c =
    let below : c.loop-page.page < c.args.end = search rules in
    record {
      cause = to_halts c.loop-page.invariant c.requires.size below (view_of c.free_run.new.filer).disk c.in-Err.halt c.in-Err.ensures.fails.cause;
      counted = counted_then _ _ _ c.loop-page.invariant.makes.makes.went.faults c.in-Err.ensures.fails.counted;
      evidence_seen = λ there. let below : c.loop-page.page < c.args.end = search rules in c.in-Err.ensures.fails.evidence_seen (there c.loop-page.page below);
    }

pub returns-clause-stays : goal.returns-clause-stays
returns-clause-stays g c = record { layout = search rules; keeps = c.loop-page.invariant.keeps }

pub returns-in-Err-clause-labels : goal.returns-in-Err-clause-labels
returns-in-Err-clause-labels g c = record {
  own = own_after c.loop-page.invariant.own (some_own c.in-Err.ensures.writes c.in-Err.ensures.labels.own);
  around = around_after c.loop-page.invariant.synced (wrote_synced c.in-Err.ensures.writes.makes c.in-Err.ensures.labels.around);
}

pub returns-clause-labels : goal.returns-clause-labels
returns-clause-labels g c = record { own = relabels_own c.loop-page.invariant.own; around = syncs_around c.loop-page.invariant.synced }

pub returns-in-Err-clause-accounts : goal.returns-in-Err-clause-accounts
returns-in-Err-clause-accounts g c = λ o named h never_blames. (
  λ there.
      let below : c.loop-page.page < c.args.end = search rules in
      let inv = c.loop-page.invariant in
      subst (λ (l : Layout). ShowsReason o l (view_of c.free_run.new.filer).disk c.in-Err.halt) inv.same_layout ((c.in-Err.ensures.accounts o named (inv.keeps_to o named h never_blames)).0 never_blames (there c.loop-page.page below)),
  λ there.
      let below : c.loop-page.page < c.args.end = search rules in
      let at = there c.loop-page.page below in
      (c.in-Err.ensures.accounts o named (c.loop-page.invariant.keeps_to o named h never_blames)).1 at.0 at.1,
)

pub returns-clause-accounts : goal.returns-clause-accounts
returns-clause-accounts g c = λ o named h never_blames. (
  (c.loop-page.invariant.keeps_to) o named h never_blames,
  λ page sector own is.
      let all : c.loop-page.page ≡ c.args.end = search rules in
      let last = own.1 in
      c.loop-page.invariant.evict o named h never_blames page sector (own.0, omega (arith, last, all)) is,
)

-- ---- What is on the medium.
