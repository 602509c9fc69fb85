use Rattle.std.proofs.Common.{arith, rules, ◌≡◌, ◌<◌, ◌≤◌}
use Rattle.file_manager.proofs.FreedRun.{stops_then}
use Rattle.file_manager.proofs.DownTo.{down_reason, down_none, down_then, down_rest, down_freed, down_made, down_spent, down_stopped_cost, down_broken_off, down_halts}
use Rattle.label_calls.specs.OwnLaws.{relabels_own}
use Rattle.file_manager.proofs.OwnSteps.{some_own, own_after}
use Rattle.file_manager.proofs.shrinking.free_down.Goals as goal
use Rattle.filer_kernel.specs.View.{view_of}

pub loop-page-init : goal.loop-page-init
loop-page-init g c = down_none _ _ _ _ _ _ _ c.requires.order c.requires.size

pub loop-page-preserved : goal.loop-page-preserved
loop-page-preserved g c =
    let below : c.args.from < c.loop-page.page = search rules in
    down_then c.loop-page.invariant below c.in-Ok.ensures.some c.in-Ok.ensures.stays.layout c.in-Ok.ensures.cost.1 c.in-Ok.ensures.writes c.in-Ok.ensures.stays.keeps c.in-Ok.ensures.freed c.in-Ok.ensures.own (λ z0 z1 z2. (c.in-Ok.ensures.accounts z0 z1 z2).0) (λ z0 z1 z2. (c.in-Ok.ensures.accounts z0 z1 z2).1)

pub returns-in-Err-clause-freed : goal.returns-in-Err-clause-freed
returns-in-Err-clause-freed g c = λ named spaces m may.
    let rest = down_rest c.loop-page.invariant named spaces m may in (
      (c.in-Err.ensures.freed named spaces rest.0 rest.1).0,
      (down_broken_off c.loop-page.invariant (λ z0 z1 z2 z3. (c.in-Err.ensures.freed z0 z1 z2 z3).1)) named spaces m may,
    )

pub returns-in-Err-clause-writes : goal.returns-in-Err-clause-writes
returns-in-Err-clause-writes g c = stops_then c.loop-page.invariant.makes c.in-Err.ensures.writes

pub returns-in-Err-clause-cost : goal.returns-in-Err-clause-cost
returns-in-Err-clause-cost g c =
    let below : c.args.from < c.loop-page.page = search rules in
    down_stopped_cost c.loop-page.invariant (view_of c.free_last.new.filer).disk below c.in-Err.ensures.cost.0

pub returns-clause-freed : goal.returns-clause-freed
returns-clause-freed g c =
    let all : c.loop-page.page ≡ c.args.from = search rules in
    down_freed c.loop-page.invariant all

pub returns-clause-writes : goal.returns-clause-writes
returns-clause-writes g c =
    let all : c.loop-page.page ≡ c.args.from = search rules in
    down_made c.loop-page.invariant all

pub returns-clause-cost : goal.returns-clause-cost
returns-clause-cost g c =
    let all : c.loop-page.page ≡ c.args.from = search rules in
    down_spent c.loop-page.invariant all

pub returns-in-Err-clause-fails : goal.returns-in-Err-clause-fails
returns-in-Err-clause-fails g c = record {
  cause =
      let below : c.args.from < c.loop-page.page = search rules in
      down_halts c.loop-page.invariant c.requires.size below (view_of c.free_last.new.filer).disk c.in-Err.halt c.in-Err.ensures.fails.cause;
  counted = search rules;
  evidence_seen = search rules;
}

pub returns-clause-stays : goal.returns-clause-stays
returns-clause-stays g c = record { layout = search rules; keeps = c.loop-page.invariant.keeps }

pub returns-in-Err-clause-own : goal.returns-in-Err-clause-own
returns-in-Err-clause-own g c = own_after c.loop-page.invariant.own (some_own c.in-Err.ensures.writes c.in-Err.ensures.own)

pub returns-clause-own : goal.returns-clause-own
returns-clause-own g c = relabels_own c.loop-page.invariant.own

pub returns-in-Err-clause-accounts : goal.returns-in-Err-clause-accounts
returns-in-Err-clause-accounts g c = down_reason c.loop-page.invariant (view_of c.free_last.new.filer).disk c.in-Err.halt c.in-Err.ensures.accounts

pub returns-clause-accounts : goal.returns-clause-accounts
returns-clause-accounts g c = λ o named h. (
  (c.loop-page.invariant.keeps_to) o named h,
  λ page sector own is.
      let none : c.loop-page.page ≤ c.args.from = search rules in
      let first = own.0 in
      c.loop-page.invariant.evict o named h page sector (omega (arith, first, none), own.1) is,
)
