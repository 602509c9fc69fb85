use Rattle.std.proofs.Common.{rules}
use Rattle.scavenger.specs.Plan.{orders}
use Rattle.scavenger.proofs.OrderLemmas.{unprepared, prepared_unsynced, closes}
use Rattle.scavenger.proofs.RowLemmas.{carries_err}
use Rattle.scavenger.proofs.plan.Plan.carry_out.Goals as goal

pub returns-in_err-prepare : goal.returns-in_err-prepare
returns-in_err-prepare g c =
    carries_err _ _ _ _ c.in_err-prepare.field-0.0 (search rules)
    (unprepared (orders c.args.root.now c.args.layout.now.first c.args.self) _ _ _ _ (c.in_err-prepare.ensures c.args.root.now c.requires.root.count))

pub returns-in_err-sync : goal.returns-in_err-sync
returns-in_err-sync g c =
    carries_err _ _ _ _ c.in_err-sync.field-0.0 (search rules)
    (prepared_unsynced (orders c.args.root.now c.args.layout.now.first c.args.self) _ _ _ (c.in_ok-prepare.ensures c.args.root.now c.requires.root.count) _ _ c.in_err-sync.ensures)

pub returns : goal.returns
returns g c = closes (orders c.args.root.now c.args.layout.now.first c.args.self) _ _ _ (c.in_ok-prepare.ensures c.args.root.now c.requires.root.count) _ c.close_root.result c.in_ok-sync.ensures c.close_root.ensures
