use Rattle.std.proofs.Common.{◌∙◌, sym, rules}
use Rattle.scavenger.specs.Plan.{orders}
use Rattle.scavenger.proofs.OrderLemmas.{unopened, opened_unsynced, on, unprepared, prepared_unsynced, closes, ended}
use Rattle.scavenger.proofs.OrderLemmas.{unopened_barriers, opened_unsynced_barriers, unprepared_barriers, prepared_unsynced_barriers, unclosed_barriers, ended_barriers}
use Rattle.scavenger.proofs.RowLemmas.{carries_err, barriers_err}
use Rattle.scavenger.proofs.plan.Plan.restore.Goals as goal

pub returns-in_err-open_root-clause-carries : goal.returns-in_err-open_root-clause-carries
returns-in_err-open_root-clause-carries g c =
    carries_err _ _ _ _ c.in_err-open_root.field-0.0 (search rules)
    (unopened (orders c.args.root.now c.args.layout.now.first c.args.self) _ _ _ _ c.in_err-open_root.ensures)

pub returns-in_err-open_root-clause-barriers : goal.returns-in_err-open_root-clause-barriers
returns-in_err-open_root-clause-barriers g c =
    barriers_err _ _ _ _ c.in_err-open_root.field-0.0 (search rules)
    (unopened_barriers (orders c.args.root.now c.args.layout.now.first c.args.self) _ _ _ c.in_err-open_root.field-0.0 c.in_err-open_root.ensures)

pub returns-in_err-sync-clause-carries : goal.returns-in_err-sync-clause-carries
returns-in_err-sync-clause-carries g c =
    carries_err _ _ _ _ c.in_err-sync.field-0.0 (search rules)
    (opened_unsynced (orders c.args.root.now c.args.layout.now.first c.args.self) _ _ _ c.in_ok-open_root.ensures _ _ c.in_err-sync.ensures)

pub returns-in_err-sync-clause-barriers : goal.returns-in_err-sync-clause-barriers
returns-in_err-sync-clause-barriers g c =
    barriers_err _ _ _ _ c.in_err-sync.field-0.0 (search rules)
    (opened_unsynced_barriers (orders c.args.root.now c.args.layout.now.first c.args.self) _ _ _ c.in_ok-open_root.ensures _ c.in_err-sync.field-0.0 c.in_err-sync.ensures)

pub returns-in_err-prepare-clause-carries : goal.returns-in_err-prepare-clause-carries
returns-in_err-prepare-clause-carries g c =
    carries_err _ _ _ _ c.in_err-prepare.field-0.0 (search rules)
    (on (orders c.args.root.now c.args.layout.now.first c.args.self) _ _ _ c.in_ok-open_root.ensures c.in_ok-sync.ensures _ _ (unprepared (orders c.args.root.now c.args.layout.now.first c.args.self) _ _ c.in_err-prepare.field-0.0 _ (c.in_err-prepare.ensures c.args.root.now (c.requires.root.count ∙ sym (c.in_ok-sync.ensures.sectors ∙ c.in_ok-open_root.ensures.later.sectors)))))

pub returns-in_err-prepare-clause-barriers : goal.returns-in_err-prepare-clause-barriers
returns-in_err-prepare-clause-barriers g c =
    barriers_err _ _ _ _ c.in_err-prepare.field-0.0 (search rules)
    (unprepared_barriers (orders c.args.root.now c.args.layout.now.first c.args.self) _ _ _ c.in_ok-open_root.ensures c.in_ok-sync.ensures _ _ c.in_err-prepare.field-0.0 (c.in_err-prepare.ensures c.args.root.now (c.requires.root.count ∙ sym (c.in_ok-sync.ensures.sectors ∙ c.in_ok-open_root.ensures.later.sectors))))

pub returns-in_err-sync-2-clause-carries : goal.returns-in_err-sync-2-clause-carries
returns-in_err-sync-2-clause-carries g c =
    carries_err _ _ _ _ c.in_err-sync-2.field-0.0 (search rules)
    (on (orders c.args.root.now c.args.layout.now.first c.args.self) _ _ _ c.in_ok-open_root.ensures c.in_ok-sync.ensures _ _ (prepared_unsynced (orders c.args.root.now c.args.layout.now.first c.args.self) _ _ _ (c.in_ok-prepare.ensures c.args.root.now (c.requires.root.count ∙ sym (c.in_ok-sync.ensures.sectors ∙ c.in_ok-open_root.ensures.later.sectors))) c.in_err-sync-2.field-0.0 _ c.in_err-sync-2.ensures))

pub returns-in_err-sync-2-clause-barriers : goal.returns-in_err-sync-2-clause-barriers
returns-in_err-sync-2-clause-barriers g c =
    barriers_err _ _ _ _ c.in_err-sync-2.field-0.0 (search rules)
    (prepared_unsynced_barriers (orders c.args.root.now c.args.layout.now.first c.args.self) _ _ _ c.in_ok-open_root.ensures c.in_ok-sync.ensures _ _ (c.in_ok-prepare.ensures c.args.root.now (c.requires.root.count ∙ sym (c.in_ok-sync.ensures.sectors ∙ c.in_ok-open_root.ensures.later.sectors))) _ c.in_err-sync-2.field-0.0 c.in_err-sync-2.ensures)

pub returns-in_err-close_root-clause-carries : goal.returns-in_err-close_root-clause-carries
returns-in_err-close_root-clause-carries g c =
    carries_err _ _ _ _ c.in_err-close_root.field-0.0 (search rules)
    (on (orders c.args.root.now c.args.layout.now.first c.args.self) _ _ _ c.in_ok-open_root.ensures c.in_ok-sync.ensures _ _ (closes (orders c.args.root.now c.args.layout.now.first c.args.self) _ _ _ (c.in_ok-prepare.ensures c.args.root.now (c.requires.root.count ∙ sym (c.in_ok-sync.ensures.sectors ∙ c.in_ok-open_root.ensures.later.sectors))) _ _ c.in_ok-sync-2.ensures c.in_err-close_root.ensures))

pub returns-in_err-close_root-clause-barriers : goal.returns-in_err-close_root-clause-barriers
returns-in_err-close_root-clause-barriers g c =
    barriers_err _ _ _ _ c.in_err-close_root.field-0.0 (search rules)
    (unclosed_barriers (orders c.args.root.now c.args.layout.now.first c.args.self) _ _ _ c.in_ok-open_root.ensures c.in_ok-sync.ensures _ _ (c.in_ok-prepare.ensures c.args.root.now (c.requires.root.count ∙ sym (c.in_ok-sync.ensures.sectors ∙ c.in_ok-open_root.ensures.later.sectors))) c.in_ok-sync-2.ensures _ _ c.in_err-close_root.field-0.0 c.in_err-close_root.ensures)

pub returns-clause-carries : goal.returns-clause-carries
returns-clause-carries g c =
    ended (orders c.args.root.now c.args.layout.now.first c.args.self) _ _ _ c.in_ok-open_root.ensures c.in_ok-sync.ensures _ _ (c.in_ok-prepare.ensures c.args.root.now (c.requires.root.count ∙ sym (c.in_ok-sync.ensures.sectors ∙ c.in_ok-open_root.ensures.later.sectors))) c.in_ok-sync-2.ensures _ c.in_ok-close_root.ensures _ c.sync-3.result c.sync-3.ensures

pub returns-clause-barriers : goal.returns-clause-barriers
returns-clause-barriers g c =
    ended_barriers (orders c.args.root.now c.args.layout.now.first c.args.self) _ _ _ c.in_ok-open_root.ensures c.in_ok-sync.ensures _ _ (c.in_ok-prepare.ensures c.args.root.now (c.requires.root.count ∙ sym (c.in_ok-sync.ensures.sectors ∙ c.in_ok-open_root.ensures.later.sectors))) c.in_ok-sync-2.ensures _ c.in_ok-close_root.ensures _ c.sync-3.result c.sync-3.ensures
