use Rattle.std.proofs.Common.{rules, ◌≡◌, inr, List, Some, ◌∙◌}
use Rattle.labelled_disk.specs.Sectors.{Sector}
use Rattle.labelled_disk.proofs.CallLemmas.{only_reads_then}
use Rattle.scavenger.specs.Orders.{AreFor}
use Rattle.scavenger.specs.Plan.{orders}
use Rattle.scavenger.proofs.BetweenLemmas.{crash_states_of_carried, crash_states_of_none, reads_same}
use Rattle.scavenger.proofs.PlanLemmas.{ok_then}
use Rattle.scavenger.specs.Restored.{Survives}
use Rattle.scavenger.proofs.TopLemmas.{appended_after, part_after, restored_by, on_err, accords_by, none_cut, survives_made}
use Rattle.scavenger.proofs.restoring.scavenge.Given as given
use Rattle.scavenger.proofs.restoring.scavenge.Goals as goal

-- the orders that were carried out are those for the disk
is_for : (g : given.Over) (c : goal.After-finish g) (d : List Sector) → (g.D.Disk.state c.args.disk.now).contents ≡ Some d → AreFor d (orders c.in_ok-root.root c.in-Ok.layout.first c.in_ok-plan.plan)
is_for g c d revealed = c.in_ok-plan.ensures.plan d (c.in_ok-root.ensures.cost.only.contents ∙ revealed) (c.in_ok-root.ensures.root d revealed).0

pub returns-clause-restored : goal.returns-clause-restored
returns-clause-restored g c = ok_then c.finish.result c.finish.ensures.carries.all (λ made d revealed.
    restored_by c.scavenging_restores.ensures (g.D.Disk.state c.args.disk.now) (g.D.Disk.state c.finish.new.disk) d (orders c.in_ok-root.root c.in-Ok.layout.first c.in_ok-plan.plan) revealed
    (g.met.D.Disk.in_form c.args.disk.now d revealed) (c.in_ok-root.ensures.root d revealed).1 (is_for g c d revealed)
    (appended_after _ _ _ _ c.in_ok-root.ensures.cost.only (appended_after _ _ _ _ c.in_ok-plan.ensures.cost.only made)))

pub returns-clause-made : goal.returns-clause-made
returns-clause-made g c = ok_then c.finish.result c.finish.ensures.carries.all (λ made d revealed. (
  orders c.in_ok-root.root c.in-Ok.layout.first c.in_ok-plan.plan,
  is_for g c d revealed,
  appended_after _ _ _ _ c.in_ok-root.ensures.cost.only (appended_after _ _ _ _ c.in_ok-plan.ensures.cost.only made),
))

pub returns-clause-part : goal.returns-clause-part
returns-clause-part g c = λ is d revealed.
    inr (
      orders c.in_ok-root.root c.in-Ok.layout.first c.in_ok-plan.plan,
      is_for g c d revealed,
      part_after _ _ _ _ c.in_ok-root.ensures.cost.only (part_after _ _ _ _ c.in_ok-plan.ensures.cost.only (on_err c.finish.result _ is c.finish.ensures.carries.part)),
    )

pub returns-clause-root : goal.returns-clause-root
returns-clause-root g c = record {
  count = search rules;
  bad_count = search rules;
  judged = λ count d revealed s here. accords_by c.finish.result _ c.finish.ensures.err (c.in_ok-root.ensures.judged.judged count d revealed s here);
}

-- ---- What stands in each crash state.

pub returns-in_err-root-clause-crash_states : goal.returns-in_err-root-clause-crash_states
returns-in_err-root-clause-crash_states g c = λ d before writes revealed earlier later k.
    crash_states_of_none d (g.D.Disk.state c.args.disk.now) (g.D.Disk.state c.read_any_root.new.disk) before writes earlier later k (reads_same c.read_any_root.ensures.cost.only)

pub returns-in_err-plan-clause-crash_states : goal.returns-in_err-plan-clause-crash_states
returns-in_err-plan-clause-crash_states g c = λ d before writes revealed earlier later k.
    crash_states_of_none d (g.D.Disk.state c.args.disk.now) (g.D.Disk.state c.make_plan.new.disk) before writes earlier later k (reads_same (only_reads_then c.read_any_root.ensures.cost.only c.make_plan.ensures.cost.only))

pub returns-clause-crash_states : goal.returns-clause-crash_states
returns-clause-crash_states g c = λ d before writes revealed earlier later k.
    crash_states_of_carried d (g.D.Disk.state c.args.disk.now) (g.D.Disk.state c.finish.new.disk) before writes earlier later k (orders c.in_ok-root.root c.in-Ok.layout.first c.in_ok-plan.plan) (g.D.Disk.state c.make_plan.new.disk) c.finish.result
    c.scavenging_restores.ensures (g.met.D.Disk.in_form c.args.disk.now d revealed) (c.in_ok-root.ensures.root d revealed).1 (is_for g c d revealed) (only_reads_then c.in_ok-root.ensures.cost.only c.in_ok-plan.ensures.cost.only) c.finish.ensures.carries

-- ---- What stands where the power went.

pub returns-in_err-root-clause-cuts : goal.returns-in_err-root-clause-cuts
returns-in_err-root-clause-cuts g c = none_cut Survives (g.D.Disk.state c.args.disk.now) (g.D.Disk.state c.read_any_root.new.disk) c.read_any_root.ensures.cost.only

pub returns-in_err-plan-clause-cuts : goal.returns-in_err-plan-clause-cuts
returns-in_err-plan-clause-cuts g c =
    none_cut Survives (g.D.Disk.state c.args.disk.now) (g.D.Disk.state c.make_plan.new.disk) (only_reads_then c.read_any_root.ensures.cost.only c.make_plan.ensures.cost.only)

pub returns-clause-cuts : goal.returns-clause-cuts
returns-clause-cuts g c =
    survives_made (orders c.in_ok-root.root c.in-Ok.layout.first c.in_ok-plan.plan) (g.D.Disk.state c.args.disk.now) (g.D.Disk.state c.make_plan.new.disk) (g.D.Disk.state c.finish.new.disk) c.finish.result
    (only_reads_then c.in_ok-root.ensures.cost.only c.in_ok-plan.ensures.cost.only) c.finish.ensures.barriers
    (λ d revealed. c.scavenging_restores.ensures d (orders c.in_ok-root.root c.in-Ok.layout.first c.in_ok-plan.plan) (g.met.D.Disk.in_form c.args.disk.now d revealed) (c.in_ok-root.ensures.root d revealed).1 (is_for g c d revealed))
