use Rattle.std.proofs.Common.{◌≡◌, ℕ, ◌+◌, ◌*◌, ◌/◌, ◌≤◌, length, arith, sym, ◌∙◌, subst}
use Rattle.flat_mem.specs.Memory.{overwritten}
use Rattle.page_tree.specs.Climb.{IsClosed}
use Rattle.page_tree.proofs.KeyUpdated.{pending_closed, paid_up}
use Rattle.page_tree.proofs.NeedsUpdate.{pending_moved, rebalanced_done, rebalanced_more}
use Rattle.page_tree.specs.Broken.{Meets, Breaks}
use Rattle.page_tree.specs.Rebalancing.{IsRebalancing}
use Rattle.page_tree.proofs.WayLaws.{from_memory}
use Rattle.page_tree.proofs.RebalancingLaws.{rebalances_on}
use Rattle.page_tree.proofs.underfull.rebalance.Goals as goal

pub returns-then-done-clause-rebalanced : goal.returns-then-done-clause-rebalanced
returns-then-done-clause-rebalanced g c = λ b h records pending.
    let was = c.up.invariant.pending b h records pending in
    let size = g.met.M.FlatMem.same_size _ _ c.up.invariant.kept in
    let here = pending_moved g.row.E g.row.K _ _ was.0 records _ _ c.up.level c.args.path.now.pages c.args.path.now.index c.up.at c.up.page _ _ c.up.header.free c.up.header.top size (sym c.up.invariant.levels) (sym c.up.invariant.root) was.2 in
    let closed = rebalanced_done g.row.E g.row.K _ _ records _ _ _ _ _ _ _ _ _ _ _ c.in-Ok.done c.if-done.true (c.in-Ok.ensures.rebalanced was.0 was.1 records here) in (
      closed.0,
      closed.1,
      subst (λ (s : ℕ). IsClosed g.row.E g.row.K (s / 512) closed.0 records c.rebalance_up.new.header.levels c.rebalance_up.new.header.root c.rebalance_up.new.header.free c.rebalance_up.new.header.top) (sym size) closed.2,
      c.rebalance_up.ensures.goes.some_levels,
      omega (arith, c.rebalance_up.ensures.goes.levels, c.up.invariant.levels, c.requires.way.few),
    )

pub returns-in-Err-clause-rebalanced : goal.returns-in-Err-clause-rebalanced
returns-in-Err-clause-rebalanced g c = λ b h records pending.
    let was = c.up.invariant.pending b h records pending in
    let size = g.met.M.FlatMem.same_size _ _ c.up.invariant.kept in
    let here = pending_moved g.row.E g.row.K _ _ was.0 records _ _ c.up.level c.args.path.now.pages c.args.path.now.index c.up.at c.up.page _ _ c.up.header.free c.up.header.top size (sym c.up.invariant.levels) (sym c.up.invariant.root) was.2 in
    c.in-Err.ensures.rebalanced was.0 was.1 records here

pub up-preserved : goal.up-preserved
up-preserved g c = record {
  order = (omega arith, omega (arith, c.in-Ok.ensures.goes.same_levels c.if-done.false, c.up-test.true));
  levels = c.in-Ok.ensures.goes.same_levels c.if-done.false ∙ c.up.invariant.levels;
  root = c.in-Ok.ensures.goes.same_root c.if-done.false ∙ c.up.invariant.root;
  count = c.rebalance_up.ensures.goes.count ∙ c.up.invariant.count;
  inside = rw (g.met.M.FlatMem.same_size _ _ c.up.invariant.kept) c.in-Ok.ensures.goes.inside;
  pending = λ b h records pending.
      let was = c.up.invariant.pending b h records pending in
      let size = g.met.M.FlatMem.same_size _ _ c.up.invariant.kept in
      let here = pending_moved g.row.E g.row.K _ _ was.0 records _ _ c.up.level c.args.path.now.pages c.args.path.now.index c.up.at c.up.page _ _ c.up.header.free c.up.header.top size (sym c.up.invariant.levels) (sym c.up.invariant.root) was.2 in
      let more = rebalanced_more g.row.E g.row.K _ _ records _ _ _ _ _ _ _ _ _ _ _ c.in-Ok.done c.if-done.false (c.in-Ok.ensures.rebalanced was.0 was.1 records here) in (
        more.0,
        more.1,
        pending_moved g.row.E g.row.K _ _ more.0 records _ _ (c.up.level + 1) c.args.path.now.pages c.args.path.now.index c.rebalance_up.new.at c.rebalance_up.new.page _ _ c.rebalance_up.new.header.free c.rebalance_up.new.header.top (sym size) c.up.invariant.levels c.up.invariant.root more.2,
      );
  way = λ root b d h rebalancing at_met.
      let was = c.up.invariant.way root b d h rebalancing at_met in
      let rebalancing_now = subst (λ (n : ℕ). IsRebalancing g.row.K b was.0 n c.up.level root c.args.path.now.pages c.args.path.now.index) (sym c.up.invariant.levels) was.2 in
      let on = rebalances_on g.row.K (g.M.FlatMem.reveals c.rebalance_up.new.mem) b c.up.header.levels (c.up.level + 1) root c.args.path.now.pages c.args.path.now.index c.in-Ok.done c.if-done.false (c.in-Ok.ensures.on root b was.0 was.1 rebalancing_now was.3) in (
        on.0,
        on.1,
        subst (λ (n : ℕ). IsRebalancing g.row.K b on.0 n (c.up.level + 1) root c.args.path.now.pages c.args.path.now.index) c.up.invariant.levels on.2,
        subst (Meets g.row.K b (c.up.level + 1)) (sym (c.in-Ok.ensures.goes.up c.if-done.false)) (was.2.met.met (c.up.level + 1) (omega (arith, c.up.invariant.order.0)) (omega (arith, c.up-test.true, c.up.invariant.levels))),
      );
  long = c.rebalance_up.array_long;
  kept = g.met.M.FlatMem.beside_through _ _ _ c.up.invariant.kept c.rebalance_up.ensures.works.kept;
  cost = paid_up (g.M.FlatMem.spent c.up.mem) (g.M.FlatMem.spent c.rebalance_up.new.mem) (g.M.FlatMem.spent c.args.mem.now) g.M.FlatMem.cost c.up.level (omega (arith, c.up-test.true, c.up.invariant.levels, c.requires.way.few)) c.rebalance_up.ensures.works.cost c.up.invariant.cost;
}

pub returns-in-Ok-store-clause-rebalanced : goal.returns-in-Ok-store-clause-rebalanced
returns-in-Ok-store-clause-rebalanced g c = λ b h records pending.
    let was = c.up.invariant.pending b h records pending in
    let size = g.met.M.FlatMem.same_size _ _ c.up.invariant.kept in
    let here = pending_moved g.row.E g.row.K _ _ was.0 records _ _ c.up.level c.args.path.now.pages c.args.path.now.index c.up.at c.up.page _ _ c.up.header.free c.up.header.top size (sym c.up.invariant.levels) (sym c.up.invariant.root) was.2 in
    let at_top : c.up.level ≡ c.up.header.levels = omega (arith, c.up-test.false, c.up.invariant.order.1) in
    let long : 512 * (g.M.FlatMem.size c.up.mem / 512) ≤ length was.0 = omega (arith, g.met.M.FlatMem.revealed_length c.up.mem was.0 was.1) in
    let closed = pending_closed g.row.E g.row.K (g.M.FlatMem.size c.up.mem / 512) was.0 records c.up.header.levels c.up.level c.args.path.now.pages c.args.path.now.index c.up.at c.up.page c.up.header.root c.up.header.free c.up.header.top here
    c.up.invariant.order.0 c.up.invariant.order.1 long c.up.invariant.long (λ under. absurd (omega (arith, under, at_top))) in (
      overwritten was.0 (512 * c.up.at) c.up.page,
      c.in-Ok-store.ensures.written was.0 was.1,
      subst (λ (s : ℕ). IsClosed g.row.E g.row.K (s / 512) (overwritten was.0 (512 * c.up.at) c.up.page) records c.up.header.levels c.up.header.root c.up.header.free c.up.header.top) (sym size) closed,
      omega (arith, c.up.invariant.order),
      omega (arith, c.up.invariant.levels, c.requires.way.few),
    )

pub returns-in-Err-clause-broken : goal.returns-in-Err-clause-broken
returns-in-Err-clause-broken g c = λ root b d h rebalancing at_met.
    let was = c.up.invariant.way root b d h rebalancing at_met in
    let size = g.met.M.FlatMem.same_size _ _ c.up.invariant.kept in
    let rebalancing_now = subst (λ (n : ℕ). IsRebalancing g.row.K b was.0 n c.up.level root c.args.path.now.pages c.args.path.now.index) (sym c.up.invariant.levels) was.2 in
    rw size (c.in-Err.ensures.on root b was.0 was.1 rebalancing_now was.3)

pub returns-in-Err-store-clause-broken : goal.returns-in-Err-store-clause-broken
returns-in-Err-store-clause-broken g c = λ root b d h rebalancing at_met. from_memory (Breaks g.row.E g.row.K (g.M.FlatMem.size c.args.mem.now / 512) b) c.in-Err-store.error c.in-Err-store.ensures.memory
