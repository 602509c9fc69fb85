use Rattle.std.proofs.Common.{◌≡◌, ℕ, ◌+◌, ◌-◌, ◌*◌, ◌/◌, ◌≤◌, length, MatchResult, arith, sym, ◌∙◌, subst}
use Rattle.page_tree.specs.Answer.{FromMemory}
use Rattle.page_tree.specs.Climb.{RevealsClosed}
use Rattle.page_tree.specs.Put.{capacity_of}
use Rattle.page_tree.proofs.Moved.{climb_moved, closed_moved, step_done, step_more}
use Rattle.page_tree.specs.Broken.{StopsInsertion}
use Rattle.page_tree.specs.Met.{IsMetPath}
use Rattle.page_tree.specs.Way.{IsUnderWay}
use Rattle.page_tree.proofs.WayLaws.{goes_on, root_full, spends, spends_most}
use Rattle.page_tree.proofs.Calls.{works_on}
use Rattle.page_tree.proofs.climb.climb.Goals as goal

pub returns-then-done-clause-done : goal.returns-then-done-clause-done
returns-then-done-clause-done g c = λ e b h records widths capacity climb.
    let was = c.up.invariant.climb e b h records climb in
    let size = g.met.M.FlatMem.same_size _ _ c.up.invariant.kept in
    let here = climb_moved e g.row.K _ _ was.0 records _ _ c.up.level c.args.path.now.pages c.args.path.now.index c.up.half.key c.up.half.page _ _ c.up.header.free c.up.header.top size (sym c.up.invariant.levels) (sym c.up.invariant.root) was.2 in
    let step = c.in-Ok.ensures.step e was.0 was.1 records here in
    let closed = step_done e g.row.K _ _ records _ _ _ _ _ _ _ _ _ c.in-Ok.done c.if-done.true step in (
      closed.0,
      closed.1,
      closed_moved e g.row.K _ _ closed.0 records _ _ _ _ c.put_up.new.header.free c.put_up.new.header.top (sym size) (sym c.put_up.ensures.keeps.levels) (sym c.put_up.ensures.keeps.root) closed.2,
      omega (arith, c.put_up.ensures.keeps.levels, c.up.invariant.levels, c.requires.way.some),
      omega (arith, c.put_up.ensures.keeps.levels, c.up.invariant.levels, c.requires.way.few),
    )

pub returns-in-Err-clause-done : goal.returns-in-Err-clause-done
returns-in-Err-clause-done g c = λ e b h records widths capacity climb.
    let was = c.up.invariant.climb e b h records climb in
    let size = g.met.M.FlatMem.same_size _ _ c.up.invariant.kept in
    let here = climb_moved e g.row.K _ _ was.0 records _ _ c.up.level c.args.path.now.pages c.args.path.now.index c.up.half.key c.up.half.page _ _ c.up.header.free c.up.header.top size (sym c.up.invariant.levels) (sym c.up.invariant.root) was.2 in
    c.in-Err.ensures.step e was.0 was.1 records here

pub up-preserved : goal.up-preserved
up-preserved g c = record {
  order = (omega arith, omega (arith, c.put_up.ensures.keeps.levels, c.up-test.true));
  levels = c.put_up.ensures.keeps.levels ∙ c.up.invariant.levels;
  root = c.put_up.ensures.keeps.root ∙ c.up.invariant.root;
  count = c.put_up.ensures.keeps.count ∙ c.up.invariant.count;
  climb = λ e b h records climb.
      let was = c.up.invariant.climb e b h records climb in
      let size = g.met.M.FlatMem.same_size _ _ c.up.invariant.kept in
      let here = climb_moved e g.row.K _ _ was.0 records _ _ c.up.level c.args.path.now.pages c.args.path.now.index c.up.half.key c.up.half.page _ _ c.up.header.free c.up.header.top size (sym c.up.invariant.levels) (sym c.up.invariant.root) was.2 in
      let step = c.in-Ok.ensures.step e was.0 was.1 records here in
      let more = step_more e g.row.K _ _ records _ _ _ _ _ _ _ _ _ c.in-Ok.done c.if-done.false step in (
        more.0,
        more.1,
        climb_moved e g.row.K _ _ more.0 records _ _ (c.up.level + 1) c.args.path.now.pages c.args.path.now.index c.put_up.new.half.key c.put_up.new.half.page _ _ c.put_up.new.header.free c.put_up.new.header.top (sym size) c.up.invariant.levels c.up.invariant.root more.2,
      );
  way = λ e b d h way path.
      let was = c.up.invariant.way e b d h way path in
      let size = g.met.M.FlatMem.same_size _ _ c.up.invariant.kept in
      let path_now : IsMetPath g.row.K b c.up.header.levels 1 c.args.header.now.root c.args.path.now.pages c.args.path.now.index = rw c.up.invariant.levels path in
      let on = goes_on g.row.K (g.M.FlatMem.reveals c.put_up.new.mem) b (c.up.level + 1) _ _ c.in-Ok.done c.if-done.false (c.in-Ok.ensures.on e c.args.header.now.root b was.0 was.1 was.2 path_now) in (
        on.0,
        on.1,
        on.2,
        λ above. rw size (c.in-Ok.ensures.full e c.args.header.now.root b was.0 was.1 was.2 path_now c.if-done.false),
      );
  free = omega (arith, c.in-Ok.ensures.free, g.met.M.FlatMem.same_size _ _ c.up.invariant.kept);
  cost = spends _ _ _ (4 * g.M.FlatMem.cost) (c.up.level - 1) (c.up.level + 1 - 1) (omega (arith, c.up.invariant.order.0)) c.up.invariant.cost c.put_up.ensures.works.cost;
  kept = g.met.M.FlatMem.beside_through _ _ _ c.up.invariant.kept c.put_up.ensures.works.kept;
}

pub returns-clause-done : goal.returns-clause-done
returns-clause-done g c = λ e b h records widths capacity climb.
    let was = c.up.invariant.climb e b h records climb in
    let size = g.met.M.FlatMem.same_size _ _ c.up.invariant.kept in
    let here = climb_moved e g.row.K _ _ was.0 records _ _ c.up.level c.args.path.now.pages c.args.path.now.index c.up.half.key c.up.half.page _ _ c.up.header.free c.up.header.top size (sym c.up.invariant.levels) (sym c.up.invariant.root) was.2 in
    let at_top : c.up.level ≡ c.up.header.levels = omega (arith, c.up-test.false, c.up.invariant.order.1) in
    let fits = subst (λ (s : ℕ). length records ≤ capacity_of e (s / 512)) size capacity in
    let grown = c.grow.ensures.grown e was.0 was.1 records c.up.level c.args.path.now.pages c.args.path.now.index widths fits at_top here in
    subst (λ (s : ℕ). MatchResult c.grow.result (λ x. RevealsClosed e g.row.K (s / 512) (g.M.FlatMem.reveals c.grow.new.mem) records c.grow.new.header.levels c.grow.new.header.root c.grow.new.header.free c.grow.new.header.top) FromMemory) (sym size) grown

pub returns-in-Err-clause-on : goal.returns-in-Err-clause-on
returns-in-Err-clause-on g c = λ e b d h way top path.
    let was = c.up.invariant.way e b d h way path in
    let size = g.met.M.FlatMem.same_size _ _ c.up.invariant.kept in
    let path_now : IsMetPath g.row.K b c.up.header.levels 1 c.args.header.now.root c.args.path.now.pages c.args.path.now.index = rw c.up.invariant.levels path in
    rw size (c.in-Err.ensures.on e c.args.header.now.root b was.0 was.1 was.2 path_now)

pub returns-clause-on : goal.returns-clause-on
returns-clause-on g c = λ e b d h way top path.
    let was = c.up.invariant.way e b d h way path in
    let size = g.met.M.FlatMem.same_size _ _ c.up.invariant.kept in
    let at_top : c.up.level ≡ c.up.header.levels = omega (arith, c.up-test.false, c.up.invariant.order.1) in
    let way_now : IsUnderWay g.row.K b was.0 c.up.header.levels c.up.header.levels c.up.header.free c.up.header.top = rw at_top at was.2 in
    let six : 6 ≤ c.up.header.levels → StopsInsertion e g.row.K (g.M.FlatMem.size c.args.mem.now / 512) b c.up.header.root = λ six.
    rw c.up.invariant.root (root_full e g.row.K _ b c.args.header.now.levels c.up.level c.args.header.now.root c.args.path.now.pages c.args.path.now.index path top (at_top ∙ c.up.invariant.levels) (omega (arith, six, c.up.invariant.levels, c.requires.way.few)) was.3) in
    rw size (c.grow.ensures.on e b was.0 was.1 way_now (rw (← size) six))

pub returns-in-Err-clause-works : goal.returns-in-Err-clause-works
returns-in-Err-clause-works g c =
    let most = spends_most _ _ (4 * g.M.FlatMem.cost) (c.up.level - 1 + 1) (omega (arith, c.up-test.true, c.up.invariant.levels, c.requires.way.few, c.up.invariant.order)) (spends _ _ _ (4 * g.M.FlatMem.cost) (c.up.level - 1) (c.up.level - 1 + 1) (omega arith) c.up.invariant.cost c.put_up.ensures.works.cost) in
    works_on g.M.FlatMem g.met.M.FlatMem.beside_through g.met.M.FlatMem.beside_itself g.met.M.FlatMem.accounted_wider c.up.invariant.kept c.put_up.ensures.works c.in-Err.ensures.works.cause (omega (arith, most))

pub returns-then-done-clause-works : goal.returns-then-done-clause-works
returns-then-done-clause-works g c =
    let most = spends_most _ _ (4 * g.M.FlatMem.cost) (c.up.level - 1 + 1) (omega (arith, c.up-test.true, c.up.invariant.levels, c.requires.way.few, c.up.invariant.order)) (spends _ _ _ (4 * g.M.FlatMem.cost) (c.up.level - 1) (c.up.level - 1 + 1) (omega arith) c.up.invariant.cost c.put_up.ensures.works.cost) in
    works_on g.M.FlatMem g.met.M.FlatMem.beside_through g.met.M.FlatMem.beside_itself g.met.M.FlatMem.accounted_wider c.up.invariant.kept c.put_up.ensures.works tt (omega (arith, most))

pub returns-clause-works : goal.returns-clause-works
returns-clause-works g c =
    let most = spends_most _ _ (4 * g.M.FlatMem.cost) (c.up.level - 1) (omega (arith, c.up.invariant.order, c.up.invariant.levels, c.requires.way.few)) c.up.invariant.cost in
    works_on g.M.FlatMem g.met.M.FlatMem.beside_through g.met.M.FlatMem.beside_itself g.met.M.FlatMem.accounted_wider c.up.invariant.kept c.grow.ensures.works c.grow.ensures.works.cause (omega (arith, most, c.grow.ensures.works.cost))
