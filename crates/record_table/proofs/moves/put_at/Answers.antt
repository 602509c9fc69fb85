use Rattle.std.proofs.Common.{◌≡◌, ◌+◌, ◌-◌, ◌/◌, ◌%◌, ◌≤◌, arith}
use Rattle.record_table.specs.Table.{per_page, pages_of}
use Rattle.record_table.specs.Moves.{first_place_after}
use Rattle.record_table.proofs.Filling.{after_place, next_is, next_row, row_below, one_more, at_most_rows, fill_start, fill_more, fill_end}
use Rattle.record_table.proofs.moves.put_at.Goals as goal

pub moving-init : goal.moving-init
moving-init g c = record {
  order = omega arith;
  kept = g.met.M.FlatMem.beside_itself c.args.mem.now;
  revealed = λ b h. fill_start g.row.E c.requires.some c.requires.most b c.args.at c.args.count c.requires.order c.args.new.now (g.M.FlatMem.reveals c.args.mem.now) h;
  rows = omega (arith, row_below g.row.E c.requires.some c.requires.most c.args.at (c.args.count + 1) (omega (arith, c.requires.order)));
  cost = omega arith;
}

pub returns-in_err-push_page-clause-cost : goal.returns-in_err-push_page-clause-cost
returns-in_err-push_page-clause-cost g c =
    let e = g.row.E in
    let paid = one_more (c.moving.place / per_page e) g.M.FlatMem.cost _ _ _ c.push_page.ensures.cost c.moving.invariant.cost in
    at_most_rows (c.moving.place / per_page e + 1) (pages_of e (c.args.count + 1)) g.M.FlatMem.cost _ _
    (omega (arith, row_below e c.requires.some c.requires.most c.moving.place (c.args.count + 1) (omega (arith, c.moving-test.true)))) paid

pub moving-preserved : goal.moving-preserved
moving-preserved g c =
    let e = g.row.E in
    let some = c.requires.some in
    let most = c.requires.most in
    let place = c.moving.place in
    let inside : place ≤ c.args.count = omega (arith, c.moving-test.true) in
    let next : (place - place % per_page e) + per_page e ≡ first_place_after e place = next_is e some most place in
    rw (next, next_row e some most place) record {
      order = omega (arith, c.moving.invariant.order, after_place e some most place);
      kept = g.met.M.FlatMem.beside_through _ _ _ c.moving.invariant.kept c.push_page.ensures.kept;
      revealed = λ b h.
          let was = c.moving.invariant.revealed b h in
          fill_more e some most b c.args.at c.args.count c.requires.order c.args.new.now (g.M.FlatMem.reveals c.moving.mem) (g.M.FlatMem.reveals c.push_page.new.mem) place c.moving.carried c.push_page.new.carried
          c.moving.invariant.order inside was (c.in_ok-push_page.ensures.moved was.now was.revealed);
      rows = omega (arith, row_below e some most place (c.args.count + 1) (omega (arith, inside)));
      cost = one_more (place / per_page e) g.M.FlatMem.cost _ _ _ c.push_page.ensures.cost c.moving.invariant.cost;
    }

pub returns-clause-put : goal.returns-clause-put
returns-clause-put g c = λ b h.
    fill_end g.row.E c.requires.some c.requires.most b c.args.at c.args.count c.requires.order c.args.new.now (g.M.FlatMem.reveals c.moving.mem) c.moving.place c.moving.carried (omega (arith, c.moving-test.false)) (c.moving.invariant.revealed b h)

pub returns-clause-cost : goal.returns-clause-cost
returns-clause-cost g c = at_most_rows (c.moving.place / per_page g.row.E) (pages_of g.row.E (c.args.count + 1)) g.M.FlatMem.cost _ _ c.moving.invariant.rows c.moving.invariant.cost

pub returns-in_err-push_page-clause-kept : goal.returns-in_err-push_page-clause-kept
returns-in_err-push_page-clause-kept g c = g.met.M.FlatMem.beside_through _ _ _ c.moving.invariant.kept c.push_page.ensures.kept
