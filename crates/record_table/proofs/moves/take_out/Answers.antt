use Rattle.std.proofs.Common.{inl, ◌-◌, ◌/◌, ◌<◌, arith, refl}
use Rattle.record_table.specs.Table.{per_page, pages_of}
use Rattle.record_table.proofs.Emptying.{IsRow, is_row, one_less, empty_start, empty_more, empty_end, even_end, left_after}
use Rattle.record_table.proofs.moves.take_out.Goals as goal

pub moving-init : goal.moving-init
moving-init g c = record {
  order = (omega (arith, c.requires.order), omega arith);
  ends = λ more. inl refl;
  kept = g.met.M.FlatMem.beside_itself c.args.mem.now;
  revealed = λ b h. empty_start g.row.E b c.args.at c.args.count c.requires.order (g.M.FlatMem.reveals c.args.mem.now) _ h;
  left = λ more. omega arith;
  cost = omega arith;
}

pub moving-preserved : goal.moving-preserved
moving-preserved g c =
    let e = g.row.E in
    let some = c.requires.some in
    let most = c.requires.most in
    let was = c.moving.invariant in
    let more : c.args.at < c.moving.end = omega (arith, c.moving-test.true) in
    let row : IsRow e c.args.at c.args.count c.moving.end c.max-from.result = is_row e some most c.args.at c.args.count c.moving.end (c.moving.end - 1) c.max-from.result more refl c.max-from.ensures was.ends in
    record {
      order = (row.at_least, omega (arith, row.before, was.order.1));
      ends = even_end e some most c.args.at c.args.count c.moving.end c.max-from.result row;
      kept = g.met.M.FlatMem.beside_through _ _ _ was.kept c.pull_page.ensures.kept;
      revealed = λ b h.
          let had = was.revealed b h in
          empty_more e b c.args.at c.args.count c.requires.order (g.M.FlatMem.reveals c.moving.mem) (g.M.FlatMem.reveals c.pull_page.new.mem) c.moving.end c.max-from.result c.moving.carried c.pull_page.new.carried
          row had (c.in_ok-pull_page.ensures.moved had.now had.revealed);
      left = left_after e some most c.args.at c.args.count c.moving.end c.max-from.result g.M.FlatMem.cost _ _ _ row c.pull_page.ensures.cost (was.left more);
      cost =
          let had = rw row.pages at (was.left more) in
          omega (arith, one_less (c.max-from.result / per_page e) (pages_of e c.args.count) g.M.FlatMem.cost _ _ _ c.pull_page.ensures.cost had);
    }

pub returns-clause-taken : goal.returns-clause-taken
returns-clause-taken g c = λ b h.
    empty_end g.row.E b c.args.at c.args.count c.requires.order (g.M.FlatMem.reveals c.moving.mem) c.moving.end c.moving.carried (omega (arith, c.moving-test.false, c.moving.invariant.order)) (c.moving.invariant.revealed b h)

pub returns-in_err-pull_page-clause-kept : goal.returns-in_err-pull_page-clause-kept
returns-in_err-pull_page-clause-kept g c = g.met.M.FlatMem.beside_through _ _ _ c.moving.invariant.kept c.pull_page.ensures.kept

pub returns-in_err-pull_page-clause-cost : goal.returns-in_err-pull_page-clause-cost
returns-in_err-pull_page-clause-cost g c =
    let e = g.row.E in
    let more : c.args.at < c.moving.end = omega (arith, c.moving-test.true) in
    let row : IsRow e c.args.at c.args.count c.moving.end c.max-from.result = is_row e c.requires.some c.requires.most c.args.at c.args.count c.moving.end (c.moving.end - 1) c.max-from.result more refl c.max-from.ensures c.moving.invariant.ends in
    let had = rw row.pages at (c.moving.invariant.left more) in
    omega (arith, one_less (c.max-from.result / per_page e) (pages_of e c.args.count) g.M.FlatMem.cost _ _ _ c.pull_page.ensures.cost had)
