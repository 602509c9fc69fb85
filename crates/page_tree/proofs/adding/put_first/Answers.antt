use Rattle.std.proofs.Common.{◌*◌, ◌/◌, ◌≤◌, length, arith}
use Rattle.page_tree.proofs.Low.{empty_open, first_put}
use Rattle.page_tree.proofs.Calls.{works_as, looks_works, works_on}
use Rattle.page_tree.proofs.adding.put_first.Goals as goal

pub returns-clause-put : goal.returns-clause-put
returns-clause-put g c = λ b h records tree is.
    let size : 512 * (g.M.FlatMem.size c.args.mem.now / 512) ≤ length b = omega (arith, g.met.M.FlatMem.revealed_length c.args.mem.now b h) in
    let nine : 9 ≤ g.M.FlatMem.size c.args.mem.now / 512 = omega (arith, c.requires.sized.some_pages) in
    let opened = empty_open g.row.E g.row.K (g.M.FlatMem.size c.args.mem.now / 512) b records c.args.header.now.count c.args.header.now.root c.args.header.now.top c.args.header.now.free c.args.header.now.levels tree is c.requires.none nine in
    first_put g.row.E g.row.K (g.M.FlatMem.size c.args.mem.now / 512) b records c.args.header.now.count c.args.header.now.root c.args.header.now.top c.args.header.now.free c.args.header.now.levels tree is c.requires.none nine size
    c.in-Ok.new c.take_page.new.header.top c.take_page.new.header.free (c.in-Ok.ensures.taken b h tree.free opened.3) c.in-Ok.ensures.inside.1 c.args.entry.now c.make_leaf.new.page c.make_leaf.array_long (c.make_leaf.ensures g.row.K)
    (g.M.FlatMem.reveals c.store.new.mem) (c.in-Ok-store.ensures.written b (c.take_page.ensures.looks.unchanged b h))

pub returns-in-Err-clause-on : goal.returns-in-Err-clause-on
returns-in-Err-clause-on g c = λ b h way. c.in-Err.ensures.on g.row.E g.row.K 0 0 b b h (omega arith) way

pub returns-in-Err-clause-works : goal.returns-in-Err-clause-works
returns-in-Err-clause-works g c = works_as g.M.FlatMem (looks_works g.M.FlatMem c.take_page.ensures.looks) c.in-Err.ensures.looks.cause (omega (arith, c.take_page.ensures.looks.cost))

pub returns-in-Err-store-clause-works : goal.returns-in-Err-store-clause-works
returns-in-Err-store-clause-works g c = works_on g.M.FlatMem g.met.M.FlatMem.beside_through g.met.M.FlatMem.beside_itself g.met.M.FlatMem.accounted_wider c.take_page.ensures.looks.kept c.store.ensures.works c.in-Err-store.ensures.works.cause (omega (arith, c.take_page.ensures.looks.cost, c.store.ensures.works.cost))

pub returns-clause-works : goal.returns-clause-works
returns-clause-works g c = works_on g.M.FlatMem g.met.M.FlatMem.beside_through g.met.M.FlatMem.beside_itself g.met.M.FlatMem.accounted_wider c.take_page.ensures.looks.kept c.store.ensures.works tt (omega (arith, c.take_page.ensures.looks.cost, c.store.ensures.works.cost))
