use Rattle.std.proofs.Common.{arith}
use Rattle.page_tree.proofs.MetLaws.{err_wider, stop_inside}
use Rattle.page_tree.proofs.Listed.{lists_put, lists_full}
use Rattle.page_tree.proofs.Moved.{match_weaker}
use Rattle.page_tree.proofs.tree.PageTree.insert.Goals as goal

pub returns-clause-inserted : goal.returns-clause-inserted
returns-clause-inserted g c = λ xs lists.
    let same = g.met.M.FlatMem.same_size _ _ c.insert.ensures.kept in
    match_weaker c.insert.result _ _ _ _
    (λ _ put. lists_put g.row.E g.row.K _ _ _ xs same c.args.entry.now put)
    (λ why full. lists_full g.row.E g.row.K _ _ _ xs same lists.bytes lists.tree why full)
    (c.insert.ensures.answer lists.bytes lists.revealed xs lists.tree)

pub returns-clause-inside : goal.returns-clause-inside
returns-clause-inside g c = λ b h. err_wider c.insert.result _ _ (λ why named. stop_inside g.row.E g.row.K _ b why (g.met.M.FlatMem.revealed_length _ b h) (omega (arith, c.args.self.now.least)) named) (c.insert.ensures.broken b h)
