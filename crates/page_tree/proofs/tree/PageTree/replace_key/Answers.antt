use Rattle.std.proofs.Common.{arith}
use Rattle.page_tree.proofs.MetLaws.{err_wider, broken_inside}
use Rattle.page_tree.proofs.Listed.{lists_over}
use Rattle.page_tree.proofs.Moved.{match_weaker}
use Rattle.page_tree.proofs.tree.PageTree.replace_key.Goals as goal

pub returns-clause-replaced : goal.returns-clause-replaced
returns-clause-replaced g c = λ xs lists.
    let same = g.met.M.FlatMem.same_size _ _ c.replace_key.ensures.works.kept in
    match_weaker c.replace_key.result _ _ _ _ (λ found done. lists_over g.row.E g.row.K _ _ _ xs same lists.bytes c.args.entry.now found lists.tree done) (λ why from. from) (c.replace_key.ensures.answer lists.bytes lists.revealed xs lists.tree)

pub returns-clause-inside : goal.returns-clause-inside
returns-clause-inside g c = λ b h. err_wider c.replace_key.result _ _ (λ why named. broken_inside g.row.E g.row.K _ b why (g.met.M.FlatMem.revealed_length _ b h) (omega (arith, c.args.self.now.least)) named) (c.replace_key.ensures.broken b h)
