use Rattle.std.proofs.Common.{arith}
use Rattle.page_tree.proofs.MetLaws.{err_wider, broken_inside}
use Rattle.page_tree.proofs.Listed.{lists_kept}
use Rattle.page_tree.proofs.tree.PageTree.look_after_at.Goals as goal

pub returns-clause-found : goal.returns-clause-found
returns-clause-found g c = λ xs lists. c.look_after.ensures.answer lists.bytes lists.revealed xs lists.tree

pub returns-clause-same_list : goal.returns-clause-same_list
returns-clause-same_list g c = λ xs lists. lists_kept g.row.E g.row.K _ _ _ _ xs (g.met.M.FlatMem.same_size _ _ c.look_after.ensures.looks.kept) c.look_after.ensures.looks.unchanged lists

pub returns-clause-inside : goal.returns-clause-inside
returns-clause-inside g c = λ b h. err_wider c.look_after.result _ _ (λ why named. broken_inside g.row.E g.row.K _ b why (g.met.M.FlatMem.revealed_length _ b h) (omega (arith, c.args.self.now.least)) named) (c.look_after.ensures.broken b h)
