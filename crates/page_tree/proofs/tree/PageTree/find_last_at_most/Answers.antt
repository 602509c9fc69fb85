use Rattle.std.proofs.Common.{arith}
use Rattle.page_tree.proofs.MetLaws.{err_wider, broken_inside}
use Rattle.page_tree.proofs.Listed.{lists_kept}
use Rattle.page_tree.proofs.tree.PageTree.find_last_at_most.Goals as goal

pub returns-clause-found : goal.returns-clause-found
returns-clause-found g c = λ xs lists. c.find_last_at_most.ensures.answer lists.bytes lists.revealed xs lists.tree

pub returns-clause-same_list : goal.returns-clause-same_list
returns-clause-same_list g c = λ xs lists. lists_kept g.row.E g.row.K _ _ _ _ xs (g.met.M.FlatMem.same_size _ _ c.find_last_at_most.ensures.looks.kept) c.find_last_at_most.ensures.looks.unchanged lists

pub returns-clause-inside : goal.returns-clause-inside
returns-clause-inside g c = λ b h. err_wider c.find_last_at_most.result _ _ (λ why named. broken_inside g.row.E g.row.K _ b why (g.met.M.FlatMem.revealed_length _ b h) (omega (arith, c.args.self.now.least)) named) (c.find_last_at_most.ensures.broken b h)
