use Rattle.std.proofs.Common.{arith}
use Rattle.page_tree.proofs.MetLaws.{err_wider, past_inside}
use Rattle.page_tree.proofs.Listed.{lists_kept}
use Rattle.page_tree.proofs.tree.PageTree.nth.Goals as goal

pub returns-clause-entry : goal.returns-clause-entry
returns-clause-entry g c = λ xs lists below. c.nth.ensures.answer lists.bytes lists.revealed xs lists.tree below

pub returns-clause-past : goal.returns-clause-past
returns-clause-past g c = ((λ xs lists past. c.nth.ensures.past lists.bytes lists.revealed xs lists.tree past), c.nth.ensures.past_any)

pub returns-clause-same_list : goal.returns-clause-same_list
returns-clause-same_list g c = λ xs lists. lists_kept g.row.E g.row.K _ _ _ _ xs (g.met.M.FlatMem.same_size _ _ c.nth.ensures.looks.kept) c.nth.ensures.looks.unchanged lists

pub returns-clause-inside : goal.returns-clause-inside
returns-clause-inside g c = λ b h. err_wider c.nth.result _ _ (λ why named. past_inside g.row.E g.row.K _ b _ why (g.met.M.FlatMem.revealed_length _ b h) (omega (arith, c.args.self.now.least)) named) (c.nth.ensures.broken b h)
