use Rattle.std.proofs.Common.{arith}
use Rattle.page_tree.proofs.MetLaws.{broken_inside}
use Rattle.page_tree.proofs.Listed.{lists_kept}
use Rattle.page_tree.proofs.tree.PageTree.look_after.Goals as goal

pub returns-in-Ok-clause-found : goal.returns-in-Ok-clause-found
returns-in-Ok-clause-found g c = λ xs lists. rw c.is_some.ensures (c.in-Ok.ensures.answer lists.bytes lists.revealed xs lists.tree)

pub returns-in-Err-clause-found : goal.returns-in-Err-clause-found
returns-in-Err-clause-found g c = λ xs lists. c.in-Err.ensures.answer lists.bytes lists.revealed xs lists.tree

pub returns-in-Ok-clause-same_list : goal.returns-in-Ok-clause-same_list
returns-in-Ok-clause-same_list g c = λ xs lists. lists_kept g.row.E g.row.K _ _ _ _ xs (g.met.M.FlatMem.same_size _ _ c.look_after.ensures.looks.kept) c.look_after.ensures.looks.unchanged lists

pub returns-in-Err-clause-same_list : goal.returns-in-Err-clause-same_list
returns-in-Err-clause-same_list g c = λ xs lists. lists_kept g.row.E g.row.K _ _ _ _ xs (g.met.M.FlatMem.same_size _ _ c.look_after.ensures.looks.kept) c.look_after.ensures.looks.unchanged lists

pub returns-in-Err-clause-inside : goal.returns-in-Err-clause-inside
returns-in-Err-clause-inside g c = λ b h. broken_inside g.row.E g.row.K _ b c.in-Err.error (g.met.M.FlatMem.revealed_length _ b h) (omega (arith, c.args.self.now.least)) (c.in-Err.ensures.broken b h)
