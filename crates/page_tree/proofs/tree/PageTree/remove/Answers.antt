use Rattle.std.proofs.Common.{arith}
use Rattle.page_tree.proofs.MetLaws.{err_wider, past_inside}
use Rattle.page_tree.proofs.Listed.{lists_out_at}
use Rattle.page_tree.proofs.Moved.{match_weaker}
use Rattle.page_tree.proofs.tree.PageTree.remove.Goals as goal

pub returns-clause-removed : goal.returns-clause-removed
returns-clause-removed g c = λ xs lists below.
    let size = g.met.M.FlatMem.same_size _ _ c.remove.ensures.works.kept in
    match_weaker c.remove.result _ _ _ _ (λ _ done. lists_out_at g.row.E g.row.K _ _ _ xs size c.args.index done) (λ why from. from) (c.remove.ensures.answer lists.bytes lists.revealed xs lists.tree below)

pub returns-clause-past : goal.returns-clause-past
returns-clause-past g c = λ xs lists past. c.remove.ensures.past lists.bytes lists.revealed xs lists.tree past

pub returns-clause-inside : goal.returns-clause-inside
returns-clause-inside g c = λ b h. err_wider c.remove.result _ _ (λ why named. past_inside g.row.E g.row.K _ b _ why (g.met.M.FlatMem.revealed_length _ b h) (omega (arith, c.args.self.now.least)) named) (c.remove.ensures.broken b h)
