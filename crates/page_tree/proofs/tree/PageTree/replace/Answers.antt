use Rattle.std.proofs.Common.{arith}
use Rattle.page_tree.proofs.MetLaws.{err_wider, past_inside}
use Rattle.page_tree.proofs.Listed.{lists_set_at}
use Rattle.page_tree.proofs.Moved.{match_weaker}
use Rattle.page_tree.proofs.tree.PageTree.replace.Goals as goal

pub returns-clause-replaced : goal.returns-clause-replaced
returns-clause-replaced g c = λ xs lists below same.
    let size = g.met.M.FlatMem.same_size _ _ c.replace.ensures.works.kept in
    match_weaker c.replace.result _ _ _ _ (λ _ done. lists_set_at g.row.E g.row.K _ _ _ xs size c.args.index c.args.entry.now done) (λ why from. from) (c.replace.ensures.answer lists.bytes lists.revealed xs lists.tree below same)

pub returns-clause-past : goal.returns-clause-past
returns-clause-past g c = λ xs lists past. c.replace.ensures.past lists.bytes lists.revealed xs lists.tree past

pub returns-clause-inside : goal.returns-clause-inside
returns-clause-inside g c = λ b h. err_wider c.replace.result _ _ (λ why named. past_inside g.row.E g.row.K _ b _ why (g.met.M.FlatMem.revealed_length _ b h) (omega (arith, c.args.self.now.least)) named) (c.replace.ensures.broken b h)
