use Rattle.std.proofs.Common.{[], ◌/◌, ◌≤◌, arith}
use Rattle.page_tree.proofs.Grown.{zero_tree}
use Rattle.page_tree.proofs.Listed.{lists_tree}
use Rattle.page_tree.proofs.tree.PageTree.over.Goals as goal

pub returns-clause-zeros : goal.returns-clause-zeros
returns-clause-zeros g c = λ b h zeros.
    let some : 1 ≤ g.M.FlatMem.size c.args.mem / 512 = omega (arith, c.requires.least) in
    lists_tree g.row.E g.row.K _ _ b [] h (zero_tree g.row.E g.row.K _ b some zeros)
