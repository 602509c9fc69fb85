use Rattle.std.proofs.Common.{ℕ, ◌/◌, List, arith, subst}
use Rattle.page_tree.specs.Broken.{StopsInsertion}
use Rattle.page_tree.proofs.Unbroken.{unstopped}
use Rattle.page_tree.proofs.laws.listed_is_unbroken.Goals as goal

pub returns : goal.returns
returns g c = λ xs lists b h page broken.
    let tree = c.args.tree.now in
    unstopped g.row.E g.row.K (g.M.FlatMem.size tree.mem / 512) lists.bytes xs lists.tree tree.widths (omega (arith, tree.least)) (omega (arith, tree.most)) page
    (subst (λ (x : List ℕ). StopsInsertion g.row.E g.row.K (g.M.FlatMem.size tree.mem / 512) x page) (g.met.M.FlatMem.revealed_once _ _ _ h lists.revealed) broken)
