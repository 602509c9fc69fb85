use Rattle.std.proofs.Common.{arith, refl, sym, subst}
use Rattle.page_tree.specs.Broken.{IsLeafForm}
use Rattle.page_tree.proofs.MetLaws.{leaf_broken}
use Rattle.page_tree.proofs.walk.read_leaf.Goals as goal
use Rattle.page_tree.proofs.walk.read_leaf.Goals.{then-page-ne1-via-then-page-ne1, then-page-ne1-via-else-page-ne1+then-count-eq0, then-page-ne1-via-else-page-ne1+else-count-eq0+then-count}

pub returns-then-page-ne1-clause-broken : goal.returns-then-page-ne1-clause-broken
returns-then-page-ne1-clause-broken g c = λ pages b h met.
    leaf_broken g.row.E g.row.K pages b 1 c.args.at refl met (λ form.
    let leaf = subst (IsLeafForm g.row.E) (sym (c.in-Ok.ensures.read b h)) form in
    elim c.then-page-ne1.branch [
      | then-page-ne1-via-then-page-ne1 w ↦ absurd (w.if-page-ne1.true leaf.kind)
      | then-page-ne1-via-else-page-ne1+then-count-eq0 w ↦ absurd (omega (arith, leaf.some, w.if-count-eq0.true, c.filled_of-count.ensures))
      | then-page-ne1-via-else-page-ne1+else-count-eq0+then-count w ↦ absurd (omega (arith, leaf.most, w.if-count.true, c.filled_of-count.ensures))
    ])
