use Rattle.std.proofs.Common.{arith, sym, subst}
use Rattle.page_tree.specs.Broken.{IsInnerForm}
use Rattle.page_tree.proofs.MetLaws.{inner_broken}
use Rattle.page_tree.proofs.walk.read_inner.Goals as goal
use Rattle.page_tree.proofs.walk.read_inner.Goals.{then-page-ne2-via-then-page-ne2, then-page-ne2-via-else-page-ne2+then-count-eq0, then-page-ne2-via-else-page-ne2+else-count-eq0+then-count}

pub returns-then-page-ne2-clause-broken : goal.returns-then-page-ne2-clause-broken
returns-then-page-ne2-clause-broken g c = λ e l pages b h above met.
    inner_broken e g.row.K pages b l c.args.at met above (λ form.
    let inner = subst (IsInnerForm g.row.K) (sym (c.in-Ok.ensures.read b h)) form in
    elim c.then-page-ne2.branch [
      | then-page-ne2-via-then-page-ne2 w ↦ absurd (w.if-page-ne2.true inner.kind)
      | then-page-ne2-via-else-page-ne2+then-count-eq0 w ↦ absurd (omega (arith, inner.some, w.if-count-eq0.true, c.filled_of-count.ensures))
      | then-page-ne2-via-else-page-ne2+else-count-eq0+then-count w ↦ absurd (omega (arith, inner.most, w.if-count.true, c.filled_of-count.ensures))
    ])
