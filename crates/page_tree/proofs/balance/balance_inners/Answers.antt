use Rattle.std.proofs.Common.{ℕ, ◌++◌, inl, inr, List, length, arith, sym, subst, length-append}
use Rattle.page_tree.specs.Page.{IsInner, IsEnough}
use Rattle.page_tree.proofs.Inner.{links_fit}
use Rattle.page_tree.proofs.InnerLess.{inner_append}
use Rattle.page_tree.proofs.Neighbours.{page_of_inner, inner_both, inner_lends}
use Rattle.page_tree.proofs.balance.balance_inners.Goals as goal

pub returns-then-count-more : goal.returns-then-count-more
returns-then-count-more g c = record {
  balanced = λ e l xs ys high inner inner' named enough enough' underfull. (
    page_of_inner e g.row.K l _ _ high (subst (λ (x : List ℕ). IsInner g.row.K x (xs ++ ys)) (sym c.append_children.ensures)
        (inner_append g.row.K c.args.left.now xs c.args.right.now ys c.filled_of-count.result c.filled_of-more.result c.args.key.now c.requires.some_key c.requires.key_most inner inner' c.told-left c.told-right c.filled_of-count.ensures c.filled_of-more.ensures c.told-key named (omega (arith, c.if-count-more.true)))),
    subst (IsEnough e g.row.K l) (sym (length-append xs ys)) (inner_both e g.row.K l (length xs) (length ys) high c.requires.some_key c.requires.key_most enough enough'),
  );
}

pub returns-else-count-more-2 : goal.returns-else-count-more-2
returns-else-count-more-2 g c = record {
  balanced = λ e l xs ys high inner inner' named enough enough' underfull.
      let lends = inner_lends e g.row.K l c.filled_of-count.result c.filled_of-more.result (length xs) high (omega (arith, c.filled_of-count.ensures, inner.count)) c.if-count-more.false (omega (arith, c.if-count-more-2.false))
      (elim underfull [ inl left ↦ inl (omega (arith, left, c.filled_of-count.ensures)) | inr right ↦ inr (omega (arith, right, c.filled_of-more.ensures)) ]) in
      c.child_right.ensures.halves e l xs ys high inner inner' c.filled_of-count.ensures c.filled_of-more.ensures (omega (arith, lends.0, links_fit g.row.K c.requires.some_key c.requires.key_most)) named lends.1 enough';
}
