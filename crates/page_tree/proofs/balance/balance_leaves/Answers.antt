use Rattle.std.proofs.Common.{ℕ, ◌++◌, List, length, arith, refl, sym, subst, length-append}
use Rattle.page_tree.specs.Page.{IsLeaf, IsEnough}
use Rattle.page_tree.proofs.Less.{leaf_append}
use Rattle.page_tree.proofs.Neighbours.{page_of_leaf, both_enough}
use Rattle.page_tree.proofs.balance.balance_leaves.Goals as goal

pub returns-then-count-more : goal.returns-then-count-more
returns-then-count-more g c = record {
  balanced = λ xs ys leaf leaf' enough enough'. (
    page_of_leaf g.row.E g.row.K 1 _ _ refl (subst (λ (x : List ℕ). IsLeaf g.row.E g.row.K x (xs ++ ys)) (sym c.append_records.ensures)
        (leaf_append g.row.E g.row.K c.args.left.now xs c.args.right.now ys c.filled_of-count.result c.filled_of-more.result (omega (arith, c.requires.widths.entry_least)) leaf leaf' c.told-left c.told-right c.filled_of-count.ensures c.filled_of-more.ensures c.if-count-more.true)),
    subst (IsEnough g.row.E g.row.K 1) (sym (length-append xs ys)) (both_enough g.row.E g.row.K 1 (length xs) (length ys) c.requires.widths.some_key c.requires.widths.key_most c.requires.widths.entry_least c.requires.widths.entry_most enough enough'),
  );
}
