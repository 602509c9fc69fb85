use Rattle.std.proofs.Common.{rules}
use Rattle.page_tree.proofs.SplitLaws.{halves_at}
use Rattle.page_tree.proofs.Neighbours.{inner_shift_right}
use Rattle.page_tree.proofs.balance.child_right.Goals as goal

pub returns : goal.returns
returns g c = record {
  halves = λ e l xs ys high inner inner' count count' two named enough enough'.
      halves_at e g.row.K l _ _ _ _ _ _ _
      c.put_count.ensures
      c.put_child.ensures
      c.key_of.ensures
      (inner_shift_right e g.row.K l c.args.left.now xs c.args.right.now ys c.args.count c.args.more c.args.key.now high c.requires.some_key c.requires.key_most inner inner' c.told-left c.told-right count count' c.told-key named c.link_of-link.result (search rules)
      c.requires.room two enough enough' c.link_of-link.ensures);
}
