use Rattle.std.proofs.Common.{ℕ, List, ◌∙◌, ap}
use Rattle.flat_mem.specs.Memory.{part}
use Rattle.page_tree.proofs.SplitLaws.{halves_at}
use Rattle.page_tree.proofs.Neighbours.{leaf_shift_left}
use Rattle.page_tree.proofs.balance.record_left.Goals as goal

pub returns : goal.returns
returns g c = record {
  halves = λ xs ys leaf leaf' count count' two enough enough'.
      halves_at g.row.E g.row.K 1 _ _ _ _ _ _ _
      c.put_record.ensures
      c.remove_record.ensures
      (c.first_key_of.ensures ∙ ap (λ (x : List ℕ). part x 8 g.row.K) c.remove_record.ensures)
      (leaf_shift_left g.row.E g.row.K c.args.left.now xs c.args.right.now ys c.args.count c.args.more c.requires.widths leaf leaf' c.told-left c.told-right count count' c.record_of.new.into c.requires.room two enough enough' c.record_of.ensures);
}
