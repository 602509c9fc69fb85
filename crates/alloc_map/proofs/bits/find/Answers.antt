use Rattle.std.proofs.Common.{◌/◌, not, arith, sym, ◌∙◌, ap}
use Rattle.alloc_map.proofs.BitLemmas.{all_to_next, byte_of_ones, byte_of_zeros}
use Rattle.alloc_map.proofs.bits.find.Goals as goal
use Rattle.alloc_map.proofs.bits.find.Goals.{then-used, else-used}

pub search-preserved-then-page-at : goal.search-preserved-then-page-at
search-preserved-then-page-at c = record {
  order = omega (arith, c.search.invariant.order);
  before = all_to_next (not c.args.used) c.args.page.now c.args.from c.search.at c.search.invariant.before
      (λ s here. elim c.if-used.branch [
        | then-used w ↦ byte_of_zeros c.args.page.now (c.search.at / 8) s (c.if-page-at.true ∙ w.passed-is) here ∙ ap not (sym w.if-used.true)
        | else-used w ↦ byte_of_ones c.args.page.now (c.search.at / 8) s (c.if-page-at.true ∙ w.passed-is) here ∙ ap not (sym w.if-used.false)
      ]);
}
