use Rattle.std.proofs.Common.{inl, inr, ◌*◌, ◌≤◌, arith, refl, ◌∙◌}
use Rattle.std.proofs.lemmas.Bool.{cases_lt}
use Rattle.alloc_map.proofs.Spending.{spent_none, spent_more}
use Rattle.alloc_map.proofs.pages.set_range.Goals as goal

pub marking-init : goal.marking-init
marking-init g c = record {
  order = omega arith;
  inside = c.requires.order;
  marked = λ b h. record {
    now = b;
    revealed = h;
    bits = record { same_length = refl; marked = λ s above below. absurd (omega (arith, above, below)); others = λ s out. refl };
  };
  kept = g.met.M.FlatMem.beside_itself c.args.mem.now;
  cost = spent_none (2 * g.M.FlatMem.cost) c.args.from c.args.end (g.M.FlatMem.spent c.args.mem.now);
}

pub marking-preserved : goal.marking-preserved
marking-preserved g c =
    let at = c.marking.at in
    let stop = c.page_stop-stop.result in
    let low = c.marking.invariant.order in
    let more : at ≤ stop = omega (arith, c.page_stop-stop.ensures.more) in
    record {
      order = omega (arith, low, more);
      inside = c.page_stop-stop.ensures.within;
      marked = λ b h.
          let was = c.marking.invariant.marked b h in
          let next = c.in_ok-set_in_page.ensures.marked was.now was.revealed in
          record {
            now = next.now;
            revealed = next.revealed;
            bits = record {
              same_length = next.bits.same_length ∙ was.bits.same_length;
              marked = λ s above below. elim (cases_lt s at) [
                | inl before ↦ next.bits.others s (inl before) ∙ was.bits.marked s above before
                | inr after ↦ next.bits.marked s after below
              ];
              others = λ s out. elim out [
                | inl before ↦ next.bits.others s (inl (omega (arith, before, low))) ∙ was.bits.others s (inl before)
                | inr after ↦ next.bits.others s (inr after) ∙ was.bits.others s (inr (omega (arith, after, more)))
              ];
            };
          };
      kept = g.met.M.FlatMem.beside_through _ _ _ c.marking.invariant.kept c.set_in_page.ensures.kept;
      cost = spent_more (2 * g.M.FlatMem.cost) c.args.from c.args.end at stop _ _ _ (omega (arith, c.marking-test.true)) c.page_stop-stop.ensures.whole c.set_in_page.ensures.cost c.marking.invariant.cost;
    }
