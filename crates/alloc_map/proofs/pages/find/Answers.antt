use Rattle.std.proofs.Common.{inl, inr, ◌≤◌, arith}
use Rattle.std.proofs.lemmas.Bool.{cases_lt}
use Rattle.alloc_map.proofs.Spending.{spent_none, spent_more}
use Rattle.alloc_map.proofs.pages.find.Goals as goal

pub search-init : goal.search-init
search-init g c = record {
  order = omega arith;
  inside = c.requires.order;
  before = λ b h s above below. absurd (omega (arith, above, below));
  unchanged = λ b h. h;
  kept = g.met.M.FlatMem.beside_itself c.args.mem.now;
  looked = g.met.M.FlatMem.only_reads_itself c.args.mem.now;
  cost = spent_none g.M.FlatMem.cost c.args.from c.args.end (g.M.FlatMem.spent c.args.mem.now);
}

pub search-preserved : goal.search-preserved
search-preserved g c =
    let at = c.search.at in
    let stop = c.page_stop-stop.result in
    let low = c.search.invariant.order in
    let all : stop ≤ c.in_ok-found.found = omega (arith, c.if-found-stop.false) in
    record {
      order = omega (arith, low, c.page_stop-stop.ensures.more);
      inside = c.page_stop-stop.ensures.within;
      before = λ b h s above below. elim (cases_lt s at) [
        | inl less ↦ c.search.invariant.before b h s above less
        | inr after ↦ c.in_ok-found.ensures.before b (c.search.invariant.unchanged b h) s after (omega (arith, below, all))
      ];
      unchanged = λ b h. c.find_in_page.ensures.unchanged b (c.search.invariant.unchanged b h);
      kept = g.met.M.FlatMem.beside_through _ _ _ c.search.invariant.kept c.find_in_page.ensures.kept;
      looked = g.met.M.FlatMem.only_reads_through _ _ _ c.search.invariant.looked c.find_in_page.ensures.looked;
      cost = spent_more g.M.FlatMem.cost c.args.from c.args.end at stop _ _ _ (omega (arith, c.search-test.true)) c.page_stop-stop.ensures.whole c.find_in_page.ensures.cost c.search.invariant.cost;
    }
