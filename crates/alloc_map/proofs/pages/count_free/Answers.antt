use Rattle.std.proofs.Common.{◌≤◌, arith, sym}
use Rattle.alloc_map.proofs.BitLemmas.{count_more, count_none}
use Rattle.alloc_map.proofs.Spending.{spent_none, spent_more}
use Rattle.alloc_map.proofs.pages.count_free.Goals as goal

pub counting-init : goal.counting-init
counting-init g c = record {
  order = omega arith;
  inside = c.requires.order;
  few = omega arith;
  count = λ b h. sym (count_none b c.args.from);
  unchanged = λ b h. h;
  kept = g.met.M.FlatMem.beside_itself c.args.mem.now;
  looked = g.met.M.FlatMem.only_reads_itself c.args.mem.now;
  cost = spent_none g.M.FlatMem.cost c.args.from c.args.end (g.M.FlatMem.spent c.args.mem.now);
}

pub counting-preserved : goal.counting-preserved
counting-preserved g c =
    let at = c.counting.at in
    let stop = c.page_stop-stop.result in
    let low = c.counting.invariant.order in
    let more : at ≤ stop = omega (arith, c.page_stop-stop.ensures.more) in
    record {
      order = omega (arith, low, more);
      inside = c.page_stop-stop.ensures.within;
      few = omega (arith, c.counting.invariant.few, c.in_ok-count.ensures.form, low, more);
      count = λ b h. omega (arith, count_more b c.args.from at stop low more, c.counting.invariant.count b h, c.in_ok-count.ensures.count b (c.counting.invariant.unchanged b h));
      unchanged = λ b h. c.count_in_page.ensures.unchanged b (c.counting.invariant.unchanged b h);
      kept = g.met.M.FlatMem.beside_through _ _ _ c.counting.invariant.kept c.count_in_page.ensures.kept;
      looked = g.met.M.FlatMem.only_reads_through _ _ _ c.counting.invariant.looked c.count_in_page.ensures.looked;
      cost = spent_more g.M.FlatMem.cost c.args.from c.args.end at stop _ _ _ (omega (arith, c.counting-test.true)) c.page_stop-stop.ensures.whole c.count_in_page.ensures.cost c.counting.invariant.cost;
    }
