use Rattle.std.proofs.Common.{◌≡◌, ℕ, ◌+◌, ◌-◌, ◌*◌, ◌/◌, ◌<◌, ◌≤◌, List, refl, sym, ◌∙◌, ap, arith}
use Rattle.std.proofs.lemmas.Nat.{mul-le}
use Rattle.flat_mem.specs.Memory.{part}
use Rattle.space_tables.specs.Form.{interval_page}
use Rattle.space_tables.proofs.Passes.{paid_all}
use Rattle.space_tables.proofs.PageLemmas.{goes_on, some_more, page_paid}
use Rattle.space_tables.proofs.HandleLemmas.{both_named}
use Rattle.space_tables.proofs.handles.named_handles.Given as given
use Rattle.space_tables.proofs.handles.named_handles.Goals as goal
use Rattle.space_tables.proofs.handles.named_handles.Goals.{In_ok-load_page}

pub naming-init : goal.naming-init
naming-init g c = record {
  of_page = λ some. refl;
  from = omega arith;
  first = omega arith;
  few = omega (arith, c.requires.inside);
  named = λ b h k n low below there. absurd (omega (arith, low, below));
  form = omega arith;
  unchanged = λ b h. h;
  kept = g.met.M.FlatMem.beside_itself c.args.mem.now;
  looked = g.met.M.FlatMem.only_reads_itself c.args.mem.now;
  cost = omega arith;
}

-- the page that was read is that of the indices
at_hand : (g : given.Over) (c : In_ok-load_page g) (b : List ℕ) → g.M.FlatMem.reveals c.args.mem.now b → c.load_page.new.page ≡ interval_page b c.naming.index
at_hand g c b revealed = c.in_ok-load_page.ensures.read b (c.naming.invariant.unchanged b revealed) ∙ ap (λ (n : ℕ). part b (512 * (32 + n)) 512) (sym (c.naming.invariant.of_page c.naming-test.true))

pub load_page-requires-clause-inside : goal.load_page-requires-clause-inside
load_page-requires-clause-inside g c = omega (arith, c.naming-test.true, c.naming.invariant.of_page c.naming-test.true, c.requires.few)

pub with_named_on-handles-requires-clause-inside : goal.with_named_on-handles-requires-clause-inside
with_named_on-handles-requires-clause-inside g c = omega (arith, c.page_end-last.ensures.within.0, c.requires.few)

pub with_named_on-handles-requires-clause-page : goal.with_named_on-handles-requires-clause-page
with_named_on-handles-requires-clause-page g c = omega (arith, c.page_end-last.ensures.within.1, c.naming.invariant.of_page c.naming-test.true)

few_pages : (from end number low : ℕ) → from < end → from / 16 ≡ number → end ≤ 1024 → number - low + 1 ≤ 64
few_pages from end number low some page inside = omega (arith, some, page, inside)

pub returns-in_err-load_page-clause-cost : goal.returns-in_err-load_page-clause-cost
returns-in_err-load_page-clause-cost g c = paid_all (c.naming.number - c.args.from / 16) 64 g.M.FlatMem.cost _ _ _ c.naming.invariant.cost c.load_page.ensures.cost
    (few_pages c.naming.index c.args.end c.naming.number (c.args.from / 16) c.naming-test.true (c.naming.invariant.of_page c.naming-test.true) c.requires.few)

pub naming-preserved : goal.naming-preserved
naming-preserved g c =
    let more = some_more c.args.end c.naming.number c.page_end-last.result c.naming.index c.page_end-last.ensures.last c.naming-test.true (c.naming.invariant.of_page c.naming-test.true) in record {
      of_page = λ below. goes_on c.args.end c.naming.number c.page_end-last.result c.page_end-last.ensures.last below;
      from = omega (arith, c.naming.invariant.from, more);
      first = omega (arith, c.naming.invariant.first);
      few = omega (arith, c.naming-test.true, c.naming.invariant.of_page c.naming-test.true, c.requires.few);
      named = λ b h.
          let page = at_hand g (goal.at.naming-preserved g c).In_ok-load_page b h in
          both_named c.args.sought.now b c.args.from c.naming.index c.page_end-last.result c.naming.handles c.with_named_on-handles.result (c.naming.invariant.named b h) c.with_named_on-handles.ensures.wider (c.with_named_on-handles.ensures.named b page);
      form = c.with_named_on-handles.ensures.form c.naming.invariant.form;
      unchanged = λ b h. c.load_page.ensures.unchanged b (c.naming.invariant.unchanged b h);
      kept = g.met.M.FlatMem.beside_through _ _ _ c.naming.invariant.kept c.load_page.ensures.kept;
      looked = g.met.M.FlatMem.only_reads_through _ _ _ c.naming.invariant.looked c.load_page.ensures.looked;
      cost = page_paid c.naming.number (c.args.from / 16) g.M.FlatMem.cost _ _ _ c.naming.invariant.first c.naming.invariant.cost c.load_page.ensures.cost;
    }

pub returns-clause-named : goal.returns-clause-named
returns-clause-named g c = λ b h k n low below there. c.naming.invariant.named b h k n low (omega (arith, below, c.naming-test.false)) there

pub returns-clause-cost : goal.returns-clause-cost
returns-clause-cost g c = let p = mul-le (c.naming.number - c.args.from / 16) g.M.FlatMem.cost 64 g.M.FlatMem.cost (omega (arith, c.naming.invariant.few)) (omega arith) in omega (arith, p, c.naming.invariant.cost)
