use Rattle.std.proofs.Common.{◌≡◌, ℕ, ◌+◌, ◌-◌, ◌*◌, ◌/◌, ◌<◌, ◌≤◌, List, Option, refl, sym, ◌∙◌, ap, subst, arith}
use Rattle.std.proofs.lemmas.Nat.{mul-le}
use Rattle.std.proofs.lemmas.Option.{same_Some, none-some}
use Rattle.flat_machine.specs.declared.space.Space.{Space}
use Rattle.flat_mem.specs.Memory.{part}
use Rattle.space_tables.specs.Form.{slot_page, BreaksHierarchy}
use Rattle.space_tables.specs.Scan.{passes, IsFirstFrom}
use Rattle.space_tables.proofs.Passes.{paid_all}
use Rattle.space_tables.proofs.PageLemmas.{goes_on, page_paid}
use Rattle.space_tables.proofs.FirstLemmas.{first_listed, none_listed, none_of_both, none_below, none_above}
use Rattle.space_tables.proofs.Outs.{handed, cause_on, no_page}
use Rattle.space_tables.proofs.scan.find_space.Given as given
use Rattle.space_tables.proofs.scan.find_space.Goals as goal
use Rattle.space_tables.proofs.scan.find_space.Goals.{In_ok-load_page}

pub scan-init : goal.scan-init
scan-init g c = record {
  of_page = λ some. refl;
  first = omega arith;
  few = omega arith;
  none = λ slots xs h ok all. none_below (passes c.args.test.now) slots c.args.handles.now all;
  unchanged = λ b h. h;
  kept = g.met.M.FlatMem.beside_itself c.args.mem.now;
  looked = g.met.M.FlatMem.only_reads_itself c.args.mem.now;
  cost = omega arith;
}

-- the page that was read is that of the handles
at_hand : (g : given.Over) (c : In_ok-load_page g) (b : List ℕ) → g.M.FlatMem.reveals c.args.mem.now b → c.load_page.new.page ≡ slot_page b c.scan.from
at_hand g c b revealed = c.in_ok-load_page.ensures.read b (c.scan.invariant.unchanged b revealed) ∙ ap (λ (n : ℕ). part b (512 * n) 512) (sym (c.scan.invariant.of_page c.scan-test.true))

few_pages : (from end number low : ℕ) → from < end → from / 16 ≡ number → end ≤ 512 → number - low + 1 ≤ 32
few_pages from end number low some page inside = omega (arith, some, page, inside)

pub load_page-requires-clause-inside : goal.load_page-requires-clause-inside
load_page-requires-clause-inside g c = omega (arith, c.scan-test.true, c.scan.invariant.of_page c.scan-test.true, c.requires.inside)

pub first_on-requires-clause-inside : goal.first_on-requires-clause-inside
first_on-requires-clause-inside g c = omega (arith, c.page_end-end.ensures.within.0, c.requires.inside)

pub first_on-requires-clause-page : goal.first_on-requires-clause-page
first_on-requires-clause-page g c = omega (arith, c.page_end-end.ensures.within.1, c.scan.invariant.of_page c.scan-test.true)

pub returns-in_err-load_page-clause-cost : goal.returns-in_err-load_page-clause-cost
returns-in_err-load_page-clause-cost g c = paid_all (c.scan.number - c.args.handles.now.low / 16) 32 g.M.FlatMem.cost _ _ _ c.scan.invariant.cost c.load_page.ensures.cost
    (few_pages c.scan.from c.args.handles.now.end c.scan.number (c.args.handles.now.low / 16) c.scan-test.true (c.scan.invariant.of_page c.scan-test.true) c.requires.inside)

pub returns-in_default-clause-found : goal.returns-in_default-clause-found
returns-in_default-clause-found g c = λ slots xs h ok all.
    let page = at_hand g (goal.at.returns-in_default-clause-found g c).In_ok-load_page h.bytes h.revealed in
    let at = c.first_on.ensures.found h.bytes slots xs page h.are ok in
    none-some _ (sym c.in_default.is ∙ at.1)

pub returns-in_default-clause-malformed : goal.returns-in_default-clause-malformed
returns-in_default-clause-malformed g c = λ b revealed.
    let page = at_hand g (goal.at.returns-in_default-clause-malformed g c).In_ok-load_page b revealed in
    subst (BreaksHierarchy b) (c.scan.invariant.of_page c.scan-test.true) (c.first_on.ensures.malformed b page c.in_default.is)

pub returns-in_default-clause-cost : goal.returns-in_default-clause-cost
returns-in_default-clause-cost g c = paid_all (c.scan.number - c.args.handles.now.low / 16) 32 g.M.FlatMem.cost _ _ _ c.scan.invariant.cost c.load_page.ensures.cost
    (few_pages c.scan.from c.args.handles.now.end c.scan.number (c.args.handles.now.low / 16) c.scan-test.true (c.scan.invariant.of_page c.scan-test.true) c.requires.inside)

pub returns-in-Some-found-clause-found : goal.returns-in-Some-found-clause-found
returns-in-Some-found-clause-found g c = λ slots xs h ok all.
    let page = at_hand g (goal.at.returns-in-Some-found-clause-found g c).In_ok-load_page h.bytes h.revealed in
    let at = c.first_on.ensures.found h.bytes slots xs page h.are ok in
    let first = subst (λ (o : Option Space). IsFirstFrom (passes c.args.test.now) slots c.scan.from c.page_end-end.result o) (sym (same_Some _ _ (sym c.in-Some.is ∙ at.1)) ∙ c.in-Some-found.is) at.2 in
    let space = c.in-Some-found.space in
    first_listed (passes c.args.test.now) slots space.handle space first.0 first.1
    (none_of_both (passes c.args.test.now) slots 0 c.scan.from space.handle (c.scan.invariant.none slots xs h ok all) first.2)

pub returns-in-Some-found-clause-cost : goal.returns-in-Some-found-clause-cost
returns-in-Some-found-clause-cost g c = paid_all (c.scan.number - c.args.handles.now.low / 16) 32 g.M.FlatMem.cost _ _ _ c.scan.invariant.cost c.load_page.ensures.cost
    (few_pages c.scan.from c.args.handles.now.end c.scan.number (c.args.handles.now.low / 16) c.scan-test.true (c.scan.invariant.of_page c.scan-test.true) c.requires.inside)

pub scan-preserved : goal.scan-preserved
scan-preserved g c = record {
  of_page = λ below. goes_on c.args.handles.now.end c.scan.number c.page_end-end.result c.page_end-end.ensures.last below;
  first = omega (arith, c.scan.invariant.first);
  few = omega (arith, few_pages c.scan.from c.args.handles.now.end c.scan.number (c.args.handles.now.low / 16) c.scan-test.true (c.scan.invariant.of_page c.scan-test.true) c.requires.inside);
  none = λ slots xs h ok all.
      let page = at_hand g (goal.at.scan-preserved g c).In_ok-load_page h.bytes h.revealed in
      let at = c.first_on.ensures.found h.bytes slots xs page h.are ok in
      let none = subst (λ (o : Option Space). IsFirstFrom (passes c.args.test.now) slots c.scan.from c.page_end-end.result o) (sym (same_Some _ _ (sym c.in-Some.is ∙ at.1)) ∙ c.in_default-found.is) at.2 in
      none_of_both (passes c.args.test.now) slots 0 c.scan.from c.page_end-end.result (c.scan.invariant.none slots xs h ok all) none;
  unchanged = λ b h. c.load_page.ensures.unchanged b (c.scan.invariant.unchanged b h);
  kept = g.met.M.FlatMem.beside_through _ _ _ c.scan.invariant.kept c.load_page.ensures.kept;
  looked = g.met.M.FlatMem.only_reads_through _ _ _ c.scan.invariant.looked c.load_page.ensures.looked;
  cost = page_paid c.scan.number (c.args.handles.now.low / 16) g.M.FlatMem.cost _ _ _ c.scan.invariant.first c.scan.invariant.cost c.load_page.ensures.cost;
}

pub returns-clause-found : goal.returns-clause-found
returns-clause-found g c = λ slots xs h ok all.
    sym (none_listed (passes c.args.test.now) slots 512
    (none_of_both (passes c.args.test.now) slots 0 c.scan.from 512 (c.scan.invariant.none slots xs h ok all)
    (none_above (passes c.args.test.now) slots c.args.handles.now all c.scan.from 512 (omega (arith, c.scan-test.false)))) (omega (arith, h.are.handles)))

pub returns-clause-cost : goal.returns-clause-cost
returns-clause-cost g c = let p = mul-le (c.scan.number - c.args.handles.now.low / 16) g.M.FlatMem.cost 32 g.M.FlatMem.cost c.scan.invariant.few (omega arith) in omega (arith, p, c.scan.invariant.cost)

pub returns-in_err-load_page-clause-unchanged : goal.returns-in_err-load_page-clause-unchanged
returns-in_err-load_page-clause-unchanged g c = λ b h. c.load_page.ensures.unchanged b (c.scan.invariant.unchanged b h)

pub returns-in_err-load_page-clause-kept : goal.returns-in_err-load_page-clause-kept
returns-in_err-load_page-clause-kept g c = g.met.M.FlatMem.beside_through _ _ _ c.scan.invariant.kept c.load_page.ensures.kept

pub returns-in_err-load_page-clause-looked : goal.returns-in_err-load_page-clause-looked
returns-in_err-load_page-clause-looked g c = g.met.M.FlatMem.only_reads_through _ _ _ c.scan.invariant.looked c.load_page.ensures.looked

pub returns-in_err-load_page-clause-cause : goal.returns-in_err-load_page-clause-cause
returns-in_err-load_page-clause-cause g c = handed _ _ _ _ c.from_residual.ensures.1 (cause_on g.M.FlatMem g.met.M.FlatMem.beside_itself g.met.M.FlatMem.accounted_wider _ _ _ c.scan.invariant.kept c.load_page.ensures.kept _ c.in_err-load_page.ensures.cause)

pub returns-in_err-load_page-clause-found : goal.returns-in_err-load_page-clause-found
returns-in_err-load_page-clause-found g c = λ slots xs h ok have. handed _ _ _ _ c.from_residual.ensures.1 c.in_err-load_page.ensures.memory

pub returns-in_err-load_page-clause-read : goal.returns-in_err-load_page-clause-read
returns-in_err-load_page-clause-read g c = λ b h. handed _ _ _ _ c.from_residual.ensures.1 tt

pub returns-in_err-load_page-clause-form : goal.returns-in_err-load_page-clause-form
returns-in_err-load_page-clause-form g c = handed _ _ _ _ c.from_residual.ensures.1 tt

pub returns-in_err-load_page-clause-malformed : goal.returns-in_err-load_page-clause-malformed
returns-in_err-load_page-clause-malformed g c = λ b h. handed _ _ _ _ c.from_residual.ensures.1 (no_page (BreaksHierarchy b) _ c.in_err-load_page.ensures.memory)

pub returns-in_err-load_page-clause-refused : goal.returns-in_err-load_page-clause-refused
returns-in_err-load_page-clause-refused g c = handed _ _ _ _ c.from_residual.ensures.1 c.in_err-load_page.ensures.refused

pub returns-in_default-clause-unchanged : goal.returns-in_default-clause-unchanged
returns-in_default-clause-unchanged g c = λ b h. c.load_page.ensures.unchanged b (c.scan.invariant.unchanged b h)

pub returns-in_default-clause-kept : goal.returns-in_default-clause-kept
returns-in_default-clause-kept g c = g.met.M.FlatMem.beside_through _ _ _ c.scan.invariant.kept c.load_page.ensures.kept

pub returns-in_default-clause-looked : goal.returns-in_default-clause-looked
returns-in_default-clause-looked g c = g.met.M.FlatMem.only_reads_through _ _ _ c.scan.invariant.looked c.load_page.ensures.looked

pub returns-in_default-clause-cause : goal.returns-in_default-clause-cause
returns-in_default-clause-cause g c = tt

pub returns-in_default-clause-refused : goal.returns-in_default-clause-refused
returns-in_default-clause-refused g c = tt

pub returns-in_default-clause-form : goal.returns-in_default-clause-form
returns-in_default-clause-form g c = tt

pub returns-in-Some-found-clause-unchanged : goal.returns-in-Some-found-clause-unchanged
returns-in-Some-found-clause-unchanged g c = λ b h. c.load_page.ensures.unchanged b (c.scan.invariant.unchanged b h)

pub returns-in-Some-found-clause-kept : goal.returns-in-Some-found-clause-kept
returns-in-Some-found-clause-kept g c = g.met.M.FlatMem.beside_through _ _ _ c.scan.invariant.kept c.load_page.ensures.kept

pub returns-in-Some-found-clause-looked : goal.returns-in-Some-found-clause-looked
returns-in-Some-found-clause-looked g c = g.met.M.FlatMem.only_reads_through _ _ _ c.scan.invariant.looked c.load_page.ensures.looked

pub returns-in-Some-found-clause-cause : goal.returns-in-Some-found-clause-cause
returns-in-Some-found-clause-cause g c = tt

pub returns-in-Some-found-clause-refused : goal.returns-in-Some-found-clause-refused
returns-in-Some-found-clause-refused g c = tt

pub returns-in-Some-found-clause-malformed : goal.returns-in-Some-found-clause-malformed
returns-in-Some-found-clause-malformed g c = λ b h. tt

pub returns-clause-unchanged : goal.returns-clause-unchanged
returns-clause-unchanged g c = λ b h. c.scan.invariant.unchanged b h

pub returns-clause-kept : goal.returns-clause-kept
returns-clause-kept g c = c.scan.invariant.kept

pub returns-clause-looked : goal.returns-clause-looked
returns-clause-looked g c = c.scan.invariant.looked

pub returns-clause-cause : goal.returns-clause-cause
returns-clause-cause g c = tt

pub returns-clause-refused : goal.returns-clause-refused
returns-clause-refused g c = tt

pub returns-clause-malformed : goal.returns-clause-malformed
returns-clause-malformed g c = λ b h. tt

pub returns-clause-form : goal.returns-clause-form
returns-clause-form g c = tt

pub returns-clause-read : goal.returns-clause-read
returns-clause-read g c = λ b h. tt
