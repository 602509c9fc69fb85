use Rattle.std.proofs.Common.{◌≡◌, ◌≤◌, ℕ, ◌+◌, ◌-◌, ◌*◌, ◌%◌, List, Option, subst, arith}
use Rattle.std.proofs.lemmas.Nat.{mul-le}
use Rattle.space_tables.specs.Form.{slot_page}
use Rattle.space_tables.specs.Scan.{end_on, IsLowestFrom}
use Rattle.space_tables.proofs.Passes.{both_taken}
use Rattle.space_tables.proofs.Outs.{handed, cause_on}
use Rattle.space_tables.proofs.scan.free_handle.Given as given
use Rattle.space_tables.proofs.scan.free_handle.Goals as goal
use Rattle.space_tables.proofs.scan.free_handle.Goals.{In_ok-load_page}

-- the page that was read is that of the handles
at_hand : (g : given.Over) (c : In_ok-load_page g) (b : List ℕ) → g.M.FlatMem.reveals c.args.mem.now b → c.load_page.new.page ≡ slot_page b c.scan.from
at_hand g c b revealed = c.in_ok-load_page.ensures.read b (c.scan.invariant.unchanged b revealed)

more : (n m k s t u : ℕ) → s ≤ t + n * k → u ≤ s + k → n + 1 ≤ m → u ≤ t + m * k
more n m k s t u cost step few = let p = mul-le (n + 1) k m k few (omega arith) in omega (arith, p, cost, step)

pub returns-in_err-load_page-clause-cost : goal.returns-in_err-load_page-clause-cost
returns-in_err-load_page-clause-cost g c = more (c.scan.from - 1) 511 g.M.FlatMem.cost _ _ _ c.scan.invariant.cost c.load_page.ensures.cost (omega (arith, c.scan-test.true, c.scan.invariant.above))

pub returns-in-Some-clause-free : goal.returns-in-Some-clause-free
returns-in-Some-clause-free g c = λ slots xs h ok.
    let page = at_hand g (goal.at.returns-in-Some-clause-free g c).In_ok-load_page h.bytes h.revealed in
    let at = subst (λ (o : Option ℕ). IsLowestFrom slots c.scan.from (end_on c.scan.from) o) c.in-Some.is (c.free_on.ensures.free h.bytes slots xs page h.are) in
    (omega (arith, at.0, c.scan.invariant.above), at.2, both_taken slots 1 c.scan.from c.in-Some.handle (c.scan.invariant.taken slots xs h ok) at.3)

pub returns-in-Some-clause-cost : goal.returns-in-Some-clause-cost
returns-in-Some-clause-cost g c = more (c.scan.from - 1) 511 g.M.FlatMem.cost _ _ _ c.scan.invariant.cost c.load_page.ensures.cost (omega (arith, c.scan-test.true, c.scan.invariant.above))

pub scan-preserved : goal.scan-preserved
scan-preserved g c = record {
  above = omega (arith, c.scan.invariant.above);
  within = omega (arith, c.scan-test.true);
  taken = λ slots xs h ok.
      let page = at_hand g (goal.at.scan-preserved g c).In_ok-load_page h.bytes h.revealed in
      let none = subst (λ (o : Option ℕ). IsLowestFrom slots c.scan.from (end_on c.scan.from) o) c.in_default.is (c.free_on.ensures.free h.bytes slots xs page h.are) in
      both_taken slots 1 c.scan.from (end_on c.scan.from) (c.scan.invariant.taken slots xs h ok) none;
  unchanged = λ b h. c.load_page.ensures.unchanged b (c.scan.invariant.unchanged b h);
  kept = g.met.M.FlatMem.beside_through _ _ _ c.scan.invariant.kept c.load_page.ensures.kept;
  looked = g.met.M.FlatMem.only_reads_through _ _ _ c.scan.invariant.looked c.load_page.ensures.looked;
  cost = more (c.scan.from - 1) (c.scan.from - c.scan.from % 16 + 16 - 1) g.M.FlatMem.cost _ _ _ c.scan.invariant.cost c.load_page.ensures.cost (omega (arith, c.scan.invariant.above));
}

pub returns-clause-free : goal.returns-clause-free
returns-clause-free g c = λ slots xs h ok j low below. c.scan.invariant.taken slots xs h ok j low (omega (arith, below, c.scan-test.false))

pub returns-clause-cost : goal.returns-clause-cost
returns-clause-cost g c = let p = mul-le (c.scan.from - 1) g.M.FlatMem.cost 511 g.M.FlatMem.cost (omega (arith, c.scan.invariant.within)) (omega arith) in omega (arith, p, c.scan.invariant.cost)

pub returns-in_err-load_page-clause-unchanged : goal.returns-in_err-load_page-clause-unchanged
returns-in_err-load_page-clause-unchanged g c = λ b h. c.load_page.ensures.unchanged b (c.scan.invariant.unchanged b h)

pub returns-in_err-load_page-clause-kept : goal.returns-in_err-load_page-clause-kept
returns-in_err-load_page-clause-kept g c = g.met.M.FlatMem.beside_through _ _ _ c.scan.invariant.kept c.load_page.ensures.kept

pub returns-in_err-load_page-clause-looked : goal.returns-in_err-load_page-clause-looked
returns-in_err-load_page-clause-looked g c = g.met.M.FlatMem.only_reads_through _ _ _ c.scan.invariant.looked c.load_page.ensures.looked

pub returns-in_err-load_page-clause-cause : goal.returns-in_err-load_page-clause-cause
returns-in_err-load_page-clause-cause g c = handed _ _ _ _ c.from_residual.ensures.1 (cause_on g.M.FlatMem g.met.M.FlatMem.beside_itself g.met.M.FlatMem.accounted_wider _ _ _ c.scan.invariant.kept c.load_page.ensures.kept _ c.in_err-load_page.ensures.cause)

pub returns-in_err-load_page-clause-free : goal.returns-in_err-load_page-clause-free
returns-in_err-load_page-clause-free g c = λ slots xs h ok. handed _ _ _ _ c.from_residual.ensures.1 c.in_err-load_page.ensures.memory

pub returns-in_err-load_page-clause-form : goal.returns-in_err-load_page-clause-form
returns-in_err-load_page-clause-form g c = handed _ _ _ _ c.from_residual.ensures.1 tt

pub returns-in_err-load_page-clause-memory : goal.returns-in_err-load_page-clause-memory
returns-in_err-load_page-clause-memory g c = handed _ _ _ _ c.from_residual.ensures.1 c.in_err-load_page.ensures.memory

pub returns-in_err-load_page-clause-refused : goal.returns-in_err-load_page-clause-refused
returns-in_err-load_page-clause-refused g c = handed _ _ _ _ c.from_residual.ensures.1 c.in_err-load_page.ensures.refused

pub returns-in-Some-clause-unchanged : goal.returns-in-Some-clause-unchanged
returns-in-Some-clause-unchanged g c = λ b h. c.load_page.ensures.unchanged b (c.scan.invariant.unchanged b h)

pub returns-in-Some-clause-kept : goal.returns-in-Some-clause-kept
returns-in-Some-clause-kept g c = g.met.M.FlatMem.beside_through _ _ _ c.scan.invariant.kept c.load_page.ensures.kept

pub returns-in-Some-clause-looked : goal.returns-in-Some-clause-looked
returns-in-Some-clause-looked g c = g.met.M.FlatMem.only_reads_through _ _ _ c.scan.invariant.looked c.load_page.ensures.looked

pub returns-in-Some-clause-cause : goal.returns-in-Some-clause-cause
returns-in-Some-clause-cause g c = tt

pub returns-in-Some-clause-refused : goal.returns-in-Some-clause-refused
returns-in-Some-clause-refused g c = tt

pub returns-in-Some-clause-memory : goal.returns-in-Some-clause-memory
returns-in-Some-clause-memory g c = tt

pub returns-clause-unchanged : goal.returns-clause-unchanged
returns-clause-unchanged g c = λ b h. c.scan.invariant.unchanged b h

pub returns-clause-kept : goal.returns-clause-kept
returns-clause-kept g c = c.scan.invariant.kept

pub returns-clause-looked : goal.returns-clause-looked
returns-clause-looked g c = c.scan.invariant.looked

pub returns-clause-cause : goal.returns-clause-cause
returns-clause-cause g c = tt

pub returns-clause-refused : goal.returns-clause-refused
returns-clause-refused g c = tt

pub returns-clause-memory : goal.returns-clause-memory
returns-clause-memory g c = tt

pub returns-clause-form : goal.returns-clause-form
returns-clause-form g c = tt
