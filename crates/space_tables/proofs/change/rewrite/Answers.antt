use Rattle.std.proofs.Common.{◌≡◌, ℕ, ◌+◌, ◌-◌, ◌*◌, ◌/◌, ◌≤◌, List, map, refl, sym, ◌∙◌, ap, subst, arith}
use Rattle.std.proofs.lemmas.Nat.{mul-le}
use Rattle.flat_mem.specs.Memory.{part}
use Rattle.projection_laws.specs.Sight.{Interval}
use Rattle.space_tables.specs.Form.{interval_page, BreaksProjection}
use Rattle.space_tables.specs.Stored.{HoldTables}
use Rattle.space_tables.specs.Change.{changed, changed_before}
use Rattle.space_tables.proofs.Changed.{none_turned, rest_turned, breaks_before}
use Rattle.space_tables.proofs.PageLemmas.{goes_on, some_more, page_paid}
use Rattle.space_tables.proofs.Passes.{still_hold}
use Rattle.space_tables.proofs.WithinLemmas.{stays_before, stays_after}
use Rattle.space_tables.proofs.Outs.{handed, cause_on, no_page, not_refused}
use Rattle.space_tables.proofs.change.rewrite.Given as given
use Rattle.space_tables.proofs.change.rewrite.Goals as goal
use Rattle.space_tables.proofs.change.rewrite.Goals.{In_ok-load_page}

pub rewriting-init : goal.rewriting-init
rewriting-init g c = record {
  of_page = λ some. refl;
  above = omega arith;
  within = omega (arith, c.in_ok-from.ensures.form.0);
  first = omega arith;
  few = omega (arith, c.in_ok-from.ensures.form.0, c.in_ok-from.ensures.form.1, c.requires.few);
  changed_so_far = λ slots xs ss h are long ok counts small inside.
      let is = c.in_ok-from.ensures.found slots xs ss h are long in
      let now = still_hold g.M.FlatMem.reveals c.args.mem.now c.within.new.mem c.within.ensures.unchanged slots xs h in
      let same : changed_before c.args.change.now c.in_ok-from.from xs ≡ xs = none_turned (changed c.args.change.now) xs c.in_ok-from.from (stays_before c.args.change.now ss xs c.args.space.now _ are inside is) in
      subst (λ (ys : List Interval). HoldTables (g.M.FlatMem.reveals c.within.new.mem) slots ys) (sym same) now;
  rest = λ b h. record { bytes = b; revealed = c.within.ensures.unchanged b h; rest = λ k after. refl };
  kept = c.within.ensures.kept;
  cost = omega (arith, c.within.ensures.cost);
}

-- the page that was read is that of the indices
at_hand : (g : given.Over) (c : In_ok-load_page g) (b : List ℕ) → g.M.FlatMem.reveals c.rewriting.mem b → c.load_page.new.page ≡ interval_page b c.rewriting.index
at_hand g c b revealed = c.in_ok-load_page.ensures.read b revealed ∙ ap (λ (n : ℕ). part b (512 * (32 + n)) 512) (sym (c.rewriting.invariant.of_page c.rewriting-test.true))

pub load_page-requires-clause-inside : goal.load_page-requires-clause-inside
load_page-requires-clause-inside g c = omega (arith, c.rewriting-test.true, c.rewriting.invariant.of_page c.rewriting-test.true, c.in_ok-from.ensures.form.1, c.requires.few)

pub rewrite_on-requires-clause-order : goal.rewrite_on-requires-clause-order
rewrite_on-requires-clause-order g c = some_more c.in_ok-from.end c.rewriting.number c.page_end-last.result c.rewriting.index c.page_end-last.ensures.last c.rewriting-test.true (c.rewriting.invariant.of_page c.rewriting-test.true)

pub rewrite_on-requires-clause-inside : goal.rewrite_on-requires-clause-inside
rewrite_on-requires-clause-inside g c = omega (arith, c.page_end-last.ensures.within.0, c.in_ok-from.ensures.form.1, c.requires.few)

pub rewrite_on-requires-clause-page : goal.rewrite_on-requires-clause-page
rewrite_on-requires-clause-page g c = omega (arith, c.page_end-last.ensures.within.1, c.rewriting.invariant.of_page c.rewriting-test.true)

pub returns-in_err-rewrite_on-clause-changed : goal.returns-in_err-rewrite_on-clause-changed
returns-in_err-rewrite_on-clause-changed g c = λ slots xs ss h are long ok counts small inside.
    let now = c.rewriting.invariant.changed_so_far slots xs ss h are long ok counts small inside in
    let page = at_hand g (goal.at.returns-in_err-rewrite_on-clause-changed g c).In_ok-load_page now.bytes now.revealed in
    let m = c.in_err-rewrite_on.ensures.changed now.bytes slots xs page (c.load_page.ensures.unchanged now.bytes now.revealed) now.are
    (omega (arith, long, c.page_end-last.ensures.within.0, c.in_ok-from.ensures.form.1)) ok counts small in
    handed _ _ _ _ c.from_residual-in_err-rewrite_on.ensures.1 m

pub returns-in_err-rewrite_on-clause-malformed : goal.returns-in_err-rewrite_on-clause-malformed
returns-in_err-rewrite_on-clause-malformed g c = λ b h.
    let at = c.rewriting.invariant.rest b h in
    let page = at_hand g (goal.at.returns-in_err-rewrite_on-clause-malformed g c).In_ok-load_page at.bytes at.revealed in
    let m = breaks_before c.args.count b at.bytes c.rewriting.index at.rest _
    (c.in_err-rewrite_on.ensures.malformed at.bytes c.args.count page (omega (arith, c.page_end-last.ensures.within.0, c.in_ok-from.ensures.form.1))) in
    handed _ _ _ _ c.from_residual-in_err-rewrite_on.ensures.1 m

pub rewriting-preserved : goal.rewriting-preserved
rewriting-preserved g c =
    let more = some_more c.in_ok-from.end c.rewriting.number c.page_end-last.result c.rewriting.index c.page_end-last.ensures.last c.rewriting-test.true (c.rewriting.invariant.of_page c.rewriting-test.true) in record {
      of_page = λ below. goes_on c.in_ok-from.end c.rewriting.number c.page_end-last.result c.page_end-last.ensures.last below;
      above = omega (arith, c.rewriting.invariant.above, more);
      within = c.page_end-last.ensures.within.0;
      first = omega (arith, c.rewriting.invariant.first);
      few = omega (arith, c.rewriting-test.true, c.rewriting.invariant.of_page c.rewriting-test.true, c.in_ok-from.ensures.form.1, c.requires.few);
      changed_so_far = λ slots xs ss h are long ok counts small inside.
          let now = c.rewriting.invariant.changed_so_far slots xs ss h are long ok counts small inside in
          let page = at_hand g (goal.at.rewriting-preserved g c).In_ok-load_page now.bytes now.revealed in
          c.in_ok-rewrite_on.ensures.changed now.bytes slots xs page (c.load_page.ensures.unchanged now.bytes now.revealed) now.are
          (omega (arith, long, c.page_end-last.ensures.within.0, c.in_ok-from.ensures.form.1)) ok counts small;
      rest = λ b h.
          let at = c.rewriting.invariant.rest b h in
          let now = c.in_ok-rewrite_on.ensures.rest at.bytes (c.load_page.ensures.unchanged at.bytes at.revealed) in
          record { bytes = now.bytes; revealed = now.revealed; rest = λ k after. now.rest k after ∙ at.rest k (omega (arith, after, more)) };
      kept = g.met.M.FlatMem.beside_through _ _ _ (g.met.M.FlatMem.beside_through _ _ _ c.rewriting.invariant.kept c.load_page.ensures.kept) c.rewrite_on.ensures.kept;
      cost = page_paid c.rewriting.number (c.in_ok-from.from / 16) (17 * g.M.FlatMem.cost) _ _ _ c.rewriting.invariant.first c.rewriting.invariant.cost (omega (arith, c.load_page.ensures.cost, c.rewrite_on.ensures.cost));
    }

pub returns-clause-changed : goal.returns-clause-changed
returns-clause-changed g c = λ slots xs ss h are long ok counts small inside.
    let is = c.in_ok-from.ensures.found slots xs ss h are long in
    let late : c.in_ok-from.end ≤ c.rewriting.index = omega (arith, c.rewriting-test.false) in
    let all : changed_before c.args.change.now c.rewriting.index xs ≡ map (changed c.args.change.now) xs = rest_turned (changed c.args.change.now) xs c.rewriting.index (stays_after c.args.change.now ss xs c.args.space.now _ are inside is c.rewriting.index late) in
    subst (λ (ys : List Interval). HoldTables (g.M.FlatMem.reveals c.rewriting.mem) slots ys) all (c.rewriting.invariant.changed_so_far slots xs ss h are long ok counts small inside)

-- how much the pages cost
all_paid : (number low k t s u : ℕ) → number ≤ 64 → s ≤ t + 14 * k + (number - low) * (17 * k) → u ≤ s + 17 * k → u ≤ t + 2046 * k
all_paid number low k t s u few cost step = let p = mul-le (number - low) (17 * k) 64 (17 * k) (omega (arith, few)) (omega arith) in omega (arith, p, cost, step)

pub returns-in_err-load_page-clause-cost : goal.returns-in_err-load_page-clause-cost
returns-in_err-load_page-clause-cost g c = all_paid c.rewriting.number (c.in_ok-from.from / 16) g.M.FlatMem.cost _ _ _ c.rewriting.invariant.few c.rewriting.invariant.cost (omega (arith, c.load_page.ensures.cost))

pub returns-in_err-rewrite_on-clause-cost : goal.returns-in_err-rewrite_on-clause-cost
returns-in_err-rewrite_on-clause-cost g c = all_paid c.rewriting.number (c.in_ok-from.from / 16) g.M.FlatMem.cost _ _ _ c.rewriting.invariant.few c.rewriting.invariant.cost (omega (arith, c.load_page.ensures.cost, c.rewrite_on.ensures.cost))

pub returns-clause-cost : goal.returns-clause-cost
returns-clause-cost g c = all_paid c.rewriting.number (c.in_ok-from.from / 16) g.M.FlatMem.cost _ _ _ c.rewriting.invariant.few c.rewriting.invariant.cost (omega arith)

pub returns-in_err-from-clause-kept : goal.returns-in_err-from-clause-kept
returns-in_err-from-clause-kept g c = c.within.ensures.kept

pub returns-in_err-from-clause-cause : goal.returns-in_err-from-clause-cause
returns-in_err-from-clause-cause g c = handed _ _ _ _ c.from_residual.ensures.1 c.in_err-from.ensures.cause

pub returns-in_err-from-clause-cost : goal.returns-in_err-from-clause-cost
returns-in_err-from-clause-cost g c = omega (arith, c.within.ensures.cost)

pub returns-in_err-from-clause-changed : goal.returns-in_err-from-clause-changed
returns-in_err-from-clause-changed g c = λ slots xs ss h are long ok counts small inside. handed _ _ _ _ c.from_residual.ensures.1 c.in_err-from.ensures.memory

pub returns-in_err-from-clause-malformed : goal.returns-in_err-from-clause-malformed
returns-in_err-from-clause-malformed g c = λ b h. handed _ _ _ _ c.from_residual.ensures.1 (no_page (BreaksProjection c.args.count b) _ c.in_err-from.ensures.memory)

pub returns-in_err-from-clause-refused : goal.returns-in_err-from-clause-refused
returns-in_err-from-clause-refused g c = handed _ _ _ _ c.from_residual.ensures.1 (not_refused _ c.in_err-from.ensures.memory)

pub returns-in_err-load_page-clause-kept : goal.returns-in_err-load_page-clause-kept
returns-in_err-load_page-clause-kept g c = g.met.M.FlatMem.beside_through _ _ _ c.rewriting.invariant.kept c.load_page.ensures.kept

pub returns-in_err-load_page-clause-cause : goal.returns-in_err-load_page-clause-cause
returns-in_err-load_page-clause-cause g c = handed _ _ _ _ c.from_residual-in_err-load_page.ensures.1 (cause_on g.M.FlatMem g.met.M.FlatMem.beside_itself g.met.M.FlatMem.accounted_wider _ _ _ c.rewriting.invariant.kept c.load_page.ensures.kept _ c.in_err-load_page.ensures.cause)

pub returns-in_err-load_page-clause-changed : goal.returns-in_err-load_page-clause-changed
returns-in_err-load_page-clause-changed g c = λ slots xs ss h are long ok counts small inside. handed _ _ _ _ c.from_residual-in_err-load_page.ensures.1 c.in_err-load_page.ensures.memory

pub returns-in_err-load_page-clause-malformed : goal.returns-in_err-load_page-clause-malformed
returns-in_err-load_page-clause-malformed g c = λ b h. handed _ _ _ _ c.from_residual-in_err-load_page.ensures.1 (no_page (BreaksProjection c.args.count b) _ c.in_err-load_page.ensures.memory)

pub returns-in_err-load_page-clause-refused : goal.returns-in_err-load_page-clause-refused
returns-in_err-load_page-clause-refused g c = handed _ _ _ _ c.from_residual-in_err-load_page.ensures.1 c.in_err-load_page.ensures.refused

pub returns-in_err-rewrite_on-clause-kept : goal.returns-in_err-rewrite_on-clause-kept
returns-in_err-rewrite_on-clause-kept g c = g.met.M.FlatMem.beside_through _ _ _ (g.met.M.FlatMem.beside_through _ _ _ c.rewriting.invariant.kept c.load_page.ensures.kept) c.rewrite_on.ensures.kept

pub returns-in_err-rewrite_on-clause-cause : goal.returns-in_err-rewrite_on-clause-cause
returns-in_err-rewrite_on-clause-cause g c = handed _ _ _ _ c.from_residual-in_err-rewrite_on.ensures.1 (cause_on g.M.FlatMem g.met.M.FlatMem.beside_itself g.met.M.FlatMem.accounted_wider _ _ _ (g.met.M.FlatMem.beside_through _ _ _ c.rewriting.invariant.kept c.load_page.ensures.kept) c.rewrite_on.ensures.kept _ c.in_err-rewrite_on.ensures.cause)

pub returns-clause-kept : goal.returns-clause-kept
returns-clause-kept g c = c.rewriting.invariant.kept

pub returns-clause-cause : goal.returns-clause-cause
returns-clause-cause g c = tt

pub returns-clause-malformed : goal.returns-clause-malformed
returns-clause-malformed g c = λ b h. tt

pub returns-clause-refused : goal.returns-clause-refused
returns-clause-refused g c = tt
