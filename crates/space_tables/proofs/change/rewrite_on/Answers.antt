use Rattle.std.proofs.Common.{rules, ◌≡◌, ℕ, ◌+◌, ◌-◌, ◌*◌, ◌/◌, ◌<◌, ◌≤◌, refl, ◌∙◌, subst, arith}
use Rattle.std.proofs.lemmas.Nat.{mul-le}
use Rattle.space_tables.specs.Stored.{HoldTables, RevealsRest}
use Rattle.space_tables.specs.Change.{changed, changed_before}
use Rattle.space_tables.proofs.ReadBack.{get_or_at}
use Rattle.space_tables.proofs.Changed.{at_turn, later_turn, turn, some_breaks}
use Rattle.space_tables.proofs.Pages.{same_interval_page}
use Rattle.space_tables.proofs.PageLemmas.{page_paid}
use Rattle.space_tables.proofs.Passes.{paid_all}
use Rattle.space_tables.proofs.change.rewrite_on.Goals as goal

few_before : (from end index : ℕ) → from ≤ index → index < end → end ≤ 16 * (from / 16) + 16 → index - from + 1 ≤ 16
few_before from end index above below page = omega (arith, above, below, page)

pub rewriting-init : goal.rewriting-init
rewriting-init g c = record {
  from = omega arith;
  within = omega (arith, c.requires.order);
  changed_so_far = λ b slots xs is h are long ok counts small. record { bytes = b; revealed = h; are = are };
  rest = λ b h. record { bytes = b; revealed = h; rest = λ k after. refl };
  kept = g.met.M.FlatMem.beside_itself c.args.mem.now;
  cost = omega arith;
}

pub rewrite_at-requires-clause-inside : goal.rewrite_at-requires-clause-inside
rewrite_at-requires-clause-inside g c = omega (arith, c.rewriting-test.true, c.requires.inside)

pub returns-in_err-rewrite_at-clause-changed : goal.returns-in_err-rewrite_at-clause-changed
returns-in_err-rewrite_at-clause-changed g c = λ b slots xs is h are long ok counts small.
    let f = changed c.args.change.now in
    let x = get_or_at xs c.rewriting.index (omega (arith, long, c.rewriting-test.true)) in
    let page = same_interval_page b c.args.from c.args.end c.rewriting.index c.args.page.now is c.rewriting.invariant.from c.rewriting-test.true c.requires.page in
    let m = c.in_err-rewrite_at.ensures.changed b slots (changed_before c.args.change.now c.args.from xs) (changed_before c.args.change.now c.rewriting.index xs) x.0 page are
    (later_turn f xs c.args.from c.rewriting.index x.0 c.rewriting.invariant.from x.1) (ok c.rewriting.index x.0 x.1) (c.rewriting.invariant.changed_so_far b slots xs is h are long ok counts small)
    (at_turn f xs c.rewriting.index x.0 x.1) counts small in
    search (rules, m)

pub returns-in_err-rewrite_at-clause-malformed : goal.returns-in_err-rewrite_at-clause-malformed
returns-in_err-rewrite_at-clause-malformed g c = λ b count is few.
    let page = same_interval_page b c.args.from c.args.end c.rewriting.index c.args.page.now is c.rewriting.invariant.from c.rewriting-test.true c.requires.page in
    let m = some_breaks count b c.args.from c.rewriting.index c.rewriting.invariant.from _ (c.in_err-rewrite_at.ensures.malformed b count page (omega (arith, few, c.rewriting-test.true))) in
    search (rules, m)

pub returns-in_err-rewrite_at-clause-cost : goal.returns-in_err-rewrite_at-clause-cost
returns-in_err-rewrite_at-clause-cost g c = paid_all (c.rewriting.index - c.args.from) 16 g.M.FlatMem.cost _ _ _ c.rewriting.invariant.cost c.rewrite_at.ensures.cost
    (few_before c.args.from c.args.end c.rewriting.index c.rewriting.invariant.from c.rewriting-test.true c.requires.page)

pub rewriting-preserved : goal.rewriting-preserved
rewriting-preserved g c = record {
  from = omega (arith, c.rewriting.invariant.from);
  within = omega (arith, c.rewriting-test.true);
  changed_so_far = λ b slots xs is h are long ok counts small.
      let f = changed c.args.change.now in
      let x = get_or_at xs c.rewriting.index (omega (arith, long, c.rewriting-test.true)) in
      let page = same_interval_page b c.args.from c.args.end c.rewriting.index c.args.page.now is c.rewriting.invariant.from c.rewriting-test.true c.requires.page in
      let m = c.in_ok-rewrite_at.ensures.changed b slots (changed_before c.args.change.now c.args.from xs) (changed_before c.args.change.now c.rewriting.index xs) x.0 page are
      (later_turn f xs c.args.from c.rewriting.index x.0 c.rewriting.invariant.from x.1) (ok c.rewriting.index x.0 x.1) (c.rewriting.invariant.changed_so_far b slots xs is h are long ok counts small)
      (at_turn f xs c.rewriting.index x.0 x.1) counts small in
      rw (turn f xs c.rewriting.index x.0 x.1) at m;
  rest = λ b h.
      let at = c.rewriting.invariant.rest b h in
      let now = c.in_ok-rewrite_at.ensures.rest at.bytes at.revealed in
      record { bytes = now.bytes; revealed = now.revealed; rest = λ k after. now.rest k after ∙ at.rest k (omega (arith, after)) };
  kept = g.met.M.FlatMem.beside_through _ _ _ c.rewriting.invariant.kept c.rewrite_at.ensures.kept;
  cost = page_paid c.rewriting.index c.args.from g.M.FlatMem.cost _ _ _ c.rewriting.invariant.from c.rewriting.invariant.cost c.rewrite_at.ensures.cost;
}

pub returns-clause-changed : goal.returns-clause-changed
returns-clause-changed g c = λ b slots xs is h are long ok counts small.
    let all : c.rewriting.index ≡ c.args.end = omega (arith, c.rewriting.invariant.within, c.rewriting-test.false) in
    subst (λ (n : ℕ). HoldTables (g.M.FlatMem.reveals c.rewriting.mem) slots (changed_before c.args.change.now n xs)) all (c.rewriting.invariant.changed_so_far b slots xs is h are long ok counts small)

pub returns-clause-rest : goal.returns-clause-rest
returns-clause-rest g c = λ b h.
    let all : c.rewriting.index ≡ c.args.end = omega (arith, c.rewriting.invariant.within, c.rewriting-test.false) in
    subst (λ (n : ℕ). RevealsRest (g.M.FlatMem.reveals c.rewriting.mem) b n) all (c.rewriting.invariant.rest b h)

pub returns-clause-cost : goal.returns-clause-cost
returns-clause-cost g c =
    let p = mul-le (c.rewriting.index - c.args.from) g.M.FlatMem.cost 16 g.M.FlatMem.cost (omega (arith, c.rewriting.invariant.within, c.rewriting.invariant.from, c.requires.page)) (omega arith) in omega (arith, p, c.rewriting.invariant.cost)
