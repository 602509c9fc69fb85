use Rattle.std.proofs.Common.{sym, ◌∙◌, arith}
use Rattle.std.proofs.lemmas.Bool.{true≢false}
use Rattle.space_tables.proofs.Pages.{same_page}
use Rattle.space_tables.proofs.Passes.{one_taken}
use Rattle.space_tables.proofs.scan.free_on.Goals as goal

pub returns-then-not-has_space_on-clause-free : goal.returns-then-not-has_space_on-clause-free
returns-then-not-has_space_on-clause-free c = λ b slots xs is are.
    let page = same_page b c.args.from c.scan.handle c.args.page.now is c.scan.invariant.from c.scan-test.true in
    (c.scan.invariant.from, c.scan-test.true, (c.has_space_on.ensures.space b slots xs page are).0 c.if-not-has_space_on.true, c.scan.invariant.taken b slots xs is are)

pub scan-preserved : goal.scan-preserved
scan-preserved c = record {
  from = omega (arith, c.scan.invariant.from);
  within = omega (arith, c.scan-test.true);
  taken = λ b slots xs is are.
      let page = same_page b c.args.from c.scan.handle c.args.page.now is c.scan.invariant.from c.scan-test.true in
      one_taken slots c.args.from c.scan.handle (c.scan.invariant.taken b slots xs is are)
      (λ free. true≢false (sym c.if-not-has_space_on.false ∙ (c.has_space_on.ensures.space b slots xs page are).1 free));
}

pub returns-clause-free : goal.returns-clause-free
returns-clause-free c = λ b slots xs is are j low below. c.scan.invariant.taken b slots xs is are j low (omega (arith, below, c.scan-test.false))
