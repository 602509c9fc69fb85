use Rattle.std.proofs.Common.{ℕ, Option, subst, arith}
use Rattle.std.specs.Prelude.{IfSome}
use Rattle.space_tables.specs.Handles.{IsOneOf}
use Rattle.space_tables.proofs.Pages.{same_interval_page}
use Rattle.space_tables.proofs.HandleLemmas.{one_named}
use Rattle.space_tables.proofs.handles.with_named_on.Goals as goal

pub naming-init : goal.naming-init
naming-init c = record {
  from = omega arith;
  named = λ b is k h low below there. absurd (omega (arith, low, below));
  wider = (omega arith, omega arith);
  form = λ few. few;
}

pub naming-preserved : goal.naming-preserved
naming-preserved c = record {
  from = omega (arith, c.naming.invariant.from);
  named = λ b is.
      let page = same_interval_page b c.args.from c.args.end c.naming.index c.args.page.now is c.naming.invariant.from c.naming-test.true c.requires.page in
      one_named c.args.sought.now b c.args.from c.naming.index c.naming.handles c.with_handle-handles.result (c.naming.invariant.named b is) c.with_handle-handles.ensures.wider
      (subst (λ (o : Option ℕ). IfSome o (IsOneOf c.with_handle-handles.result)) (c.handle_on.ensures.handle b page) c.with_handle-handles.ensures.has);
  wider = (omega (arith, c.naming.invariant.wider.0, c.with_handle-handles.ensures.wider.0), omega (arith, c.naming.invariant.wider.1, c.with_handle-handles.ensures.wider.1));
  form = λ few. c.with_handle-handles.ensures.form (c.naming.invariant.form few);
}

pub returns-clause-named : goal.returns-clause-named
returns-clause-named c = λ b is k h low below there. c.naming.invariant.named b is k h low (omega (arith, below, c.naming-test.false)) there
