use Rattle.std.proofs.Common.{rules, ◌≡◌, ◌∙◌, sym, subst, inl, inr, arith, Err, Option}
use Rattle.std.specs.Prelude.{IfSome}
use Rattle.std.proofs.lemmas.Option.{none-some}
use Rattle.swap_units.specs.declared.interval.Interval.{Interval}
use Rattle.swap_units.specs.Unit.{Holds}
use Rattle.descriptor_cache.specs.Cache.{kept_in}
use Rattle.space_tables.specs.SpaceTables.{IsIntervalAt}
use Rattle.fault_core.specs.Kept.{IsFormed}
use Rattle.fault_core.specs.ReachLaws.{touch_of_reach}
use Rattle.fault_core.specs.Revealed.{BreaksTables, IsIntervalOf}
use Rattle.filer_kernel.specs.View.{accepted, view_of}
use Rattle.fault_core.proofs.KeptLemmas.{kept_new, kept_before, formed_more, Looked, looked}
use Rattle.fault_core.proofs.RevealedLemmas.{revealed_after, tables_revealed, interval_of, interval_at}
use Rattle.fault_core.proofs.core_over.Core.describe.Given as given
use Rattle.fault_core.proofs.LackLemmas.{sees_after}
use Rattle.fault_core.proofs.NeverBlamesLemmas.{table_never_blames}
use Rattle.fault_core.proofs.OutcomeLemmas.{alone_itself, stays_found, stays_itself}
use Rattle.fault_core.proofs.core_over.Core.describe.Goals as goal
use Rattle.fault_core.specs.Core.{core_view, kept, state}

-- ---- A kept interval has the page.

has : (g : given.Over) (c : goal.In-Some g) → Looked (kept_in c.args.self.now.descriptors) c.args.page c.in-Some.interval
has g c = looked (kept_in c.args.self.now.descriptors) c.args.page c.in-Some.interval c.args.self.now.formed (sym c.look.ensures.found ∙ c.in-Some.is)

pub returns-in-Some-clause-comes : goal.returns-in-Some-clause-comes
returns-in-Some-clause-comes g c = record {
  none =
      let own = has g c in
      let below = own.holds in
      let root = own.formed.in_root in
      (λ none. absurd (none-some c.in-Some.interval (sym none)), λ past. absurd (omega (arith, past, below, root)));
  form = let own = has g c in (own.formed, own.holds);
  is_kept = (has g c).kept;
  interval = λ m named ss knows. let own = has g c in interval_at ss c.args.page c.in-Some.interval (knows.cached c.in-Some.interval own.kept) own.holds;
}

pub returns-in-Some-clause-stays : goal.returns-in-Some-clause-stays
returns-in-Some-clause-stays g c = stays_itself (core_view c.args.self.now)

pub returns-in-Some-clause-brings : goal.returns-in-Some-clause-brings
returns-in-Some-clause-brings g c = alone_itself (state c.args.self.now)

-- ---- The tables failed.

pub returns-in_err-found-clause-fails : goal.returns-in_err-found-clause-fails
returns-in_err-found-clause-fails g c =
    let failed : c.from_residual.result ≡ Err c.in_err-found.field-0.0 = search rules in
    let v = (state c.args.self.now) in
    let w = view_of c.look_up.new.filer in
    let cause = c.in_err-found.ensures.cause in
    rw failed (record {
      cause = cause;
      right = λ ss s. table_never_blames s c.args.self.now.some w c.in_err-found.field-0.0 c.args.page (touch_of_reach (BreaksTables v c.args.self.now.intervals c.args.page) v w c.in_err-found.field-0.0 cause);
      sound = λ m named ss knows. c.in_err-found.ensures.sound m named knows.bytes ss knows.known knows.tables;
    })

pub returns-in_err-found-clause-stays : goal.returns-in_err-found-clause-stays
returns-in_err-found-clause-stays g c = stays_found (core_view c.args.self.now) (view_of c.look_up.new.filer) (accepted c.args.self.now.filer) c.look_up.ensures.brings.reaches

-- ---- The tables gave an interval, and it is kept.

pub invariant_of-self-in-Some-found : goal.invariant_of-self-in-Some-found
invariant_of-self-in-Some-found g c =
    let form = subst (λ (o : Option Interval). IfSome o (λ x. IsFormed x × Holds x c.args.page)) c.in-Some-found.is c.in_ok-found.ensures.comes.form in
    record {
      some = c.args.self.now.some;
      few = c.args.self.now.few;
      formed = formed_more (kept_in c.args.self.now.descriptors) (kept_in c.keep.new.self) c.in-Some-found.interval c.keep.ensures.room c.keep.ensures.full c.keep.ensures.few c.args.self.now.formed form.0;
    }

pub returns-in-Some-found-clause-comes : goal.returns-in-Some-found-clause-comes
returns-in-Some-found-clause-comes g c = record {
  none = search rules;
  form = search rules;
  is_kept =
      kept_new (kept_in c.args.self.now.descriptors) (kept_in c.keep.new.self) c.in-Some-found.interval c.keep.ensures.room c.keep.ensures.full c.keep.ensures.few;
  interval = λ m named ss knows.
      subst (λ (o : Option Interval). IfSome o (IsIntervalAt ss c.args.page)) c.in-Some-found.is (c.in_ok-found.ensures.comes.interval knows.bytes ss (tables_revealed knows) knows.tables);
}

pub returns-in-Some-found-clause-stays : goal.returns-in-Some-found-clause-stays
returns-in-Some-found-clause-stays g c = record {
  sees = λ ss s.
      let at = subst (λ (o : Option Interval). IfSome o (IsIntervalAt ss c.args.page)) c.in-Some-found.is (c.in_ok-found.ensures.comes.interval s.bytes ss s.revealed s.tables) in
      sees_after s _ _ c.look_up.ensures.brings.reaches
      (λ x one. elim (kept_before (kept_in c.args.self.now.descriptors) (kept_in c.keep.new.self) c.in-Some-found.interval c.keep.ensures.room c.keep.ensures.full c.keep.ensures.few x one) [
        | inl was ↦ inl was
        | inr same ↦ inr (subst (λ (y : Interval). IsIntervalOf ss y) same (interval_of ss c.args.page c.in-Some-found.interval at))
      ]);
  same = λ m named ss knows.
      let at = subst (λ (o : Option Interval). IfSome o (IsIntervalAt ss c.args.page)) c.in-Some-found.is (c.in_ok-found.ensures.comes.interval knows.bytes ss (tables_revealed knows) knows.tables) in
      revealed_after knows _ _ (accepted c.args.self.now.filer) c.look_up.ensures.brings.reaches
      (λ x one. elim (kept_before (kept_in c.args.self.now.descriptors) (kept_in c.keep.new.self) c.in-Some-found.interval c.keep.ensures.room c.keep.ensures.full c.keep.ensures.few x one) [
        | inl was ↦ inl was
        | inr same ↦ inr (subst (λ (y : Interval). IsIntervalOf ss y) same (interval_of ss c.args.page c.in-Some-found.interval at))
      ]);
  intervals = search rules;
}

pub returns-in_default-found-clause-stays : goal.returns-in_default-found-clause-stays
returns-in_default-found-clause-stays g c = stays_found (core_view c.args.self.now) (view_of c.look_up.new.filer) (accepted c.args.self.now.filer) c.look_up.ensures.brings.reaches
