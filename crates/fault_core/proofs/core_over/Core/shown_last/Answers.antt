use Rattle.std.proofs.Common.{rules, ◌≡◌, ◌∙◌, sym, subst, refl}
use Rattle.std.proofs.lemmas.Option.{none-some}
use Rattle.swap_units.specs.declared.interval.Interval.{Interval}
use Rattle.swap_units.specs.Unit.{Holds}
use Rattle.fault_core.specs.Unit.{IsWhole}
use Rattle.fault_core.proofs.ShowLemmas.{shown_is}
use Rattle.fault_core.proofs.RevealedLemmas.{interval_at}
use Rattle.fault_core.proofs.core_over.Core.shown_last.Given as given
use Rattle.fault_core.proofs.OutcomeLemmas.{alone_itself, stays_itself}
use Rattle.fault_core.proofs.core_over.Core.shown_last.Goals as goal
use Rattle.fault_core.specs.Core.{core_view, state}

-- ---- The last page is the first.

held : (g : given.Over) (c : goal.Then-last-first g) → Holds c.args.x c.args.last
held g c = let same : c.args.first ≡ c.args.last = search rules in subst (Holds c.args.x) same c.requires.shows.holds

pub returns-then-last-first-clause-comes : goal.returns-then-last-first-clause-comes
returns-then-last-first-clause-comes g c = record {
  form = search rules;
  one = search rules;
  is_kept = search rules;
  interval = λ m named ss knows. interval_at ss c.args.last c.args.x (knows.cached c.args.x c.requires.is_kept) (held g c);
  none = λ m named ss knows.
      (λ e. absurd (none-some c.args.x (sym e)), λ none. absurd (none-some _ (sym none ∙ shown_is knows.tables c.args.x (knows.cached c.args.x c.requires.is_kept) c.args.last (held g c) c.requires.shows.mapped)));
}

pub returns-then-last-first-clause-brings : goal.returns-then-last-first-clause-brings
returns-then-last-first-clause-brings g c = alone_itself (state c.args.self.now)

pub returns-then-last-first-clause-idle : goal.returns-then-last-first-clause-idle
returns-then-last-first-clause-idle g c = λ ready apart.
    let same = apart ready.interval c.args.x c.args.last ready.is_kept c.requires.is_kept ready.holds (held g c) in
    ((subst (λ (x : Interval). IsWhole (state c.args.self.now).slots x c.args.last) same ready.whole, λ none. absurd (none-some c.args.x (sym none))), refl, refl, refl)

-- ---- Which pages stay.

pub returns-then-last-first-clause-stays : goal.returns-then-last-first-clause-stays
returns-then-last-first-clause-stays g c = stays_itself (core_view c.args.self.now)
