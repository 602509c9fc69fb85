use Rattle.std.proofs.Common.{◌+◌, ◌∙◌, ◌++◌, ◌∷◌, [], List, sym, ap, subst}
use Rattle.volume_view.specs.declared.bit_runs.BitRun.{BitRun}
use Rattle.volume_view.specs.BitRuns.{AreCompared}
use Rattle.volume_view.proofs.BitRunLemmas.{compared_longer, compared_more}
use Rattle.volume_view.proofs.bit_runs.add_sector.Goals as goal

pub returns-then-goes_on : goal.returns-then-goes_on
returns-then-goes_on g c = λ says right so_far wrong.
    let yes = c.goes_on.ensures.yes c.if-goes_on.true in
    subst (AreCompared says right (c.args.sector + 1)) (sym c.in_ok-push-2.ensures.items)
    (compared_longer says right c.args.sector c.args.used wrong c.pop.new.self.items c.in-Some.last (subst (AreCompared says right c.args.sector) c.in-Some.ensures.items so_far) yes.0 yes.1)

pub returns : goal.returns
returns g c = λ says right so_far wrong.
    subst (AreCompared says right (c.args.sector + 1)) (sym (c.in_ok-push-4.ensures.items ∙ ap (λ (rs : List BitRun). rs ++ record { first = c.args.sector; sectors = 1; used = c.args.used } ∷ []) c.in_ok-push-3.ensures.items))
    (compared_more says right c.args.sector c.args.used wrong c.pop.new.self.items c.in-Some.last (subst (AreCompared says right c.args.sector) c.in-Some.ensures.items so_far) (c.goes_on.ensures.no c.if-goes_on.false))
