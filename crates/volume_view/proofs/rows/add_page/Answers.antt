use Rattle.std.proofs.Common.{◌∙◌, ◌⊎◌, ◌+◌, ◌<◌, ◌^◌, ◌++◌, ◌∷◌, [], List, length, sym, ap, subst, arith}
use Rattle.label_survey.specs.declared.runs.Run.{Run}
use Rattle.label_survey.specs.Runs.{all_triples, run_of}
use Rattle.volume_view.specs.Rows.{AreJoined}
use Rattle.volume_view.proofs.RowLemmas.{longer_fits, longer_all, longer_joined, one_more_all, one_more_joined}
use Rattle.volume_view.proofs.rows.add_page.Goals as goal

pub overflow_add-pages : goal.overflow_add-pages
overflow_add-pages g c =
    let fits = longer_fits c.pop.new.self.items c.in-Some.last c.args.page (sym c.goes_on.ensures ∙ c.if-goes_on.true)
    (subst (λ (rs : List Run). (c.args.page.sector + 1 < 2 ^ 32) ⊎ (length (all_triples rs) + 1 < 2 ^ 32)) c.in-Some.ensures.items c.requires.few) in
    omega (arith, fits)

pub returns-then-goes_on-clause-pages : goal.returns-then-goes_on-clause-pages
returns-then-goes_on-clause-pages g c =
    ap all_triples c.in_ok-push-2.ensures.items
    ∙ longer_all c.pop.new.self.items c.in-Some.last c.args.page (sym c.goes_on.ensures ∙ c.if-goes_on.true)
    ∙ ap (λ (rs : List Run). all_triples rs ++ c.args.page ∷ []) (sym c.in-Some.ensures.items)

pub returns-then-goes_on-clause-joined : goal.returns-then-goes_on-clause-joined
returns-then-goes_on-clause-joined g c = λ joined.
    subst AreJoined (sym c.in_ok-push-2.ensures.items) (longer_joined c.pop.new.self.items c.in-Some.last (subst AreJoined c.in-Some.ensures.items joined))

pub returns-clause-pages : goal.returns-clause-pages
returns-clause-pages g c =
    ap all_triples c.in_ok-push-4.ensures.items
    ∙ ap (λ (r : Run). all_triples (c.push-2.new.self.items ++ r ∷ [])) c.run_of-2.ensures
    ∙ one_more_all c.push-2.new.self.items c.args.page
    ∙ ap (λ (rs : List Run). all_triples rs ++ c.args.page ∷ []) (c.in_ok-push-3.ensures.items ∙ sym c.in-Some.ensures.items)

pub returns-clause-joined : goal.returns-clause-joined
returns-clause-joined g c = λ joined.
    let more = one_more_joined c.pop.new.self.items c.in-Some.last c.args.page (sym c.goes_on.ensures ∙ c.if-goes_on.false) (subst AreJoined c.in-Some.ensures.items joined) in
    subst AreJoined (sym c.in_ok-push-4.ensures.items)
    (subst (λ (r : Run). AreJoined (c.push-2.new.self.items ++ r ∷ [])) (sym c.run_of-2.ensures) (subst (λ (rs : List Run). AreJoined (rs ++ run_of c.args.page ∷ [])) (sym c.in_ok-push-3.ensures.items) more))
