use Rattle.std.proofs.Common.{◌+◌, ◌++◌, ◌∷◌, [], ◌∙◌, ap, sym, subst, slice_index_or, arith}
use Rattle.std.proofs.lemmas.Option.{slice_get-get_or}
use Rattle.label_survey.specs.declared.triples.Triple.{Triple}
use Rattle.label_survey.specs.Runs.{AreRunsOf, run_of}
use Rattle.label_survey.proofs.RunLemmas.{joined, opened, closed, begun_as}
use Rattle.label_survey.proofs.runs.join_triples.Goals as goal
use Rattle.label_survey.proofs.runs.join_triples.Goals.{then-goes_on, else-goes_on+in_ok-push}

pub loop-i-preserved : goal.loop-i-preserved
loop-i-preserved g c =
    let no_triple : Triple = record { id = 0; page = 0; sector = 0 } in
    let at = slice_get-get_or c.args.triples.now c.loop-i.i no_triple c.loop-i-test.true in
    elim c.if-goes_on.branch [
      | then-goes_on w ↦
          begun_as c.args.triples.now (c.loop-i.i + 1) c.loop-i.runs.items c.if-goes_on.runs.items (record c.loop-i.open { pages = c.loop-i.open.pages + 1 }) c.if-goes_on.open
          (ap (λ v. v.items) w.runs-is) w.open-is
          (joined c.args.triples.now c.loop-i.i c.loop-i.runs.items c.loop-i.open c.loop-i.invariant (slice_index_or c.args.triples.now c.loop-i.i no_triple) at (sym c.goes_on.ensures ∙ w.if-goes_on.true))
      | else-goes_on+in_ok-push w ↦
          begun_as c.args.triples.now (c.loop-i.i + 1) (c.loop-i.runs.items ++ c.loop-i.open ∷ []) c.if-goes_on.runs.items (run_of (slice_index_or c.args.triples.now c.loop-i.i no_triple)) c.if-goes_on.open
          (ap (λ v. v.items) w.runs-is ∙ w.in_ok-push.ensures.items) (w.open-is ∙ w.of-open-else-goes_on.ensures)
          (opened c.args.triples.now c.loop-i.i c.loop-i.runs.items c.loop-i.open c.loop-i.invariant (slice_index_or c.args.triples.now c.loop-i.i no_triple) at)
    ]

pub returns : goal.returns
returns g c =
    subst (AreRunsOf c.args.triples.now) (sym c.in_ok-push-2.ensures.items)
    (closed c.args.triples.now c.loop-i.i c.loop-i.runs.items c.loop-i.open c.loop-i.invariant (omega (arith, c.loop-i-test.false)))
