use Rattle.std.proofs.Common.{ℕ, inl, inr, Option, None, sym, ◌∙◌, ap, subst, arith, slice_index_or}
use Rattle.std.specs.Prelude.{slice_get}
use Rattle.std.proofs.lemmas.Bool.{cases_eq}
use Rattle.std.proofs.lemmas.Option.{same_Some, slice_get-get_or, slice_get_within}
use Rattle.label_survey.specs.declared.runs.Run.{Run}
use Rattle.label_survey.specs.Runs.{triples_of}
use Rattle.volume_view.specs.Placed.{IsPlace}
use Rattle.volume_view.proofs.PlaceLemmas.{placed_in_all, placed_in_none}
use Rattle.volume_view.proofs.pages.sector_of.Goals as goal

abbrev no_run : Run
no_run = record { id = 0; first = 0; pages = 0; sector = 0 }

pub loop-i-preserved : goal.loop-i-preserved
loop-i-preserved c = λ k r below at. elim (cases_eq k c.loop-i.i) [
  | inl same ↦
      let here = slice_get-get_or c.args.runs.now c.loop-i.i no_run c.loop-i-test.true in
      let it = same_Some (slice_index_or c.args.runs.now c.loop-i.i no_run) r (sym here ∙ ap (slice_get c.args.runs.now) (sym same) ∙ at) in
      subst (λ (q : Run). IsPlace (triples_of q) c.args.id c.args.page None) it
      (subst (λ (o : Option ℕ). IsPlace (triples_of (slice_index_or c.args.runs.now c.loop-i.i no_run)) c.args.id c.args.page o) c.in_default.is c.sector_in.ensures)
  | inr apart ↦ c.loop-i.invariant k r (omega (arith, below, apart)) at
]

pub returns-in-Some : goal.returns-in-Some
returns-in-Some c = record {
  found =
      placed_in_all c.args.runs.now c.loop-i.i (slice_index_or c.args.runs.now c.loop-i.i no_run) c.args.id c.args.page c.in-Some.sector
      (slice_get-get_or c.args.runs.now c.loop-i.i no_run c.loop-i-test.true)
      (subst (λ (o : Option ℕ). IsPlace (triples_of (slice_index_or c.args.runs.now c.loop-i.i no_run)) c.args.id c.args.page o) c.in-Some.is c.sector_in.ensures);
}

pub returns : goal.returns
returns c = record {
  found = placed_in_none c.args.runs.now c.args.id c.args.page (λ k r at. c.loop-i.invariant k r (omega (arith, slice_get_within c.args.runs.now k r at, c.loop-i-test.false)) at);
}
