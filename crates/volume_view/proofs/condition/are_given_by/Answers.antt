use Rattle.std.proofs.Common.{◌∙◌, inl, inr, false, sym, ap, subst, arith, slice_index_or}
use Rattle.std.specs.Prelude.{slice_get}
use Rattle.std.proofs.lemmas.Bool.{cases_eq}
use Rattle.std.proofs.lemmas.Option.{same_Some, slice_get-get_or, slice_get_within}
use Rattle.volume_view.specs.declared.files.FileLine.{FileLine}
use Rattle.volume_view.specs.Order.{IsGivenBy}
use Rattle.volume_view.proofs.condition.are_given_by.Goals as goal

pub loop-i-preserved : goal.loop-i-preserved
loop-i-preserved c = λ k line below at. elim (cases_eq k c.loop-i.i) [
  | inl same ↦
      let no_line : FileLine = record { id = 0; pages = 0; kind = 0; immutable = false; leader = 0 } in
      let here = slice_get-get_or c.args.files.now c.loop-i.i no_line c.loop-i-test.true in
      let it = same_Some (slice_index_or c.args.files.now c.loop-i.i no_line) line (sym here ∙ ap (slice_get c.args.files.now) (sym same) ∙ at) in
      subst (λ (l : FileLine). IsGivenBy c.args.root.now l.id) it (c.is_given.ensures.yes c.if-not-is_given.false)
  | inr apart ↦ c.loop-i.invariant k line (omega (arith, below, apart)) at
]

pub returns-clause-yes : goal.returns-clause-yes
returns-clause-yes c = λ yes k line at. c.loop-i.invariant k line (omega (arith, slice_get_within c.args.files.now k line at, c.loop-i-test.false)) at
