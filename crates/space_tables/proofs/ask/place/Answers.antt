use Rattle.std.proofs.Common.{◌<◌, arith, inr}
use Rattle.flat_machine.specs.Space.{root_pages}
use Rattle.space_tables.proofs.ReadBack.{held}
use Rattle.space_tables.proofs.Asks.{still_reveal, names_innermost, place_replies}
use Rattle.space_tables.proofs.Outs.{handed, causes_on}
use Rattle.space_tables.proofs.Pieces.{malformed_as}
use Rattle.space_tables.specs.Form.{BreaksLookUp, BreaksFor}
use Rattle.space_tables.proofs.ask.place.Goals as goal

pub returns-clause-answer : goal.returns-clause-answer
returns-clause-answer g c = λ ss t.
    let x = c.in_ok-interval.interval in
    let inside : c.args.page < root_pages = omega (arith, c.if-page-ge-ROOT_PAGES.false) in
    let at = c.in_ok-interval.ensures.found t.slots t.xs t.hold t.right t.counted inside in
    let inner = names_innermost (g.M.FlatMem.reveals c.args.mem.now) c.args.count ss t c.in_ok-interval.field-0-0 c.args.page x at (held x c.args.page c.in_ok-interval.ensures.form.2) in
    place_replies ss x.space c.args.page inner.0 inner.1 inner.2 inside c.existing.result
    (rw c.into.ensures at (c.existing.ensures.answer c.args.count ss (still_reveal g.M.FlatMem.reveals c.args.mem.now c.find.new.mem c.find.ensures.looks.unchanged c.args.count ss t)))

pub returns-in_err-interval-clause-unchanged : goal.returns-in_err-interval-clause-unchanged
returns-in_err-interval-clause-unchanged g c = λ b h. c.find.ensures.looks.unchanged b h

pub returns-in_err-interval-clause-kept : goal.returns-in_err-interval-clause-kept
returns-in_err-interval-clause-kept g c = c.find.ensures.looks.kept

pub returns-in_err-interval-clause-looked : goal.returns-in_err-interval-clause-looked
returns-in_err-interval-clause-looked g c = c.find.ensures.looks.looked

pub returns-in_err-interval-clause-cause : goal.returns-in_err-interval-clause-cause
returns-in_err-interval-clause-cause g c = handed _ _ _ _ c.from_residual.ensures.1 c.in_err-interval.ensures.looks.cause

pub returns-in_err-interval-clause-cost : goal.returns-in_err-interval-clause-cost
returns-in_err-interval-clause-cost g c = omega (arith, c.find.ensures.looks.cost)

pub returns-in_err-interval-clause-form : goal.returns-in_err-interval-clause-form
returns-in_err-interval-clause-form g c = handed _ _ _ _ c.from_residual.ensures.1 tt

pub returns-in_err-interval-clause-malformed : goal.returns-in_err-interval-clause-malformed
returns-in_err-interval-clause-malformed g c = λ b h. handed _ _ _ _ c.from_residual.ensures.1 (malformed_as (BreaksLookUp c.args.page c.args.count b) (BreaksFor c.args.page c.args.count b) (λ page k. inr k) _ (c.in_err-interval.ensures.malformed b h))

pub returns-clause-unchanged : goal.returns-clause-unchanged
returns-clause-unchanged g c = λ b h. c.existing.ensures.unchanged b (c.find.ensures.looks.unchanged b h)

pub returns-clause-kept : goal.returns-clause-kept
returns-clause-kept g c = g.met.M.FlatMem.beside_through _ _ _ c.find.ensures.looks.kept c.existing.ensures.kept

pub returns-clause-looked : goal.returns-clause-looked
returns-clause-looked g c = g.met.M.FlatMem.only_reads_through _ _ _ c.find.ensures.looks.looked c.existing.ensures.looked

pub returns-clause-cost : goal.returns-clause-cost
returns-clause-cost g c = omega (arith, c.find.ensures.looks.cost, c.existing.ensures.cost)

pub returns-clause-cause : goal.returns-clause-cause
returns-clause-cause g c = causes_on g.M.FlatMem g.met.M.FlatMem.beside_itself g.met.M.FlatMem.accounted_wider _ _ _ c.find.ensures.looks.kept c.existing.ensures.kept _ c.existing.ensures.cause
