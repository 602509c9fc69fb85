use Rattle.std.proofs.Common.{arith, sym, ◌∙◌, subst}
use Rattle.file_map.specs.Searches.{IsLastRun}
use Rattle.file_map.proofs.Named.{find_yes, find_no, find_none}
use Rattle.file_map.proofs.reads.find.Goals as goal

pub returns-in-None-clause-found : goal.returns-in-None-clause-found
returns-in-None-clause-found g c = λ named map_is.
    let last = subst (λ found. IsLastRun map_is.runs c.args.id c.args.page found) c.in-None.is (c.in_ok-run.ensures.answer map_is.runs map_is.listed map_is.form) in
    find_none c.args.sectors _ named map_is (g.met.T.SearchedEntries.ascending c.args.entries.now) c.args.id c.args.page (omega (arith, c.ranges.id.fits)) (omega (arith, c.ranges.page.fits)) last

pub returns-clause-found : goal.returns-clause-found
returns-clause-found g c = λ named map_is.
    let last = subst (λ found. IsLastRun map_is.runs c.args.id c.args.page found) c.in-Some.is (c.in_ok-run.ensures.answer map_is.runs map_is.listed map_is.form) in
    find_no c.args.sectors _ named map_is (g.met.T.SearchedEntries.ascending c.args.entries.now) c.args.id c.args.page c.in-Some.run' (omega (arith, c.ranges.id.fits)) (omega (arith, c.ranges.page.fits)) last
    (sym c.holds.ensures ∙ c.if-holds.false)

pub returns-then-holds-clause-found : goal.returns-then-holds-clause-found
returns-then-holds-clause-found g c = λ named map_is.
    let last = subst (λ found. IsLastRun map_is.runs c.args.id c.args.page found) c.in-Some.is (c.in_ok-run.ensures.answer map_is.runs map_is.listed map_is.form) in
    find_yes c.args.sectors _ named map_is (g.met.T.SearchedEntries.ascending c.args.entries.now) c.args.id c.args.page c.in-Some.run' last (sym c.holds.ensures ∙ c.if-holds.true)
