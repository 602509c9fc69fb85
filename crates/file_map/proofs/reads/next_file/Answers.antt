use Rattle.std.proofs.Common.{arith, subst}
use Rattle.file_map.specs.Searches.{IsFirstRun}
use Rattle.file_map.proofs.Named.{next_is, next_above, next_none}
use Rattle.file_map.proofs.reads.next_file.Goals as goal

pub returns-in-None-clause-next : goal.returns-in-None-clause-next
returns-in-None-clause-next g c = λ named map_is.
    let first = subst (λ found. IsFirstRun map_is.runs c.max-start.result 4294967295 found) c.in-None.is (c.in_ok-run.ensures.answer map_is.runs map_is.listed map_is.form) in
    next_none c.args.sectors _ named map_is (g.met.T.SearchedEntries.ascending c.args.entries.now) c.args.id c.max-start.result (omega (arith, c.ranges.id.fits)) c.max-start.ensures first

pub returns-then-run-start-clause-next : goal.returns-then-run-start-clause-next
returns-then-run-start-clause-next g c = λ named map_is.
    let first = subst (λ found. IsFirstRun map_is.runs c.max-start.result 4294967295 found) c.in-Some.is (c.in_ok-run.ensures.answer map_is.runs map_is.listed map_is.form) in
    next_is c.args.sectors _ named map_is (g.met.T.SearchedEntries.ascending c.args.entries.now) c.args.id c.max-start.result c.in-Some.run' (omega (arith, c.ranges.id.fits)) c.max-start.ensures first

pub returns-clause-next : goal.returns-clause-next
returns-clause-next g c = λ named map_is.
    let first = subst (λ found. IsFirstRun map_is.runs c.max-start.result 4294967295 found) c.in-Some.is (c.in_ok-run.ensures.answer map_is.runs map_is.listed map_is.form) in
    let above = next_above c.args.sectors _ named map_is (g.met.T.SearchedEntries.ascending c.args.entries.now) c.args.id c.max-start.result c.in-Some.run' (omega (arith, c.ranges.id.fits)) c.max-start.ensures first in
    absurd (omega (arith, above, c.if-run-start.false))
