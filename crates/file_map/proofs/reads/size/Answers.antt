use Rattle.std.proofs.Common.{arith, subst}
use Rattle.file_map.specs.Searches.{IsLastRun}
use Rattle.file_map.proofs.Named.{size_none, size_other, size_is}
use Rattle.file_map.proofs.reads.size.Goals as goal

pub returns-in-None-clause-size : goal.returns-in-None-clause-size
returns-in-None-clause-size g c = λ named map_is.
    let last = subst (λ found. IsLastRun map_is.runs c.args.id 4294967294 found) c.in-None.is (c.in_ok-run.ensures.answer map_is.runs map_is.listed map_is.form) in
    size_none c.args.sectors _ named map_is (g.met.T.SearchedEntries.ascending c.args.entries.now) c.args.id (omega (arith, c.ranges.id.fits)) last

pub returns-then-run-id-clause-size : goal.returns-then-run-id-clause-size
returns-then-run-id-clause-size g c = λ named map_is.
    let last = subst (λ found. IsLastRun map_is.runs c.args.id 4294967294 found) c.in-Some.is (c.in_ok-run.ensures.answer map_is.runs map_is.listed map_is.form) in
    size_other c.args.sectors _ named map_is (g.met.T.SearchedEntries.ascending c.args.entries.now) c.args.id c.in-Some.run' (omega (arith, c.ranges.id.fits)) last c.if-run-id.true

pub returns-clause-size : goal.returns-clause-size
returns-clause-size g c = λ named map_is.
    let last = subst (λ found. IsLastRun map_is.runs c.args.id 4294967294 found) c.in-Some.is (c.in_ok-run.ensures.answer map_is.runs map_is.listed map_is.form) in
    size_is c.args.sectors _ named map_is (g.met.T.SearchedEntries.ascending c.args.entries.now) c.args.id _ c.in-Some.run' (omega (arith, c.ranges.id.fits)) last c.if-run-id.false (omega (arith, c.min.ensures, c.end.ensures, c.from.ensures))
