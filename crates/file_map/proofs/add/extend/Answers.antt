use Rattle.std.proofs.Common.{map, subst, arith}
use Rattle.file_map.specs.Run.{run_bytes}
use Rattle.file_map.specs.Searches.{IsLastRun}
use Rattle.file_map.proofs.Adding.{extended}
use Rattle.file_map.proofs.add.extend.Goals as goal

pub returns-clause-joined : goal.returns-clause-joined
returns-clause-joined g c = λ named map_is new.
    let last = subst (λ found. IsLastRun map_is.runs c.args.run.id c.args.run.first found) c.in-Some.is (c.in_ok-before.ensures.answer map_is.runs map_is.listed map_is.form) in
    let listed = c.last_run.ensures.same (map run_bytes map_is.runs) map_is.listed in
    extended c.args.sectors _ _ named map_is c.args.run c.requires.run new c.in-Some.before c.in-Some-join.both last c.in-Some-join.ensures c.to_bytes.result _ c.to_bytes.ensures
    (c.in_ok-done.ensures.answer (map run_bytes map_is.runs) listed)

pub returns-in_err-done-clause-kept : goal.returns-in_err-done-clause-kept
returns-in_err-done-clause-kept g c = g.met.T.SearchedEntries.beside_through _ _ _ c.last_run.ensures.kept c.replace_key.ensures.kept

pub returns-clause-kept : goal.returns-clause-kept
returns-clause-kept g c = g.met.T.SearchedEntries.beside_through _ _ _ c.last_run.ensures.kept c.replace_key.ensures.kept

pub returns-in_err-before-clause-cost : goal.returns-in_err-before-clause-cost
returns-in_err-before-clause-cost g c = omega (arith, c.last_run.ensures.cost)

pub returns-in-None-clause-cost : goal.returns-in-None-clause-cost
returns-in-None-clause-cost g c = omega (arith, c.last_run.ensures.cost)

pub returns-in-None-join-clause-cost : goal.returns-in-None-join-clause-cost
returns-in-None-join-clause-cost g c = omega (arith, c.last_run.ensures.cost)

pub returns-in_err-done-clause-cost : goal.returns-in_err-done-clause-cost
returns-in_err-done-clause-cost g c = omega (arith, c.last_run.ensures.cost, c.replace_key.ensures.cost)

pub returns-clause-cost : goal.returns-clause-cost
returns-clause-cost g c = omega (arith, c.last_run.ensures.cost, c.replace_key.ensures.cost)
