use Rattle.std.proofs.Common.{map, refl, arith}
use Rattle.file_map.specs.Run.{run_bytes}
use Rattle.file_map.proofs.Searches.{last_found, last_broken}
use Rattle.file_map.proofs.Outcomes.{passed, passed_cause, own, cause}
use Rattle.file_map.proofs.search.last_run.Goals as goal

pub returns-in_err-at-clause-answer : goal.returns-in_err-at-clause-answer
returns-in_err-at-clause-answer g c = λ runs listed form.
    passed _ _ _ _ c.from_residual.ensures.0 c.from_residual.ensures.1 (own _ (c.in_err-at.ensures.answer (map run_bytes runs) listed))

pub returns-in_err-at-clause-cause : goal.returns-in_err-at-clause-cause
returns-in_err-at-clause-cause g c =
    passed_cause _ _ _ c.from_residual.ensures.1
    (cause c.args.sectors ⊥ (g.T.SearchedEntries.shows c.args.entries.now) (g.T.SearchedEntries.accounted c.args.entries.now c.look_up.new.self) c.in_err-at.field-0.0 c.in_err-at.ensures.cause)

pub returns-in-Some-read_record-clause-answer : goal.returns-in-Some-read_record-clause-answer
returns-in-Some-read_record-clause-answer g c = λ runs listed form.
    last_found c.args.sectors runs form (omega (arith, c.requires)) c.args.id c.args.page c.in-Some.at _ _ _ c.in-Some-read_record.run' c.key_of.ensures c.in-Some.is (c.in_ok-at.ensures.answer (map run_bytes runs) listed)
    c.in-Some-read_record.ensures.form c.in-Some-read_record.ensures.same

pub returns-in-None-clause-answer : goal.returns-in-None-clause-answer
returns-in-None-clause-answer g c = λ runs listed form.
    last_broken c.args.sectors runs form (omega (arith, c.requires)) c.in-Some.at _ _ _ c.in-Some.is (c.in_ok-at.ensures.answer (map run_bytes runs) listed) (c.in-None.ensures.broken refl)
