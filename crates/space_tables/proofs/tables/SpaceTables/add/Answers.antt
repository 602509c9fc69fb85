use Rattle.std.proofs.Common.{rules, ◌≡◌, Err}
use Rattle.space_tables.proofs.tables.SpaceTables.add.Goals as goal

pub returns-in_err-handle-clause-answer : goal.returns-in_err-handle-clause-answer
returns-in_err-handle-clause-answer g c = λ ss t.
    let same : c.from_residual.result ≡ Err c.in_err-handle.field-0.0 = search rules in rw same (c.in_err-handle.ensures.answer ss t)
