use Rattle.std.proofs.Common.{rules, ◌≡◌, Err}
use Rattle.space_tables.proofs.tables.SpaceTables.remove.Goals as goal

pub returns-in_err-self-clause-answer : goal.returns-in_err-self-clause-answer
returns-in_err-self-clause-answer g c = λ ss t.
    let same : c.from_residual.result ≡ Err c.in_err-self.field-0.0 = search rules in rw same (c.in_err-self.ensures.answer ss t)
