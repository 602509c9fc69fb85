use Rattle.std.proofs.Common.{rules, refl}
use Rattle.space_tables.proofs.tables.SpaceTables.can_map.Goals as goal

pub returns-in_err-found-clause-answer : goal.returns-in_err-found-clause-answer
returns-in_err-found-clause-answer g c = λ ss t. let m = c.in_err-found.ensures.answer ss t in search (rules, m)

pub returns-clause-answer : goal.returns-clause-answer
returns-clause-answer g c = λ ss t. let m = c.in_ok-found.ensures.answer ss t in (m.0, (c.in_ok-found.found, m.1, refl))

pub returns-clause-read : goal.returns-clause-read
returns-clause-read g c = λ b revealed. record { space = c.in_ok-found.found; there = c.in_ok-found.ensures.read b revealed; pages = refl }
