use Rattle.std.proofs.Common.{rules, ℕ, subst}
use Rattle.std.specs.Prelude.{IfErr}
use Rattle.flat_machine.specs.Next.{change_space}
use Rattle.flat_machine.specs.Refusal.{first_of}
use Rattle.projection_laws.specs.Tests.{unit_row}
use Rattle.space_tables.specs.Answer.{IfMalformed, Answers}
use Rattle.space_tables.specs.Form.{Breaks}
use Rattle.space_tables.specs.Stored.{RevealSpaces}
use Rattle.filer_kernel.specs.Tables.{TablesReveal}
use Rattle.fault_core.proofs.AskLemmas.{lent}
use Rattle.table_calls.proofs.changing.set_unit_in.Goals as goal
use Rattle.filer_kernel.specs.View.{view_of}

pub returns-clause-answer : goal.returns-clause-answer
returns-clause-answer g c = λ ss reveals.
    let now = c.set_unit.new.self.mem.filer.now in
    lent (λ d s x k. Answers (first_of (unit_row ss c.args.space c.args.unit)) (λ _. RevealSpaces (TablesReveal d s x k) c.args.intervals (change_space c.args.space (λ y. record y { unit = c.args.unit }) ss)) (RevealSpaces (TablesReveal d s x k) c.args.intervals ss) c.set_unit.result)
    _ (view_of now).disk _ (view_of now).slots _ (view_of now).layout _ now.runs
    (search rules) (search rules) (search rules) (search rules)
    (rw (← c.over-tables.ensures.intervals, ← c.set_unit.ensures.count) (c.set_unit.ensures.answer ss (rw (c.over-tables.ensures.memory, c.over-tables.ensures.intervals, c.table_memory.ensures.value) reveals)))

pub returns-clause-malformed : goal.returns-clause-malformed
returns-clause-malformed g c = λ b reveals.
    subst (λ (n : ℕ). IfErr c.set_unit.result (IfMalformed (λ page. Breaks n b page))) c.over-tables.ensures.intervals (c.set_unit.ensures.malformed b (rw (c.over-tables.ensures.memory, c.table_memory.ensures.value) reveals))
