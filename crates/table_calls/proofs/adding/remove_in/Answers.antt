use Rattle.std.proofs.Common.{rules, ℕ, subst}
use Rattle.std.specs.Prelude.{IfErr}
use Rattle.flat_machine.specs.Next.{without_space}
use Rattle.flat_machine.specs.Refusal.{first_of}
use Rattle.projection_laws.specs.Tests.{remove_row}
use Rattle.space_tables.specs.Answer.{IfMalformed, Answers}
use Rattle.space_tables.specs.Form.{BreaksFor, first_in_slot}
use Rattle.space_tables.specs.Stored.{RevealSpaces}
use Rattle.filer_kernel.specs.Tables.{TablesReveal}
use Rattle.fault_core.proofs.AskLemmas.{lent}
use Rattle.table_calls.proofs.adding.remove_in.Goals as goal
use Rattle.filer_kernel.specs.View.{view_of}

pub returns-clause-answer : goal.returns-clause-answer
returns-clause-answer g c = λ ss reveals.
    let now = c.remove-answer.new.self.mem.filer.now in
    lent (λ d s x k. Answers (first_of (remove_row ss c.args.space)) (λ _. RevealSpaces (TablesReveal d s x k) c.intervals.result (without_space c.args.space ss)) (RevealSpaces (TablesReveal d s x k) c.intervals.result ss) c.remove-answer.result) _ (view_of now).disk _ (view_of now).slots _ (view_of now).layout _ now.runs
    (search rules) (search rules) (search rules) (search rules)
    (rw c.intervals.ensures.count (c.remove-answer.ensures.answer ss (rw (c.over-tables.ensures.memory, c.over-tables.ensures.intervals, c.table_memory.ensures.value) reveals)))

pub returns-clause-malformed : goal.returns-clause-malformed
returns-clause-malformed g c = λ b reveals.
    subst (λ (n : ℕ). IfErr c.remove-answer.result (IfMalformed (λ page. BreaksFor (first_in_slot b c.args.space) n b page))) c.over-tables.ensures.intervals (c.remove-answer.ensures.malformed b (rw (c.over-tables.ensures.memory, c.table_memory.ensures.value) reveals))
