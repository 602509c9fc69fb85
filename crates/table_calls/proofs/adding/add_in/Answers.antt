use Rattle.std.proofs.Common.{rules, ℕ, subst}
use Rattle.std.specs.Prelude.{◌≡◌, ◌⊎◌, IfErr}
use Rattle.flat_machine.specs.Next.{put_space}
use Rattle.flat_machine.specs.Refusal.{first_of}
use Rattle.projection_laws.specs.Tests.{add_row, made}
use Rattle.space_tables.specs.Answer.{IfMalformed, Answers}
use Rattle.space_tables.specs.Form.{BreaksHierarchy, BreaksAt, MakesTooMany}
use Rattle.space_tables.specs.Stored.{RevealSpaces}
use Rattle.filer_kernel.specs.Tables.{TablesReveal}
use Rattle.fault_core.proofs.AskLemmas.{lent}
use Rattle.table_calls.proofs.adding.add_in.Goals as goal
use Rattle.filer_kernel.specs.View.{view_of}

pub returns-clause-answer : goal.returns-clause-answer
returns-clause-answer g c = λ ss reveals.
    let now = c.add-answer.new.self.mem.filer.now in
    lent (λ d s x k. Answers (first_of (add_row ss c.args.parent c.args.pages c.args.first)) (λ at. RevealSpaces (TablesReveal d s x k) c.intervals.result (put_space (made ss c.args.parent c.args.pages c.args.first) ss) × (at.0 ≡ (made ss c.args.parent c.args.pages c.args.first).handle) × (at.1 ≡ (made ss c.args.parent c.args.pages c.args.first).first)) (RevealSpaces (TablesReveal d s x k) c.intervals.result ss) c.add-answer.result) _ (view_of now).disk _ (view_of now).slots _ (view_of now).layout _ now.runs
    (search rules) (search rules) (search rules) (search rules)
    (rw c.intervals.ensures.count (c.add-answer.ensures.answer ss (rw (c.over-tables.ensures.memory, c.over-tables.ensures.intervals, c.table_memory.ensures.value) reveals)))

pub returns-clause-malformed : goal.returns-clause-malformed
returns-clause-malformed g c = λ b reveals.
    subst (λ (n : ℕ). IfErr c.add-answer.result (IfMalformed (λ page. BreaksHierarchy b page ⊎ (BreaksAt c.args.first n b page ⊎ MakesTooMany n b c.args.parent c.args.pages c.args.first page)))) c.over-tables.ensures.intervals (c.add-answer.ensures.malformed b (rw (c.over-tables.ensures.memory, c.table_memory.ensures.value) reveals))
