use Rattle.std.proofs.Common.{rules, ℕ, List}
use Rattle.filer_kernel.specs.Tables.{TablesReveal}
use Rattle.filer_kernel.specs.View.{view_of, TablesAre}
use Rattle.fault_core.proofs.AskLemmas.{lent}
use Rattle.table_calls.proofs.asking.ask_bounds.Goals as goal

pub returns-clause-answer : goal.returns-clause-answer
returns-clause-answer g c = λ ss reveals. c.bounds.ensures.answer ss (rw (c.over-tables.ensures.memory, c.over-tables.ensures.intervals, c.table_memory.ensures.value) reveals)

pub returns-clause-read : goal.returns-clause-read
returns-clause-read g c = λ b reveals. c.bounds.ensures.read b (rw (c.over-tables.ensures.memory, c.table_memory.ensures.value) reveals)

pub returns-clause-malformed : goal.returns-clause-malformed
returns-clause-malformed g c = λ b reveals. c.bounds.ensures.malformed b (rw (c.over-tables.ensures.memory, c.table_memory.ensures.value) reveals)

pub returns-clause-asked : goal.returns-clause-asked
returns-clause-asked g c = record {
  beside = search rules;
  same =
      let now = c.bounds.new.self.mem.filer.now in
      lent (λ d s x k. (b : List ℕ) → TablesAre (view_of c.args.filer.now) b → TablesReveal d s x k b) _ (view_of now).disk _ (view_of now).slots _ (view_of now).layout _ now.runs
      (search rules) (search rules) (search rules) (search rules)
      (λ b reveals. c.bounds.ensures.unchanged b (rw (c.over-tables.ensures.memory, c.table_memory.ensures.value) reveals));
}
