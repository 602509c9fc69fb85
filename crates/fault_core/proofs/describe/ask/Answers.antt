use Rattle.std.proofs.Common.{rules, ℕ, List, subst}
use Rattle.std.specs.Prelude.{IfErr}
use Rattle.space_tables.specs.Answer.{IfMalformed}
use Rattle.space_tables.specs.Form.{BreaksLookUp}
use Rattle.filer_kernel.specs.Tables.{TablesReveal}
use Rattle.filer_kernel.specs.View.{view_of, TablesAre}
use Rattle.fault_core.proofs.AskLemmas.{lent, formed_found}
use Rattle.fault_core.proofs.describe.ask.Goals as goal

pub returns-clause-form : goal.returns-clause-form
returns-clause-form g c = formed_found c.describe.result c.args.page c.describe.ensures.form

pub returns-clause-interval : goal.returns-clause-interval
returns-clause-interval g c = λ ss reveals. c.describe.ensures.interval ss (rw (c.over-tables.ensures.memory, c.over-tables.ensures.intervals, c.table_memory.ensures.value) reveals)

pub returns-clause-fails : goal.returns-clause-fails
returns-clause-fails g c = record {
  right = λ ss reveals. c.describe.ensures.right ss (rw (c.over-tables.ensures.memory, c.over-tables.ensures.intervals, c.table_memory.ensures.value) reveals);
  malformed = λ b reveals.
      subst (λ (n : ℕ). IfErr c.describe.result (IfMalformed (BreaksLookUp c.args.page n b))) c.over-tables.ensures.intervals
      (c.describe.ensures.malformed b (rw (c.over-tables.ensures.memory, c.table_memory.ensures.value) reveals));
  refused = search rules;
  cause = search rules;
}

pub returns-clause-same : goal.returns-clause-same
returns-clause-same g c =
    let now = c.describe.new.self.mem.filer.now in
    lent (λ d s x k. (b : List ℕ) → TablesAre (view_of c.args.filer.now) b → TablesReveal d s x k b) _ (view_of now).disk _ (view_of now).slots _ (view_of now).layout _ now.runs
    (search rules) (search rules) (search rules) (search rules)
    (λ b reveals. c.describe.ensures.looks.unchanged b (rw (c.over-tables.ensures.memory, c.table_memory.ensures.value) reveals))
