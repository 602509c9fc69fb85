use Rattle.std.proofs.Common.{rules, ℕ, subst}
use Rattle.std.specs.Prelude.{IfErr, MatchResult, option_map}
use Rattle.flat_machine.specs.Next.{set_window}
use Rattle.space_tables.specs.Answer.{FromMemory, IfMalformed}
use Rattle.space_tables.specs.Form.{Breaks}
use Rattle.space_tables.specs.Shows.{window_of}
use Rattle.space_tables.specs.Stored.{RevealSpaces}
use Rattle.filer_kernel.specs.Tables.{TablesReveal}
use Rattle.fault_core.proofs.AskLemmas.{lent}
use Rattle.table_calls.proofs.changing.set_window_in.Goals as goal
use Rattle.filer_kernel.specs.View.{view_of}

pub returns-clause-done : goal.returns-clause-done
returns-clause-done g c = λ ss x reveals may is fits.
    let now = c.set_window.new.self.mem.filer.now in
    lent (λ d s y k. MatchResult c.set_window.result (λ _. RevealSpaces (TablesReveal d s y k) c.args.intervals (set_window c.args.space (option_map window_of c.args.shown) ss)) FromMemory)
    _ (view_of now).disk _ (view_of now).slots _ (view_of now).layout _ now.runs
    (search rules) (search rules) (search rules) (search rules)
    (rw (← c.over-tables.ensures.intervals, ← c.set_window.ensures.count) (c.set_window.ensures.done ss x (rw (c.over-tables.ensures.memory, c.over-tables.ensures.intervals, c.table_memory.ensures.value) reveals) may is fits))

pub returns-clause-malformed : goal.returns-clause-malformed
returns-clause-malformed g c = λ b reveals.
    subst (λ (n : ℕ). IfErr c.set_window.result (IfMalformed (Breaks n b))) c.over-tables.ensures.intervals (c.set_window.ensures.malformed b (rw (c.over-tables.ensures.memory, c.table_memory.ensures.value) reveals))
