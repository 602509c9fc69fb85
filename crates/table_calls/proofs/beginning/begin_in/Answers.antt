use Rattle.std.specs.Prelude.{[], ◌∷◌, OnOk}
use Rattle.flat_machine.specs.Space.{root}
use Rattle.std.proofs.Common.{rules}
use Rattle.space_tables.specs.Stored.{RevealSpaces}
use Rattle.filer_kernel.specs.Tables.{TablesReveal}
use Rattle.fault_core.proofs.AskLemmas.{lent}
use Rattle.table_calls.proofs.beginning.begin_in.Goals as goal
use Rattle.filer_kernel.specs.View.{view_of}

pub returns-clause-begun : goal.returns-clause-begun
returns-clause-begun g c = λ b reveals.
    let now = c.begin_in.new.mem.filer.now in
    lent (λ d s x k. OnOk c.begin_in.result (RevealSpaces (TablesReveal d s x k) 1 (root ∷ []))) _ (view_of now).disk _ (view_of now).slots _ (view_of now).layout _ now.runs
    (search rules) (search rules) (search rules) (search rules)
    (c.begin_in.ensures.begun b (rw c.table_memory-window.ensures.value reveals))
