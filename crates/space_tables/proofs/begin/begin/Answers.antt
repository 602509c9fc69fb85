use Rattle.std.proofs.Common.{◌∷◌, [], Some}
use Rattle.std.specs.Prelude.{slice_set}
use Rattle.std.proofs.lemmas.Result.{on_ok_weaker}
use Rattle.flat_machine.specs.Space.{root}
use Rattle.space_tables.specs.Stored.{HoldTables}
use Rattle.space_tables.specs.Begin.{root_interval, bare_slots}
use Rattle.space_tables.proofs.Begins.{begins}
use Rattle.space_tables.proofs.begin.begin.Goals as goal

pub returns-clause-begun : goal.returns-clause-begun
returns-clause-begun g c = λ b h.
    on_ok_weaker c.put_slot.result (λ (held : HoldTables (g.M.FlatMem.reveals c.put_slot.new.mem) (slice_set (bare_slots 512) 0 (Some root)) (root_interval ∷ [])). begins (g.M.FlatMem.reveals c.put_slot.new.mem) held)
    (c.put_slot.ensures.written (bare_slots 512) (root_interval ∷ []) (Some root) (c.in_ok-clear.ensures.cleared b h) c.space_bytes.ensures)
