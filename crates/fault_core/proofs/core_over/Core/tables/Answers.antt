use Rattle.std.proofs.Common.{◌∙◌, sym, ap}
use Rattle.fault_core.proofs.LendLemmas.{same_facts}
use Rattle.fault_core.proofs.core_over.Core.tables.Goals as goal

pub returns : goal.returns
returns g c = (
  (sym c.table_memory.ensures.same_reference ∙ ap (λ m. m.filer.ghost_name) (sym c.over.ensures.memory), λ w. same_facts w _ _ _ _ _ _ _ _),
  record { value = ap (λ m. m.filer.now) c.over.ensures.memory ∙ c.table_memory.ensures.value; intervals = c.over.ensures.intervals; lends = tt },
)
