use Rattle.std.proofs.Common.{subst}
use Rattle.space_tables.specs.Answer.{IfMem}
use Rattle.filer_kernel.specs.View.{view_of}
use Rattle.table_calls.proofs.HaltingLemmas.{Accounted}
use Rattle.fault_core.proofs.ReachLemmas.{tables_of}
use Rattle.fault_core.specs.Reach.{no_break}
use Rattle.fault_core.proofs.NeverBlamesLemmas.{never_blames_revealed}
use Rattle.fault_core.proofs.TurnLemmas.{tables_halt}
use Rattle.table_calls.proofs.SeenLemmas.{sees_revealed}
use Rattle.table_calls.proofs.beginning.begin.Goals as goal

pub returns-in-Ok-clause-begun : goal.returns-in-Ok-clause-begun
returns-in-Ok-clause-begun g c = c.in-Ok.ensures.begun

pub returns-in-Err-Mem-clause-sound : goal.returns-in-Err-Mem-clause-sound
returns-in-Err-Mem-clause-sound g c = λ m named b knows.
    let old = view_of c.args.filer.now in
    let fault = subst (IfMem (Accounted old (view_of c.begin_in.new.filer))) c.in-Err-Mem.field-0-is c.in-Err-Mem.ensures.cause in
    fault.sound m b knows.stands knows.map_labels (tables_of old m named b knows)

-- ---- The tables are revealed.

pub returns-in-Ok-clause-sees : goal.returns-in-Ok-clause-sees
returns-in-Ok-clause-sees g c = λ b revealed. sees_revealed (c.in-Ok.ensures.begun b revealed)

pub returns-in-Err-Mem-clause-right : goal.returns-in-Err-Mem-clause-right
returns-in-Err-Mem-clause-right g c = λ b revealed.
    let old = view_of c.args.filer.now in
    let new = view_of c.begin_in.new.filer in
    let fault = subst (IfMem (Accounted old new)) c.in-Err-Mem.field-0-is c.in-Err-Mem.ensures.cause in
    never_blames_revealed revealed no_break (λ page none. absurd none) new c.in-Err-Mem.halt (tables_halt old new no_break c.in-Err-Mem.halt fault)
