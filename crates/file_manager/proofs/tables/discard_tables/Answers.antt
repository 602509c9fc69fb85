use Rattle.swapper_kernel.specs.FormLaws.{memory_in_form}
use Rattle.file_manager.proofs.tables.discard_tables.Goals as goal

pub returns-clause-form : goal.returns-clause-form
returns-clause-form g c =
    rw c.frames_of.ensures.same
    (λ m stands. memory_in_form _ _ m stands (g.met.D.Disk.in_form c.discard.new.memory.disk stands.sectors stands.revealed) c.frames_of.ensures.pages)
