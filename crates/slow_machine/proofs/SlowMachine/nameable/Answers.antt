use Rattle.std.proofs.Common.{arith, ◌∙◌, ap}
use Rattle.flat_machine.specs.File.{file_at}
use Rattle.slow_machine.proofs.RoomLemmas.{small_if}
use Rattle.slow_machine.proofs.SlowMachine.nameable.Goals as goal

pub returns-clause-bound : goal.returns-clause-bound
returns-clause-bound g c =
    small_if c.file_at.result c.self.inside.files.items c.args.id 4294967296
    (c.file_at.ensures ∙ ap (λ fs. file_at fs c.args.id) c.deref-2.ensures.value) (omega arith)
