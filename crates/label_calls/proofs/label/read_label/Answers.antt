use Rattle.std.proofs.Common.{rules}
use Rattle.labelled_disk.specs.Calls.{RevealsSame, Moves}
use Rattle.swapper_kernel.proofs.StepLemmas.{step_laws}
use Rattle.label_calls.proofs.label.read_label.Goals as goal

pub returns-in-Ok-clause-makes : goal.returns-in-Ok-clause-makes
returns-in-Ok-clause-makes g c =
    let same : RevealsSame (g.D.Disk.state c.args.memory.now.disk) (g.D.Disk.state c.read.new.self) = search rules in
    let moves : Moves (g.D.Disk.state c.args.memory.now.disk) (g.D.Disk.state c.read.new.self) = search rules in
    (step_laws.read _ _ c.args.memory.now.pool same moves).makes

pub returns-in-Err-clause-makes : goal.returns-in-Err-clause-makes
returns-in-Err-clause-makes g c =
    let same : RevealsSame (g.D.Disk.state c.args.memory.now.disk) (g.D.Disk.state c.read.new.self) = search rules in
    let moves : Moves (g.D.Disk.state c.args.memory.now.disk) (g.D.Disk.state c.read.new.self) = search rules in
    (step_laws.read _ _ c.args.memory.now.pool same moves).makes
