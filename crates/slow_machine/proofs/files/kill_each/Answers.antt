use Rattle.std.specs.Prelude.{true}
use Rattle.flat_machine.specs.File.{File}
use Rattle.flat_machine.specs.Next.{killed_file}
use Rattle.slow_machine.proofs.EditLemmas.{each_step}
use Rattle.slow_machine.proofs.files.kill_each.Goals as goal

pub loop-f-preserved : goal.loop-f-preserved
loop-f-preserved g c =
    let each = λ (f : File). killed_file c.args.spaces.now c.args.range.now f in
    rw c.kill.ensures
    (each_step each c.args.files.now c.loop-f.files c.loop-f.f-index c.f-item.result c.loop-f-test.true c.loop-f.auto.files c.loop-f.invariant)
