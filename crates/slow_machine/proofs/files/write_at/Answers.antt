use Rattle.std.specs.Prelude.{if◌then◌else◌, ◌==◌, true}
use Rattle.flat_machine.specs.File.{File}
use Rattle.flat_machine.specs.Next.{with_byte}
use Rattle.slow_machine.proofs.EditLemmas.{each_step}
use Rattle.slow_machine.proofs.files.write_at.Goals as goal

pub loop-f-preserved : goal.loop-f-preserved
loop-f-preserved g c =
    let each = λ (f : File). if f.id == c.args.id then with_byte (record { file = c.args.id; page = c.args.page; offset = c.args.offset }) c.args.byte f else f in
    rw c.write_at.ensures
    (each_step each c.args.files.now c.loop-f.files c.loop-f.f-index c.f-item.result c.loop-f-test.true c.loop-f.auto.files c.loop-f.invariant)
