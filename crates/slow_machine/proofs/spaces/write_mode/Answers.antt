use Rattle.std.specs.Prelude.{if◌then◌else◌, ◌==◌, option_map, true}
use Rattle.flat_machine.specs.declared.space.Space.{Space}
use Rattle.flat_machine.specs.Next.{with_mode}
use Rattle.slow_machine.proofs.EditLemmas.{each_step}
use Rattle.slow_machine.proofs.spaces.write_mode.Goals as goal

pub loop-s-preserved : goal.loop-s-preserved
loop-s-preserved c =
    let each = λ (s : Space). if s.handle == c.args.handle then record s { window = option_map (with_mode c.args.writable) s.window } else s in
    rw c.with_mode.ensures
    (each_step each c.args.spaces.now c.loop-s.spaces c.loop-s.s-index _ c.loop-s-test.true c.loop-s.auto.spaces c.loop-s.invariant)
