use Rattle.std.proofs.Common.{refl}
use Rattle.embedded.proofs.MadeLemmas.{formats, makes, makes_none, none_zero, not_formatted}
use Rattle.embedded.specs.declared.held.Held.TheVariants as held
use Rattle.embedded.proofs.TakeLemmas.{held_again}
use Rattle.embedded.proofs.engine.Engine.format.Goals as goal

pub returns-in-Err : goal.returns-in-Err
returns-in-Err g c =
    not_formatted c.args.serial c.args.counter c.args.self.now c.take_disk.new.self c.in-Err.code (none_zero c.if-serial-eq0.false c.if-counter-eq0.false)
    c.in-Err.ensures.why c.in-Err.ensures.same

pub returns-in-Ok-made : goal.returns-in-Ok-made
returns-in-Ok-made g c =
    let f = c.format-made.ensures in
    formats c.args.serial c.args.counter c.args.self.now _ _ c.in-Ok.disk c.format-made.new.disk (none_zero c.if-serial-eq0.false c.if-counter-eq0.false)
    c.in-Ok.ensures.disk
    (held_again c.take_disk.new.self c.args.self.now (held.Disk c.format-made.new.disk) c.in-Ok.ensures.taken)
    (makes c.args.serial c.args.counter (g.D.Disk.state c.in-Ok.disk) (g.D.Disk.state c.format-made.new.disk) c.format-made.result _ c.in-Ok-made.is f.contents f.synced f.count.refused f.later)

pub returns-in-Err-made : goal.returns-in-Err-made
returns-in-Err-made g c =
    let f = c.format-made.ensures in
    formats c.args.serial c.args.counter c.args.self.now _ _ c.in-Ok.disk c.format-made.new.disk (none_zero c.if-serial-eq0.false c.if-counter-eq0.false)
    c.in-Ok.ensures.disk
    (held_again c.take_disk.new.self c.args.self.now (held.Disk c.format-made.new.disk) c.in-Ok.ensures.taken)
    (makes_none c.args.serial c.args.counter (g.D.Disk.state c.in-Ok.disk) (g.D.Disk.state c.format-made.new.disk) c.format-made.result c.in-Err-made.why c.in-Err-made.is f.count.refused f.count.bad_count
    f.count.unwritten f.part f.cause f.err f.later)
