use Rattle.std.proofs.Common.{refl, sym}
use Rattle.embedded.proofs.CallLemmas.{replied_called_at, stopped_called_at}
use Rattle.embedded.proofs.engine.Engine.call.Goals as goal

pub returns-in-Ok : goal.returns-in-Ok
returns-in-Ok g c =
    replied_called_at c.args.call.now c.args.self.now _ c.in-Session.live c.step.new.self c.answer_to.result c.in-Ok.reply
    c.in-Session.is refl c.answer_to.ensures (sym c.if-not-running.ensures) c.in-Ok.ensures

pub returns-in-Err : goal.returns-in-Err
returns-in-Err g c =
    rw c.stop.ensures.code
    (stopped_called_at c.args.call.now c.args.self.now c.stop.new.self c.in-Session.live c.step.new.self c.in-Err.halt
    c.in-Session.is (sym c.if-not-running.ensures) c.in-Err.ensures c.stop.ensures.closed c.stop.ensures.disk c.stop.ensures.kept)
