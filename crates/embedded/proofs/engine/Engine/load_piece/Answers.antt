use Rattle.std.proofs.Common.{◌≡◌, length, refl, subst, sym, OnErr, Result}
use Rattle.flat_machine.specs.declared.call.Call.TheVariants as call
use Rattle.flat_machine.specs.declared.call.Reply.TheVariants as reply
use Rattle.fault_core.specs.ReferenceLaws.{reply_to}
use Rattle.embedded.specs.declared.code.Code.{Code}
use Rattle.embedded.proofs.FaultLemmas.{session_loses_none, unless_done, whenever}
use Rattle.embedded.proofs.CallLemmas.{replied_called_at, stopped_called_at}
use Rattle.embedded.proofs.PieceLemmas.{halted_step, replied_step, same_answer}
use Rattle.embedded.proofs.engine.Engine.load_piece.Goals as goal

pub returns-in-Ok-clause-called : goal.returns-in-Ok-clause-called
returns-in-Ok-clause-called g c =
    let one = call.Load c.args.address (length c.args.into.now) in
    let plain = reply.Bytes c.load.new.into in
    replied_called_at one c.args.self.now _ c.in-Session.live c.load.new.self _ (reply_to plain c.in-Ok.access)
    c.in-Session.is refl (same_answer plain c.in-Ok.access c.answer_of.result refl c.answer_of.ensures) (sym c.if-not-running.ensures)
    (replied_step one plain c.in-Session.live.session c.load.new.self.session refl c.in-Ok.access c.in-Ok.ensures.machine c.in-Ok.ensures.refers)

pub returns-in-Err-clause-called : goal.returns-in-Err-clause-called
returns-in-Err-clause-called g c =
    let one = call.Load c.args.address (length c.args.into.now) in
    let plain = reply.Bytes c.load.new.into in
    rw c.stop.ensures.code
    (stopped_called_at one c.args.self.now c.stop.new.self c.in-Session.live c.load.new.self c.in-Err.halt
    c.in-Session.is (sym c.if-not-running.ensures)
    (halted_step one plain c.in-Session.live.session c.load.new.self.session refl c.in-Err.halt c.in-Err.ensures.machine c.in-Err.ensures.refers)
    c.stop.ensures.closed c.stop.ensures.disk c.stop.ensures.kept)

pub returns-in-Ok-clause-intact : goal.returns-in-Ok-clause-intact
returns-in-Ok-clause-intact g c = λ one.
    subst (λ (r : Result (Unit {0}) Code). OnErr r (c.load.new.into ≡ c.args.into.now)) (sym c.answer_of.ensures)
    (unless_done c.in-Ok.access (c.load.new.into ≡ c.args.into.now) c.in-Ok.ensures.unmoved)

pub returns-in-Ok-clause-faults : goal.returns-in-Ok-clause-faults
returns-in-Ok-clause-faults g c =
    whenever (session_loses_none c.args.self.now _ c.in-Session.live c.load.new.self c.in-Session.is refl c.in-Ok.ensures.refers.wrote.makes.went.faults) c.answer_of.result
