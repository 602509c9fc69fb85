use Rattle.documents.proofs.StoppedLemmas.{stopped_back, stopped_code}
use Rattle.labelled_disk.specs.declared.evidence.Halt.TheVariants as halt
use Rattle.std.proofs.Common.{ap, inl, Err}
use Rattle.embedded.specs.declared.code.Code.{Code}
use Rattle.documents.proofs.MoveLemmas.{end_err, end_failed, match_weaker}
use Rattle.documents.proofs.CauseLemmas.{ended_by}
use Rattle.std.proofs.Common.{inr}
use Rattle.std.proofs.Common.{◌∙◌}
use Rattle.documents.proofs.RoomLemmas.{back_full, never_full}
use Rattle.documents.proofs.window.end.Goals as goal

pub returns-in-Err-clause-stopped : goal.returns-in-Err-clause-stopped
returns-in-Err-clause-stopped g c = λ why is.
    stopped_back why c.in-Err.code c.answer_of.result c.hide-hidden.result c.args.engine.now c.hide-hidden.new.engine
    (stopped_code why _ c.in-Err.code c.args.engine.now c.requires.halted c.in-Err.is)
    (c.hide-hidden.ensures.same why) c.hide-hidden.ensures.stopped c.answer_of.ensures.which (cc is)

pub returns-in-Ok-clause-hidden : goal.returns-in-Ok-clause-hidden
returns-in-Ok-clause-hidden g c = λ m last stands h.
    match_weaker _ _ _ c.hide-hidden.result (λ e bad. inl bad) (c.hide-hidden.ensures.hidden m last stands h)

pub returns-in-Err-clause-hidden : goal.returns-in-Err-clause-hidden
returns-in-Err-clause-hidden g c = λ m last stands h.
    end_err last c.hide-hidden.new.engine c.answer_of.result c.hide-hidden.result (c.answer_of.ensures.halted halt.Disk)
    (c.hide-hidden.ensures.hidden m last stands h)

pub returns-in-Ok-clause-failed : goal.returns-in-Ok-clause-failed
returns-in-Ok-clause-failed g c = λ bad. absurd (cc (c.in-Ok.is, bad))

pub returns-in-Err-clause-failed : goal.returns-in-Err-clause-failed
returns-in-Err-clause-failed g c = λ bad.
    ap (λ (x : Code). Err x)
    (end_failed c.args.engine.now c.answer_of.result c.in-Err.code c.hide-hidden.result
    (λ is. stopped_code halt.Disk _ c.in-Err.code c.args.engine.now c.requires.halted c.in-Err.is is)
    c.hide-hidden.ensures.closed c.answer_of.ensures.which (cc (c.in-Err.is, bad)))

pub returns-in-Ok-clause-cause : goal.returns-in-Ok-clause-cause
returns-in-Ok-clause-cause g c = λ is. inr (c.hide-hidden.ensures.cause is)

pub returns-in-Err-clause-cause : goal.returns-in-Err-clause-cause
returns-in-Err-clause-cause g c = λ is.
    ended_by _ c.in-Err.code c.answer_of.result c.hide-hidden.result c.args.engine.now c.hide-hidden.new.engine c.hide-hidden.ensures.cause
    c.in-Err.is c.answer_of.ensures.which (cc is)

pub returns-in-Ok-clause-room : goal.returns-in-Ok-clause-room
returns-in-Ok-clause-room g c = λ m last stands h is.
    absurd (never_full _ c.hide-hidden.result (c.hide-hidden.ensures.hidden m last stands h) is)

pub returns-in-Err-clause-room : goal.returns-in-Err-clause-room
returns-in-Err-clause-room g c = λ m last stands h is.
    c.in-Err.is ∙ ap (λ (x : Code). Err x) (back_full c.in-Err.code c.answer_of.result c.hide-hidden.result c.answer_of.ensures.which (cc is))
