use Rattle.std.proofs.Common.{}
use Rattle.pilot_engine.proofs.session.Session.try_step.Goals as goal

pub returns-then-is_err-clause-machine : goal.returns-then-is_err-clause-machine
returns-then-is_err-clause-machine g c = λ m r.
    let did = c.try_answer-answer.ensures.machine m r in
    record { tried = did.tried; quiet = did.quiet; sound = did.sound; passes = did.passes; came = did.came; advised = λ quiet free. did.advised quiet free; forced = λ one free. did.forced one free; cost = did.cost }

pub returns-then-is_err-clause-accounts : goal.returns-then-is_err-clause-accounts
returns-then-is_err-clause-accounts g c = λ o k up.
    let did = c.try_answer-answer.ensures.accounts o k up in
    record { keeps_to = did.keeps_to; reasons = did.reasons; sees = did.sees }

pub returns-then-is_err-clause-tries : goal.returns-then-is_err-clause-tries
returns-then-is_err-clause-tries g c =
    let did = c.try_answer-answer.ensures.tries in
    record {
      absent = did.absent;
      fails = did.fails;
      wrote = did.wrote;
      few = did.few;
      room = did.room;
      stay = did.stay;
      stays = record { open_still = did.stays.open_still; monotone = did.stays.monotone; serial = did.stays.serial; layout = did.stays.layout };
    }

pub returns-else-is_err-clause-machine : goal.returns-else-is_err-clause-machine
returns-else-is_err-clause-machine g c = λ m r.
    let did = c.try_answer-answer.ensures.machine m r in
    record { tried = did.tried; quiet = did.quiet; sound = did.sound; passes = did.passes; came = did.came; advised = λ quiet free. did.advised quiet free; forced = λ one free. did.forced one free; cost = did.cost }

pub returns-else-is_err-clause-accounts : goal.returns-else-is_err-clause-accounts
returns-else-is_err-clause-accounts g c = λ o k up.
    let did = c.try_answer-answer.ensures.accounts o k up in
    record { keeps_to = did.keeps_to; reasons = did.reasons; sees = did.sees }

pub returns-else-is_err-clause-tries : goal.returns-else-is_err-clause-tries
returns-else-is_err-clause-tries g c =
    let did = c.try_answer-answer.ensures.tries in
    record {
      absent = did.absent;
      fails = did.fails;
      wrote = did.wrote;
      few = did.few;
      room = did.room;
      stay = did.stay;
      stays = record { open_still = did.stays.open_still; monotone = did.stays.monotone; serial = did.stays.serial; layout = did.stays.layout };
    }

pub returns-then-is_err-clause-labels : goal.returns-then-is_err-clause-labels
returns-then-is_err-clause-labels g c =
    let did = c.try_answer-answer.ensures.labels in
    record { own = did.own; spares = did.spares; around = did.around; unlabelled = did.unlabelled }

pub returns-else-is_err-clause-labels : goal.returns-else-is_err-clause-labels
returns-else-is_err-clause-labels g c =
    let did = c.try_answer-answer.ensures.labels in
    record { own = did.own; spares = did.spares; around = did.around; unlabelled = did.unlabelled }
