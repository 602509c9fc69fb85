use Rattle.std.proofs.Common.{}
use Rattle.pilot_engine.proofs.SteppedLemmas.{stands_next, carried_answered, accounted_later, accounted_now, keeps_on, takes_more}
use Rattle.pilot_engine.proofs.stepped.SessionStepped.step.Goals as goal

pub step-requires-clause-taken : goal.step-requires-clause-taken
step-requires-clause-taken g c = c.requires.runs

pub returns-clause-carried : goal.returns-clause-carried
returns-clause-carried g c = λ m stands. carried_answered c.args.self.now c.step.new.self m c.args.call.now c.step.result (c.step.ensures.machine m stands).answers.carried

pub returns-clause-sound : goal.returns-clause-sound
returns-clause-sound g c = λ m stands. (c.step.ensures.machine m stands).answers.sound

pub returns-clause-cause : goal.returns-clause-cause
returns-clause-cause g c = accounted_now c.args.self.now c.step.new.self c.step.result _ c.step.ensures.halts.fails (λ o k up. (c.step.ensures.accounts o k up).accounts)

pub returns-clause-later : goal.returns-clause-later
returns-clause-later g c = λ s e. accounted_later c.args.self.now c.step.new.self c.step.ensures.remains.stays c.step.ensures.writes.wrote c.step.result (λ o k up. (c.step.ensures.accounts o k up).accounts) s e

pub returns-clause-goes_on : goal.returns-clause-goes_on
returns-clause-goes_on g c = takes_more c.args.self.now c.step.new.self c.step.ensures.remains.stays c.step.ensures.writes.wrote c.step.result c.requires.runs c.step.ensures.remains.goes_on

pub returns-clause-led : goal.returns-clause-led
returns-clause-led g c = record {
  ran = c.requires.runs;
  stands = λ m stands. stands_next c.args.self.now c.step.new.self m c.args.call.now c.step.result (c.step.ensures.machine m stands).answers.carried c.step.ensures.remains.halted;
  cost = λ m stands. (c.step.ensures.machine m stands).answers.cost;
  passes = λ m stands. (c.step.ensures.machine m stands).answers.passes;
  wrote = c.step.ensures.writes.wrote;
  few = c.step.ensures.reference;
  stays = c.step.ensures.remains.stays;
  keeps_to = keeps_on c.args.self.now c.step.new.self c.step.result (λ o k up. (c.step.ensures.accounts o k up).accounts) c.step.ensures.remains.halted;
}
