use Rattle.std.proofs.Common.{}
use Rattle.pilot_engine.proofs.SteppedLemmas.{stands_on, accounted_later, accounted_now, keeps_on, takes_more}
use Rattle.pilot_engine.proofs.stepped.SessionStepped.try_step.Goals as goal

pub try_step-requires-clause-taken : goal.try_step-requires-clause-taken
try_step-requires-clause-taken g c = c.requires.runs

pub returns-clause-tried : goal.returns-clause-tried
returns-clause-tried g c = λ m stands. (c.try_step.ensures.machine m stands).tried

pub returns-clause-absent : goal.returns-clause-absent
returns-clause-absent g c = c.try_step.ensures.tries.absent

pub returns-clause-quiet : goal.returns-clause-quiet
returns-clause-quiet g c = λ m stands. (c.try_step.ensures.machine m stands).quiet

pub returns-clause-sound : goal.returns-clause-sound
returns-clause-sound g c = λ m stands. (c.try_step.ensures.machine m stands).sound

pub returns-clause-cause : goal.returns-clause-cause
returns-clause-cause g c = accounted_now c.args.self.now c.try_step.new.self c.try_step.result _ c.try_step.ensures.tries.fails c.try_step.ensures.accounts

pub returns-clause-later : goal.returns-clause-later
returns-clause-later g c = λ s e. accounted_later c.args.self.now c.try_step.new.self c.try_step.ensures.tries.stays c.try_step.ensures.tries.wrote c.try_step.result c.try_step.ensures.accounts s e

pub returns-clause-goes_on : goal.returns-clause-goes_on
returns-clause-goes_on g c = takes_more c.args.self.now c.try_step.new.self c.try_step.ensures.tries.stays c.try_step.ensures.tries.wrote c.try_step.result c.requires.runs c.try_step.ensures.goes_on

pub returns-clause-led : goal.returns-clause-led
returns-clause-led g c = record {
  ran = c.requires.runs;
  stands = λ m stands. stands_on c.args.self.now c.try_step.new.self m c.args.call.now c.try_step.result (c.try_step.ensures.machine m stands).tried c.try_step.ensures.halted;
  cost = λ m stands. (c.try_step.ensures.machine m stands).cost;
  passes = λ m stands. (c.try_step.ensures.machine m stands).passes;
  wrote = c.try_step.ensures.tries.wrote;
  few = c.try_step.ensures.tries.few;
  stays = c.try_step.ensures.tries.stays;
  keeps_to = keeps_on c.args.self.now c.try_step.new.self c.try_step.result c.try_step.ensures.accounts c.try_step.ensures.halted;
}
