use Rattle.std.proofs.Common.{rules, ◌≡◌, true, false}
use Rattle.std.specs.Prelude.{is_err}
use Rattle.pilot_engine.proofs.HaltedSteps.{accounts_halted, answers_halted, halts_halted, ran_on, stopped, writes_halted}
use Rattle.pilot_engine.proofs.session.Session.step.Goals as goal

pub returns-then-is_err : goal.returns-then-is_err
returns-then-is_err g c =
    let failed : is_err c.answer-answer.result ≡ true = search rules in
    let old = c.args.self.now in
    let new = c.answer-answer.new.self in
    let did = c.answer-answer.ensures in
    let what = c.args.call.now in
    let r = c.answer-answer.result in
    record {
      machine = λ m runs. answers_halted old new false m what r (did.machine m runs);
      halts = halts_halted old new false what r did.halts;
      accounts = λ o k up. accounts_halted old new false what o r (did.accounts o k up);
      writes = writes_halted old new false what r did.writes;
      remains = stopped old new r failed did.remains.stays;
      reference = did.reference;
    }

pub returns-else-is_err : goal.returns-else-is_err
returns-else-is_err g c =
    let failed : is_err c.answer-answer.result ≡ false = search rules in
    let did = c.answer-answer.ensures in
    record {
      machine = did.machine;
      halts = did.halts;
      accounts = did.accounts;
      writes = did.writes;
      remains = ran_on c.args.self.now c.answer-answer.new.self c.answer-answer.result failed c.requires.taken.running did.remains;
      reference = did.reference;
    }
