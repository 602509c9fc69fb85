use Rattle.std.proofs.Common.{sym, arith, rules}
use Rattle.flight_core.specs.Crowd.{entry_of}
use Rattle.flight_core.specs.Flights.{crowd_of}
use Rattle.flight_core.proofs.CarryingLemmas.{tried_client, tried_nobody}
use Rattle.flight_core.proofs.OrderLemmas.{goes_on, in_form, kept_of}
use Rattle.flight_core.proofs.TimesLemmas.{entry_counts, copied_none}
use Rattle.flight_core.proofs.TryLemmas.{tries_revealed, tries_none}
use Rattle.flight_core.proofs.flights.Flights.try_client.Goals as goal

pub returns-in_default-clause-tried : goal.returns-in_default-clause-tried
returns-in_default-clause-tried g c = λ m stands.
    let none = copied_none c.entry_of.result (entry_of c.args.others.now c.args.client) c.entry_of.ensures c.in_default.not-Some in
    (m, tries_none (crowd_of m c.args.self.now) c.args.client c.args.others.now none, stands)

pub attempt-requires-clause-more : goal.attempt-requires-clause-more
attempt-requires-clause-more g c =
    goes_on c.in-Some.pending.now.call (kept_of c.args.others.now c.args.client c.in-Some.pending.now c.requires.kept (sym c.in-Some.ensures))

pub attempt-requires-clause-in_form : goal.attempt-requires-clause-in_form
attempt-requires-clause-in_form g c =
    in_form c.in-Some.pending.now.call (kept_of c.args.others.now c.args.client c.in-Some.pending.now c.requires.kept (sym c.in-Some.ensures))

pub attempt-requires-clause-free : goal.attempt-requires-clause-free
attempt-requires-clause-free g c =
    omega (arith, c.requires.free, entry_counts c.args.others.now c.args.client c.in-Some.pending.now (sym c.in-Some.ensures))

pub returns-clause-tried : goal.returns-clause-tried
returns-clause-tried g c = λ m stands.
    let t = c.in_ok-attempt.ensures.gets m stands in
    let tried =
    tries_revealed (crowd_of m c.args.self.now) (crowd_of t.0 c.attempt.new.self) c.args.client c.args.others.now c.in-Some.pending.now
    (omega (arith, c.requires.free)) (sym c.in-Some.ensures) c.in_ok-attempt.field-0 t.1 in
    (t.0, rw c.reply_of.ensures tried, t.2)

pub returns-in_default-clause-ends : goal.returns-in_default-clause-ends
returns-in_default-clause-ends g c = record { sound = λ m stands. tt; cause = tt; later = λ s e is. is; goes_on = c.requires.runs }

pub returns-in_err-attempt-clause-ends : goal.returns-in_err-attempt-clause-ends
returns-in_err-attempt-clause-ends g c = record { sound = search rules; cause = search rules; later = search rules; goes_on = search rules }

pub returns-clause-ends : goal.returns-clause-ends
returns-clause-ends g c = record { sound = λ m stands. tt; cause = tt; later = c.in_ok-attempt.ensures.ends.later; goes_on = c.in_ok-attempt.ensures.ends.goes_on }

pub returns-in_default-clause-led : goal.returns-in_default-clause-led
returns-in_default-clause-led g c =
    let none = copied_none c.entry_of.result (entry_of c.args.others.now c.args.client) c.entry_of.ensures c.in_default.not-Some in
    tried_nobody g.S.Stepped.led c.args.self.now.stepped c.args.client c.args.others.now none

pub returns-in_err-attempt-clause-led : goal.returns-in_err-attempt-clause-led
returns-in_err-attempt-clause-led g c =
    tried_client g.S.Stepped.led c.args.self.now.stepped c.attempt.new.self.stepped c.args.client c.args.others.now c.in-Some.pending.now (omega (arith, c.requires.free)) (sym c.in-Some.ensures) c.attempt.ensures.led

pub returns-clause-led : goal.returns-clause-led
returns-clause-led g c =
    tried_client g.S.Stepped.led c.args.self.now.stepped c.attempt.new.self.stepped c.args.client c.args.others.now c.in-Some.pending.now (omega (arith, c.requires.free)) (sym c.in-Some.ensures) c.attempt.ensures.led
