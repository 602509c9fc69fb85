use Rattle.std.proofs.Common.{◌≡◌, false, sym, ◌∙◌, rules}
use Rattle.std.specs.Prelude.{is_some}
use Rattle.std.proofs.lemmas.Bool.{true≢false}
use Rattle.flight_core.specs.Flights.{flight_of}
use Rattle.flight_core.proofs.CarryingLemmas.{led_one}
use Rattle.flight_core.proofs.TimesLemmas.{not_waiting}
use Rattle.flight_core.proofs.flights.Flights.ask.Goals as goal

pub attempt-requires-clause-free : goal.attempt-requires-clause-free
attempt-requires-clause-free g c =
    let fails : is_some (flight_of c.args.self.now.waiting.items c.args.client) ≡ false = search rules in
    not_waiting c.args.self.now.waiting.items c.args.client fails

pub returns-clause-busy : goal.returns-clause-busy
returns-clause-busy g c =
    let fails : is_some (flight_of c.args.self.now.waiting.items c.args.client) ≡ false = search rules in
    record {
      where_caused = (λ busy. absurd (c.attempt.ensures.never_blames.0 busy), λ waits. absurd (true≢false (sym waits ∙ fails)));
      unchanged = λ busy. absurd (c.attempt.ensures.never_blames.0 busy);
    }

pub returns-clause-led : goal.returns-clause-led
returns-clause-led g c = led_one g.S.Stepped.led c.args.self.now.stepped c.attempt.new.self.stepped _ c.attempt.ensures.led

pub returns-then-is_some-clause-ends : goal.returns-then-is_some-clause-ends
returns-then-is_some-clause-ends g c = record { sound = λ m stands. tt; cause = tt; later = λ s e is. is; goes_on = c.requires.runs }
