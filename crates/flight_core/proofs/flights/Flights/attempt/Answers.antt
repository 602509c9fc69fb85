use Rattle.std.proofs.Common.{List, Option, sym, ◌∙◌, ap, subst, refl}
use Rattle.std.specs.Prelude.{option_map}
use Rattle.flight_core.specs.declared.pending.Pending.{Pending}
use Rattle.flight_core.specs.Tried.{IsFirstAway}
use Rattle.flight_core.specs.Carrying.{Tries}
use Rattle.flight_core.specs.Flights.{page_of}
use Rattle.flight_core.proofs.OrderLemmas.{newcomer}
use Rattle.flight_core.proofs.TimesLemmas.{entry_push}
use Rattle.flight_core.proofs.flights.Flights.attempt.Goals as goal

pub returns-clause-waits : goal.returns-clause-waits
returns-clause-waits g c = λ m stands.
    let s = c.args.self.now in
    let t = rw c.in-Ok-Absent.field-0-is at (c.in-Ok-Absent.ensures.tried m stands) in
    let new = newcomer s.begun s.waiting.items c.args.client c.args.call.now c.in-Ok-Absent.page in
    let waits = ap (λ (ps : List Pending). page_of ps c.args.client) c.join.ensures.waiting
    ∙ ap (λ (o : Option Pending). option_map (λ p. p.page) o) (entry_push s.waiting.items new c.args.client refl c.requires.free) in
    (t.0, t.1, (c.in-Ok-Absent.page, waits, subst (λ stepped. IsFirstAway (g.S.Stepped.resident stepped m) c.args.call.now c.in-Ok-Absent.page) (sym c.join.ensures.stepped) t.3))

pub returns-clause-led : goal.returns-clause-led
returns-clause-led g c = subst (λ stepped. g.S.Stepped.led c.args.self.now.stepped (Tries c.args.call.now) stepped) (sym c.join.ensures.stepped) c.try_step.ensures.led

pub returns-in-Ok-Reply-clause-ends : goal.returns-in-Ok-Reply-clause-ends
returns-in-Ok-Reply-clause-ends g c = record { sound = λ m stands. tt; cause = tt; later = c.in-Ok-Reply.ensures.later; goes_on = c.in-Ok-Reply.ensures.goes_on }

pub returns-in-Err-clause-ends : goal.returns-in-Err-clause-ends
returns-in-Err-clause-ends g c = record { sound = c.in-Err.ensures.sound; cause = c.in-Err.ensures.cause; later = λ s e. tt; goes_on = tt }

pub returns-clause-ends : goal.returns-clause-ends
returns-clause-ends g c =
    let now = c.join.ensures.stepped in
    record {
      sound = λ m stands. tt;
      cause = tt;
      later = λ s e is. c.in-Ok-Absent.ensures.later s e (subst (λ stepped. g.S.Stepped.accounted stepped s e) now is);
      goes_on = subst (λ stepped. g.S.Stepped.runs stepped) (sym now) c.in-Ok-Absent.ensures.goes_on;
    }
