use Rattle.std.proofs.Common.{◌≡◌, ℕ, Bool, not, List, Err, sym, ◌∙◌, ap, subst, rules}
use Rattle.std.specs.Prelude.{◌==◌}
use Rattle.arrayvec.proofs.ArrayVecLemmas.{filter-from_retain}
use Rattle.flat_machine.specs.Next.{next}
use Rattle.flight_core.specs.declared.pending.Pending.{Pending}
use Rattle.flight_core.specs.Pending.{AreInOrder}
use Rattle.flight_core.specs.Crowd.{of_flight}
use Rattle.flight_core.specs.Flights.{crowd_of}
use Rattle.flight_core.proofs.CarryingLemmas.{landing_led, led_nothing, owner_led}
use Rattle.flight_core.proofs.OrderLemmas.{goes_on, in_form, some_in_order, owner_pending, others_kept}
use Rattle.flight_core.proofs.TimesLemmas.{owner_alone, each_free}
use Rattle.flight_core.proofs.TryLemmas.{lands}
use Rattle.flight_core.proofs.flights.Flights.complete.Goals as goal

abbrev in_it : ℕ → Pending → Bool
in_it flight p = p.flight == flight

pub step-requires-clause-more : goal.step-requires-clause-more
step-requires-clause-more g c =
    let s = c.args.self.now in
    let all =
    sym (ap (λ (ps : List Pending). of_flight ps c.args.flight) c.deref.ensures.0)
    ∙ sym c.of_flight-landing.ensures ∙ sym c.deref-2.ensures.0 ∙ c.in-Some.ensures.cases.0 in
    goes_on c.in-Some.owner.now.call (owner_pending s.begun s.waiting.items s.in_order (in_it c.args.flight) c.in-Some.owner.now c.in-Some.others.now all).kept

pub step-requires-clause-in_form : goal.step-requires-clause-in_form
step-requires-clause-in_form g c =
    let s = c.args.self.now in
    let all =
    sym (ap (λ (ps : List Pending). of_flight ps c.args.flight) c.deref.ensures.0)
    ∙ sym c.of_flight-landing.ensures ∙ sym c.deref-2.ensures.0 ∙ c.in-Some.ensures.cases.0 in
    in_form c.in-Some.owner.now.call (owner_pending s.begun s.waiting.items s.in_order (in_it c.args.flight) c.in-Some.owner.now c.in-Some.others.now all).kept

pub invariant_of-self : goal.invariant_of-self
invariant_of-self g c =
    let s = c.args.self.now in
    let left = filter-from_retain _ (λ (p : Pending). not (p.flight == c.args.flight)) _ (λ x b f' y called. search rules) _ _ c.retain.ensures.filtered in
    record { in_order = subst (λ (ps : List Pending). AreInOrder s.begun ps) (sym left) (some_in_order s.begun s.waiting.items s.in_order (λ (p : Pending). not (p.flight == c.args.flight))) }

pub try_others-requires-clause-owner : goal.try_others-requires-clause-owner
try_others-requires-clause-owner g c =
    let s = c.args.self.now in
    let all =
    sym (ap (λ (ps : List Pending). of_flight ps c.args.flight) c.deref.ensures.0)
    ∙ sym c.of_flight-landing.ensures ∙ sym c.deref-2.ensures.0 ∙ c.in-Some.ensures.cases.0 in
    ((owner_pending s.begun s.waiting.items s.in_order (in_it c.args.flight) c.in-Some.owner.now c.in-Some.others.now all).client, owner_alone s.waiting.items (in_it c.args.flight) s.in_order.once c.in-Some.owner.now c.in-Some.others.now all)

pub try_others-requires-clause-kept : goal.try_others-requires-clause-kept
try_others-requires-clause-kept g c =
    let s = c.args.self.now in
    let all =
    sym (ap (λ (ps : List Pending). of_flight ps c.args.flight) c.deref.ensures.0)
    ∙ sym c.of_flight-landing.ensures ∙ sym c.deref-2.ensures.0 ∙ c.in-Some.ensures.cases.0 in
    others_kept s.begun s.waiting.items s.in_order (in_it c.args.flight) c.in-Some.owner.now c.in-Some.others.now all

pub try_others-requires-clause-free : goal.try_others-requires-clause-free
try_others-requires-clause-free g c =
    let s = c.args.self.now in
    let all =
    sym (ap (λ (ps : List Pending). of_flight ps c.args.flight) c.deref.ensures.0)
    ∙ sym c.of_flight-landing.ensures ∙ sym c.deref-2.ensures.0 ∙ c.in-Some.ensures.cases.0 in
    let left = filter-from_retain _ (λ (p : Pending). not (p.flight == c.args.flight)) _ (λ x b f' y called. search rules) _ _ c.retain.ensures.filtered in
    each_free s.waiting.items (in_it c.args.flight) s.in_order.once c.in-Some.owner.now c.in-Some.others.now all c.retain.new.self.items left

pub returns-in_default-clause-ends : goal.returns-in_default-clause-ends
returns-in_default-clause-ends g c = record { sound = λ m stands. tt; cause = tt; later = λ s e is. is; goes_on = c.requires.runs }

pub returns-in_err-reply-clause-ends : goal.returns-in_err-reply-clause-ends
returns-in_err-reply-clause-ends g c = record { sound = search rules; cause = search rules; later = search rules; goes_on = search rules }

pub returns-in_err-try_others-clause-ends : goal.returns-in_err-try_others-clause-ends
returns-in_err-try_others-clause-ends g c =
    let same : c.from_residual-in_err-try_others.result ≡ Err c.in_err-try_others.field-0.0 = search rules in
    record {
      sound = search rules;
      cause = rw same (c.in_ok-reply.ensures.later c.try_others.new.self.stepped c.in_err-try_others.field-0.0 c.in_err-try_others.ensures.ends.cause);
      later = search rules;
      goes_on = search rules;
    }

pub returns-clause-ends : goal.returns-clause-ends
returns-clause-ends g c = record {
  sound = λ m stands. tt;
  cause = tt;
  later = λ s e is. c.in_ok-reply.ensures.later s e (c.in_ok-try_others.ensures.ends.later s e is);
  goes_on = c.in_ok-try_others.ensures.ends.goes_on;
}

pub returns-clause-completed : goal.returns-clause-completed
returns-clause-completed g c = λ m stands.
    let s = c.args.self.now in
    let all =
    sym (ap (λ (ps : List Pending). of_flight ps c.args.flight) c.deref.ensures.0)
    ∙ sym c.of_flight-landing.ensures ∙ sym c.deref-2.ensures.0 ∙ c.in-Some.ensures.cases.0 in
    let left = filter-from_retain _ (λ (p : Pending). not (p.flight == c.args.flight)) _ (λ x b f' y called. search rules) _ _ c.retain.ensures.filtered in
    let answered = c.in_ok-reply.ensures.carried m stands in
    let tried = c.in_ok-try_others.ensures.tried (next m c.in-Some.owner.now.call) answered.next in (
      tried.0,
      lands (crowd_of m s) c.args.flight c.in-Some.owner.now c.in-Some.others.now c.retain.new.self.items c.in_ok-reply.reply c.in_ok-try_others.field-0.items
          (crowd_of tried.0 c.try_others.new.self) all left answered.allowed tried.1,
      tried.2,
    )

pub returns-in_default-clause-led : goal.returns-in_default-clause-led
returns-in_default-clause-led g c = led_nothing g.S.Stepped.led c.args.self.now.stepped _

pub returns-in_err-reply-clause-led : goal.returns-in_err-reply-clause-led
returns-in_err-reply-clause-led g c =
    let s = c.args.self.now in
    let all =
    sym (ap (λ (ps : List Pending). of_flight ps c.args.flight) c.deref.ensures.0)
    ∙ sym c.of_flight-landing.ensures ∙ sym c.deref-2.ensures.0 ∙ c.in-Some.ensures.cases.0 in
    owner_led g.S.Stepped.led s.stepped c.step.new.self (of_flight s.waiting.items c.args.flight) c.in-Some.owner.now c.in-Some.others.now all c.step.ensures.led

pub returns-in_err-try_others-clause-led : goal.returns-in_err-try_others-clause-led
returns-in_err-try_others-clause-led g c =
    let s = c.args.self.now in
    let all =
    sym (ap (λ (ps : List Pending). of_flight ps c.args.flight) c.deref.ensures.0)
    ∙ sym c.of_flight-landing.ensures ∙ sym c.deref-2.ensures.0 ∙ c.in-Some.ensures.cases.0 in
    landing_led g.S.Stepped.led s.stepped c.step.new.self (of_flight s.waiting.items c.args.flight) c.in-Some.owner.now c.in-Some.others.now all c.step.ensures.led c.try_others.new.self.stepped c.try_others.ensures.led

pub returns-clause-led : goal.returns-clause-led
returns-clause-led g c =
    let s = c.args.self.now in
    let all =
    sym (ap (λ (ps : List Pending). of_flight ps c.args.flight) c.deref.ensures.0)
    ∙ sym c.of_flight-landing.ensures ∙ sym c.deref-2.ensures.0 ∙ c.in-Some.ensures.cases.0 in
    landing_led g.S.Stepped.led s.stepped c.step.new.self (of_flight s.waiting.items c.args.flight) c.in-Some.owner.now c.in-Some.others.now all c.step.ensures.led c.try_others.new.self.stepped c.try_others.ensures.led
