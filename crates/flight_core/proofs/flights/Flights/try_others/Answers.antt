use Rattle.std.proofs.Common.{◌≡◌, ℕ, ◌+◌, ◌≤◌, List, [], ◌∷◌, ◌++◌, length, refl, sym, ◌∙◌, ap, subst, arith, length-append, rules}
use Rattle.flight_core.specs.declared.pending.Pending.{Pending}
use Rattle.flight_core.specs.declared.answers.Answer.{Answer}
use Rattle.flight_core.specs.Pending.{times}
use Rattle.flight_core.specs.Crowd.{of_client}
use Rattle.flight_core.specs.Flights.{crowd_of}
use Rattle.flight_core.specs.Landing.{HasTried, answer_of}
use Rattle.flight_core.proofs.TryLemmas.{below, below_more, HasRoom, keeps_room, tried_none, tried_then}
use Rattle.flight_core.proofs.CarryingLemmas.{tried_first, tried_more}
use Rattle.flight_core.proofs.flights.Flights.try_others.Goals as goal

pub loop-client-init : goal.loop-client-init
loop-client-init g c =
    let owner = c.args.owner in
    let is = c.push.ensures.items ∙ ap (λ (xs : List Answer). xs ++ owner ∷ []) c.new-answers.ensures in
    let one : length c.push.new.self.items ≡ 1 = ap (λ (xs : List Answer). length xs) is in
    record {
      runs = c.requires.runs;
      few = omega arith;
      free = λ k more. c.requires.free k;
      later = λ s e is. is;
      room = (omega (arith, one), λ low. absurd (omega (arith, low, c.requires.owner.0.0)));
      tried = λ m stands. (
        m,
        subst (λ (xs : List Answer). HasTried (crowd_of m c.args.self.now) [] owner xs (crowd_of m c.args.self.now)) (sym is) (tried_none (crowd_of m c.args.self.now) owner),
        stands,
      );
      led = refl;
    }

pub loop-client-preserved : goal.loop-client-preserved
loop-client-preserved g c =
    let owner = c.args.owner in
    let client = c.loop-client.client in
    let others = c.args.others.now in
    let items = c.loop-client.answers.items in
    let more = answer_of client c.in_ok-reply.reply in
    let long = ap (λ (xs : List Answer). length xs) c.add.ensures ∙ length-append items more in
    record {
      runs = c.in_ok-reply.ensures.ends.goes_on;
      few = omega (arith, c.loop-client.invariant.few, c.in_ok-reply.ensures.never_blames.few);
      free = λ k past.
          subst (λ (n : ℕ). n + times others k ≤ 1) (sym (c.in_ok-reply.ensures.never_blames.others k (λ same. absurd (omega (arith, same, past)))))
          (c.loop-client.invariant.free k (omega (arith, past)));
      later = λ s e is. c.loop-client.invariant.later s e (c.in_ok-reply.ensures.ends.later s e is);
      room =
          subst (λ (n : ℕ). HasRoom n (client + 1) owner.client) (sym long)
          (keeps_room (length items) client owner.client others c.in_ok-reply.reply c.loop-client.invariant.room c.requires.owner.1 c.in_ok-reply.ensures.one);
      tried = λ m stands.
          let t = c.loop-client.invariant.tried m stands in
          let u = c.in_ok-reply.ensures.tried t.0 t.2 in
          let start = crowd_of m c.args.self.now in
          let new = crowd_of u.0 c.try_client.new.self in
          let both = tried_then start (crowd_of t.0 c.loop-client.self) new (below others client) (of_client others client) owner items more t.1 u.1 in (
            u.0,
            subst (λ (ps : List Pending). HasTried start ps owner c.add.new.answers.items new) (sym (below_more others client c.loop-client.auto.client))
                (subst (λ (xs : List Answer). HasTried start (below others client ++ of_client others client) owner xs new) (sym c.add.ensures) both),
            u.2,
          );
      led = tried_more g.S.Stepped.led c.args.self.now.stepped c.loop-client.self.stepped c.try_client.new.self.stepped client others c.loop-client.auto.client c.loop-client.invariant.led c.in_ok-reply.ensures.led;
    }

pub returns-clause-tried : goal.returns-clause-tried
returns-clause-tried g c = λ m stands.
    let t = c.loop-client.invariant.tried m stands in
    let last : c.loop-client.client ≡ 17 = omega (arith, c.loop-client-test.false, c.loop-client.auto.client-end (omega arith)) in (
      t.0,
      subst (λ (k : ℕ). HasTried (crowd_of m c.args.self.now) (below c.args.others.now k) c.args.owner c.loop-client.answers.items (crowd_of t.0 c.loop-client.self)) last t.1,
      t.2,
    )

pub returns-in_err-reply-clause-led : goal.returns-in_err-reply-clause-led
returns-in_err-reply-clause-led g c =
    let led = g.S.Stepped.led in
    let client = c.loop-client.client in
    let others = c.args.others.now in
    let old = c.args.self.now.stepped in
    let new = c.try_client.new.self.stepped in
    tried_first led old new (client + 1) others (omega arith) (omega (arith, c.loop-client-test.true))
    (tried_more led old c.loop-client.self.stepped new client others c.loop-client.auto.client c.loop-client.invariant.led c.in_err-reply.ensures.led)

pub returns-clause-led : goal.returns-clause-led
returns-clause-led g c =
    let last : c.loop-client.client ≤ 17 = omega (arith, c.loop-client-test.false, c.loop-client.auto.client-end (omega arith)) in
    tried_first g.S.Stepped.led c.args.self.now.stepped c.loop-client.self.stepped c.loop-client.client c.args.others.now c.loop-client.auto.client last c.loop-client.invariant.led

pub returns-in_err-reply-clause-ends : goal.returns-in_err-reply-clause-ends
returns-in_err-reply-clause-ends g c = record { sound = search rules; cause = search rules; later = search rules; goes_on = search rules }

pub returns-clause-ends : goal.returns-clause-ends
returns-clause-ends g c = record { sound = λ m stands. tt; cause = tt; later = c.loop-client.invariant.later; goes_on = c.loop-client.invariant.runs }
