use Rattle.std.proofs.Common.{ℕ, max, ap, ◌∙◌, arith}
use Rattle.flight_core.proofs.OrderLemmas.{room, joined_by, begun_is}
use Rattle.flight_core.proofs.flights.Flights.join.Goals as goal

pub push-requires : goal.push-requires
push-requires g c =
    let s = c.args.self.now in
    (omega arith, room s.begun s.waiting.items s.in_order c.args.client c.requires.client c.requires.free)

pub invariant_of-self : goal.invariant_of-self
invariant_of-self g c =
    let s = c.args.self.now in
    record {
      in_order =
          joined_by s.begun s.waiting.items s.in_order c.args.client c.args.call.now c.reference.result c.args.page c.flight_for-flight.result c.max-self.result c.push.new.self.items
          c.requires.client c.requires.kept c.requires.free c.flight_for-flight.ensures c.reference.ensures c.max-self.ensures c.push.ensures.items;
    }

pub returns-clause-begun : goal.returns-clause-begun
returns-clause-begun g c =
    let s = c.args.self.now in
    c.max-self.ensures ∙ ap (λ (n : ℕ). max s.begun n) c.flight_for-flight.ensures ∙ begun_is s.begun s.waiting.items s.in_order c.args.page
