use Rattle.std.proofs.Common.{arith, ◌≡◌, ℕ, ◌-◌, List, [], ◌∷◌, ◌++◌, ◌∙◌, sym, ap, subst, length}
use Rattle.std.specs.Prelude.{is_some}
use Rattle.std.specs.List.{range_with_len}
use Rattle.std.proofs.lemmas.List.Elements.{filter-append}
use Rattle.flight_core.specs.Flights.{flight_of}
use Rattle.client_events.specs.Dropped.{those_that_wait}
use Rattle.client_events.proofs.WriteLemmas.{range_more}
use Rattle.client_events.proofs.dropped.waiting_clients.Goals as goal

pub loop-client-init : goal.loop-client-init
loop-client-init g c = record {
  are = c.new-clients.ensures;
  few = omega (arith, ap (λ (xs : List ℕ). length xs) c.new-clients.ensures);
}

pub loop-client-preserved : goal.loop-client-preserved
loop-client-preserved g c =
    let l = c.loop-client in
    let ps = c.args.flights.now.waiting.items in
    let first = range_with_len 1 (l.client - 1) in
    record {
      are =
          c.add.ensures.items ∙ ap (λ (xs : List ℕ). xs ++ those_that_wait ps (l.client ∷ [])) l.invariant.are
          ∙ sym (filter-append (λ client. is_some (flight_of ps client)) first (l.client ∷ []))
          ∙ ap (λ (xs : List ℕ). those_that_wait ps xs) (sym (range_more l.client l.auto.client));
      few = omega (arith, l.invariant.few, c.add.ensures.few);
    }

pub returns : goal.returns
returns g c =
    let l = c.loop-client in
    let last : l.client ≡ 17 = omega (arith, c.loop-client-test.false, l.auto.client-end (omega arith)) in
    subst (λ (k : ℕ). l.clients.items ≡ those_that_wait c.args.flights.now.waiting.items (range_with_len 1 (k - 1))) last l.invariant.are
