use Rattle.std.proofs.Common.{ℕ, ◌+◌, ◌≤◌, length}
use Rattle.labelled_disk.specs.declared.evidence.Halt.{Halt}
use Rattle.flat_machine.specs.Machine.{Machine}
use Rattle.flight_core.specs.Flights.{crowd_of, LeadsTo}
use Rattle.flight_core.specs.Carrying.{LedInARow}
use Rattle.flight_core.specs.LandingCalls.{tries_of}
use Rattle.flight_core.specs.Landing.{IsFree, HasTried}
use Rattle.flight_core.proofs.TryLemmas.{below, HasRoom}
use Rattle.flight_core.proofs.flights.Flights.try_others.Given as goal

abbrev pub invariant-loop-client : goal.invariant-loop-client
invariant-loop-client g l = record {
  runs : g.S.Stepped.runs l.self.stepped;
  few : l.self.begun + 1 ≤ l.fn.self.begun + l.client;
  free : (k : ℕ) → l.client ≤ k → IsFree l.self.waiting.items l.others k;
  later : (s : _) (e : Halt) → g.S.Stepped.accounted l.self.stepped s e → g.S.Stepped.accounted l.fn.self.stepped s e;
  room : HasRoom (length l.answers.items) l.client l.fn.owner.client;
  tried : (m : Machine) → g.S.Stepped.stands l.fn.self.stepped m → LeadsTo (λ n. crowd_of n l.self) (g.S.Stepped.stands l.self.stepped)
      (HasTried (crowd_of m l.fn.self) (below l.others l.client) l.fn.owner l.answers.items);
  led : LedInARow g.S.Stepped.led l.fn.self.stepped (tries_of (below l.others l.client)) l.self.stepped;
}
