use Rattle.std.proofs.Common.{◌≡◌, ◌≤◌, ◌-◌, ◌%◌, length}
use Rattle.flat_machine.specs.Machine.{Machine}
use Rattle.embedded.specs.Engine.{IsClosed, LosesNoFault, StandsFor}
use Rattle.embedded.specs.References.{Stored}
use Rattle.embedded.specs.Stops.{Leaves, RevealsPart}
use Rattle.embedded.proofs.SpendLemmas.{SpentSoFar}
use Rattle.embedded.proofs.engine.Engine.store.Given as goal

-- so many bytes were stored, and none where there is no session
abbrev pub invariant-pieces : goal.invariant-pieces
invariant-pieces g l = record {
  within : l.done ≤ length l.bytes;
  stored : (m : Machine) → StandsFor l.fn.self m → Stored m l.address l.done l.bytes l.self;
  faults : LosesNoFault l.fn.self l.self;
  leaves : (m : Machine) → StandsFor l.fn.self m → Leaves (RevealsPart m l.address l.bytes) l.fn.self l.self;
  spent : SpentSoFar (l.address % 512) l.done (length l.bytes) l.fn.self l.self;
  closed : IsClosed l.fn.self → (l.done ≡ 0) × (l.self ≡ l.fn.self);
}

abbrev pub decreases-pieces : goal.decreases-pieces
decreases-pieces g l = length l.bytes - l.done
