use Rattle.std.proofs.Common.{◌≡◌, ◌≤◌, ◌-◌, ◌%◌, ℕ, length}
use Rattle.std.specs.Prelude.{slice_get}
use Rattle.flat_machine.specs.Machine.{Machine}
use Rattle.embedded.specs.Engine.{IsClosed, LosesNoFault, StandsFor}
use Rattle.embedded.specs.References.{AreAt}
use Rattle.session_words.specs.StandsFor.{RevealsSettled}
use Rattle.embedded.specs.Stops.{Leaves}
use Rattle.embedded.proofs.SpendLemmas.{SpentSoFar}
use Rattle.embedded.proofs.engine.Engine.load.Given as goal

-- so many bytes were loaded, and none where there is no session
abbrev pub invariant-pieces : goal.invariant-pieces
invariant-pieces g l = record {
  within : l.done ≤ length l.into;
  long : length l.into ≡ length l.fn.into;
  loaded : (m : Machine) → StandsFor l.fn.self m → StandsFor l.self m × AreAt m l.address l.done l.into;
  rest : (k : ℕ) → l.done ≤ k → slice_get l.into k ≡ slice_get l.fn.into k;
  faults : LosesNoFault l.fn.self l.self;
  leaves : (m : Machine) → StandsFor l.fn.self m → Leaves (λ d. RevealsSettled d m) l.fn.self l.self;
  spent : SpentSoFar (l.address % 512) l.done (length l.fn.into) l.fn.self l.self;
  closed : IsClosed l.fn.self → (l.done ≡ 0) × (l.self ≡ l.fn.self);
}

abbrev pub decreases-pieces : goal.decreases-pieces
decreases-pieces g l = length l.into - l.done
