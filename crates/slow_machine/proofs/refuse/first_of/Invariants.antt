use Rattle.std.proofs.Common.{◌≡◌, drop}
use Rattle.flat_machine.specs.Refusal.{first_of}
use Rattle.slow_machine.proofs.refuse.first_of.Given as goal

abbrev pub invariant-loop-test : goal.invariant-loop-test
invariant-loop-test l = first_of (drop l.test-index l.tests) ≡ first_of l.tests
