use Rattle.std.proofs.Common.{◌≡◌, drop}
use Rattle.volume_root.specs.RootPage.{first_of}
use Rattle.volume_root.proofs.read.first_of.Given as goal

abbrev pub invariant-loop-test : goal.invariant-loop-test
invariant-loop-test l = first_of (drop l.test-index l.tests) ≡ first_of l.tests
