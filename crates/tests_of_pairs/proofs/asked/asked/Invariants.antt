use Rattle.std.proofs.Common.{◌≡◌, true}
use Rattle.filer_kernel.specs.View.{view_of}
use Rattle.volume_pair.specs.Pairs.{IsInUse}
use Rattle.tests_of_pairs.proofs.asked.asked.Given as goal

-- the pair is in use, and runs
abbrev pub invariant-loop-call : goal.invariant-loop-call
invariant-loop-call l = record {
  in_use : IsInUse (view_of l.pair.from) (view_of l.pair.to) l.pair.volume;
  running : l.pair.running ≡ true;
}
