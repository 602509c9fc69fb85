-- The sum of the bytes so far.
use Rattle.std.proofs.Common.{◌≡◌, ◌*◌, ◌≤◌, take}
use Rattle.std.specs.Prelude.{sum_by}
use Rattle.pilot_top.proofs.counting.sum_of.Given as goal

abbrev pub invariant-loop-byte : goal.invariant-loop-byte
invariant-loop-byte l = record {
  sum : l.sum ≡ sum_by (λ b. b) (take l.byte-index l.bytes);
  few : l.sum ≤ 255 * l.byte-index;
}
