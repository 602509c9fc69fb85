-- The bytes so far.
use Rattle.std.proofs.Common.{◌≡◌, ◌%◌, map}
use Rattle.std.specs.List.{range_with_len}
use Rattle.trace_maker.proofs.maker.bytes_by.Given as goal

abbrev pub invariant-loop-k : goal.invariant-loop-k
invariant-loop-k l = l.bytes ≡ map (λ n. n % 256) (range_with_len l.u l.k)
