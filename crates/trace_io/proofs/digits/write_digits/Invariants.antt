use Rattle.std.proofs.Common.{◌≡◌, ◌*◌, ◌++◌, take, drop, length}
use Rattle.hex.specs.Hex.{encode_lower}
use Rattle.trace_io.proofs.digits.write_digits.Given as goal

-- the digits so far, and those of the bytes that are left
abbrev pub invariant-loop-k : goal.invariant-loop-k
invariant-loop-k l =
    (take (2 * l.k) l.digits ++ encode_lower (drop l.k l.bytes) ≡ encode_lower l.bytes) × (length l.digits ≡ 2 * length l.bytes)
