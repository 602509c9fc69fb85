use Rattle.std.proofs.Common.{◌≡◌, ◌*◌, take, drop, length}
use Rattle.hex.specs.Hex.{decode_pairs}
use Rattle.hex.proofs.Pairs.{prepend}
use Rattle.trace_io.proofs.digits.read_digits.Given as goal

-- the bytes of the digits so far, before those of the digits that are left
abbrev pub invariant-loop-k : goal.invariant-loop-k
invariant-loop-k l =
    (decode_pairs 0 l.word ≡ prepend (take l.k l.bytes) (decode_pairs (2 * l.k) (drop (2 * l.k) l.word))) × (length l.bytes ≡ length l.fn.bytes)
