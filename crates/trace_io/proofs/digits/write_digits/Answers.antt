use Rattle.std.proofs.Common.{◌∙◌, arith}
use Rattle.std.proofs.lemmas.List.{length-set}
use Rattle.hex.specs.Hex.{lower_digits}
use Rattle.hex.proofs.Pairs.{encode_step, encode_done}
use Rattle.trace_io.proofs.digits.write_digits.Goals as goal

pub loop-k-preserved : goal.loop-k-preserved
loop-k-preserved c = (
  encode_step lower_digits c.args.bytes.now c.loop-k.digits c.loop-k.k _ _ (omega arith) (omega (arith, c.loop-k.invariant.1)) c.digit_of.ensures c.digit_of-in-loop-k.ensures c.loop-k.invariant.0,
  length-set _ _ _ ∙ length-set _ _ _ ∙ c.loop-k.invariant.1,
)

pub returns : goal.returns
returns c = encode_done lower_digits c.args.bytes.now c.loop-k.digits c.loop-k.k (omega arith) c.loop-k.invariant.1 c.loop-k.invariant.0
