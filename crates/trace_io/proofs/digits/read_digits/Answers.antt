use Rattle.std.proofs.Common.{◌≡◌, ◌*◌, ◌+◌, ◌%◌, ◌∙◌, length, slice_index, arith}
use Rattle.std.proofs.lemmas.List.{length-set}
use Rattle.hex.proofs.Pairs.{decode_step, decode_done}
use Rattle.hex.proofs.HexLemmas.{decode_of-even}
use Rattle.trace_io.proofs.DigitLemmas.{value_of_pair}
use Rattle.trace_io.proofs.digits.read_digits.Goals as goal

pub loop-k-preserved : goal.loop-k-preserved
loop-k-preserved c =
    let word = c.args.word.now in
    let k = c.loop-k.k in
    let long = c.requires.long in
    let same = c.loop-k.invariant.1 in
    let pair = value_of_pair (slice_index word (2 * k)) (slice_index word (2 * k + 1)) (2 * k) _ _ c.value_of_digit.ensures.value c.value_of_digit-in-loop-k.ensures.value in
    (decode_step word c.loop-k.bytes k _ (omega arith) (omega arith) pair c.loop-k.invariant.0, length-set _ _ _ ∙ same)

pub returns-clause-value : goal.returns-clause-value
returns-clause-value c =
    let word = c.args.word.now in
    let long = c.requires.long in
    let same = c.loop-k.invariant.1 in
    let even : length word % 2 ≡ 0 = omega arith in
    decode_of-even word even ∙ decode_done word c.loop-k.bytes c.loop-k.k (omega arith) (omega arith) c.loop-k.invariant.0
