use Rattle.std.proofs.Common.{◌<◌, ◌∙◌, sym, ap, length, arith, Ok}
use Rattle.std.proofs.lemmas.List.Sums.{list_all-from_AllPass}
use Rattle.hex.specs.Hex.{is_hex_digit}
use Rattle.trace_io.proofs.LongLines.{none_unless}
use Rattle.trace_io.proofs.DigitLemmas.{bytes_of-some, bytes_of-decoded}
use Rattle.trace_io.specs.Grammar.{bytes_of}
use Rattle.trace_io.proofs.words.bytes.Goals.{then-is_empty-via-then-is_empty, then-is_empty-via-else-is_empty+then-word-gt128, then-is_empty-via-else-is_empty+else-word-gt128+then-word-ne0, then-is_empty-via-else-is_empty+else-word-gt128+else-word-ne0+then-not-are_hex_digits}
use Rattle.trace_io.proofs.words.bytes.Goals as goal

pub returns-then-is_empty : goal.returns-then-is_empty
returns-then-is_empty c = none_unless (bytes_of c.args.word.now) (λ x e.
    let form = bytes_of-some c.args.word.now x e in
    elim c.then-is_empty.branch [
      | then-is_empty-via-then-is_empty w ↦ let some = form.0 in let empty = sym c.is_empty.ensures ∙ w.if-is_empty.true in grind arith
      | then-is_empty-via-else-is_empty+then-word-gt128 w ↦ omega (arith, form.1)
      | then-is_empty-via-else-is_empty+else-word-gt128+then-word-ne0 w ↦ w.if-word-ne0.true form.2
      | then-is_empty-via-else-is_empty+else-word-gt128+else-word-ne0+then-not-are_hex_digits w ↦
          let all = list_all-from_AllPass is_hex_digit c.args.word.now form.3 in
          let none = sym w.are_hex_digits.ensures ∙ w.if-not-are_hex_digits.true in
          absurd (cc (all, none))
    ])

pub returns : goal.returns
returns c =
    let some : 0 < length c.args.word.now = let empty = sym c.is_empty.ensures ∙ c.if-is_empty.false in grind arith in
    bytes_of-decoded c.args.word.now c.of.result some c.if-word-gt128.false (c.read_digits.ensures.value ∙ ap Ok (sym c.of.ensures))
