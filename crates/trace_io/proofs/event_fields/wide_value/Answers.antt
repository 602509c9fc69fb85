use Rattle.std.proofs.Common.{◌≡◌, ◌+◌, ◌∙◌, true, take, get_or, sym, arith}
use Rattle.std.specs.List.{list_all}
use Rattle.std.specs.Char.{is_ascii_digit}
use Rattle.std.proofs.lemmas.List.Folds.{list_all_more}
use Rattle.std.proofs.lemmas.Bool.{and_from}
use Rattle.trace_io.proofs.WordLemmas.{value_more}
use Rattle.trace_io.proofs.FlightLemmas.{wide_large, wide_other, wide_small}
use Rattle.trace_io.proofs.event_fields.wide_value.Goals as goal

pub returns-then-not-is_ascii_digit : goal.returns-then-not-is_ascii_digit
returns-then-not-is_ascii_digit c = wide_other c.args.word.now c.loop-b.b-index c.loop-b-test.true (sym c.is_ascii_digit.ensures.value ∙ c.if-not-is_ascii_digit.true)

pub returns-then-n-from : goal.returns-then-n-from
returns-then-n-from c =
    let digit : is_ascii_digit (get_or c.args.word.now c.loop-b.b-index 0) ≡ true = sym c.is_ascii_digit.ensures.value ∙ c.if-not-is_ascii_digit.false in
    let step = value_more c.args.word.now c.loop-b.b-index c.loop-b-test.true digit in
    wide_large c.args.word.now (c.loop-b.b-index + 1) (omega arith)

pub loop-b-preserved : goal.loop-b-preserved
loop-b-preserved c =
    let word = c.args.word.now in
    let i = c.loop-b.b-index in
    let digit : is_ascii_digit (get_or word i 0) ≡ true = sym c.is_ascii_digit.ensures.value ∙ c.if-not-is_ascii_digit.false in
    let step = value_more word i c.loop-b-test.true digit in
    let all : list_all is_ascii_digit (take (i + 1) word) ≡ true = list_all_more is_ascii_digit word i 0 c.loop-b-test.true ∙ and_from _ _ c.loop-b.invariant.2 digit in
    (omega arith, omega arith, all)

pub returns : goal.returns
returns c = wide_small c.args.word.now c.loop-b.n c.loop-b.b-index c.loop-b-test.false c.loop-b.invariant.0 c.loop-b.invariant.1 c.loop-b.invariant.2
