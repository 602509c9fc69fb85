use Rattle.std.proofs.Common.{◌≡◌, ◌∙◌, ◌∷◌, rules, sym, ap}
use Rattle.trace_io.specs.Grammar.{number_of, both, two_numbers, words_of}
use Rattle.trace_io.specs.Words.{rest_words}
use Rattle.trace_io.proofs.LastFields.{two_numbers_last}
use Rattle.trace_io.proofs.fields.two_numbers.Goals as goal

pub returns-in_err-number-2 : goal.returns-in_err-number-2
returns-in_err-number-2 c =
    let a = c.in_ok-a.a.now in
    let b = c.in_ok-a.b.now in
    let words : rest_words c.args.rest ≡ a ∷ words_of b = search rules in
    let all : both (number_of a) (number_of b) ≡ two_numbers (rest_words c.args.rest) = two_numbers_last a b ∙ ap two_numbers (sym words) in
    search (rules, all)

pub returns : goal.returns
returns c =
    let a = c.in_ok-a.a.now in
    let b = c.in_ok-a.b.now in
    let words : rest_words c.args.rest ≡ a ∷ words_of b = search rules in
    let all : both (number_of a) (number_of b) ≡ two_numbers (rest_words c.args.rest) = two_numbers_last a b ∙ ap two_numbers (sym words) in
    search (rules, all)
