use Rattle.std.proofs.Common.{◌≡◌, ◌∙◌, ◌∷◌, rules, sym, ap}
use Rattle.trace_io.specs.Grammar.{id_of, number_of, both, id_and_number, words_of}
use Rattle.trace_io.specs.Words.{rest_words}
use Rattle.trace_io.proofs.LastFields.{id_and_number_last}
use Rattle.trace_io.proofs.fields.id_and_number.Goals as goal

pub returns-in_err-number : goal.returns-in_err-number
returns-in_err-number c =
    let a = c.in_ok-a.a.now in
    let b = c.in_ok-a.b.now in
    let words : rest_words c.args.rest ≡ a ∷ words_of b = search rules in
    let all : both (id_of a) (number_of b) ≡ id_and_number (rest_words c.args.rest) = id_and_number_last a b ∙ ap id_and_number (sym words) in
    search (rules, all)

pub returns : goal.returns
returns c =
    let a = c.in_ok-a.a.now in
    let b = c.in_ok-a.b.now in
    let words : rest_words c.args.rest ≡ a ∷ words_of b = search rules in
    let all : both (id_of a) (number_of b) ≡ id_and_number (rest_words c.args.rest) = id_and_number_last a b ∙ ap id_and_number (sym words) in
    search (rules, all)
