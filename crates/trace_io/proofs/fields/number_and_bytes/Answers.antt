use Rattle.std.proofs.Common.{◌≡◌, ◌∙◌, ◌∷◌, rules, sym, ap}
use Rattle.trace_io.specs.Grammar.{number_of, bytes_of, both, number_and_bytes, words_of}
use Rattle.trace_io.specs.Words.{rest_words}
use Rattle.trace_io.proofs.LastFields.{number_and_bytes_last}
use Rattle.trace_io.proofs.fields.number_and_bytes.Goals as goal

pub returns-in_err-bytes : goal.returns-in_err-bytes
returns-in_err-bytes c =
    let a = c.in_ok-a.a.now in
    let b = c.in_ok-a.b.now in
    let words : rest_words c.args.rest ≡ a ∷ words_of b = search rules in
    let all : both (number_of a) (bytes_of b) ≡ number_and_bytes (rest_words c.args.rest) = number_and_bytes_last a b ∙ ap number_and_bytes (sym words) in
    search (rules, all)

pub returns : goal.returns
returns c =
    let a = c.in_ok-a.a.now in
    let b = c.in_ok-a.b.now in
    let words : rest_words c.args.rest ≡ a ∷ words_of b = search rules in
    let all : both (number_of a) (bytes_of b) ≡ number_and_bytes (rest_words c.args.rest) = number_and_bytes_last a b ∙ ap number_and_bytes (sym words) in
    search (rules, all)
