use Rattle.std.proofs.Common.{◌≡◌, ◌∙◌, ◌∷◌, rules, sym, ap}
use Rattle.trace_io.specs.Grammar.{number_of, place, words_of}
use Rattle.trace_io.specs.Words.{rest_words}
use Rattle.trace_io.proofs.LastFields.{place_of, place_last}
use Rattle.trace_io.proofs.fields.place.Goals as goal

pub returns-in_err-number-in-Some : goal.returns-in_err-number-in-Some
returns-in_err-number-in-Some c =
    let parent = c.in_ok-parent.parent.now in
    let more = c.in_ok-parent.more.now in
    let pages = c.cut.result.0.now in
    let first = c.in-Some.first.now in
    let words : rest_words c.args.rest ≡ parent ∷ words_of more = search rules in
    let after : words_of more ≡ pages ∷ words_of first = search rules in
    let all : place_of (number_of parent) (number_of pages) (number_of first) ≡ place (rest_words c.args.rest) = place_last parent pages first ∙ ap place (sym (words ∙ ap (λ ws. parent ∷ ws) after)) in
    search (rules, all)

pub returns-in_ok-number-in-Some : goal.returns-in_ok-number-in-Some
returns-in_ok-number-in-Some c =
    let parent = c.in_ok-parent.parent.now in
    let more = c.in_ok-parent.more.now in
    let pages = c.cut.result.0.now in
    let first = c.in-Some.first.now in
    let words : rest_words c.args.rest ≡ parent ∷ words_of more = search rules in
    let after : words_of more ≡ pages ∷ words_of first = search rules in
    let all : place_of (number_of parent) (number_of pages) (number_of first) ≡ place (rest_words c.args.rest) = place_last parent pages first ∙ ap place (sym (words ∙ ap (λ ws. parent ∷ ws) after)) in
    search (rules, all)
