use Rattle.std.proofs.Common.{◌≡◌, ◌∙◌, ◌∷◌, rules, sym, ap}
use Rattle.trace_io.specs.Grammar.{number_of, id_of, mode_of, window, words_of}
use Rattle.trace_io.specs.Words.{rest_words}
use Rattle.trace_io.proofs.LastFields.{window_of, window_last}
use Rattle.trace_io.proofs.fields.window.Goals as goal

pub returns-in_err-number : goal.returns-in_err-number
returns-in_err-number c =
    let space = c.in_ok-space.space.now in
    let after = c.in_ok-space.rest.now in
    let file = c.in_ok-file.file.now in
    let more = c.in_ok-file.rest.now in
    let page = c.in_ok-page.page.now in
    let writable = c.in_ok-page.writable.now in
    let first : rest_words c.args.rest ≡ space ∷ words_of after = search rules in
    let second : words_of after ≡ file ∷ words_of more = search rules in
    let third : words_of more ≡ page ∷ words_of writable = search rules in
    let words = first ∙ ap (λ ws. space ∷ ws) (second ∙ ap (λ ws. file ∷ ws) third) in
    let all : window_of (number_of space) (id_of file) (number_of page) (mode_of writable) ≡ window (rest_words c.args.rest) = window_last space file page writable ∙ ap window (sym words) in
    search (rules, all)

pub returns-in_err-id : goal.returns-in_err-id
returns-in_err-id c =
    let space = c.in_ok-space.space.now in
    let after = c.in_ok-space.rest.now in
    let file = c.in_ok-file.file.now in
    let more = c.in_ok-file.rest.now in
    let page = c.in_ok-page.page.now in
    let writable = c.in_ok-page.writable.now in
    let first : rest_words c.args.rest ≡ space ∷ words_of after = search rules in
    let second : words_of after ≡ file ∷ words_of more = search rules in
    let third : words_of more ≡ page ∷ words_of writable = search rules in
    let words = first ∙ ap (λ ws. space ∷ ws) (second ∙ ap (λ ws. file ∷ ws) third) in
    let all : window_of (number_of space) (id_of file) (number_of page) (mode_of writable) ≡ window (rest_words c.args.rest) = window_last space file page writable ∙ ap window (sym words) in
    search (rules, all)

pub returns-in_err-number-2 : goal.returns-in_err-number-2
returns-in_err-number-2 c =
    let space = c.in_ok-space.space.now in
    let after = c.in_ok-space.rest.now in
    let file = c.in_ok-file.file.now in
    let more = c.in_ok-file.rest.now in
    let page = c.in_ok-page.page.now in
    let writable = c.in_ok-page.writable.now in
    let first : rest_words c.args.rest ≡ space ∷ words_of after = search rules in
    let second : words_of after ≡ file ∷ words_of more = search rules in
    let third : words_of more ≡ page ∷ words_of writable = search rules in
    let words = first ∙ ap (λ ws. space ∷ ws) (second ∙ ap (λ ws. file ∷ ws) third) in
    let all : window_of (number_of space) (id_of file) (number_of page) (mode_of writable) ≡ window (rest_words c.args.rest) = window_last space file page writable ∙ ap window (sym words) in
    search (rules, all)

pub returns-in_err-mode : goal.returns-in_err-mode
returns-in_err-mode c =
    let space = c.in_ok-space.space.now in
    let after = c.in_ok-space.rest.now in
    let file = c.in_ok-file.file.now in
    let more = c.in_ok-file.rest.now in
    let page = c.in_ok-page.page.now in
    let writable = c.in_ok-page.writable.now in
    let first : rest_words c.args.rest ≡ space ∷ words_of after = search rules in
    let second : words_of after ≡ file ∷ words_of more = search rules in
    let third : words_of more ≡ page ∷ words_of writable = search rules in
    let words = first ∙ ap (λ ws. space ∷ ws) (second ∙ ap (λ ws. file ∷ ws) third) in
    let all : window_of (number_of space) (id_of file) (number_of page) (mode_of writable) ≡ window (rest_words c.args.rest) = window_last space file page writable ∙ ap window (sym words) in
    search (rules, all)

pub returns : goal.returns
returns c =
    let space = c.in_ok-space.space.now in
    let after = c.in_ok-space.rest.now in
    let file = c.in_ok-file.file.now in
    let more = c.in_ok-file.rest.now in
    let page = c.in_ok-page.page.now in
    let writable = c.in_ok-page.writable.now in
    let first : rest_words c.args.rest ≡ space ∷ words_of after = search rules in
    let second : words_of after ≡ file ∷ words_of more = search rules in
    let third : words_of more ≡ page ∷ words_of writable = search rules in
    let words = first ∙ ap (λ ws. space ∷ ws) (second ∙ ap (λ ws. file ∷ ws) third) in
    let all : window_of (number_of space) (id_of file) (number_of page) (mode_of writable) ≡ window (rest_words c.args.rest) = window_last space file page writable ∙ ap window (sym words) in
    search (rules, all)
