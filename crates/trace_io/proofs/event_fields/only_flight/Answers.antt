use Rattle.std.proofs.Common.{◌≡◌, ◌∙◌, ◌∷◌, rules, sym, ap}
use Rattle.trace_io.specs.Grammar.{words_of}
use Rattle.trace_io.specs.EventGrammar.{only_flight}
use Rattle.trace_io.specs.Words.{rest_words}
use Rattle.trace_io.proofs.EventLemmas.{only_flight-more}
use Rattle.trace_io.proofs.WordLemmas.{words_some}
use Rattle.trace_io.proofs.event_fields.only_flight.Goals as goal

pub returns-in-Some : goal.returns-in-Some
returns-in-Some c =
    let word = c.cut.result.0.now in
    let more = c.in-Some.field-0.now in
    let words : rest_words c.args.rest ≡ word ∷ words_of more = search rules in
    only_flight-more word (words_of more) (words_some more) ∙ ap only_flight (sym words)
