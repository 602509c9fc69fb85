use Rattle.std.proofs.Common.{◌≡◌, ◌∙◌, ◌∷◌, ℕ, Option, sym, ap}
use Rattle.trace_io.specs.Grammar.{both, words_of}
use Rattle.trace_io.specs.EventGrammar.{client_and_call, unending_of}
use Rattle.trace_io.proofs.EventLemmas.{client_and_call_last}
use Rattle.trace_io.proofs.event_fields.client_and_line.Goals as goal

pub returns-clause-some : goal.returns-clause-some
returns-clause-some c =
    let first = c.in_ok-first.first.now in
    let line = c.in_ok-first.line.now in
    let words : words_of c.args.text.now ≡ first ∷ words_of line = c.in_ok-first.ensures.some in
    ap client_and_call words ∙ sym (client_and_call_last first line) ∙ ap (λ (k : Option ℕ). both k (unending_of (words_of line))) (sym c.client.ensures ∙ c.in_ok-client.was)
