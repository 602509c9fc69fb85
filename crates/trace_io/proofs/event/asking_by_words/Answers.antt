use Rattle.std.proofs.Common.{◌≡◌, ◌∷◌, [], true, false, sym, ◌∙◌, rules}
use Rattle.std.specs.Prelude.{codes}
use Rattle.std.specs.Str.{bytes_eq}
use Rattle.std.proofs.lemmas.Bool.{true≢false}
use Rattle.trace_io.specs.Grammar.{words_of}
use Rattle.trace_io.specs.Words.{rest_words}
use Rattle.trace_io.proofs.EventLemmas.{asks_alone, asks_by, asks_none_by, asks_nothing}
use Rattle.trace_io.proofs.event.asking_by_words.Goals as goal

pub returns-in-Some-clause-some : goal.returns-in-Some-clause-some
returns-in-Some-clause-some c =
    let words : words_of c.args.line.now ≡ c.cut.result.0.now ∷ words_of c.in-Some.text.now = search rules in
    let test : bytes_eq c.cut.result.0.now (codes "on") ≡ true = search rules in
    asks_by c.args.line.now c.cut.result.0.now c.in-Some.text.now words c.client_and_line.result test c.client_and_line.ensures.some

pub returns-in-Some-clause-none : goal.returns-in-Some-clause-none
returns-in-Some-clause-none c =
    let words : words_of c.args.line.now ≡ c.cut.result.0.now ∷ words_of c.in-Some.text.now = search rules in
    asks_none_by c.args.line.now c.cut.result.0.now c.in-Some.text.now words c.client_and_line.result c.client_and_line.ensures.none

pub returns-in-None-clause-none : goal.returns-in-None-clause-none
returns-in-None-clause-none c =
    let words : words_of c.args.line.now ≡ c.cut.result.0.now ∷ [] = search rules in
    asks_alone c.args.line.now c.cut.result.0.now words

pub returns-clause-none : goal.returns-clause-none
returns-clause-none c =
    let other : bytes_eq c.cut.result.0.now (codes "on") ≡ false = search rules in
    asks_nothing c.args.line.now c.cut.result.0.now (rest_words c.cut.result.1) c.cut.ensures (λ test. absurd (true≢false (sym test ∙ other)))
