use Rattle.std.proofs.Common.{rules, arith, ◌≡◌, ◌∷◌, [], ◌++◌, List, Err, sym, ◌∙◌, ap, subst, append_assoc, append-nil}
use Rattle.std.specs.Prelude.{flat_map}
use Rattle.std.specs.Io.KnownBytes.{Appends}
use Rattle.std.proofs.KnownBytes.{Appends-nil}
use Rattle.flight_core.specs.declared.answers.Answer.{Answer}
use Rattle.client_events.specs.Outcome.{answer_line}
use Rattle.client_events.proofs.WriteLemmas.{lines_begun, lines_put}
use Rattle.client_events.proofs.outcome.write_answers.Goals as goal

pub loop-answer-init : goal.loop-answer-init
loop-answer-init g c = record {
  all = c.into_iter-answer-iterator.ensures.into_iter_gives.0;
  put = Appends-nil (g.K.Sink.took c.args.sink.now);
  faults = omega arith;
}

pub loop-answer-preserved : goal.loop-answer-preserved
loop-answer-preserved g c =
    let l = c.loop-answer in
    let steps : l.answer-iterator ≡ c.in-Some.answer ∷ c.next.new.self = c.in-Some.ensures.steps in
    record {
      all = append_assoc l.yielded (c.in-Some.answer ∷ []) c.next.new.self ∙ ap (λ (rest : List Answer). l.yielded ++ rest) (sym steps) ∙ l.invariant.all;
      put = lines_put answer_line _ _ _ l.yielded c.in-Some.answer l.invariant.put c.in_ok-write_answer.ensures.ok;
      faults = omega (arith, l.invariant.faults, c.in_ok-write_answer.ensures.cause.later);
    }

pub returns-in_err-write_answer-clause-err : goal.returns-in_err-write_answer-clause-err
returns-in_err-write_answer-clause-err g c =
    let l = c.loop-answer in
    let steps : l.answer-iterator ≡ c.in-Some.answer ∷ c.next.new.self = c.in-Some.ensures.steps in
    let same : c.from_residual.result ≡ Err c.in_err-write_answer.field-0.0 = search rules in
    rw same
    (lines_begun answer_line _ _ _ l.yielded c.in-Some.answer c.next.new.self c.args.answers.items (ap (λ (rest : List Answer). l.yielded ++ rest) (sym steps) ∙ l.invariant.all) l.invariant.put c.in_err-write_answer.ensures.err)

pub returns-clause-ok : goal.returns-clause-ok
returns-clause-ok g c =
    let l = c.loop-answer in
    let none : l.answer-iterator ≡ [] = c.in-None.ensures.steps.0 in
    let all = sym (append-nil l.yielded) ∙ ap (λ (rest : List Answer). l.yielded ++ rest) (sym none) ∙ l.invariant.all in
    subst (λ (xs : List Answer). Appends (g.K.Sink.took c.args.sink.now) (g.K.Sink.took l.sink) (flat_map answer_line xs)) all l.invariant.put
