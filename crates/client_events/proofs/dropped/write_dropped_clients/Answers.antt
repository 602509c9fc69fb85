use Rattle.std.proofs.Common.{rules, arith, ◌≡◌, ◌∷◌, [], ◌++◌, ℕ, List, Err, sym, ◌∙◌, ap, subst, append_assoc, append-nil}
use Rattle.std.specs.Prelude.{flat_map}
use Rattle.std.specs.Io.KnownBytes.{Appends}
use Rattle.std.proofs.KnownBytes.{Appends-nil}
use Rattle.client_events.specs.Dropped.{dropped_line}
use Rattle.client_events.proofs.WriteLemmas.{lines_begun, lines_put}
use Rattle.client_events.proofs.dropped.write_dropped_clients.Goals as goal

pub loop-client-init : goal.loop-client-init
loop-client-init g c = record {
  all = c.into_iter-client-iterator.ensures.into_iter_gives.0;
  put = Appends-nil (g.K.Sink.took c.args.sink.now);
  faults = omega arith;
}

pub loop-client-preserved : goal.loop-client-preserved
loop-client-preserved g c =
    let l = c.loop-client in
    let steps : l.client-iterator ≡ c.in-Some.client ∷ c.next.new.self = c.in-Some.ensures.steps in
    record {
      all = append_assoc l.yielded (c.in-Some.client ∷ []) c.next.new.self ∙ ap (λ (rest : List ℕ). l.yielded ++ rest) (sym steps) ∙ l.invariant.all;
      put = lines_put dropped_line _ _ _ l.yielded c.in-Some.client l.invariant.put c.in_ok-write_client_line.ensures.ok;
      faults = omega (arith, l.invariant.faults, c.in_ok-write_client_line.ensures.cause.later);
    }

pub returns-in_err-write_client_line-clause-err : goal.returns-in_err-write_client_line-clause-err
returns-in_err-write_client_line-clause-err g c =
    let l = c.loop-client in
    let steps : l.client-iterator ≡ c.in-Some.client ∷ c.next.new.self = c.in-Some.ensures.steps in
    let same : c.from_residual.result ≡ Err c.in_err-write_client_line.field-0.0 = search rules in
    rw same
    (lines_begun dropped_line _ _ _ l.yielded c.in-Some.client c.next.new.self c.args.clients.items (ap (λ (rest : List ℕ). l.yielded ++ rest) (sym steps) ∙ l.invariant.all) l.invariant.put c.in_err-write_client_line.ensures.err)

pub returns-clause-ok : goal.returns-clause-ok
returns-clause-ok g c =
    let l = c.loop-client in
    let none : l.client-iterator ≡ [] = c.in-None.ensures.steps.0 in
    let all = sym (append-nil l.yielded) ∙ ap (λ (rest : List ℕ). l.yielded ++ rest) (sym none) ∙ l.invariant.all in
    subst (λ (xs : List ℕ). Appends (g.K.Sink.took c.args.sink.now) (g.K.Sink.took l.sink) (flat_map dropped_line xs)) all l.invariant.put
