use Rattle.std.proofs.Common.{rules, ◌≡◌, ◌+◌, ◌-◌, ◌≤◌, ℕ, length, arith, subst, inl, inr}
use Rattle.std.proofs.lemmas.Bool.{cases_lt}
use Rattle.embedded.specs.References.{AreAt}
use Rattle.fault_core.proofs.PutLemmas.{put_here, put_other, put_rest, same_bytes}
use Rattle.embedded.proofs.ReferenceLemmas.{placed}
use borrow.Rule.Slice.PartMut.{put_mid}
use Rattle.embedded.proofs.engine.Engine.load_at_hand.Goals as goal

pub returns-clause-loaded : goal.returns-clause-loaded
returns-clause-loaded g c = λ m stands had.
    let address = c.args.address in
    let done = c.args.done in
    let n = c.load_ready.result in
    let into = c.args.into.now in
    let room = length into - done in
    let bytes = c.load_ready.new.into in
    let whole : done + room ≡ length into = search rules in
    let long : length bytes ≡ room = search rules in
    let piece : AreAt m (address + done) n bytes = subst (λ (a : ℕ). AreAt m a n bytes) c.in-Some.ensures (c.load_ready.ensures.loaded m stands) in
    let fits : n ≤ room = search rules in
    placed m address done n into (put_mid done room into bytes) bytes had piece
    (λ k far. elim far [
      | inl low ↦ put_other done room room into bytes (omega (arith, whole)) long (omega arith) k (inl low)
      | inr high ↦ put_rest done room n into bytes whole long c.load_ready.ensures.rest k high
    ])
    (λ k below. put_here done room room into bytes (omega (arith, whole)) long (omega arith) k (omega (arith, below, fits)))

pub returns-clause-rest : goal.returns-clause-rest
returns-clause-rest g c = λ k past.
    let done = c.args.done in
    let into = c.args.into.now in
    let room = length into - done in
    let bytes = c.load_ready.new.into in
    let whole : done + room ≡ length into = search rules in
    let long : length bytes ≡ room = search rules in
    put_rest done room c.load_ready.result into bytes whole long c.load_ready.ensures.rest k past

pub returns-clause-left : goal.returns-clause-left
returns-clause-left g c = λ none.
    let done = c.args.done in
    let into = c.args.into.now in
    let room = length into - done in
    let bytes = c.load_ready.new.into in
    let whole : done + room ≡ length into = search rules in
    let long : length bytes ≡ room = search rules in
    same_bytes (put_mid done room into bytes) into (λ k. elim (cases_lt k done) [
      | inl low ↦ put_other done room room into bytes (omega (arith, whole)) long (omega arith) k (inl low)
      | inr high ↦ put_rest done room c.load_ready.result into bytes whole long c.load_ready.ensures.rest k (omega (arith, high, none))
    ])
