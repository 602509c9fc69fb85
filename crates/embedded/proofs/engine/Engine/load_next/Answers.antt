use Rattle.std.proofs.Common.{◌≡◌, arith, inl}
use Rattle.embedded.proofs.FaultLemmas.{loses_none}
use Rattle.embedded.proofs.SpendLemmas.{spends_none}
use Rattle.embedded.proofs.engine.Engine.load_next.Goals as goal

-- ---- Pages were ready: the engine is as it was.

pub returns-then-ready-gt0-clause-still : goal.returns-then-ready-gt0-clause-still
returns-then-ready-gt0-clause-still g c = λ m stands. inl (rw c.load_at_hand-ready.ensures.same stands)

pub returns-then-ready-gt0-clause-closed : goal.returns-then-ready-gt0-clause-closed
returns-then-ready-gt0-clause-closed g c = λ closed low.
    let none = c.load_at_hand-ready.ensures.closed closed in
    let some = c.if-ready-gt0.true in
    absurd (omega (arith, none, some))

pub returns-then-ready-gt0-clause-leaves : goal.returns-then-ready-gt0-clause-leaves
returns-then-ready-gt0-clause-leaves g c = λ m stands. inl c.load_at_hand-ready.ensures.same

pub returns-then-ready-gt0-clause-faults : goal.returns-then-ready-gt0-clause-faults
returns-then-ready-gt0-clause-faults g c = rw c.load_at_hand-ready.ensures.same (loses_none c.args.self.now)

pub returns-then-ready-gt0-clause-spends : goal.returns-then-ready-gt0-clause-spends
returns-then-ready-gt0-clause-spends g c = rw c.load_at_hand-ready.ensures.same (spends_none 0 1 c.args.self.now)

-- ---- None was: nothing was changed, and one piece is loaded.

pub returns-clause-more : goal.returns-clause-more
returns-clause-more g c =
    let none : c.load_at_hand-ready.result ≡ 0 = omega (arith, c.if-ready-gt0.false) in
    rw (c.load_at_hand-ready.ensures.left none) at c.fetch_next.ensures.more

pub returns-clause-loaded : goal.returns-clause-loaded
returns-clause-loaded g c =
    let none : c.load_at_hand-ready.result ≡ 0 = omega (arith, c.if-ready-gt0.false) in
    rw (c.load_at_hand-ready.ensures.same, c.load_at_hand-ready.ensures.left none) at c.fetch_next.ensures.loaded

pub returns-clause-still : goal.returns-clause-still
returns-clause-still g c = rw c.load_at_hand-ready.ensures.same at c.fetch_next.ensures.still

pub returns-clause-rest : goal.returns-clause-rest
returns-clause-rest g c =
    let none : c.load_at_hand-ready.result ≡ 0 = omega (arith, c.if-ready-gt0.false) in
    rw (c.load_at_hand-ready.ensures.left none) at c.fetch_next.ensures.rest

pub returns-clause-stops : goal.returns-clause-stops
returns-clause-stops g c =
    let none : c.load_at_hand-ready.result ≡ 0 = omega (arith, c.if-ready-gt0.false) in
    rw (c.load_at_hand-ready.ensures.same, c.load_at_hand-ready.ensures.left none) at c.fetch_next.ensures.stops

pub returns-clause-closed : goal.returns-clause-closed
returns-clause-closed g c = rw c.load_at_hand-ready.ensures.same at c.fetch_next.ensures.closed

pub returns-clause-cause : goal.returns-clause-cause
returns-clause-cause g c = rw c.load_at_hand-ready.ensures.same at c.fetch_next.ensures.cause

pub returns-clause-leaves : goal.returns-clause-leaves
returns-clause-leaves g c = rw c.load_at_hand-ready.ensures.same at c.fetch_next.ensures.leaves

pub returns-clause-faults : goal.returns-clause-faults
returns-clause-faults g c = rw c.load_at_hand-ready.ensures.same at c.fetch_next.ensures.faults

pub returns-clause-spends : goal.returns-clause-spends
returns-clause-spends g c = rw c.load_at_hand-ready.ensures.same at c.fetch_next.ensures.spends
