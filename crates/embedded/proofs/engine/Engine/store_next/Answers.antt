use Rattle.std.proofs.Common.{◌≡◌, arith}
use Rattle.embedded.proofs.engine.Engine.store_next.Goals as goal

-- ---- Pages were ready.

pub returns-then-ready-gt0-clause-closed : goal.returns-then-ready-gt0-clause-closed
returns-then-ready-gt0-clause-closed g c = λ closed low.
    let none = c.store_at_hand-ready.ensures.closed closed in
    let some = c.if-ready-gt0.true in
    absurd (omega (arith, none, some))

-- ---- None was: nothing was changed, and one piece is stored.

pub returns-clause-stored : goal.returns-clause-stored
returns-clause-stored g c =
    let none : c.store_at_hand-ready.result ≡ 0 = omega (arith, c.if-ready-gt0.false) in
    rw (c.store_at_hand-ready.ensures.left none) at c.put_next.ensures.stored

pub returns-clause-still : goal.returns-clause-still
returns-clause-still g c =
    let none : c.store_at_hand-ready.result ≡ 0 = omega (arith, c.if-ready-gt0.false) in
    rw (c.store_at_hand-ready.ensures.left none) at c.put_next.ensures.still

pub returns-clause-stops : goal.returns-clause-stops
returns-clause-stops g c =
    let none : c.store_at_hand-ready.result ≡ 0 = omega (arith, c.if-ready-gt0.false) in
    rw (c.store_at_hand-ready.ensures.left none) at c.put_next.ensures.stops

pub returns-clause-closed : goal.returns-clause-closed
returns-clause-closed g c =
    let none : c.store_at_hand-ready.result ≡ 0 = omega (arith, c.if-ready-gt0.false) in
    rw (c.store_at_hand-ready.ensures.left none) at c.put_next.ensures.closed

pub returns-clause-cause : goal.returns-clause-cause
returns-clause-cause g c =
    let none : c.store_at_hand-ready.result ≡ 0 = omega (arith, c.if-ready-gt0.false) in
    rw (c.store_at_hand-ready.ensures.left none) at c.put_next.ensures.cause

pub returns-clause-leaves : goal.returns-clause-leaves
returns-clause-leaves g c =
    let none : c.store_at_hand-ready.result ≡ 0 = omega (arith, c.if-ready-gt0.false) in
    rw (c.store_at_hand-ready.ensures.left none) at c.put_next.ensures.leaves

pub returns-clause-faults : goal.returns-clause-faults
returns-clause-faults g c =
    let none : c.store_at_hand-ready.result ≡ 0 = omega (arith, c.if-ready-gt0.false) in
    rw (c.store_at_hand-ready.ensures.left none) at c.put_next.ensures.faults

pub returns-clause-spends : goal.returns-clause-spends
returns-clause-spends g c =
    let none : c.store_at_hand-ready.result ≡ 0 = omega (arith, c.if-ready-gt0.false) in
    rw (c.store_at_hand-ready.ensures.left none) at c.put_next.ensures.spends
