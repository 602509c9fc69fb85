use Rattle.std.proofs.Common.{◌≡◌, ◌+◌, ◌-◌, ℕ, length, arith, inl, refl, subst}
use Rattle.std.specs.Prelude.{take, drop}
use Rattle.std.proofs.lemmas.List.{length-drop}
use Rattle.embedded.specs.References.{Stored}
use Rattle.embedded.proofs.FaultLemmas.{loses_none}
use Rattle.embedded.proofs.ReferenceLemmas.{stored_row, take_whole}
use Rattle.embedded.proofs.SpendLemmas.{spends_none}
use Rattle.embedded.proofs.StopLemmas.{row_leaves}
use Rattle.embedded.proofs.engine.Engine.store_at_hand.Goals as goal

-- ---- There is no such address.

pub returns-in_default-clause-stored : goal.returns-in_default-clause-stored
returns-in_default-clause-stored g c = λ m s.
    let same : c.args.done ≡ c.args.done + 0 = omega arith in
    subst (λ (n : ℕ). Stored m c.args.address n c.args.bytes.now c.args.self.now) same s

pub returns-in_default-clause-leaves : goal.returns-in_default-clause-leaves
returns-in_default-clause-leaves g c = λ m s. inl refl

pub returns-in_default-clause-faults : goal.returns-in_default-clause-faults
returns-in_default-clause-faults g c = loses_none c.args.self.now

pub returns-in_default-clause-spends : goal.returns-in_default-clause-spends
returns-in_default-clause-spends g c = spends_none 0 1 c.args.self.now

-- ---- There is.

pub returns-clause-stored : goal.returns-clause-stored
returns-clause-stored g c = λ m s.
    let bytes = c.args.bytes.now in
    let done = c.args.done in
    let rest = take (length bytes - done) (drop done bytes) in
    let whole = take_whole (length bytes - done) (drop done bytes) (omega (arith, length-drop done bytes)) in
    stored_row m c.args.address done c.store_ready.result bytes rest c.args.self.now c.store_ready.new.self (omega (arith, c.requires)) whole s
    (subst (λ (a : ℕ). Stored s.after a c.store_ready.result rest c.store_ready.new.self) c.in-Some.ensures (c.store_ready.ensures.stored s.after s.stands))

pub returns-clause-leaves : goal.returns-clause-leaves
returns-clause-leaves g c = λ m s.
    row_leaves m c.args.address c.args.done c.args.bytes.now c.args.self.now c.store_ready.new.self (omega (arith, c.requires)) s (c.store_ready.ensures.leaves s.after s.stands)
