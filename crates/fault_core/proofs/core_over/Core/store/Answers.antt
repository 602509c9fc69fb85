use Rattle.std.proofs.Common.{rules, refl, sym}
use Rattle.fault_core.proofs.ReadyLemmas.{changed_clients, changed_dirty, changed_goes, changed_known, changed_ready, changed_sees, changed_shown, hand_granted}
use Rattle.fault_core.proofs.ShowLemmas.{own_came}
use Rattle.fault_core.proofs.core_over.Core.store.Goals as goal

-- ---- The page is at hand.

pub returns-then-store_at_hand-clause-comes : goal.returns-then-store_at_hand-clause-comes
returns-then-store_at_hand-clause-comes g c = record {
  access = λ m named ss knows. hand_granted (c.store_at_hand.ensures.stored c.if-store_at_hand.true).hand c.requires.some knows;
  ready = λ done. changed_ready (c.store_at_hand.ensures.stored c.if-store_at_hand.true) c.requires.some;
}

pub returns-then-store_at_hand-clause-moves : goal.returns-then-store_at_hand-clause-moves
returns-then-store_at_hand-clause-moves g c = record {
  stored = λ m named ss knows. changed_goes (c.store_at_hand.ensures.stored c.if-store_at_hand.true) c.requires.some knows;
  halted = search rules;
  tested = λ m named ss knows other. absurd (other (sym (hand_granted (c.store_at_hand.ensures.stored c.if-store_at_hand.true).hand c.requires.some knows)));
  refused = search rules;
  dirty = λ m named ss knows done. changed_dirty (c.store_at_hand.ensures.stored c.if-store_at_hand.true) c.requires.some knows;
}

pub returns-then-store_at_hand-clause-stays : goal.returns-then-store_at_hand-clause-stays
returns-then-store_at_hand-clause-stays g c = record {
  sees = λ ss s. changed_sees (c.store_at_hand.ensures.stored c.if-store_at_hand.true) s;
  known = λ m n named ss knows stands. changed_known (c.store_at_hand.ensures.stored c.if-store_at_hand.true) knows n stands;
  intervals = search rules;
}

pub returns-then-store_at_hand-clause-brings : goal.returns-then-store_at_hand-clause-brings
returns-then-store_at_hand-clause-brings g c = record {
  touches = changed_clients (c.store_at_hand.ensures.stored c.if-store_at_hand.true);
  shown = λ ss s. changed_shown (c.store_at_hand.ensures.stored c.if-store_at_hand.true) s;
  came = λ m named ss knows. own_came ss _ _ (c.store_at_hand.ensures.stored c.if-store_at_hand.true).came;
}

pub returns-then-store_at_hand-clause-idle : goal.returns-then-store_at_hand-clause-idle
returns-then-store_at_hand-clause-idle g c = λ first last apart. (refl, (c.store_at_hand.ensures.stored c.if-store_at_hand.true).disk, refl)

-- ---- What is not resident is brought in.

pub returns-clause-comes : goal.returns-clause-comes
returns-clause-comes g c = rw (c.store_at_hand.ensures.left c.if-store_at_hand.false) at c.bring_and_store.ensures.comes

pub returns-clause-moves : goal.returns-clause-moves
returns-clause-moves g c = rw (c.store_at_hand.ensures.left c.if-store_at_hand.false) at c.bring_and_store.ensures.moves

pub returns-clause-stays : goal.returns-clause-stays
returns-clause-stays g c = rw (c.store_at_hand.ensures.left c.if-store_at_hand.false) at c.bring_and_store.ensures.stays

pub returns-clause-fails : goal.returns-clause-fails
returns-clause-fails g c = rw (c.store_at_hand.ensures.left c.if-store_at_hand.false) at c.bring_and_store.ensures.fails

pub returns-clause-brings : goal.returns-clause-brings
returns-clause-brings g c = rw (c.store_at_hand.ensures.left c.if-store_at_hand.false) at c.bring_and_store.ensures.brings

pub returns-clause-idle : goal.returns-clause-idle
returns-clause-idle g c = rw (c.store_at_hand.ensures.left c.if-store_at_hand.false) at c.bring_and_store.ensures.idle

pub returns-clause-cost : goal.returns-clause-cost
returns-clause-cost g c = rw (c.store_at_hand.ensures.left c.if-store_at_hand.false) at c.bring_and_store.ensures.cost
