use Rattle.std.proofs.Common.{rules, refl}
use Rattle.fault_core.proofs.ReadyLemmas.{hand_granted, hand_ready}
use Rattle.fault_core.specs.Core.{core_view}
use Rattle.fault_core.proofs.OutcomeLemmas.{alone_known, stays_itself}
use Rattle.fault_core.proofs.core_over.Core.load.Goals as goal

-- ---- The page is at hand.

pub returns-then-load_at_hand-clause-comes : goal.returns-then-load_at_hand-clause-comes
returns-then-load_at_hand-clause-comes g c = record {
  access = λ m named ss knows.
      hand_granted (c.load_at_hand.ensures.ready c.if-load_at_hand.true).1 c.requires.some knows;
  ready = λ done.
      rw c.load_at_hand.ensures.same (hand_ready (c.load_at_hand.ensures.ready c.if-load_at_hand.true).1 c.requires.some);
}

pub returns-then-load_at_hand-clause-moves : goal.returns-then-load_at_hand-clause-moves
returns-then-load_at_hand-clause-moves g c = record {
  bytes = λ m named ss knows done.
      c.load_at_hand.ensures.bytes c.args.self.now.intervals m named ss c.if-load_at_hand.true knows;
  width = search rules;
  refused = search rules;
  intact = search rules;
}

pub returns-then-load_at_hand-clause-stays : goal.returns-then-load_at_hand-clause-stays
returns-then-load_at_hand-clause-stays g c = rw c.load_at_hand.ensures.same (stays_itself (core_view c.args.self.now))

pub returns-then-load_at_hand-clause-brings : goal.returns-then-load_at_hand-clause-brings
returns-then-load_at_hand-clause-brings g c = rw c.load_at_hand.ensures.same (alone_known (core_view c.args.self.now))

pub returns-then-load_at_hand-clause-idle : goal.returns-then-load_at_hand-clause-idle
returns-then-load_at_hand-clause-idle g c = λ first last apart. (refl, c.load_at_hand.ensures.same, refl)

-- ---- What is not resident is brought in.

pub returns-clause-comes : goal.returns-clause-comes
returns-clause-comes g c = rw (c.load_at_hand.ensures.same, c.load_at_hand.ensures.left c.if-load_at_hand.false) at c.bring_and_load.ensures.comes

pub returns-clause-moves : goal.returns-clause-moves
returns-clause-moves g c = rw (c.load_at_hand.ensures.same, c.load_at_hand.ensures.left c.if-load_at_hand.false) at c.bring_and_load.ensures.moves

pub returns-clause-fails : goal.returns-clause-fails
returns-clause-fails g c = rw (c.load_at_hand.ensures.same, c.load_at_hand.ensures.left c.if-load_at_hand.false) at c.bring_and_load.ensures.fails

pub returns-clause-stays : goal.returns-clause-stays
returns-clause-stays g c = rw c.load_at_hand.ensures.same at c.bring_and_load.ensures.stays

pub returns-clause-brings : goal.returns-clause-brings
returns-clause-brings g c = rw c.load_at_hand.ensures.same at c.bring_and_load.ensures.brings

pub returns-clause-idle : goal.returns-clause-idle
returns-clause-idle g c = rw (c.load_at_hand.ensures.same, c.load_at_hand.ensures.left c.if-load_at_hand.false) at c.bring_and_load.ensures.idle

pub returns-clause-cost : goal.returns-clause-cost
returns-clause-cost g c = rw c.load_at_hand.ensures.same at c.bring_and_load.ensures.cost
