use Rattle.std.proofs.Common.{◌∙◌, ◌+◌, ◌≤◌, arith, refl}
use Rattle.fault_core.specs.Unit.{file_page}
use Rattle.fault_core.proofs.UnitLemmas.{own_unit}
use Rattle.fault_core.proofs.touch.touch.Goals as goal

-- ---- The page is there.

pub overflow_sub-page : goal.overflow_sub-page
overflow_sub-page g c = c.requires.shows.holds.0

pub overflow_add-x : goal.overflow_add-x
overflow_add-x g c =
    let holds = c.requires.shows.holds in
    let fits = (c.requires.shows.formed.shows c.requires.shows.mapped).1 in
    omega (arith, holds, fits)

pub slot_of-requires : goal.slot_of-requires
slot_of-requires g c = record { resident = c.in-Ok.ensures.whole c.args.page (own_unit c.args.x.now c.args.page c.requires.shows.holds) }

pub returns-clause-comes : goal.returns-clause-comes
returns-clause-comes g c = record {
  slot = rw c.slot_of.ensures.same c.slot_of.ensures.slot;
  below = rw c.slot_of.ensures.same c.slot_of.ensures.below;
  whole = rw c.slot_of.ensures.same c.in-Ok.ensures.whole;
}

pub returns-clause-fails : goal.returns-clause-fails
returns-clause-fails g c = record { cause = tt; misses = tt; sound = λ m named b known stored. tt; early = tt }

pub returns-clause-brings : goal.returns-clause-brings
returns-clause-brings g c = rw c.slot_of.ensures.same c.bring_unit.ensures.brings

pub returns-clause-idle : goal.returns-clause-idle
returns-clause-idle g c = λ whole. (refl, c.slot_of.ensures.same ∙ (c.in-Ok.ensures.idle whole).1)

pub returns-clause-cost : goal.returns-clause-cost
returns-clause-cost g c = rw c.slot_of.ensures.same c.bring_unit.ensures.cost

-- ---- It could not be brought in.

pub returns-in-Err-clause-comes : goal.returns-in-Err-clause-comes
returns-in-Err-clause-comes g c = record { slot = tt; below = tt; whole = tt }

pub returns-in-Err-clause-fails : goal.returns-in-Err-clause-fails
returns-in-Err-clause-fails g c = record {
  cause = c.in-Err.ensures.fails.cause;
  misses = c.in-Err.ensures.fails.misses;
  sound = c.in-Err.ensures.fails.sound;
  early = c.in-Err.ensures.fails.early;
}

pub returns-in-Err-clause-brings : goal.returns-in-Err-clause-brings
returns-in-Err-clause-brings g c = c.bring_unit.ensures.brings

pub returns-in-Err-clause-idle : goal.returns-in-Err-clause-idle
returns-in-Err-clause-idle g c = c.in-Err.ensures.idle

pub returns-in-Err-clause-cost : goal.returns-in-Err-clause-cost
returns-in-Err-clause-cost g c = c.bring_unit.ensures.cost
