use Rattle.std.proofs.Common.{refl}
use Rattle.frame_pool.proofs.KeptLemmas.{nowhere_of}
use Rattle.frame_pool.proofs.PoolLemmas.{found_pool}
use Rattle.frame_pool.proofs.RunLemmas.{first_nowhere, hit_some, runs_found, runs_revealed}
use Rattle.frame_pool.proofs.pool.FramePool.has_run.Goals as goal

pub returns-in_default-clause-there : goal.returns-in_default-clause-there
returns-in_default-clause-there g c =
    let slots = c.self.inside.table.frames in
    rw (← c.self.view_is) (first_nowhere slots c.args.id c.args.first c.args.pages c.if-pages-eq0.false (nowhere_of slots c.args.id c.args.first (c.find.ensures.nowhere c.in_default.is)))

pub returns-then-reveals-clause-there : goal.returns-then-reveals-clause-there
returns-then-reveals-clause-there g c =
    let inside = c.self.inside in
    let hit = c.in-Some.ensures.found in
    let revealed = rw c.found.ensures at (c.reveals.ensures c.if-reveals.true) in
    rw (← c.self.view_is) (
      λ _. runs_revealed inside.table.frames inside.table.founds inside.time c.in-Some.slot c.args.id c.args.first c.args.pages hit.0 hit.1 c.self.invariant.1 revealed.0 revealed.1,
      λ _. refl,
    )

pub returns-then-pages-from-clause-there : goal.returns-then-pages-from-clause-there
returns-then-pages-from-clause-there g c = rw (← c.self.view_is) c.has_run-there.ensures

pub returns-else-there-clause-there : goal.returns-else-there-clause-there
returns-else-there-clause-there g c = rw (← c.self.view_is) c.has_run-there.ensures

pub invariant_of-self : goal.invariant_of-self
invariant_of-self g c =
    let inside = c.self.inside in
    let hit = c.in-Some.ensures.found in
    rw c.set_found.ensures (
      found_pool inside.table inside.empties _ c.self.invariant.0,
      runs_found inside.table.frames inside.table.founds inside.time c.in-Some.slot c.args.id c.args.first c.args.pages hit.1 (c.has_run-there.ensures.0 c.if-there.true) c.self.invariant.1,
    )

pub set_found-requires-clause-filled : goal.set_found-requires-clause-filled
set_found-requires-clause-filled g c = hit_some c.self.inside.table.frames c.in-Some.slot c.args.id c.args.first c.in-Some.ensures.found.1
