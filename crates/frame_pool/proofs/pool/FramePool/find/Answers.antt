use Rattle.std.proofs.Common.{refl}
use Rattle.frame_pool.proofs.KeptLemmas.{nowhere_of}
use Rattle.frame_pool.proofs.pool.FramePool.find.Goals as goal

pub returns-in-Some-clause-distinct : goal.returns-in-Some-clause-distinct
returns-in-Some-clause-distinct g c = rw (← c.self.view_is) c.self.invariant.0.distinct

pub returns-in-None-clause-nowhere : goal.returns-in-None-clause-nowhere
returns-in-None-clause-nowhere g c = rw (← c.self.view_is) (λ _. nowhere_of c.self.inside.table.frames c.args.id c.args.page (c.in-None.ensures.nowhere refl), λ _. refl)
