use Rattle.frame_pool.proofs.pool.FramePool.put.Goals as goal

pub invariant_of-self : goal.invariant_of-self
invariant_of-self g c = (c.fill-self-inside.ensures.pool, c.fill-self-inside.ensures.runs c.self.inside.time c.self.invariant.1)
