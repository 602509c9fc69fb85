use Rattle.frame_pool.proofs.KeptLemmas.{page_of}
use Rattle.frame_pool.proofs.pool.FramePool.bytes.Goals as goal

pub returns-clause-page : goal.returns-clause-page
returns-clause-page g c = page_of c.self.inside.table.frames c.args.slot c.bytes.result.now c.self.invariant.0.pages (rw c.self.view_is c.requires.below) (rw c.self.view_is c.requires.filled) c.bytes.ensures
