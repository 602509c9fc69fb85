use Rattle.frame_pool.proofs.TableLemmas.{set_head_lists}
use Rattle.frame_pool.proofs.table.Table.set_head.Goals as goal

pub returns : goal.returns
returns g c =
    rw (← c.self.view_is)
    (set_head_lists c.self.inside.slots.items c.args.bucket c.index_mut.result.now c.args.head c.index_mut.ensures.value)
