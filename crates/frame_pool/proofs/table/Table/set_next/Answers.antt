use Rattle.frame_pool.proofs.TableLemmas.{set_next_lists}
use Rattle.frame_pool.proofs.table.Table.set_next.Goals as goal

pub returns : goal.returns
returns g c =
    rw (← c.self.view_is)
    (set_next_lists c.self.inside.slots.items c.args.slot c.index_mut.result.now c.args.next c.index_mut.ensures.value)
