use Rattle.frame_pool.proofs.TableLemmas.{set_order_lists}
use Rattle.frame_pool.proofs.table.Table.set_order.Goals as goal

pub returns : goal.returns
returns g c =
    rw (← c.self.view_is)
    (set_order_lists c.self.inside.slots.items c.args.place c.index_mut.result.now c.args.slot c.index_mut.ensures.value)
