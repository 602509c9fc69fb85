use Rattle.frame_pool.proofs.TableLemmas.{set_kept_lists}
use Rattle.frame_pool.proofs.table.Table.fill.Goals as goal

pub returns-clause-value : goal.returns-clause-value
returns-clause-value g c =
    rw (← c.self.view_is)
    (set_kept_lists c.self.inside.slots.items c.args.slot c.index_mut.result.now _ c.index_mut.ensures.value)
