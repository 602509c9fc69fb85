use Rattle.std.proofs.Common.{refl}
use Rattle.frame_pool.proofs.TableLemmas.{set_found_lists}
use Rattle.frame_pool.proofs.table.Table.set_found.Goals as goal

pub returns : goal.returns
returns g c =
    rw (← c.self.view_is)
    (set_found_lists c.self.inside.slots.items c.args.slot c.index_mut.result.now c.in-Some.kept _ c.index_mut.ensures.value c.in-Some.is refl)
