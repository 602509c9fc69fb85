use Rattle.std.proofs.Common.{refl}
use Rattle.frame_pool.specs.Frames.{clean}
use Rattle.frame_pool.proofs.TableLemmas.{set_frame_lists, unset_frame_lists, below_slots}
use Rattle.frame_pool.proofs.table.Table.clean.Goals as goal
use Rattle.frame_pool.proofs.table.Table.clean.Goals.{in-Some, in-None}

pub returns : goal.returns
returns g c =
    let slots = c.self.inside.slots.items in
    let below = below_slots slots c.args.self.now c.args.slot c.self.view_is c.requires in
    elim c.match-index_mut.branch [
      | in-Some w ↦ rw (w.self-inside-is, ← c.self.view_is) (set_frame_lists clean slots c.args.slot c.index_mut.result.now w.in-Some.kept _ below c.index_mut.ensures.value w.in-Some.is refl refl)
      | in-None w ↦ rw (w.self-inside-is, ← c.self.view_is) (unset_frame_lists clean slots c.args.slot c.index_mut.result.now below c.index_mut.ensures.value w.in-None.is)
    ]
