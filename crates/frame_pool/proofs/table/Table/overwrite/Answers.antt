use Rattle.std.proofs.Common.{Some, ap}
use Rattle.frame_pool.specs.Frames.{changed}
use Rattle.frame_pool.specs.declared.table.Kept.{Kept}
use Rattle.frame_pool.specs.Table.{frame_of, found_of}
use Rattle.frame_pool.proofs.TableLemmas.{set_frame_lists, unset_frame_lists, below_slots}
use Rattle.frame_pool.proofs.table.Table.overwrite.Goals as goal
use Rattle.frame_pool.proofs.table.Table.overwrite.Goals.{in-Some, in-None}

pub returns : goal.returns
returns g c =
    let slots = c.self.inside.slots.items in
    let below = below_slots slots c.args.self.now c.args.slot c.self.view_is c.requires.below in
    elim c.match-index_mut.branch [
      | in-Some w ↦ rw (w.self-inside-is, ← c.self.view_is) (set_frame_lists (λ f. changed f c.args.at c.args.bytes.now) slots c.args.slot c.index_mut.result.now w.in-Some.kept _ below c.index_mut.ensures.value w.in-Some.is (ap frame_of w.overwrite.ensures) (ap (λ (k : Kept). found_of (Some k)) w.overwrite.ensures))
      | in-None w ↦ rw (w.self-inside-is, ← c.self.view_is) (unset_frame_lists (λ f. changed f c.args.at c.args.bytes.now) slots c.args.slot c.index_mut.result.now below c.index_mut.ensures.value w.in-None.is)
    ]
