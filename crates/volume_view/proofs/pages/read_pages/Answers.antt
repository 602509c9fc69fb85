use Rattle.std.proofs.Common.{◌*◌, ◌∙◌, ap, arith, length}
use Rattle.labelled_disk.proofs.CallLemmas.{reads_one, reads_at_most_then}
use Rattle.flat_mem.specs.Vec.{vec_mem_bytes}
use Rattle.flat_mem.specs.Parts.{length-overwritten}
use Rattle.volume_view.proofs.PageLemmas.{laid_more, named_more, both_named, not_named}
use Rattle.volume_view.proofs.pages.read_pages.Goals as goal
use Rattle.volume_view.proofs.pages.read_pages.Goals.{then-labelled, else-labelled}

pub loop-index-preserved : goal.loop-index-preserved
loop-index-preserved g c =
    let so_far = c.loop-index.invariant in
    record {
      cost = reads_at_most_then so_far.cost (reads_one c.read.ensures);
      size = ap length c.put_page.ensures ∙ length-overwritten (vec_mem_bytes c.loop-index.mem) c.read.new.page (512 * c.loop-index.index) (omega (arith, so_far.size, c.read.array_long, c.loop-index-test.true)) ∙ so_far.size;
      revealed = λ d revealed.
          laid_more d c.args.first c.args.count c.loop-index.index c.in-Ok-read.label c.read.new.page (vec_mem_bytes c.loop-index.mem) (vec_mem_bytes c.put_page.new.mem) c.loop-index-test.true so_far.size c.read.array_long
          (c.in-Ok-read.ensures.found d (so_far.cost.only.contents ∙ revealed)) (so_far.revealed d revealed) c.put_page.ensures;
      labels = λ d revealed.
          named_more d c.args.id c.args.first c.loop-index.index c.in-Ok-read.label c.read.new.page c.args.labelled.now c.loop-index.labelled c.if-labelled.labelled (c.in-Ok-read.ensures.found d (so_far.cost.only.contents ∙ revealed)) (so_far.labels d revealed)
          (elim c.if-labelled.branch [
            | then-labelled w ↦ both_named _ _ _ w.if-labelled.true (w.labelled-is ∙ w.names.ensures)
            | else-labelled w ↦ not_named _ _ _ w.if-labelled.false w.labelled-is
          ]);
    }
