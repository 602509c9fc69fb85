use Rattle.std.proofs.Common.{◌∙◌, ap, arith, slice_index_or}
use Rattle.labelled_disk.specs.Sectors.{free_label}
use Rattle.old_files.specs.Reread.{label_before}
use Rattle.volume_convert.proofs.PlaceLemmas.{all_placed, by_places, one_placed, read_next}
use Rattle.volume_convert.proofs.reread.step_back.Goals as goal

pub loop-i-preserved : goal.loop-i-preserved
loop-i-preserved c =
    one_placed (λ j. label_before (slice_index_or c.args.labels.now j free_label)) c.args.labels.now c.loop-i.labels c.loop-i.i c.loop-i.invariant c.label_before.result (omega (arith, c.loop-i-test.true, c.loop-i.auto.labels))
    (c.label_before.ensures ∙ ap label_before (read_next (λ j. label_before (slice_index_or c.args.labels.now j free_label)) c.args.labels.now c.loop-i.labels c.loop-i.i c.loop-i.invariant free_label (omega (arith, c.loop-i-test.true, c.loop-i.auto.labels))))

pub returns : goal.returns
returns c =
    all_placed (λ j. label_before (slice_index_or c.args.labels.now j free_label)) c.args.labels.now c.loop-i.labels c.loop-i.i c.loop-i.invariant (omega (arith, c.loop-i-test.false, c.loop-i.auto.labels)) (omega (arith, c.loop-i.auto.i-end, c.loop-i.auto.labels))
    ∙ by_places label_before c.args.labels.now free_label
