use Rattle.std.proofs.Common.{◌≡◌, ◌++◌, drop, map, slice_index_or}
use Rattle.std.specs.List.{range_with_len}
use Rattle.labelled_disk.specs.Sectors.{free_label}
use Rattle.old_files.specs.Reread.{label_before}
use Rattle.volume_convert.proofs.reread.step_back.Given as goal

-- those before this one are stepped back
abbrev pub invariant-loop-i : goal.invariant-loop-i
invariant-loop-i l = l.labels ≡ map (λ j. label_before (slice_index_or l.fn.labels j free_label)) (range_with_len 0 l.i) ++ drop l.i l.fn.labels
