use Rattle.std.proofs.Common.{◌≡◌, ◌≤◌, ◌++◌, drop, map}
use Rattle.std.specs.List.{range_with_len}
use Rattle.volume_convert.specs.Heads.{leaders_by}
use Rattle.volume_convert.specs.Settled.{gaps_in, settled_label_at}
use Rattle.volume_convert.proofs.arranging.arrange_labels.Given as goal

-- those before this one are settled
abbrev pub invariant-loop-i : goal.invariant-loop-i
invariant-loop-i l = record {
  so_far : l.labels ≡ map (settled_label_at l.fn.labels l.sector_states (leaders_by l.heads)) (range_with_len 0 l.i) ++ drop l.i l.fn.labels;
  gaps : l.gaps ≡ gaps_in l.sector_states l.i;
  few : l.gaps ≤ l.i;
}
