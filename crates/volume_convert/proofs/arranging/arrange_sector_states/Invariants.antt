use Rattle.std.proofs.Common.{◌≡◌, ◌≤◌, ◌++◌, drop, map}
use Rattle.std.specs.List.{range_with_len}
use Rattle.volume_convert.specs.Settled.{gaps_in, settled_sector_state_at}
use Rattle.volume_convert.proofs.arranging.arrange_sector_states.Given as goal

-- those before this one are settled
abbrev pub invariant-loop-i : goal.invariant-loop-i
invariant-loop-i l = record {
  so_far : l.sector_states ≡ map (settled_sector_state_at l.fn.sector_states l.count) (range_with_len 0 l.i) ++ drop l.i l.fn.sector_states;
  gaps : l.gaps ≡ gaps_in l.fn.sector_states l.i;
  few : l.gaps ≤ l.i;
}
