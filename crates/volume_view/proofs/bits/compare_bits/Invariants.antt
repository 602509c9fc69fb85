use Rattle.std.proofs.Common.{◌≡◌}
use Rattle.flat_mem.specs.Vec.{vec_mem_bytes}
use Rattle.alloc_map.specs.Bits.{is_used}
use Rattle.volume_view.specs.BitRuns.{AreCompared}
use Rattle.volume_view.specs.Bits.{taken}
use Rattle.volume_view.proofs.bits.compare_bits.Given as goal

-- the sectors before this one are compared
abbrev pub invariant-loop-sector : goal.invariant-loop-sector
invariant-loop-sector g l = record {
  same : vec_mem_bytes l.map ≡ vec_mem_bytes l.fn.map;
  compared : AreCompared (is_used (vec_mem_bytes l.fn.map)) (taken l.first l.labels) l.sector l.runs.items;
}
