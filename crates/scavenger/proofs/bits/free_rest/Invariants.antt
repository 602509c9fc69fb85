use Rattle.flat_mem.specs.Vec.{vec_mem_bytes}
use Rattle.scavenger.specs.Marks.{IsMarkedSoFar}
use Rattle.scavenger.proofs.bits.free_rest.Given as goal

abbrev pub invariant-loop-i : goal.invariant-loop-i
invariant-loop-i g l = IsMarkedSoFar l.layout.sectors l.layout.first l.sector_states l.i (vec_mem_bytes l.map)
