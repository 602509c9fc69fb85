use Rattle.std.proofs.Common.{take}
use Rattle.flat_mem.specs.Vec.{vec_mem_bytes}
use Rattle.label_survey.specs.Runs.{all_triples}
use Rattle.scavenger.specs.Naming.{among, IsNaming}
use Rattle.scavenger.proofs.names.add_runs.Given as goal

-- the runs before this one were added
abbrev pub invariant-loop-i : goal.invariant-loop-i
invariant-loop-i g l = IsNaming l.sectors (among (all_triples (take l.i l.runs))) (vec_mem_bytes l.map)
