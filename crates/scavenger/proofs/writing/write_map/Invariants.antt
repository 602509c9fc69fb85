use Rattle.std.proofs.Common.{◌≡◌, Ok}
use Rattle.flat_mem.specs.Vec.{vec_mem_bytes}
use Rattle.labelled_disk.specs.declared.disk.DiskError.{DiskError}
use Rattle.scavenger.specs.Carries.{Carries}
use Rattle.scavenger.specs.Orders.{map_writes}
use Rattle.scavenger.proofs.writing.write_map.Given as goal

-- the pages before this one were written
abbrev pub invariant-loop-i : goal.invariant-loop-i
invariant-loop-i g l = record {
  made : Carries {E = DiskError} (map_writes l.id l.first (vec_mem_bytes l.fn.map) l.i) (g.D.Disk.state l.fn.disk) (Ok tt) (g.D.Disk.state l.disk);
  same : vec_mem_bytes l.map ≡ vec_mem_bytes l.fn.map;
}
