use Rattle.std.proofs.Common.{not, ◌≤◌, ◌-◌}
use Rattle.alloc_map.specs.Bits.{AreAll}
use Rattle.alloc_map.proofs.bits.find.Given as goal

abbrev pub invariant-search : goal.invariant-search
invariant-search l = record {
  order : l.from ≤ l.at;
  before : AreAll (not l.used) l.page l.from l.at;
}

abbrev pub decreases-search : goal.decreases-search
decreases-search l = l.end - l.at
