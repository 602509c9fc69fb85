use Rattle.std.proofs.Common.{◌≤◌, ◌-◌}
use Rattle.alloc_map.specs.Bits.{IsMarked}
use Rattle.alloc_map.proofs.bits.set_range.Given as goal

abbrev pub invariant-marking : goal.invariant-marking
invariant-marking l = record {
  order : l.from ≤ l.at;
  inside : l.at ≤ l.end;
  marked : IsMarked l.used l.initial.page l.page l.from l.at;
}

abbrev pub decreases-marking : goal.decreases-marking
decreases-marking l = l.end - l.at
