use Rattle.std.proofs.Common.{◌≡◌, ◌≤◌, ◌-◌}
use Rattle.alloc_map.specs.Bits.{free_in}
use Rattle.alloc_map.proofs.bits.count_free.Given as goal

abbrev pub invariant-counting : goal.invariant-counting
invariant-counting l = record {
  order : l.from ≤ l.at;
  inside : l.at ≤ l.end;
  count : l.count ≡ free_in l.page l.from (l.at - l.from);
}

abbrev pub decreases-counting : goal.decreases-counting
decreases-counting l = l.end - l.at
