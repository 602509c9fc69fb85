use Rattle.std.proofs.Common.{◌≡◌, not, ◌≤◌, ◌-◌, ◌%◌}
use Rattle.alloc_map.specs.Bits.{AreAll}
use Rattle.alloc_map.proofs.bits.past_words.Given as goal

abbrev pub invariant-passing : goal.invariant-passing
invariant-passing l = record {
  order : l.from ≤ l.at;
  whole : l.at % 64 ≡ 0;
  passed : AreAll (not l.used) l.page l.from l.at;
}

abbrev pub decreases-passing : goal.decreases-passing
decreases-passing l = l.end - l.at
