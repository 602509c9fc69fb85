use Rattle.std.proofs.Common.{◌⊎◌, ◌≤◌, ◌+◌, ◌-◌, ◌*◌}
use Rattle.file_map.specs.Entries.{Sight}
use Rattle.file_map.specs.Cause.{IsToCut}
use Rattle.file_map.specs.FileMap.{Triples, AreNamed, most_records}
use Rattle.file_map.proofs.CutLoop.{IsCutting}
use Rattle.file_map.proofs.cut.cut.Given as goal

abbrev pub invariant-cutting : goal.invariant-cutting
invariant-cutting g l = record {
  few : l.left ≤ most_records l.sectors;
  fewer : l.left ≤ l.initial.left;
  kept : g.T.SearchedEntries.beside l.fn.entries l.entries;
  begun : ((sight : Sight) → g.T.SearchedEntries.shows l.entries sight → g.T.SearchedEntries.shows l.fn.entries sight) ⊎ IsToCut l.id l.from (g.T.SearchedEntries.shows l.fn.entries);
  revealed : (named : Triples) → AreNamed l.sectors (g.T.SearchedEntries.lists l.fn.entries) named → IsCutting l.sectors (g.T.SearchedEntries.lists l.entries) (g.T.SearchedEntries.counts l.entries) named l.id l.from l.initial.left l.left;
  paid : g.T.SearchedEntries.spent l.entries ≤ g.T.SearchedEntries.spent l.initial.entries + (l.initial.left - l.left) * (g.T.SearchedEntries.look_cost + g.T.SortedEntries.replace_cost + g.T.CutEntries.remove_cost);
  cost : g.T.SearchedEntries.spent l.entries + l.left * (g.T.SearchedEntries.look_cost + g.T.SortedEntries.replace_cost + g.T.CutEntries.remove_cost)
      ≤ g.T.SearchedEntries.spent l.initial.entries + most_records l.sectors * (g.T.SearchedEntries.look_cost + g.T.SortedEntries.replace_cost + g.T.CutEntries.remove_cost);
}

abbrev pub decreases-cutting : goal.decreases-cutting
decreases-cutting g l = l.left
