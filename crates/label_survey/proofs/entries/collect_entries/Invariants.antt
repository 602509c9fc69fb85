use Rattle.std.proofs.Common.{◌≡◌, take}
use Rattle.label_survey.specs.Entries.{entries_from}
use Rattle.label_survey.proofs.entries.collect_entries.Given as goal

abbrev pub invariant-loop-i : goal.invariant-loop-i
invariant-loop-i g l = l.entries.items ≡ entries_from 0 (take l.i l.labels)
