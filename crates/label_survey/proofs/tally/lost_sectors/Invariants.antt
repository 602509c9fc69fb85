use Rattle.std.proofs.Common.{◌≡◌, take}
use Rattle.label_survey.specs.Survey.{is_lost, places_by}
use Rattle.label_survey.proofs.tally.lost_sectors.Given as goal

abbrev pub invariant-loop-i : goal.invariant-loop-i
invariant-loop-i g l = l.lost.items ≡ places_by is_lost l.first (take l.i l.sector_states)
