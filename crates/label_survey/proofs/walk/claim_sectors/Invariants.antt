use Rattle.std.proofs.Common.{◌≡◌, ◌^◌, ◌≤◌, List, map}
use Rattle.labelled_disk.specs.Sectors.{Sector}
use Rattle.labelled_disk.specs.Layout.{data_sectors}
use Rattle.label_survey.specs.Entries.{AreOf}
use Rattle.label_survey.specs.Progress.{HasCome}
use Rattle.label_survey.specs.SectorStates.{unclaimed}
use Rattle.label_survey.proofs.ClaimLemmas.{AreClaimed}
use Rattle.label_survey.proofs.walk.claim_sectors.Given as goal

abbrev pub invariant-loop-k : goal.invariant-loop-k
invariant-loop-k l = record {
  bounded : l.progress.next ≤ 2 ^ 32;
  claimed : (d : List Sector) → AreOf (map (λ s. s.0) (data_sectors d)) l.entries → l.fn.sector_states ≡ map unclaimed (map (λ s. s.0) (data_sectors d)) → AreClaimed d l.entries l.k l.sector_states;
  come : (d : List Sector) → AreOf (map (λ s. s.0) (data_sectors d)) l.entries → HasCome l.entries l.k l.progress;
}
