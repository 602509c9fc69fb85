use Rattle.std.proofs.Common.{◌≡◌, ◌-◌, ◌≤◌, List, Some, map, take, length}
use Rattle.std.specs.Vec.{vec_len, vec_capacity}
use Rattle.labelled_disk.specs.Calls.{ReadsAtMost}
use Rattle.labelled_disk.specs.Layout.{data_sectors}
use Rattle.labelled_disk.specs.Sectors.{Sector}
use Rattle.label_survey.proofs.reading.read_labels.Given as goal

-- the labels of the data sectors before this one
abbrev pub invariant-loop-sector : goal.invariant-loop-sector
invariant-loop-sector g l = record {
  cost : ReadsAtMost (l.sector - l.layout.first) (g.D.Disk.state l.fn.disk) (g.D.Disk.state l.disk);
  len : vec_len l.labels ≡ l.sector - l.layout.first;
  count : length l.labels.items ≡ l.sector - l.layout.first;
  room : l.layout.sectors - l.layout.first ≤ vec_capacity l.labels;
  revealed : (d : List Sector) → (g.D.Disk.state l.fn.disk).contents ≡ Some d → l.labels.items ≡ map (λ s. s.0) (take (l.sector - l.layout.first) (data_sectors d));
}
