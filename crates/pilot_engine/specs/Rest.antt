-- What a start costs after its root was read.
use Rattle.std.specs.Prelude.{ℕ, ◌+◌, ◌≤◌}
use Rattle.labelled_disk.specs.State.{DiskState}
use Rattle.running_words.specs.Bound.{other_bound}

-- the bound of a start, less one transfer, which the reading of the root has
abbrev pub CostsRest : DiskState → DiskState → Type 0
CostsRest old new = new.transfers + 1 ≤ old.transfers + other_bound old.sectors
