use Rattle.std.proofs.Common.{◌≡◌}
use Rattle.std.specs.Prelude.{replicate}
use Rattle.labelled_disk.specs.Sectors.{zero_sector}
use Rattle.labelled_disk.proofs.memory.zero_sectors.Given as goal

abbrev pub invariant-loop-sector : goal.invariant-loop-sector
invariant-loop-sector g l = l.cells.items ≡ replicate l._sector zero_sector
