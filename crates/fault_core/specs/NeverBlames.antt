-- That no page of the space tables is reported as broken or as missing.
use Rattle.std.specs.Prelude.{◌≢◌}
use Rattle.labelled_disk.specs.declared.evidence.Evidence.TheVariants.{Mismatch, Malformed, Missing}
use Rattle.labelled_disk.specs.Structure.{IsOfTables}
use Rattle.labelled_disk.specs.declared.evidence.Halt.{Halt}
use Rattle.labelled_disk.specs.declared.evidence.Halt.TheVariants.{Disk, Damaged}

-- the halt is not that a page of the space tables breaks its form, or that the map has no sector for one
abbrev pub NeverBlamesTables : Halt → Type 0
NeverBlamesTables Disk = Unit {0}
NeverBlamesTables (Damaged (Mismatch sector wanted found)) = Unit {0}
NeverBlamesTables (Damaged (Malformed structure page)) = ¬ IsOfTables structure
NeverBlamesTables (Damaged (Missing id page)) = id ≢ 3
