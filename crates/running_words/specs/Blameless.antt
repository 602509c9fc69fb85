-- That no page of the space tables is reported as broken.
use Rattle.labelled_disk.specs.declared.evidence.Evidence.TheVariants.{Mismatch, Malformed, Missing}
use Rattle.labelled_disk.specs.Structure.{IsOfTables}
use Rattle.labelled_disk.specs.declared.evidence.Halt.{Halt}
use Rattle.labelled_disk.specs.declared.evidence.Halt.TheVariants.{Disk, Damaged}

-- the halt is not that a page of the space tables breaks its form
abbrev pub NeverBlamesForm : Halt → Type 0
NeverBlamesForm Disk = Unit {0}
NeverBlamesForm (Damaged (Mismatch sector wanted found)) = Unit {0}
NeverBlamesForm (Damaged (Malformed structure page)) = ¬ IsOfTables structure
NeverBlamesForm (Damaged (Missing id page)) = Unit {0}
