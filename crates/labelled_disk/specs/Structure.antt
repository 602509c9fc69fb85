-- The structures of a volume, and their numbers.
use Rattle.std.specs.Prelude.{◌≡◌, ℕ}
use Rattle.labelled_disk.specs.declared.structure.Structure.{Structure}
use Rattle.labelled_disk.specs.declared.structure.Structure.TheVariants.{AllocationMap, FileMap, SpaceTables}

-- the number that stands for it in a line about damage
abbrev pub structure_number : Structure → ℕ
structure_number AllocationMap = 1
structure_number FileMap = 2
structure_number SpaceTables = 3

-- the page is one of the file map, or one of the space tables
abbrev pub IsOfFileMap : Structure → Type 0
IsOfFileMap structure = structure ≡ FileMap

abbrev pub IsOfTables : Structure → Type 0
IsOfTables structure = structure ≡ SpaceTables
