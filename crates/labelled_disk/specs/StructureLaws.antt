-- A page belongs to one structure.
use Rattle.std.specs.Prelude.{◌≡◌, ℕ}
use Rattle.std.proofs.Common.{ap, arith}
use Rattle.labelled_disk.specs.declared.structure.Structure.{Structure}
use Rattle.labelled_disk.specs.Structure.{structure_number, IsOfFileMap, IsOfTables}

-- a page of the file map is none of the space tables
pub map_or_tables : (s : Structure) → IsOfFileMap s → IsOfTables s → ⊥
map_or_tables s map tables = two_or_three (structure_number s) (ap structure_number map) (ap structure_number tables) where
  two_or_three : (n : ℕ) → n ≡ 2 → n ≡ 3 → ⊥
  two_or_three n two three = omega (arith, two, three)
