-- Files whose cells are bytes.
use Rattle.std.specs.Prelude.{◌≡◌, ℕ}
use Rattle.std.specs.List.{AllByRecursion}
use Rattle.labelled_disk.specs.File.{File, Cell, byte}

-- the cell is a byte
abbrev pub IsByte : Cell → Type 0
IsByte c = (b : ℕ) × (c ≡ byte b)

-- all cells of the file are bytes
abbrev pub HasBytes : File → Type 0
HasBytes f = AllByRecursion (AllByRecursion IsByte) f.pages
