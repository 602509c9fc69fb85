-- The machine that a disk starts.
use Rattle.std.specs.Prelude.{ℕ, List, [], ◌∷◌, length}
use Rattle.labelled_disk.specs.Sectors.{Sector}
use Rattle.labelled_disk.specs.FilesOn.{files_on}
use Rattle.labelled_disk.specs.Root.{serial_of, counter_of}
use Rattle.labelled_disk.specs.Layout as layout
use Rattle.flat_machine.specs.Space.{root}
use Rattle.flat_machine.specs.Machine.{Machine}

-- a machine without files
abbrev pub opened : ℕ → ℕ → ℕ → Machine
opened serial counter capacity =
    record { files = []; spaces = root ∷ []; serial = serial; counter = counter; capacity = capacity; unforced = [] }

-- the machine with the permanent files of a disk, and no space but the root
abbrev pub start : List Sector → Machine
start d = record (opened (serial_of d) (counter_of d) (layout.capacity (length d))) { files = files_on d }
