-- Replies to drawn calls are fixed, where each cell is a byte: none of the calls makes a cell any.
use Rattle.std.specs.Prelude.{◌≡◌, ℕ, List, Some, length, map}
use Rattle.std.specs.List.{AllByRecursion}
use Rattle.flat_machine.specs.declared.call.Reply.{Reply}
use Rattle.flat_machine.specs.File.{File, Cell, byte}
use Rattle.flat_machine.specs.Machine.{Machine}
use Rattle.flat_machine.specs.IsMachine.{IsMachine}
use Rattle.flat_machine.specs.After.{AllowsAll}
use Rattle.trace_maker.specs.Calls.{call_of}

-- the cell is a byte
abbrev pub IsKnown : Cell → Type 0
IsKnown cell = (b : ℕ) × (cell ≡ byte b)

-- each cell of each page is
abbrev pub AreKnown : List File → Type 0
AreKnown files = AllByRecursion (λ f. AllByRecursion (AllByRecursion IsKnown) f.pages) files

-- from a machine whose cells are bytes, the calls of these indices have one list of replies
abbrev pub RepliesAreFixed : Type 0
RepliesAreFixed = (m : Machine) (seed : ℕ) (indices : List ℕ) (rs ss : List Reply) → IsMachine m → AreKnown m.files → length rs ≡ length indices → length ss ≡ length indices
    → AllowsAll m (map Some (map (call_of seed) indices)) rs → AllowsAll m (map Some (map (call_of seed) indices)) ss → rs ≡ ss

-- the same machine on a volume with so many sectors for files
abbrev pub with_room : ℕ → Machine → Machine
with_room room m = record m { capacity = room }

-- replies that are allowed are allowed on a larger or smaller volume too
abbrev pub AllowedInAnyRoom : Type 0
AllowedInAnyRoom = (m : Machine) (room seed : ℕ) (indices : List ℕ) (rs : List Reply) → AllowsAll m (map Some (map (call_of seed) indices)) rs → AllowsAll (with_room room m) (map Some (map (call_of seed) indices)) rs
