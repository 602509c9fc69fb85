-- A coarse bound on the transfers of a start, of an end, and of a call that is neither a load nor a store.
use Rattle.std.specs.Prelude.{ℕ, ◌+◌, ◌*◌, ◌^◌, ◌≤◌, nat_lt, if◌then◌else◌, List, [], ◌∷◌}
use Rattle.labelled_disk.specs.File.{File, room_of}
use Rattle.labelled_disk.specs.State.{DiskState}

-- on a disk of so many sectors
abbrev pub other_bound : ℕ → ℕ
other_bound n = 2 ^ 30 + 64 * n * n

-- so many transfers at most
abbrev pub CostsOther : DiskState → DiskState → Type 0
CostsOther old new = new.transfers ≤ old.transfers + other_bound old.sectors

-- What an end spends at most.

-- for each sector of a file that is looked at, and deleted if it is temporary
abbrev pub delete_cost : ℕ
delete_cost = 1300

-- and that was searched for
abbrev pub visit_cost : ℕ
visit_cost = 1400

-- the sectors of the files above an identifier
abbrev pub room_above : ℕ → List File → ℕ
room_above cursor [] = 0
room_above cursor (f ∷ fs) = (if nat_lt cursor f.id then room_of f else 0) + room_above cursor fs

-- for all temporary files and the space tables, on a disk of so many sectors
abbrev pub emptying_bound : ℕ → ℕ
emptying_bound n = 2 ^ 20 + 1502 * n
