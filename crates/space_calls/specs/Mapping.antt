-- A window that a space may get.
use Rattle.std.specs.Prelude.{◌≡◌, ◌+◌, ◌-◌, ◌^◌, ◌≤◌, ◌<◌, ℕ, Bool, true, false, List, Some}
use Rattle.labelled_disk.specs.Label.{leader_page}
use Rattle.file_map.specs.FileMap.{Triples}
use Rattle.flat_machine.specs.declared.space.Space.{Space}
use Rattle.flat_machine.specs.Machine.{Machine}
use Rattle.flat_machine.specs.Space.{space_at}
use Rattle.projection_laws.specs.Laws.{WindowFits}
use Rattle.projection_laws.specs.Spaces.{MayHaveWindow}

-- as many pages of a file as the space has, from that page on, have numbers of 32 bits
abbrev pub IsInReach : Machine → ℕ → ℕ → Type 0
IsInReach m handle page = (s : Space) × (space_at m.spaces handle ≡ Some s) × (page + s.pages ≤ 2 ^ 32)

-- the space of that handle may get a window on this file, from that page on
abbrev pub MayShow : List Space → ℕ → ℕ → ℕ → Bool → Type 0
MayShow ss handle id page writable = (x : Space) × MayHaveWindow ss x × (x.handle ≡ handle) × WindowFits x.pages (record { file = id; first = page; writable = writable; anonymous = false })

-- from this page on, the space shows this page of a file as its last
abbrev pub IsLastFrom : List Space → ℕ → ℕ → ℕ → Type 0
IsLastFrom ss handle page last = (s : Space) × (space_at ss handle ≡ Some s) × (last ≡ page + (s.pages - 1))

-- the file map names a page of the file, below its leader, that is the last which the space shows from this page on, or a later one
abbrev pub ReachesOver : List Space → ℕ → ℕ → ℕ → Triples → Type 0
ReachesOver ss handle id page named = (last later sector : ℕ) × IsLastFrom ss handle page last × (last ≤ later) × (later < leader_page) × (named id later sector ≡ true)
