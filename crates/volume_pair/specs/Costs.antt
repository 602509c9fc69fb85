-- How many transfers a call takes, on either disk.
use Rattle.std.specs.Prelude.{ℕ, ◌+◌, ◌*◌, ◌≤◌, List}
use Rattle.std.specs.Option.{option_map_or}
use Rattle.labelled_disk.specs.declared.layout.Layout.{Layout}
use Rattle.labelled_disk.specs.File.{File, file_at, size}
use Rattle.file_map.specs.FileMap.{most_records}
use Rattle.filer_kernel.specs.View.{View}
use Rattle.pair_machine.specs.Pair.{Pair}

-- the pages of the list's file, or none
abbrev pub size_in : List File → ℕ → ℕ
size_in fs id = option_map_or size (file_at fs id) 0

-- what makes a file of so many pages and gives it its marks, without its bytes
abbrev pub making : Layout → ℕ → ℕ
making layout pages = 2 * (1 + 51 * most_records layout.sectors) + (pages + 1) * (8 * layout.vam + 100) + 32

-- At most so many: the file is looked for, and so many pages are read or written, on either disk, and some more on the second.
pub record Spends (pages more : ℕ) (from to new_from new_to : View) : Type 0 where
  pub from_spends : new_from.disk.transfers ≤ from.disk.transfers + (29 + 15 * pages)
  pub to_spends : new_to.disk.transfers ≤ to.disk.transfers + (29 + 15 * pages + more)

-- as many as a copy of the first list's file takes
abbrev pub SpendsOnFile : Pair → ℕ → View → View → View → View → Type 0
SpendsOnFile p id from to new_from new_to =
    Spends (size_in p.from id) (making to.layout (size_in p.from id)) from to new_from new_to
