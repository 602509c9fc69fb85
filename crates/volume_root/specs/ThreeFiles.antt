-- A sound volume of 256 sectors with three files, sector by sector.
use Rattle.std.specs.Prelude.{◌≡◌, ℕ, zero, suc, ◌+◌, ◌-◌, true, false, List, [], ◌∷◌, ◌++◌, length, map, replicate}
use Rattle.std.specs.List.{flat_map}
use Rattle.labelled_disk.specs.Label.{leader_page}
use Rattle.labelled_disk.specs.Sectors.{Sector, AreSectors}
use Rattle.labelled_disk.specs.File.{File, byte}
use Rattle.labelled_disk.specs.FilesOn.{files_on}
use Rattle.file_map.specs.declared.run.Run.{Run}
use Rattle.file_map.specs.Run.{run_bytes}
use Rattle.volume_root.specs.Sound.{Sound}

-- a page with these first bytes, and zeros after them
unfoldable pub page_of : List ℕ → List ℕ
page_of bytes = bytes ++ replicate (512 - length bytes) 0

-- a sector with this label, and such a page
abbrev pub sector : ℕ → ℕ → ℕ → ℕ → List ℕ → Sector
sector id page kind flags bytes = (record { id = id; page = page; kind = kind; flags = flags; last = 0 }, page_of bytes)

-- the magic text, version 3, the clean flag, 256 sectors, serial 7, counter 4
abbrev pub root_start : List ℕ
root_start = 80 ∷ 73 ∷ 76 ∷ 79 ∷ 84 ∷ 86 ∷ 79 ∷ 76 ∷ 0 ∷ 3 ∷ 0 ∷ 1 ∷ 0 ∷ 0 ∷ 1 ∷ 0 ∷ 0 ∷ 0 ∷ 0 ∷ 7 ∷ 0 ∷ 0 ∷ 0 ∷ 4 ∷ []

-- the sectors 0 to 35 and 132 to 137
abbrev pub bits : List ℕ
bits = 255 ∷ 255 ∷ 255 ∷ 255 ∷ 240 ∷ 0 ∷ 0 ∷ 0 ∷ 0 ∷ 0 ∷ 0 ∷ 0 ∷ 0 ∷ 0 ∷ 0 ∷ 0 ∷ 15 ∷ 192 ∷ []

-- five records, the root in page 1, which is the greatest page used, no free page, one level
abbrev pub header_start : List ℕ
header_start = 0 ∷ 0 ∷ 0 ∷ 5 ∷ 0 ∷ 0 ∷ 0 ∷ 1 ∷ 0 ∷ 0 ∷ 0 ∷ 1 ∷ 0 ∷ 0 ∷ 0 ∷ 0 ∷ 1 ∷ []

abbrev pub run : ℕ → ℕ → ℕ → ℕ → Run
run id first pages sector = record { id = id; first = first; pages = pages; sector = sector }

-- in the order of their keys
abbrev pub runs : List Run
runs =
    run 30064771073 0 2 133 ∷ run 30064771073 leader_page 1 132 ∷ run 30064771074 0 1 135 ∷ run 30064771074 leader_page 1 136
    ∷ run 30064771075 leader_page 1 137 ∷ []

-- a leaf of five records
abbrev pub leaf_start : List ℕ
leaf_start = 1 ∷ 0 ∷ 0 ∷ 5 ∷ 0 ∷ 0 ∷ 0 ∷ 0 ∷ flat_map run_bytes runs

-- the pages of the file map from this one on, which are in no tree
abbrev pub unused_pages : ℕ → ℕ → List Sector
unused_pages k zero = []
unused_pages k (suc n) = sector 2 k 0 0 [] ∷ unused_pages (k + 1) n

abbrev pub free_sector : Sector
free_sector = sector 0 0 0 0 []

-- a leader and its two pages after it, a page and its leader, a leader alone
abbrev pub file_sectors : List Sector
file_sectors =
    sector 30064771073 leader_page 9 3 [] ∷ sector 30064771073 0 9 0 (65 ∷ 66 ∷ []) ∷ sector 30064771073 1 9 0 (67 ∷ []) ∷ sector 30064771074 0 5 0 (68 ∷ [])
    ∷ sector 30064771074 leader_page 5 1 [] ∷ sector 30064771075 leader_page 0 1 [] ∷ []

-- Root, allocation map and file map; then the data sectors, of which the 96 of the space tables and those after the
-- files are free.
unfoldable pub three_files : List Sector
three_files =
    sector 4 0 0 0 root_start ∷ sector 1 0 0 0 bits ∷ sector 2 0 0 0 header_start ∷ sector 2 1 0 0 leaf_start
    ∷ (unused_pages 2 32 ++ (replicate 96 free_sector ++ (file_sectors ++ replicate 118 free_sector)))

-- a permanent immutable file of two pages, a permanent one of one page, and one without a page
abbrev pub files : List File
files =
    record { id = 30064771073; kind = 9; permanent = true; immutable = true; pages = map byte (page_of (65 ∷ 66 ∷ [])) ∷ map byte (page_of (67 ∷ [])) ∷ [] }
    ∷ record { id = 30064771074; kind = 5; permanent = true; immutable = false; pages = map byte (page_of (68 ∷ [])) ∷ [] }
    ∷ record { id = 30064771075; kind = 0; permanent = true; immutable = false; pages = [] } ∷ []

-- they are 256 sectors of a sound volume with these files
pub record ThreeFilesAreSound : Type 0 where
  pub sectors : AreSectors three_files
  pub count : length three_files ≡ 256
  pub has_files : files_on three_files ≡ files
  pub sound : Sound three_files
