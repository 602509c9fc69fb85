-- A disk of 256 sectors, and the files that it has.
use Rattle.std.specs.Prelude.{◌≡◌, ℕ, zero, suc, ◌+◌, true, false, List, [], ◌∷◌, ◌++◌, replicate, slice_set}
use Rattle.labelled_disk.specs.Label.{leader_page}
use Rattle.labelled_disk.specs.Sectors.{Sector, free_label}
use Rattle.labelled_disk.specs.File.{File, byte}
use Rattle.labelled_disk.specs.FilesOn.{files_among}

-- a sector with this label and these first bytes; no definition of files looks at how many bytes a page has
abbrev pub sector : ℕ → ℕ → ℕ → ℕ → List ℕ → Sector
sector id page kind flags bytes = (record { id = id; page = page; kind = kind; flags = flags; last = 0 }, bytes)

-- the sectors of a map, from this page on
abbrev pub map_sectors : ℕ → ℕ → ℕ → List Sector
map_sectors id page zero = []
map_sectors id page (suc n) = sector id page 0 0 [] ∷ map_sectors id (page + 1) n

-- Root, maps and free data sectors; then, in the data:
-- a permanent file of two pages, whose second page stands lower, with a second leader and a second page 0 higher up;
-- a temporary file of one page;
-- a permanent file that misses its page 1;
-- and two pages of a file that has no leader.
unfoldable pub example : List Sector
example =
    slice_set (slice_set (slice_set (slice_set (slice_set (slice_set (slice_set (slice_set (slice_set (slice_set (slice_set (slice_set
    (sector 4 0 0 0 [] ∷ sector 1 0 0 0 [] ∷ (map_sectors 2 0 34 ++ replicate 220 (free_label, [])))
    40 (sector 30064771073 leader_page 9 3 []))
    41 (sector 30064771073 0 9 0 (65 ∷ 66 ∷ [])))
    36 (sector 30064771073 1 9 0 (67 ∷ [])))
    90 (sector 30064771073 leader_page 8 1 []))
    91 (sector 30064771073 0 9 0 (68 ∷ [])))
    50 (sector 30064771074 leader_page 5 0 []))
    51 (sector 30064771074 0 5 0 (69 ∷ [])))
    60 (sector 16 leader_page 7 1 []))
    61 (sector 16 0 7 0 (70 ∷ [])))
    62 (sector 16 2 7 0 (71 ∷ [])))
    70 (sector 30064771075 0 6 0 (72 ∷ [])))
    71 (sector 30064771075 1 6 0 (73 ∷ []))

-- the file that misses its page 1 ends before it
abbrev pub cut_file : File
cut_file = record { id = 16; kind = 7; permanent = true; immutable = false; pages = (byte 70 ∷ []) ∷ [] }

-- the lowest leader gives type and marks, the lowest page 0 the bytes
abbrev pub whole_file : File
whole_file = record { id = 30064771073; kind = 9; permanent = true; immutable = true; pages = (byte 65 ∷ byte 66 ∷ []) ∷ (byte 67 ∷ []) ∷ [] }

abbrev pub temporary_file : File
temporary_file = record { id = 30064771074; kind = 5; permanent = false; immutable = false; pages = (byte 69 ∷ []) ∷ [] }

-- the permanent files, and all files
unfoldable pub ExampleFiles : Type 0
ExampleFiles = (files_among false example ≡ cut_file ∷ whole_file ∷ []) × (files_among true example ≡ cut_file ∷ whole_file ∷ temporary_file ∷ [])
