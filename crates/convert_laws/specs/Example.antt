-- An old volume of 256 sectors, the files that it has, the sectors that they need, and the first writes of its
-- conversion.
use Rattle.std.specs.Prelude.{◌≡◌, ℕ, zero, suc, ◌+◌, true, false, List, [], ◌∷◌, ◌++◌, filter, replicate, slice_set}
use Rattle.std.specs.List.{range_with_len}
use Rattle.labelled_disk.specs.declared.disk.DiskWrite.TheVariants.{Whole}
use Rattle.labelled_disk.specs.Label.{leader_page}
use Rattle.labelled_disk.specs.Layout.{data_sectors}
use Rattle.labelled_disk.specs.Runs.{freeing}
use Rattle.labelled_disk.specs.Sectors.{Sector, free_label}
use Rattle.labelled_disk.specs.File.{File, byte}
use Rattle.old_files.specs.OldFiles.{files_old, is_old_needed}
use Rattle.convert_laws.specs.Orders.{first_writes}

-- a sector with this label and these first bytes; no definition of files looks at how many bytes a page has
abbrev pub sector : ℕ → ℕ → ℕ → ℕ → List ℕ → Sector
sector id page kind flags bytes = (record { id = id; page = page; kind = kind; flags = flags; last = 0 }, bytes)

-- the sectors of a map, from this page on
abbrev pub map_sectors : ℕ → ℕ → ℕ → List Sector
map_sectors id page zero = []
map_sectors id page (suc n) = sector id page 0 0 [] ∷ map_sectors id (page + 1) n

-- Root, maps and free data sectors; then, in the data:
-- a file of two pages, whose second page stands lower, with a lower page 0 that misses the permanent bit, and both
-- pages once more;
-- a file that misses its page 1, with a leader of a conversion that was stopped;
-- a temporary file; a page of a file that has no page 0; and page 0 of an identifier that no file may have.
unfoldable pub example : List Sector
example =
    slice_set (slice_set (slice_set (slice_set (slice_set (slice_set
    (slice_set (slice_set (slice_set (slice_set (slice_set
    (sector 4 0 0 0 [] ∷ sector 1 0 0 0 [] ∷ (map_sectors 2 0 34 ++ replicate 220 (free_label, [])))
    40 (sector 30064771073 0 7 0 (64 ∷ [])))
    41 (sector 30064771073 0 9 3 (65 ∷ 66 ∷ [])))
    36 (sector 30064771073 1 9 0 (67 ∷ [])))
    90 (sector 30064771073 0 8 1 (68 ∷ [])))
    91 (sector 30064771073 1 8 0 (69 ∷ [])))
    60 (sector 16 0 7 1 (70 ∷ [])))
    62 (sector 16 2 7 0 (71 ∷ [])))
    80 (sector 16 leader_page 7 1 []))
    50 (sector 30064771074 0 5 0 (72 ∷ [])))
    71 (sector 30064771075 1 6 0 (73 ∷ [])))
    82 (sector 8589934591 0 6 1 (74 ∷ []))

-- the file that misses its page 1 ends before it
abbrev pub cut_file : File
cut_file = record { id = 16; kind = 7; permanent = true; immutable = false; pages = (byte 70 ∷ []) ∷ [] }

-- the lowest page 0 with the permanent bit gives type, marks and bytes
abbrev pub whole_file : File
whole_file = record {
  id = 30064771073;
  kind = 9;
  permanent = true;
  immutable = true;
  pages = (byte 65 ∷ byte 66 ∷ []) ∷ (byte 67 ∷ []) ∷ [];
}

-- its files; the data sectors that they need; and what is freed, with both leaders in the lowest sectors that are
-- free then
unfoldable pub ExampleOldFiles : Type 0
ExampleOldFiles =
    (files_old example ≡ cut_file ∷ whole_file ∷ [])
    × (filter (is_old_needed (data_sectors example)) (range_with_len 0 220) ≡ 0 ∷ 5 ∷ 24 ∷ [])
    × (first_writes example ≡ freeing (40 ∷ 50 ∷ 62 ∷ 71 ∷ 80 ∷ 82 ∷ 90 ∷ 91 ∷ [])
    ++ Whole 37 (record { id = 16; page = leader_page; kind = 7; flags = 1; last = 0 }) (replicate 512 0)
    ∷ Whole 38 (record { id = 30064771073; page = leader_page; kind = 9; flags = 3; last = 0 }) (replicate 512 0) ∷ [])
