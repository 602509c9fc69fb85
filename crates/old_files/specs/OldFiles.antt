-- The permanent files that the labels of a volume of version 1 or 2 name: page 0 carries type and marks, and no file
-- has a leader.
use Rattle.std.specs.Prelude.{ℕ, zero, suc, Bool, false, ◌&&◌, ◌||◌, ◌==◌, nat_lt, if◌then◌else◌, List, [], ◌∷◌, find, map, slice_get, Option, option_map}
use Rattle.std.specs.Option.{option_map_or}
use Rattle.labelled_disk.specs.declared.label.Label.{Label}
use Rattle.labelled_disk.specs.Label.{is_file, is_permanent, is_immutable, leader_page}
use Rattle.labelled_disk.specs.Sectors.{Sector}
use Rattle.labelled_disk.specs.Layout.{data_sectors}
use Rattle.labelled_disk.specs.File.{File, Page, byte, size}
use Rattle.labelled_disk.specs.FilesOn.{is_page, page_at, pages_from, put_file}
use Rattle.labelled_disk.specs.Lowest.{is_first}

-- it is page 0 of a permanent file
abbrev pub heads : Sector → Bool
heads s = is_file s.0 && s.0.page == 0 && is_permanent s.0

-- it is page 0 of this file
abbrev pub heads_file : ℕ → Sector → Bool
heads_file id s = heads s && s.0.id == id

-- the lowest page 0 of this file
abbrev pub head_among : List Sector → ℕ → Option Sector
head_among sectors id = find (heads_file id) sectors

-- the bytes of a page: page 0 stands in the lowest sector that has the permanent bit too, each other page in the
-- lowest that is it
abbrev pub old_page_at : List Sector → ℕ → ℕ → Option Page
old_page_at sectors id zero = option_map (λ s. map byte s.1) (head_among sectors id)
old_page_at sectors id (suc k) = page_at sectors id (suc k)

-- the file of this page 0
abbrev pub old_file_by : List Sector → Label → File
old_file_by sectors head = record {
  id = head.id;
  kind = head.kind;
  permanent = is_permanent head;
  immutable = is_immutable head;
  pages = pages_from (old_page_at sectors head.id) 0 leader_page;
}

-- the file of this identifier
abbrev pub old_file_among : List Sector → ℕ → Option File
old_file_among sectors id = option_map (old_file_by sectors) (option_map (λ s. s.0) (head_among sectors id))

-- the files of these, of two with one identifier that of the first
abbrev pub old_files_by : List Sector → List Sector → List File
old_files_by sectors [] = []
old_files_by sectors (s ∷ rest) = if heads s then put_file (old_file_by sectors s.0) (old_files_by sectors rest) else
    old_files_by sectors rest

-- the files on the disk of an old volume, in ascending identifiers
abbrev pub files_old : List Sector → List File
files_old d = old_files_by (data_sectors d) (data_sectors d)

-- the file of this identifier on it
abbrev pub old_file : List Sector → ℕ → Option File
old_file d id = old_file_among (data_sectors d) id

-- sector i is a page of an old file
abbrev pub is_old_needed : List Sector → ℕ → Bool
is_old_needed sectors i =
    option_map_or (λ s. option_map_or
    (λ f. is_first (heads_file s.0.id) sectors i ||
    (nat_lt 0 s.0.page && (nat_lt s.0.page (size f) && is_first (is_page s.0.id s.0.page) sectors i)))
    (old_file_among sectors s.0.id) false)
    (slice_get sectors i) false
