-- What is counted of a disk that is put in order: its files and their pages, the sectors that no file needs, and those
-- of them that carry a page of a file that stays.
use Rattle.std.specs.Prelude.{◌≡◌, ℕ, ◌+◌, ◌-◌, Bool, true, false, not, ◌&&◌, ◌==◌, if◌then◌else◌, List, [], ◌∷◌, length, sum_by, Contains, Some}
use Rattle.std.specs.List.{AllByRecursion}
use Rattle.std.specs.Option.{option_map_or}
use Rattle.labelled_disk.specs.Label.{is_file, is_free, leader_page}
use Rattle.labelled_disk.specs.Sectors.{Sector}
use Rattle.labelled_disk.specs.CrashState.{crash_state}
use Rattle.labelled_disk.specs.Layout.{data_sectors, first_data}
use Rattle.labelled_disk.specs.File.{File, size, total_room}
use Rattle.labelled_disk.specs.FilesOn.{files_among, disk_file}
use Rattle.labelled_disk.specs.Lowest.{is_needed}
use Rattle.labelled_disk.specs.Ascending.{IsAscending}
use Rattle.labelled_disk.specs.Runs.{freeing}
use Rattle.labelled_disk.specs.WriteLaws.{HasData}
use Rattle.label_laws.specs.Unneeded.{IsUnneeded, AreAllUnneeded, AreFreeOrNeeded}

-- the pages of these files, leaders not among them
abbrev pub total_pages : List File → ℕ
total_pages files = sum_by size files

-- the places of the sectors that pass, the first of them being place i
abbrev pub places : (ℕ → Sector → Bool) → ℕ → List Sector → List ℕ
places test i [] = []
places test i (s ∷ rest) = if test i s then i ∷ places test (i + 1) rest else places test (i + 1) rest

-- the data sectors of a disk that pass, ascending
abbrev pub data_places : (ℕ → Sector → Bool) → List Sector → List ℕ
data_places test d = places test (first_data (length d)) (data_sectors d)

-- the data sectors that are not free
abbrev pub taken_sectors : List Sector → List ℕ
taken_sectors d = data_places (λ i s. not (is_free s.0)) d

module _ (with_temporary : Bool) where
  -- a file needs data sector i
  abbrev pub needs_place : List Sector → ℕ → Bool
  needs_place d i = is_needed with_temporary (data_sectors d) (i - first_data (length d))

  -- the leaders and the pages that files need
  abbrev pub needed_leaders : List Sector → List ℕ
  needed_leaders d = data_places (λ i s. needs_place d i && s.0.page == leader_page) d

  abbrev pub needed_pages : List Sector → List ℕ
  needed_pages d = data_places (λ i s. needs_place d i && not (s.0.page == leader_page)) d

  -- the sectors that are neither free nor needed: those that are freed
  abbrev pub unneeded_sectors : List Sector → List ℕ
  unneeded_sectors d = data_places (λ i s. not (is_free s.0) && not (needs_place d i)) d

  -- those of them with the label of a file that stays
  abbrev pub is_of_some_file : List Sector → Sector → Bool
  is_of_some_file d s = is_file s.0 && option_map_or (λ f. true) (disk_file with_temporary d s.0.id) false

  abbrev pub lost_sectors : List Sector → List ℕ
  lost_sectors d = data_places (λ i s. not (needs_place d i) && is_of_some_file d s) d

  -- a data sector of a file that doesn't need it
  pub record IsLost (d : List Sector) (i : ℕ) : Type 0 where
    pub s : Sector
    pub there : HasData d i s
    pub file_label : is_file s.0 ≡ true
    pub f : File
    pub file : disk_file with_temporary d s.0.id ≡ Some f
    pub unneeded : needs_place d i ≡ false

  -- on any disk, what is freed is all that no file needs, and what was lost is all that files don't need of their own
  pub record UnneededListLaws : Type 0 where
    pub each : (d : List Sector) → AllByRecursion (IsUnneeded with_temporary d) (unneeded_sectors d)
    pub all : (d : List Sector) → AreAllUnneeded with_temporary d (unneeded_sectors d)
    pub ascending : (d : List Sector) → IsAscending (unneeded_sectors d)
    pub freed : (d : List Sector) → AreFreeOrNeeded with_temporary (crash_state d (freeing (unneeded_sectors d)) (length (unneeded_sectors d)))
    pub lost_each : (d : List Sector) → AllByRecursion (IsLost d) (lost_sectors d)
    pub lost_all : (d : List Sector) (i : ℕ) → IsLost d i → Contains (lost_sectors d) i
    pub lost_ascending : (d : List Sector) → IsAscending (lost_sectors d)

  -- on any disk, as many leaders are needed as there are files, and as many pages as these have
  pub record CountLaws : Type 0 where
    pub files : (d : List Sector) → length (needed_leaders d) ≡ length (files_among with_temporary d)
    pub pages : (d : List Sector) → length (needed_pages d) ≡ total_pages (files_among with_temporary d)
    pub room : (files : List File) → total_room files ≡ length files + total_pages files

  -- where each data sector is free or needed, as many are taken as the files have pages and leaders
  abbrev pub TakenByFiles : Type 0
  TakenByFiles = (d : List Sector) → AreFreeOrNeeded with_temporary d → length (taken_sectors d) ≡ total_room (files_among with_temporary d)
