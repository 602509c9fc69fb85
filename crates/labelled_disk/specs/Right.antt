-- Labels that are right for the files of a disk.
use Rattle.std.specs.Prelude.{◌≡◌, ◌⊎◌, ℕ, ◌/◌, ◌%◌, ◌^◌, ◌<◌, ◌≤◌, Bool, true, Some, List, length, map, slice_get}
use Rattle.std.specs.List.{AllByRecursion}
use Rattle.labelled_disk.specs.Label.{leader_page}
use Rattle.labelled_disk.specs.Sectors.{Sector}
use Rattle.labelled_disk.specs.Layout.{IsCount, capacity, data_sectors, first_data}
use Rattle.labelled_disk.specs.File.{File, size, total_room}
use Rattle.labelled_disk.specs.FilesOn.{is_of, files_among}

-- each sector of the file is its leader or one of its pages, and no two are the same one
pub record IsWhole (sectors : List Sector) (f : File) : Type 0 where
  pub no_other : (i : ℕ) (s : Sector) → slice_get sectors i ≡ Some s → is_of f.id s ≡ true → (s.0.page ≡ leader_page) ⊎ (s.0.page < size f)
  pub once : (i j : ℕ) (s t : Sector) → slice_get sectors i ≡ Some s → slice_get sectors j ≡ Some t → is_of f.id s ≡ true → is_of f.id t ≡ true
      → s.0.page ≡ t.0.page → i ≡ j

-- the identifier was given out, if a volume with this serial and counter did it
abbrev pub IsGiven : ℕ → ℕ → File → Type 0
IsGiven serial counter f = f.id / 2 ^ 32 ≡ serial → f.id % 2 ^ 32 < counter

-- The disk can hold a volume with this serial and counter; its files are whole, their identifiers were given out, and
-- there is room for them.
pub record FilesRight (with_temporary : Bool) (serial counter : ℕ) (d : List Sector) : Type 0 where
  pub accepted : IsCount (length d)
  pub whole_files : AllByRecursion (IsWhole (data_sectors d)) (files_among with_temporary d)
  pub ids_given : AllByRecursion (IsGiven serial counter) (files_among with_temporary d)
  pub room : total_room (files_among with_temporary d) ≤ capacity (length d)

-- the same labels, and the same pages but for those of both maps
pub record OnlyMaps (d e : List Sector) : Type 0 where
  pub labels : map (λ s. s.0) e ≡ map (λ s. s.0) d
  pub pages : (i : ℕ) → (i ≡ 0) ⊎ (first_data (length d) ≤ i) → slice_get e i ≡ slice_get d i
