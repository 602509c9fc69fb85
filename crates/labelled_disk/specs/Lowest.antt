-- A file of a disk in words: the lowest sectors that pass, and the sectors that a file needs.
use Rattle.std.specs.Prelude.{◌≡◌, ◌⊎◌, ℕ, ◌-◌, ◌<◌, ◌≤◌, Bool, true, false, ◌&&◌, ◌||◌, ◌==◌, nat_lt, List, [], length, map, slice_get, slice_set, Some}
use Rattle.std.specs.Option.{option_map_or}
use Rattle.std.specs.List.{position_or_len, AllByRecursion}
use Rattle.labelled_disk.specs.Label.{is_file, is_permanent, is_immutable, leader_page}
use Rattle.labelled_disk.specs.Sectors.{Sector}
use Rattle.labelled_disk.specs.Layout.{data_sectors, first_data}
use Rattle.labelled_disk.specs.File.{File, byte, size}
use Rattle.labelled_disk.specs.FilesOn.{leads_file, is_page, file_among, files_among, disk_file}
use Rattle.labelled_disk.specs.Right.{IsWhole, FilesRight}
use Rattle.labelled_disk.specs.WriteLaws.{HasData}

-- of the sectors that pass, this is the lowest
pub record IsLowest (test : Sector → Bool) (sectors : List Sector) (i : ℕ) (s : Sector) : Type 0 where
  pub here : slice_get sectors i ≡ Some s
  pub passes : test s ≡ true
  pub none_below : (j : ℕ) (t : Sector) → j < i → slice_get sectors j ≡ Some t → test t ≡ false

-- no sector passes
abbrev pub IsNowhere : (Sector → Bool) → List Sector → Type 0
IsNowhere test sectors = (j : ℕ) (t : Sector) → slice_get sectors j ≡ Some t → test t ≡ false

-- sector i is the lowest that passes
abbrev pub is_first : (Sector → Bool) → List Sector → ℕ → Bool
is_first test sectors i = position_or_len test sectors == i

module _ (with_temporary : Bool) where
  -- These sectors have this file: its lowest leader gives type and marks, each page stands in the lowest sector that is
  -- it, and the page after the last stands nowhere.
  pub record IsFileOn (sectors : List Sector) (f : File) : Type 0 where
    pub leader : (i : ℕ) × (s : Sector) × IsLowest (leads_file with_temporary f.id) sectors i s × (f.kind ≡ s.0.kind) × (f.permanent ≡ is_permanent s.0) × (f.immutable ≡ is_immutable s.0)
    pub page : (k : ℕ) → k < size f → (i : ℕ) × (s : Sector) × IsLowest (is_page f.id k) sectors i s × (slice_get f.pages k ≡ Some (map byte s.1))
    pub numbered : size f ≤ leader_page
    pub ends : (size f ≡ leader_page) ⊎ IsNowhere (is_page f.id (size f)) sectors

  -- the files of the disk are those that the words reveal
  pub record FilesAreAsRevealed (d : List Sector) : Type 0 where
    pub revealed : (id : ℕ) (f : File) → disk_file with_temporary d id ≡ Some f → IsFileOn (data_sectors d) f × (f.id ≡ id)
    pub all : (f : File) → IsFileOn (data_sectors d) f → disk_file with_temporary d f.id ≡ Some f

  -- sector i is the leader or a page of a file
  abbrev pub is_needed : List Sector → ℕ → Bool
  is_needed sectors i =
      option_map_or (λ s. option_map_or (λ f. is_first (leads_file with_temporary s.0.id) sectors i || (nat_lt s.0.page (size f) && is_first (is_page s.0.id s.0.page) sectors i))
      (file_among with_temporary sectors s.0.id) false)
      (slice_get sectors i) false

  -- on any disk, a sector that no file needs may become no file's
  abbrev pub UnneededFreed : Type 0
  UnneededFreed = (d : List Sector) (i : ℕ) (s t : Sector) → HasData d i s → is_needed (data_sectors d) (i - first_data (length d)) ≡ false → is_file t.0 ≡ false
      → files_among with_temporary (slice_set d i t) ≡ files_among with_temporary d

  -- on any disk where each sector with a file's label is needed, the files are whole
  abbrev pub NeededAreWhole : Type 0
  NeededAreWhole = (d : List Sector) → ((i : ℕ) (s : Sector) → slice_get (data_sectors d) i ≡ Some s → is_file s.0 ≡ true → is_needed (data_sectors d) i ≡ true)
      → AllByRecursion (IsWhole (data_sectors d)) (files_among with_temporary d)

  -- a disk on which no data sector is a file's has no file
  abbrev pub EmptyHasNone : Type 0
  EmptyHasNone = (d : List Sector) → ((i : ℕ) (s : Sector) → slice_get (data_sectors d) i ≡ Some s → is_file s.0 ≡ false) → files_among with_temporary d ≡ []

  -- with right labels each sector of a file is needed
  abbrev pub RightAreNeeded : Type 0
  RightAreNeeded = (serial counter : ℕ) (d : List Sector) (i : ℕ) (s : Sector) (f : File) → FilesRight with_temporary serial counter d → slice_get (data_sectors d) i ≡ Some s → is_file s.0 ≡ true
      → disk_file with_temporary d s.0.id ≡ Some f → is_needed (data_sectors d) i ≡ true

  -- which sectors the files of any disk need
  pub record NeededLaws : Type 0 where
    pub freed : UnneededFreed
    pub whole : NeededAreWhole
    pub empty : EmptyHasNone
    pub needed : RightAreNeeded
