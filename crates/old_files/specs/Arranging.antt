-- The first writes of a conversion: sectors that no old file needs become free, and then each old file gets a leader
-- in one of them.
use Rattle.std.specs.Prelude.{◌≡◌, ◌⊎◌, ℕ, ◌-◌, ◌<◌, ◌≤◌, true, false, List, length, slice_get, Some}
use Rattle.std.specs.List.{AllByRecursion}
use Rattle.labelled_disk.specs.declared.disk.DiskWrite.{DiskWrite}
use Rattle.labelled_disk.specs.declared.disk.DiskWrite.TheVariants.{Whole, LabelOnly, Page}
use Rattle.labelled_disk.specs.Label.{is_file, leader_page}
use Rattle.labelled_disk.specs.Layout.{data_sectors, first_data}
use Rattle.labelled_disk.specs.Sectors.{Sector}
use Rattle.labelled_disk.specs.FilesOn.{files_on}
use Rattle.labelled_disk.specs.Lowest.{is_needed}
use Rattle.labelled_disk.specs.CrashState.{crash_state}
use Rattle.old_files.specs.OldFiles.{files_old, head_among, is_old_needed}
use Rattle.old_files.specs.Laws.{IsNoPage, OnlyUnneeded, as_leader}

-- a data sector that no old file needs
pub record IsSpare (d : List Sector) (i : ℕ) : Type 0 where
  pub is_data : first_data (length d) ≤ i
  pub within : i < length d
  pub spare : is_old_needed (data_sectors d) (i - first_data (length d)) ≡ false

-- a label for such a sector, that is no page of an old file: a free one, or that of a leader
abbrev pub IsSpareWrite : List Sector → DiskWrite → Type 0
IsSpareWrite d (Whole i label page) = IsSpare d i × IsNoPage (label, page)
IsSpareWrite d (LabelOnly i label) = IsSpare d i × ((page : List ℕ) → IsNoPage (label, page))
IsSpareWrite d (Page i wanted page) = ⊥

-- the same old files, and the same sectors below the data
pub record IsStillOld (d e : List Sector) : Type 0 where
  pub sectors : length e ≡ length d
  pub files : files_old e ≡ files_old d
  pub low : (i : ℕ) → i < first_data (length d) → slice_get e i ≡ slice_get d i
  pub only : OnlyUnneeded (data_sectors d) (data_sectors e)

-- in each crash state of such writes
abbrev pub SpareCrashStates : Type 0
SpareCrashStates = (d : List Sector) (writes : List DiskWrite) → AllByRecursion (IsSpareWrite d) writes → (k : ℕ)
    → IsStillOld d (crash_state d writes k)

-- Each sector that a file needs is as it was, each other one is free or has a leader, and each file has one leader,
-- with the type and the marks of its page 0.
pub record IsSettled (xs ys : List Sector) : Type 0 where
  pub same_length : length ys ≡ length xs
  pub kept : (i : ℕ) → is_old_needed xs i ≡ true → slice_get ys i ≡ slice_get xs i
  pub rest : (i : ℕ) (y : Sector) → is_old_needed xs i ≡ false → slice_get ys i ≡ Some y
      → (is_file y.0 ≡ false) ⊎ ((h : Sector) × (head_among xs y.0.id ≡ Some h) × (y.0 ≡ as_leader h.0))
  pub placed : (id : ℕ) (h : Sector) → head_among xs id ≡ Some h
      → (j : ℕ) × (y : Sector) × (slice_get ys j ≡ Some y) × (y.0 ≡ as_leader h.0)
  pub once : (j k : ℕ) (y z : Sector) → slice_get ys j ≡ Some y → slice_get ys k ≡ Some z → is_file y.0 ≡ true
      → y.0.page ≡ leader_page → z.0.page ≡ leader_page → y.0.id ≡ z.0.id → j ≡ k

-- then each sector with a file's label is needed
abbrev pub SettledAreNeeded : Type 0
SettledAreNeeded = (d e : List Sector) → length e ≡ length d → IsSettled (data_sectors d) (data_sectors e)
    → (i : ℕ) (y : Sector) → slice_get (data_sectors e) i ≡ Some y → is_file y.0 ≡ true
    → is_needed false (data_sectors e) i ≡ true

-- then the files of today are the old ones
abbrev pub SettledHasFiles : Type 0
SettledHasFiles = (d e : List Sector) → length e ≡ length d → IsSettled (data_sectors d) (data_sectors e)
    → files_on e ≡ files_old d
