-- The writes in a row that make, lengthen, shorten and remove a file, and the files in each crash state of them.
use Rattle.std.specs.Prelude.{◌≡◌, ◌≢◌, ℕ, zero, suc, ◌+◌, ◌-◌, ◌/◌, ◌%◌, ◌^◌, ◌<◌, ◌≤◌, Bool, true, false, List, [], ◌∷◌, ◌++◌, length, take, replicate, slice_get, Some, None, All}
use Rattle.std.specs.List.{AllByRecursion}
use Rattle.labelled_disk.specs.declared.disk.DiskWrite.{DiskWrite}
use Rattle.labelled_disk.specs.declared.disk.DiskWrite.TheVariants.{Whole, LabelOnly, Page}
use Rattle.labelled_disk.specs.Label.{is_file, leader_page, page_label}
use Rattle.labelled_disk.specs.Sectors.{Sector, IsSector, AreSectors, free_label}
use Rattle.labelled_disk.specs.CrashState.{crash_state, written}
use Rattle.labelled_disk.specs.Layout.{capacity, data_sectors, first_data}
use Rattle.labelled_disk.specs.File.{File, size, total_room, zero_page}
use Rattle.labelled_disk.specs.FilesOn.{is_of, is_page, leads_file, files_among, disk_file}
use Rattle.labelled_disk.specs.Right.{FilesRight}
use Rattle.labelled_disk.specs.Root.{RightFor, serial_of, counter_of}
use Rattle.labelled_disk.specs.WriteLaws.{HasData, Changed}

-- 512 bytes of zero
unfoldable pub zero_bytes : List ℕ
zero_bytes = replicate 512 0

-- a page of zeros for each sector, from this page of the file on
abbrev pub growth : ℕ → ℕ → ℕ → List ℕ → List DiskWrite
growth id kind page [] = []
growth id kind page (i ∷ is) = Whole i (page_label id kind page) zero_bytes ∷ growth id kind (page + 1) is

-- the leader, and then the pages
abbrev pub creation : ℕ → ℕ → ℕ → List ℕ → List DiskWrite
creation id kind leader is = Whole leader (page_label id kind leader_page) zero_bytes ∷ growth id kind 0 is

-- a free label for each sector
abbrev pub freeing : List ℕ → List DiskWrite
freeing [] = []
freeing (i ∷ is) = LabelOnly i free_label ∷ freeing is

-- the sector is a data sector, and no file's
pub record IsUnused (d : List Sector) (i : ℕ) : Type 0 where
  pub s : Sector
  pub there : HasData d i s
  pub unused : is_file s.0 ≡ false

-- different data sectors, none of them a file's
abbrev pub AreUnused : List Sector → List ℕ → Type 0
AreUnused d [] = Unit {0}
AreUnused d (i ∷ is) = IsUnused d i × AllByRecursion (λ j. j ≢ i) is × AreUnused d is

-- the sector is a data sector that passes
pub record IsAt (test : Sector → Bool) (d : List Sector) (i : ℕ) : Type 0 where
  pub s : Sector
  pub there : HasData d i s
  pub passes : test s ≡ true

-- the sectors of the pages below page n, from the highest down
abbrev pub ArePagesDown : List Sector → ℕ → ℕ → List ℕ → Type 0
ArePagesDown d id n [] = Unit {0}
ArePagesDown d id zero (i ∷ is) = ⊥
ArePagesDown d id (suc n) (i ∷ is) = IsAt (is_page id n) d i × ArePagesDown d id n is

-- the sectors of the pages from page n up, none of them with the leader's number
abbrev pub ArePagesUp : List Sector → ℕ → ℕ → List ℕ → Type 0
ArePagesUp d id n [] = Unit {0}
ArePagesUp d id n (i ∷ is) = (n ≢ leader_page) × IsAt (is_page id n) d i × ArePagesUp d id (n + 1) is

-- with so many pages of zeros more
abbrev pub lengthened : ℕ → File → File
lengthened k f = record f { pages = f.pages ++ replicate k zero_page }

-- with so many pages fewer
abbrev pub shortened : ℕ → File → File
shortened k f = record f { pages = take (size f - k) f.pages }

module _ (with_temporary : Bool) (serial counter : ℕ) where
  -- of a growth, after k writes: the file has k pages more
  abbrev pub GrowthCrashStates : Type 0
  GrowthCrashStates = (d : List Sector) (id kind : ℕ) (f : File) (is : List ℕ) → FilesRight with_temporary serial counter d → disk_file with_temporary d id ≡ Some f → AreUnused d is
      → length is + total_room (files_among with_temporary d) ≤ capacity (length d) → (k : ℕ) → k ≤ length is
      → Changed with_temporary serial counter d (crash_state d (growth id kind (size f) is) k) id (Some (lengthened k f))

  -- of a creation, after the leader and k pages: the file has k pages
  abbrev pub CreationCrashStates : Type 0
  CreationCrashStates = (d : List Sector) (id kind leader : ℕ) (is : List ℕ) → FilesRight with_temporary serial counter d → leads_file with_temporary id (page_label id kind leader_page, zero_bytes) ≡ true
      → ((j : ℕ) (u : Sector) → slice_get (data_sectors d) j ≡ Some u → is_of id u ≡ false) → (id / 2 ^ 32 ≡ serial → id % 2 ^ 32 < counter)
      → AreUnused d (leader ∷ is) → suc (length is) + total_room (files_among with_temporary d) ≤ capacity (length d) → (k : ℕ) → k ≤ length is
      → Changed with_temporary serial counter d (crash_state d (creation id kind leader is) (suc k)) id
      (Some (record { id = id; kind = kind; permanent = false; immutable = false; pages = replicate k zero_page }))

  -- of a shrinking, after k writes: the file has k pages fewer
  abbrev pub ShrinkingCrashStates : Type 0
  ShrinkingCrashStates = (d : List Sector) (id : ℕ) (f : File) (is : List ℕ) → FilesRight with_temporary serial counter d → disk_file with_temporary d id ≡ Some f → ArePagesDown d id (size f) is
      → (k : ℕ) → k ≤ length is → Changed with_temporary serial counter d (crash_state d (freeing is) k) id (Some (shortened k f))

  -- of a deletion, after the leader and k pages: there is no such file
  abbrev pub DeletionCrashStates : Type 0
  DeletionCrashStates = (d : List Sector) (id leader : ℕ) (f : File) (is : List ℕ) → FilesRight with_temporary serial counter d → disk_file with_temporary d id ≡ Some f → IsAt (leads_file with_temporary id) d leader
      → ArePagesUp d id 0 is → (k : ℕ) → k ≤ length is → Changed with_temporary serial counter d (crash_state d (freeing (leader ∷ is)) (suc k)) id None

  -- of a creation whose leader doesn't count, in each crash state: there is no such file, and all others are as before
  abbrev pub CreationUnseen : Type 0
  CreationUnseen = (d : List Sector) (id kind leader : ℕ) (is : List ℕ) → FilesRight with_temporary serial counter d → disk_file with_temporary d id ≡ None
      → leads_file with_temporary id (page_label id kind leader_page, zero_bytes) ≡ false → AreUnused d (leader ∷ is) → length is < leader_page → (k : ℕ) → k ≤ suc (length is)
      → Changed with_temporary serial counter d (crash_state d (creation id kind leader is) k) id None

  -- what each run of writes does
  pub record RunLaws : Type 0 where
    pub creation_unseen : CreationUnseen
    pub growth_crash_states : GrowthCrashStates
    pub creation_crash_states : CreationCrashStates
    pub shrinking_crash_states : ShrinkingCrashStates
    pub deletion_crash_states : DeletionCrashStates

-- the sector that a write is made on
abbrev pub sector_of : DiskWrite → ℕ
sector_of (Whole sector label page) = sector
sector_of (LabelOnly sector label) = sector
sector_of (Page sector wanted page) = sector

-- writes of data sectors, in each crash state, leave root and maps: only the files' labels count
abbrev pub DataRuns : Bool → Type 0
DataRuns with_temporary = (d : List Sector) (writes : List DiskWrite) (k : ℕ) → RightFor with_temporary d → AllByRecursion (λ write. first_data (length d) ≤ sector_of write) writes
    → FilesRight with_temporary (serial_of d) (counter_of d) (crash_state d writes k) → RightFor with_temporary (crash_state d writes k)

-- the label and the page of a write fit
abbrev pub IsWriteInForm : DiskWrite → Type 0
IsWriteInForm (Whole sector label page) = IsSector (label, page)
IsWriteInForm (LabelOnly sector label) = (page : List ℕ) → length page ≡ 512 → All (λ b. b < 256) page → IsSector (label, page)
IsWriteInForm (Page sector wanted page) = (length page ≡ 512) × All (λ b. b < 256) page

-- one write in form leaves sectors
abbrev pub SectorsStay : Type 0
SectorsStay = (d : List Sector) (write : DiskWrite) → AreSectors d → IsWriteInForm write → AreSectors (written write d)
