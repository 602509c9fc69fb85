-- What one write makes of the files of a disk: of the permanent ones, or where `with_temporary` is set of the temporary ones too.
use Rattle.std.specs.Prelude.{◌≡◌, ◌≢◌, ℕ, suc, ◌+◌, ◌/◌, ◌%◌, ◌^◌, ◌<◌, ◌≤◌, Bool, true, false, List, [], ◌∷◌, ◌++◌, length, map, take, slice_get, slice_set, Option, Some, None, option_map}
use Rattle.labelled_disk.specs.Label.{is_file, is_permanent, is_immutable, leader_page}
use Rattle.labelled_disk.specs.Sectors.{Sector}
use Rattle.labelled_disk.specs.Layout.{capacity, data_sectors, first_data}
use Rattle.labelled_disk.specs.File.{File, Page, byte, file_at, size, room_of, total_room}
use Rattle.labelled_disk.specs.Ascending.{AreAscending}
use Rattle.labelled_disk.specs.FilesOn.{is_of, is_page, leads_file, file_by, files_among, disk_file}
use Rattle.labelled_disk.specs.Right.{IsWhole, IsGiven, FilesRight, OnlyMaps}

-- this data sector of the disk has this label and page
pub record HasData (d : List Sector) (i : ℕ) (s : Sector) : Type 0 where
  pub is_data : first_data (length d) ≤ i
  pub here : slice_get d i ≡ Some s

-- the sector is of no other file
abbrev pub IsOnlyOf : ℕ → Sector → Type 0
IsOnlyOf id s = (other : ℕ) → other ≢ id → is_of other s ≡ false

-- the file with these cells in the place of page k, if it has a page k
abbrev pub with_page : ℕ → Page → File → File
with_page k page f = record f { pages = slice_set f.pages k page }

-- the files are those of each identifier, in ascending order
pub record FilesAreThose (with_temporary : Bool) (d : List Sector) : Type 0 where
  pub rise : AreAscending (files_among with_temporary d)
  pub each : (id : ℕ) → file_at (files_among with_temporary d) id ≡ disk_file with_temporary d id

module _ (with_temporary : Bool) (serial counter : ℕ) where
  -- The file of one identifier is this now, all others are as they were, and the labels are right.
  pub record Changed (d e : List Sector) (id : ℕ) (now : Option File) : Type 0 where
    pub file : disk_file with_temporary e id ≡ now
    pub others : (other : ℕ) → other ≢ id → disk_file with_temporary e other ≡ disk_file with_temporary d other
    pub right : FilesRight with_temporary serial counter e

  -- all files are as they were, and the labels are right
  pub record Kept (d e : List Sector) : Type 0 where
    pub files : files_among with_temporary e ≡ files_among with_temporary d
    pub right : FilesRight with_temporary serial counter e

  -- a free sector becomes the leader of a file that has no sector
  abbrev pub FileCreated : Type 0
  FileCreated = (d : List Sector) (i : ℕ) (s t : Sector) (id : ℕ) → FilesRight with_temporary serial counter d → HasData d i s → is_file s.0 ≡ false → leads_file with_temporary id t ≡ true
      → ((j : ℕ) (u : Sector) → slice_get (data_sectors d) j ≡ Some u → is_of id u ≡ false)
      → (id / 2 ^ 32 ≡ serial → id % 2 ^ 32 < counter) → suc (total_room (files_among with_temporary d)) ≤ capacity (length d)
      → Changed d (slice_set d i t) id (Some (record { id = id; kind = t.0.kind; permanent = is_permanent t.0; immutable = is_immutable t.0; pages = [] }))

  -- bytes for page k of a file
  abbrev pub PageWritten : Type 0
  PageWritten = (d : List Sector) (i : ℕ) (s : Sector) (page : List ℕ) (id k : ℕ) → FilesRight with_temporary serial counter d → HasData d i s → is_page id k s ≡ true
      → Changed d (slice_set d i (s.0, page)) id (option_map (with_page k (map byte page)) (disk_file with_temporary d id))

  -- a label of a file that doesn't count comes or goes
  abbrev pub TemporaryWritten : Type 0
  TemporaryWritten = (d : List Sector) (i : ℕ) (s t : Sector) (id : ℕ) → FilesRight with_temporary serial counter d → HasData d i s → IsOnlyOf id s → IsOnlyOf id t
      → disk_file with_temporary d id ≡ None → leads_file with_temporary id t ≡ false → Kept d (slice_set d i t)

  -- a sector that is no file's gets the page after the last one
  abbrev pub FileGrown : Type 0
  FileGrown = (d : List Sector) (i : ℕ) (s t : Sector) (id : ℕ) (f : File) → FilesRight with_temporary serial counter d → HasData d i s → is_file s.0 ≡ false → is_page id (size f) t ≡ true
      → disk_file with_temporary d id ≡ Some f → suc (total_room (files_among with_temporary d)) ≤ capacity (length d)
      → Changed d (slice_set d i t) id (Some (record f { pages = f.pages ++ map byte t.1 ∷ [] }))

  -- the sector of the last page becomes no file's
  abbrev pub LastPageFreed : Type 0
  LastPageFreed = (d : List Sector) (i : ℕ) (s t : Sector) (id k : ℕ) (f : File) → FilesRight with_temporary serial counter d → HasData d i s → is_page id k s ≡ true → is_file t.0 ≡ false
      → disk_file with_temporary d id ≡ Some f → size f ≡ suc k → Changed d (slice_set d i t) id (Some (record f { pages = take k f.pages }))

  -- the sector of the leader becomes no file's
  abbrev pub LeaderFreed : Type 0
  LeaderFreed = (d : List Sector) (i : ℕ) (s t : Sector) (id : ℕ) (f : File) → FilesRight with_temporary serial counter d → HasData d i s → leads_file with_temporary id s ≡ true → is_file t.0 ≡ false
      → disk_file with_temporary d id ≡ Some f → Changed d (slice_set d i t) id None

  -- the leader of a file that didn't count gets the permanent bit
  abbrev pub MadePermanent : Type 0
  MadePermanent = (d : List Sector) (i : ℕ) (s t : Sector) (id : ℕ) → FilesRight with_temporary serial counter d → HasData d i s → is_of id s ≡ true → s.0.page ≡ leader_page → leads_file with_temporary id t ≡ true
      → disk_file with_temporary d id ≡ None → IsWhole (data_sectors d) (file_by (data_sectors d) t.0) → IsGiven serial counter (file_by (data_sectors d) t.0)
      → total_room (files_among with_temporary d) + room_of (file_by (data_sectors d) t.0) ≤ capacity (length d)
      → Changed d (slice_set d i t) id (Some (file_by (data_sectors d) t.0))

  -- the leader gets other marks
  abbrev pub LeaderMarked : Type 0
  LeaderMarked = (d : List Sector) (i : ℕ) (s t : Sector) (id : ℕ) (f : File) → FilesRight with_temporary serial counter d → HasData d i s → leads_file with_temporary id s ≡ true → leads_file with_temporary id t ≡ true → t.0.kind ≡ s.0.kind
      → disk_file with_temporary d id ≡ Some f → Changed d (slice_set d i t) id (Some (record f { permanent = is_permanent t.0; immutable = is_immutable t.0 }))

  -- the root or a sector of a map is written
  abbrev pub LowWritten : Type 0
  LowWritten = (d : List Sector) (i : ℕ) (t : Sector) → FilesRight with_temporary serial counter d → i < first_data (length d) → Kept d (slice_set d i t)

  -- a data sector is no file's, before and after
  abbrev pub PlainWritten : Type 0
  PlainWritten = (d : List Sector) (i : ℕ) (s t : Sector) → FilesRight with_temporary serial counter d → HasData d i s → is_file s.0 ≡ false → is_file t.0 ≡ false → Kept d (slice_set d i t)

  -- whatever stands in the maps
  abbrev pub MapsMayDiffer : Type 0
  MapsMayDiffer = (d e : List Sector) → OnlyMaps d e → FilesRight with_temporary serial counter d → Kept d e

  -- a volume may count on
  abbrev pub CounterRaised : Type 0
  CounterRaised = (d : List Sector) (later : ℕ) → counter ≤ later → FilesRight with_temporary serial counter d → FilesRight with_temporary serial later d

  -- what each kind of write does
  pub record WriteLaws : Type 0 where
    pub created : FileCreated
    pub page : PageWritten
    pub temporary : TemporaryWritten
    pub grown : FileGrown
    pub last_page : LastPageFreed
    pub leader : LeaderFreed
    pub appears : MadePermanent
    pub marked : LeaderMarked
    pub low : LowWritten
    pub plain : PlainWritten
    pub maps : MapsMayDiffer
    pub raised : CounterRaised
