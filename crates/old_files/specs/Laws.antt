-- What writes make of the files of an old volume.
use Rattle.std.specs.Prelude.{◌≡◌, ◌⊎◌, ℕ, false, List, length, find, slice_get, option_map, Some}
use Rattle.labelled_disk.specs.declared.label.Label.{Label}
use Rattle.labelled_disk.specs.Label.{is_file, leader_page}
use Rattle.labelled_disk.specs.Layout.{data_sectors}
use Rattle.labelled_disk.specs.Sectors.{Sector}
use Rattle.labelled_disk.specs.File.{file_at}
use Rattle.labelled_disk.specs.FilesOn.{files_on, is_page, leader_among}
use Rattle.labelled_disk.specs.Ascending.{AreAscending}
use Rattle.old_files.specs.OldFiles.{files_old, old_file, head_among, is_old_needed}

pub record OldFilesAreThose (d : List Sector) : Type 0 where
  pub rise : AreAscending (files_old d)
  pub each : (id : ℕ) → file_at (files_old d) id ≡ old_file d id

-- the label is no page of an old file: it is no file's, or that of a leader
abbrev pub IsNoPage : Sector → Type 0
IsNoPage t = (is_file t.0 ≡ false) ⊎ (t.0.page ≡ leader_page)

-- Each sector is as it was; or no old file needed it, and it is no page of one now.
pub record OnlyUnneeded (xs ys : List Sector) : Type 0 where
  pub same_length : length ys ≡ length xs
  pub each : (i : ℕ) → (slice_get ys i ≡ slice_get xs i)
      ⊎ ((is_old_needed xs i ≡ false) × (t : Sector) × (slice_get ys i ≡ Some t) × IsNoPage t)

-- so all old files stay
abbrev pub OldFilesStay : Type 0
OldFilesStay = (d e : List Sector) → length e ≡ length d → OnlyUnneeded (data_sectors d) (data_sectors e)
    → files_old e ≡ files_old d

-- the same label as that of a leader
abbrev pub as_leader : Label → Label
as_leader l = record l { page = leader_page }

-- each old file has a leader with the type and the marks of its page 0, and none else has; and page 0 of a file is
-- nowhere else
pub record HaveLeaders (xs : List Sector) : Type 0 where
  pub leaders : (id : ℕ) → leader_among false xs id ≡ option_map (λ s. as_leader s.0) (head_among xs id)
  pub first_pages : (id : ℕ) → find (is_page id 0) xs ≡ head_among xs id

-- so the old files are the files of today
abbrev pub LeadersMakeFiles : Type 0
LeadersMakeFiles = (d : List Sector) → HaveLeaders (data_sectors d) → files_on d ≡ files_old d
