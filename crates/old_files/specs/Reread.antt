-- The labels of an old volume, read as those of today: page 0 stands where the leader does, and each page where the
-- one before does.
use Rattle.std.specs.Prelude.{◌≡◌, ℕ, zero, suc, ◌+◌, ◌<◌, false, nat_le, if◌then◌else◌, List, length, map, find, option_map, Some}
use Rattle.labelled_disk.specs.declared.label.Label.{Label}
use Rattle.labelled_disk.specs.Label.{leader_page}
use Rattle.labelled_disk.specs.Sectors.{Sector}
use Rattle.labelled_disk.specs.File.{size}
use Rattle.labelled_disk.specs.FilesOn.{file_among, leads_file, page_at, pages_from}
use Rattle.labelled_disk.specs.Lowest.{is_needed}
use Rattle.old_files.specs.OldFiles.{old_file_among, is_old_needed, head_among}

-- the page before; that before page 0 is the leader's
abbrev pub page_before : ℕ → ℕ
page_before zero = leader_page
page_before (suc p) = if nat_le (suc p) leader_page then p else suc p

abbrev pub label_before : Label → Label
label_before l = record l { page = page_before l.page }

abbrev pub reread : Sector → Sector
reread s = (label_before s.0, s.1)

-- each sector so
abbrev pub all_reread : List Sector → List Sector
all_reread xs = map reread xs

-- each file has fewer pages than there are numbers
abbrev pub IsShort : List Sector → Type 0
IsShort xs = (id : ℕ) (h : Sector) → head_among xs id ≡ Some h
    → length (pages_from (page_at (all_reread xs) id) 0 leader_page) < leader_page

-- So read, a file has its page 0 as its leader, one page fewer, and needs the same sectors.
pub record RereadLaws (xs : List Sector) : Type 0 where
  pub leader : (id : ℕ) → find (leads_file false id) (all_reread xs) ≡ option_map reread (head_among xs id)
  pub needed : (i : ℕ) → is_needed false (all_reread xs) i ≡ is_old_needed xs i
  pub room : (id : ℕ) → option_map (λ f. size f + 1) (file_among false (all_reread xs) id)
      ≡ option_map size (old_file_among xs id)

abbrev pub RereadAsToday : Type 0
RereadAsToday = (xs : List Sector) → IsShort xs → RereadLaws xs
