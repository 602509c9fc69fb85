-- The lines about a restoration.
use Rattle.std.specs.Prelude.{◌≡◌, ℕ, false, List, ◌++◌, codes, flat_map, length, map}
use Rattle.std.specs.Fmt.{decimal}
use Rattle.labelled_disk.specs.FilesOn.{files_on}
use Rattle.labelled_disk.specs.Sectors.{Sector}
use Rattle.flat_machine.specs.Text.{id_text}
use Rattle.label_laws.specs.Counts.{total_pages, unneeded_sectors, lost_sectors}
use Rattle.scavenger.specs.declared.report.Lost.{Lost}
use Rattle.scavenger.specs.declared.report.Report.{Report}
use Rattle.scavenger.specs.Reported.{lost_at, lost_in}

-- the line about a lost sector
abbrev pub lost_line : Lost → List ℕ
lost_line lost = codes "lost " ++ decimal lost.sector ++ codes " " ++ id_text lost.id ++ codes " " ++ decimal lost.page ++ codes "\n"

-- a line for each lost sector
abbrev pub lost_lines : List Lost → List ℕ
lost_lines lost = flat_map lost_line lost

-- the line of the counts: files and pages that stay, sectors that were freed, and those of them that were lost
abbrev pub count_line : ℕ → ℕ → ℕ → ℕ → List ℕ
count_line files pages freed lost = codes "scavenged " ++ decimal files ++ codes " " ++ decimal pages ++ codes " " ++ decimal freed ++ codes " " ++ decimal lost ++ codes "\n"

-- The text is a line for each of some sectors, and then a line of counts, the last of which is that of these sectors.
pub record IsReport (text : List ℕ) : Type 0 where
  pub lost : List Lost
  pub files : ℕ
  pub pages : ℕ
  pub freed : ℕ
  pub text_is : text ≡ lost_lines lost ++ count_line files pages freed (length lost)

-- the lines of a report
abbrev pub report_text : {A : Type 0} → Report A → List ℕ
report_text report = lost_lines (lost_in report) ++ count_line report.files report.pages report.freed (length (lost_in report))

-- the lines about a disk: its lost sectors, ascending, and then the counts
abbrev pub restored_text : List Sector → List ℕ
restored_text g =
    lost_lines (map (lost_at g) (lost_sectors false g))
    ++ count_line (length (files_on g)) (total_pages (files_on g)) (length (unneeded_sectors false g)) (length (lost_sectors false g))
