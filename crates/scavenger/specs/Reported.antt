-- What a report reveals of a disk.
use Rattle.std.specs.Prelude.{◌≡◌, ℕ, ◌-◌, false, List, length, map, slice_get}
use Rattle.std.specs.Option.{option_map_or}
use Rattle.labelled_disk.specs.declared.label.Label.{Label}
use Rattle.labelled_disk.specs.Sectors.{Sector}
use Rattle.labelled_disk.specs.FilesOn.{files_on}
use Rattle.label_laws.specs.Counts.{total_pages, unneeded_sectors, lost_sectors}
use Rattle.scavenger.specs.declared.report.Lost.{Lost}
use Rattle.scavenger.specs.declared.report.Report.{Report}

-- the sector with the identifier and the page of its label
abbrev pub lost_at : List Sector → ℕ → Lost
lost_at g sector = option_map_or (λ s. record { sector = sector; id = s.0.id; page = s.0.page }) (slice_get g sector) (record { sector = sector; id = 0; page = 0 })

-- the sector with what its label says, the first of these labels being that of sector `first`
abbrev pub labelled : ℕ → List Label → ℕ → Lost
labelled first labels sector = option_map_or (λ l. record { sector = sector; id = l.id; page = l.page }) (slice_get labels (sector - first)) (record { sector = sector; id = 0; page = 0 })

-- the list of lost sectors
abbrev pub lost_in : {A : Type 0} → Report A → List Lost
lost_in report = report.lost.items

-- how many files and pages stay, how many sectors are freed, and, ascending, which of these have the label of a file that stays
pub record Reports {A : Type 0} (g : List Sector) (report : Report A) : Type 0 where
  pub files : report.files ≡ length (files_on g)
  pub pages : report.pages ≡ total_pages (files_on g)
  pub freed : report.freed ≡ length (unneeded_sectors false g)
  pub lost : lost_in report ≡ map (lost_at g) (lost_sectors false g)
