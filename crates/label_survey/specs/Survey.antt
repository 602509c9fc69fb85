-- What a survey of a disk reveals: how many files and pages stay, how many sectors are freed, and which sectors are lost.
use Rattle.std.specs.Prelude.{◌≡◌, ℕ, ◌+◌, Bool, true, false, if◌then◌else◌, List, [], ◌∷◌, length}
use Rattle.labelled_disk.specs.Sectors.{Sector}
use Rattle.labelled_disk.specs.FilesOn.{files_on}
use Rattle.label_laws.specs.Counts.{total_pages, unneeded_sectors, lost_sectors}
use Rattle.label_survey.specs.declared.sector_state.SectorState.{SectorState}
use Rattle.label_survey.specs.declared.sector_state.SectorState.TheVariants.{Free, Orphan, Lost, Leader, Page}
use Rattle.label_survey.specs.declared.tally.Tally.{Tally}
use Rattle.label_survey.specs.SectorStates.{AreSectorStates}

abbrev pub is_leader : SectorState → Bool
is_leader Leader = true
is_leader Page = false
is_leader Free = false
is_leader Lost = false
is_leader Orphan = false

-- a page of a file that stays
abbrev pub is_kept_page : SectorState → Bool
is_kept_page Leader = false
is_kept_page Page = true
is_kept_page Free = false
is_kept_page Lost = false
is_kept_page Orphan = false

-- a file needs it
abbrev pub is_kept : SectorState → Bool
is_kept Leader = true
is_kept Page = true
is_kept Free = false
is_kept Lost = false
is_kept Orphan = false

-- it is freed
abbrev pub is_freed : SectorState → Bool
is_freed Leader = false
is_freed Page = false
is_freed Free = false
is_freed Lost = true
is_freed Orphan = true

abbrev pub is_lost : SectorState → Bool
is_lost Leader = false
is_lost Page = false
is_lost Free = false
is_lost Lost = true
is_lost Orphan = false

-- the sectors that pass, the first of them being sector n
abbrev pub places_by : (SectorState → Bool) → ℕ → List SectorState → List ℕ
places_by test n [] = []
places_by test n (x ∷ xs) = if test x then n ∷ places_by test (n + 1) xs else places_by test (n + 1) xs

-- how many are leaders, pages, and freed
pub record IsTally (sector_states : List SectorState) (tally : Tally) : Type 0 where
  pub files : (n : ℕ) → tally.files ≡ length (places_by is_leader n sector_states)
  pub pages : (n : ℕ) → tally.pages ≡ length (places_by is_kept_page n sector_states)
  pub freed : (n : ℕ) → tally.freed ≡ length (places_by is_freed n sector_states)

-- one sector more
abbrev pub counted : SectorState → Tally → Tally
counted Leader t = record t { files = t.files + 1 }
counted Page t = record t { pages = t.pages + 1 }
counted Free t = t
counted Lost t = record t { freed = t.freed + 1 }
counted Orphan t = record t { freed = t.freed + 1 }

-- as many as the files of a disk, as their pages, and as the sectors that are freed
pub record Tallies (d : List Sector) (tally : Tally) : Type 0 where
  pub files : tally.files ≡ length (files_on d)
  pub pages : tally.pages ≡ total_pages (files_on d)
  pub freed : tally.freed ≡ length (unneeded_sectors false d)

-- of a disk with these files: what each data sector is, the counts, and the freed sectors of files that stay, ascending
pub record Reveals (d : List Sector) (each : List SectorState) (tally : Tally) (places : List ℕ) : Type 0 where
  pub sector_states : AreSectorStates d each
  pub tallies : Tallies d tally
  pub lost : places ≡ lost_sectors false d
