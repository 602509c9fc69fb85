-- What the labels of a disk make of each data sector.
use Rattle.std.specs.Prelude.{◌≡◌, ℕ, ◌==◌, if◌then◌else◌, List, slice_get, option_map, false}
use Rattle.labelled_disk.specs.declared.label.Label.{Label}
use Rattle.labelled_disk.specs.Label.{is_free, leader_page}
use Rattle.labelled_disk.specs.Sectors.{Sector}
use Rattle.labelled_disk.specs.Layout.{data_sectors}
use Rattle.labelled_disk.specs.Lowest.{is_needed}
use Rattle.label_laws.specs.Counts.{is_of_some_file}
use Rattle.label_survey.specs.declared.sector_state.SectorState.{SectorState}
use Rattle.label_survey.specs.declared.sector_state.SectorState.TheVariants.{Free, Orphan, Lost, Leader, Page}

-- data sector i is a leader or a page that a permanent file needs; or it is free, or of a permanent file that doesn't need it, or none of these
abbrev pub sector_state : List Sector → ℕ → Sector → SectorState
sector_state d i s =
    if is_needed false (data_sectors d) i then (if s.0.page == leader_page then Leader else Page)
    else (if is_free s.0 then Free else (if is_of_some_file false d s then Lost else Orphan))

-- each data sector, counted from the first
abbrev pub AreSectorStates : List Sector → List SectorState → Type 0
AreSectorStates d sector_states = (i : ℕ) → slice_get sector_states i ≡ option_map (sector_state d i) (slice_get (data_sectors d) i)

-- what a label alone says
abbrev pub unclaimed : Label → SectorState
unclaimed l = if is_free l then Free else Orphan
