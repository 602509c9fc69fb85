-- What sector states say of a disk, and what is so of a sector that stays.
use Rattle.std.specs.Prelude.{◌≡◌, ℕ, ◌+◌, ◌≤◌, true, false, List, length, slice_get, Some}
use Rattle.labelled_disk.specs.Label.{is_file, leader_page}
use Rattle.labelled_disk.specs.Layout.{first_data}
use Rattle.labelled_disk.specs.Sectors.{Sector}
use Rattle.labelled_disk.specs.WriteLaws.{HasData}
use Rattle.label_laws.specs.Counts.{needs_place, unneeded_sectors}
use Rattle.label_survey.specs.declared.sector_state.SectorState.{SectorState}
use Rattle.label_survey.specs.SectorStates.{AreSectorStates}
use Rattle.label_survey.specs.Survey.{is_freed, is_kept, places_by}

-- the sectors that are freed are all that are neither free nor needed
abbrev pub FreedAreUnneeded : Type 0
FreedAreUnneeded = (d : List Sector) (sector_states : List SectorState) → AreSectorStates d sector_states → places_by is_freed (first_data (length d)) sector_states ≡ unneeded_sectors false d

-- those that are kept are those that files need
abbrev pub KeptAreNeeded : Type 0
KeptAreNeeded = (d : List Sector) (sector_states : List SectorState) (j : ℕ) (x : SectorState) → AreSectorStates d sector_states → slice_get sector_states j ≡ Some x
    → is_kept x ≡ needs_place false d (first_data (length d) + j)

-- a sector that a file needs has the label of a file, as its leader or a page below
abbrev pub NeededAreFiles : Type 0
NeededAreFiles = (d : List Sector) (i : ℕ) (s : Sector) → HasData d i s → needs_place false d i ≡ true → (is_file s.0 ≡ true) × (s.0.page ≤ leader_page)
