-- The data sectors once all that no old file needs is free, and each leader stands in the lowest free one.
use Rattle.std.specs.Prelude.{ℕ, zero, suc, ◌+◌, Bool, not, nat_lt, if◌then◌else◌, List, length, map, slice_get, slice_index_or, Option}
use Rattle.std.specs.List.{range_with_len}
use Rattle.std.specs.Option.{option_map_or}
use Rattle.labelled_disk.specs.declared.label.Label.{Label}
use Rattle.labelled_disk.specs.Sectors.{free_label}
use Rattle.label_survey.specs.declared.sector_state.SectorState.{SectorState}
use Rattle.label_survey.specs.declared.sector_state.SectorState.TheVariants.{Free, Leader, Page}
use Rattle.label_survey.specs.Survey.{is_freed, is_kept}

-- no old file needs it
abbrev pub is_spare : SectorState → Bool
is_spare x = not (is_kept x)

-- how many of the first so many are not kept
abbrev pub gaps_in : List SectorState → ℕ → ℕ
gaps_in sector_states zero = 0
gaps_in sector_states (suc i) = gaps_in sector_states i + (if is_kept (slice_index_or sector_states i Free) then 0 else 1)

-- the label of a sector, for which there may be a leader
abbrev pub settled_label : Option Label → SectorState → Label → Label
settled_label leader x l = if is_kept x then l else option_map_or (λ h. h) leader (if is_freed x then free_label else l)

abbrev pub settled_label_at : List Label → List SectorState → List Label → ℕ → Label
settled_label_at labels sector_states leaders i = settled_label (slice_get leaders (gaps_in sector_states i))
    (slice_index_or sector_states i Free) (slice_index_or labels i free_label)

-- all labels
abbrev pub settled_labels : List Label → List SectorState → List Label → List Label
settled_labels labels sector_states leaders = map (settled_label_at labels sector_states leaders)
    (range_with_len 0 (length labels))

-- what a sector is, for which there may be a leader
abbrev pub settled_sector_state : Bool → SectorState → SectorState
settled_sector_state led x = if is_kept x then Page else (if led then Leader else Free)

abbrev pub settled_sector_state_at : List SectorState → ℕ → ℕ → SectorState
settled_sector_state_at sector_states count i = settled_sector_state (nat_lt (gaps_in sector_states i) count)
    (slice_index_or sector_states i Free)

-- what each is, where there are so many leaders
abbrev pub settled_sector_states : List SectorState → ℕ → List SectorState
settled_sector_states sector_states count = map (settled_sector_state_at sector_states count) (range_with_len 0 (length sector_states))
