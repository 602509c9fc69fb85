-- The writes of a conversion, in their order.
use Rattle.std.specs.Prelude.{ℕ, ◌-◌, ◌≤◌, Bool, not, ◌&&◌, List, [], ◌∷◌, ◌++◌, length, replicate}
use Rattle.labelled_disk.specs.declared.disk.DiskWrite.{DiskWrite}
use Rattle.labelled_disk.specs.declared.disk.DiskWrite.TheVariants.{Whole}
use Rattle.labelled_disk.specs.declared.label.Label.{Label}
use Rattle.labelled_disk.specs.Label.{is_free}
use Rattle.labelled_disk.specs.Layout.{data_sectors, first_data}
use Rattle.labelled_disk.specs.Runs.{freeing}
use Rattle.labelled_disk.specs.Sectors.{Sector}
use Rattle.labelled_disk.specs.WriteRuns.{after_writes}
use Rattle.label_laws.specs.Counts.{data_places}
use Rattle.old_files.specs.OldFiles.{is_old_needed}
use Rattle.old_files.specs.Placing.{old_leaders, spare_below, IsPlaced}

-- sector i is a page of an old file
abbrev pub needs_old : List Sector → ℕ → Bool
needs_old d i = is_old_needed (data_sectors d) (i - first_data (length d))

-- the data sectors that are freed: those that are neither free nor needed, ascending
abbrev pub old_unneeded : List Sector → List ℕ
old_unneeded d = data_places (λ i s. not (is_free s.0) && not (needs_old d i)) d

-- the data sectors that are free then, ascending
abbrev pub old_spare : List Sector → List ℕ
old_spare d = data_places (λ i s. not (needs_old d i)) d

-- each leader with a page of zeros, one in each of these sectors
abbrev pub leader_writes : List ℕ → List Label → List DiskWrite
leader_writes [] leaders = []
leader_writes (i ∷ sectors) [] = []
leader_writes (i ∷ sectors) (l ∷ leaders) = Whole i l (replicate 512 0) ∷ leader_writes sectors leaders

-- a free label for each freed sector, ascending; then the leaders, files in ascending identifiers, each on the lowest
-- sector that is free
abbrev pub first_writes : List Sector → List DiskWrite
first_writes d = freeing (old_unneeded d) ++ leader_writes (old_spare d) (old_leaders d)

-- where there is a sector for each, these writes place the leaders
abbrev pub FirstWritesPlace : Type 0
FirstWritesPlace = (d : List Sector) → first_data (length d) ≤ length d
    → length (old_leaders d) ≤ spare_below (data_sectors d) (length (data_sectors d))
    → IsPlaced (data_sectors d) (data_sectors (after_writes (first_writes d) d)) (old_leaders d)
