-- What writes make of the sectors of a disk.
use Rattle.std.specs.Prelude.{ℕ, if◌then◌else◌, List, fold, take, slice_get, slice_set}
use Rattle.std.specs.Option.{option_map_or}
use Rattle.labelled_disk.specs.declared.disk.DiskWrite.{DiskWrite}
use Rattle.labelled_disk.specs.declared.disk.DiskWrite.TheVariants.{Whole, LabelOnly, Page}
use Rattle.labelled_disk.specs.Label.{names}
use Rattle.labelled_disk.specs.Sectors.{Sector}

-- the sectors that one write makes of these: it is whole
abbrev pub written : DiskWrite → List Sector → List Sector
written (Whole sector label page) d = slice_set d sector (label, page)
written (LabelOnly sector label) d = option_map_or (λ old. slice_set d sector (label, old.1)) (slice_get d sector) d
written (Page sector wanted page) d =
    option_map_or (λ old. if names old.0 wanted then slice_set d sector (old.0, page) else d) (slice_get d sector) d

-- the sectors after the first k of these writes
abbrev pub crash_state : List Sector → List DiskWrite → ℕ → List Sector
crash_state d writes k = fold (λ now write. written write now) d (take k writes)
