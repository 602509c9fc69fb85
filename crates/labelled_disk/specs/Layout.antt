-- Where the parts of a volume lie on a disk of n sectors.
use Rattle.std.specs.Prelude.{ℕ, ◌+◌, ◌-◌, ◌/◌, ◌≤◌, List, length, drop}
use Rattle.std.specs.Int.{div_ceil}
use Rattle.labelled_disk.specs.declared.layout.Layout.{Layout}
use Rattle.labelled_disk.specs.Sectors.{Sector}

-- so many sectors can hold a volume
abbrev pub IsCount : ℕ → Type 0
IsCount n = (256 ≤ n) × (n ≤ 1048576)

-- the sectors of the allocation map: a bit for each sector
abbrev pub vam : ℕ → ℕ
vam n = div_ceil n 4096

-- the sectors of the file map
abbrev pub vfm : ℕ → ℕ
vfm n = n / 8 + 2

-- the root, the allocation map and the file map come first; then the data sectors
unfoldable pub first_data : ℕ → ℕ
first_data n = 1 + vam n + vfm n

-- the data sectors that files may have, leaders among them; 96 are kept for the space tables
abbrev pub capacity : ℕ → ℕ
capacity n = n - 1 - vam n - vfm n - 96

abbrev pub layout_of : ℕ → Layout
layout_of n = record { sectors = n; vam = vam n; vfm = vfm n; first = 1 + vam n + vfm n; capacity = capacity n }

-- the data sectors of a disk
abbrev pub data_sectors : List Sector → List Sector
data_sectors d = drop (first_data (length d)) d
