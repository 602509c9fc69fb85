-- The pages of the map: a page has the bits of 4,096 sectors.
use Rattle.std.specs.Prelude.{ℕ, ◌+◌, ◌-◌, ◌*◌, ◌/◌}
use Rattle.std.specs.Int.{div_ceil}

-- the first sector of the page after that of this one
abbrev pub first_sector_after : ℕ → ℕ
first_sector_after s = (s / 4096 + 1) * 4096

-- how many pages have the bits of so many sectors
abbrev pub pages_to : ℕ → ℕ
pages_to sectors = div_ceil sectors 4096

-- how many pages have the bits of the sectors from one up to another
abbrev pub pages_between : ℕ → ℕ → ℕ
pages_between from end = pages_to end - from / 4096
