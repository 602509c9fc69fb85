-- Where a page of a file stands, by runs.
use Rattle.std.specs.Prelude.{ℕ, ◌^◌, ◌<◌, List, Option, Some, None}
use Rattle.label_survey.specs.declared.triples.Triple.{Triple}
use Rattle.volume_view.specs.Names.{IsListed}

-- the page of the file is listed in this sector
abbrev pub IsPlaced : List Triple → ℕ → ℕ → ℕ → Type 0
IsPlaced ts id page sector = IsListed ts (record { id = id; page = page; sector = sector })

-- a sector in which the page of the file is listed; or it is listed in none, of those that have a number
abbrev pub IsPlace : List Triple → ℕ → ℕ → Option ℕ → Type 0
IsPlace ts id page (Some sector) = IsPlaced ts id page sector
IsPlace ts id page None = (sector : ℕ) → sector < 2 ^ 32 → IsPlaced ts id page sector → ⊥
