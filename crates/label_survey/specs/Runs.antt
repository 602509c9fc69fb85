-- Pages in a row that stand in sectors in a row.
use Rattle.std.specs.Prelude.{◌≡◌, ℕ, zero, suc, ◌+◌, ◌≤◌, Bool, ◌&&◌, ◌==◌, List, [], ◌∷◌, ◌++◌}
use Rattle.std.specs.List.{AllByRecursion}
use Rattle.label_survey.specs.declared.triples.Triple.{Triple}
use Rattle.label_survey.specs.declared.runs.Run.{Run}

-- n pages from this one on, in as many sectors
abbrev pub triples_in_row : ℕ → ℕ → ℕ → ℕ → List Triple
triples_in_row id page sector zero = []
triples_in_row id page sector (suc n) = record { id = id; page = page; sector = sector } ∷ triples_in_row id (page + 1) (sector + 1) n

abbrev pub triples_of : Run → List Triple
triples_of r = triples_in_row r.id r.first r.sector r.pages

-- page by page
abbrev pub all_triples : List Run → List Triple
all_triples [] = []
all_triples (r ∷ rs) = triples_of r ++ all_triples rs

abbrev pub IsLong : Run → Type 0
IsLong r = 1 ≤ r.pages

-- the same pages in the same sectors, in the same order, and no run is empty
pub record AreRunsOf (triples : List Triple) (runs : List Run) : Type 0 where
  pub same : all_triples runs ≡ triples
  pub long : AllByRecursion IsLong runs

-- one page alone
abbrev pub run_of : Triple → Run
run_of t = record { id = t.id; first = t.page; pages = 1; sector = t.sector }

-- the page after the run stands in the sector after it
abbrev pub goes_on : Run → Triple → Bool
goes_on r t = t.id == r.id && t.page == r.first + r.pages && t.sector == r.sector + r.pages
