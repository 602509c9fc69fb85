-- What a list of runs says: in which sector each page of each file stands.
use Rattle.std.specs.Prelude.{◌≡◌, ℕ, ◌+◌, ◌<◌, ◌≤◌, Bool, true, false, not, ◌&&◌, ◌||◌, ◌==◌, nat_le, List, length, map, get_or, Option, Some, None}
use Rattle.std.specs.List.{list_any}
use Rattle.labelled_disk.specs.Layout.{capacity}
use Rattle.file_map.specs.declared.run.Run.{Run}
use Rattle.file_map.specs.Run.{IsRun, holds, sector_at, run_bytes}

-- which triples of identifier, page and sector are named
abbrev pub Triples : Type 0
Triples = ℕ → ℕ → ℕ → Bool

-- those that a run names: a sector for each of its pages
abbrev pub run_names : Run → Triples
run_names r id page sector = holds r id page && (sector == sector_at r page)

-- those that some run of the list names
abbrev pub names_triple : List Run → Triples
names_triple runs id page sector = list_any (λ r. run_names r id page sector) runs

abbrev pub no_run : Run
no_run = record { id = 0; first = 0; pages = 0; sector = 0 }

abbrev pub run_at : List Run → ℕ → Run
run_at runs j = get_or runs j no_run

-- a record for each data sector: those of the files, and the 96 of the space tables
abbrev pub most_records : ℕ → ℕ
most_records n = capacity n + 96

-- the runs can be those of a volume of n sectors, and no two of them have one page of one file
pub record AreRuns (n : ℕ) (runs : List Run) : Type 0 where
  pub each : (j : ℕ) → j < length runs → IsRun n (run_at runs j)
  pub once : (j k id page : ℕ) → j < length runs → k < length runs → holds (run_at runs j) id page ≡ true → holds (run_at runs k) id page ≡ true → j ≡ k

-- Records that are listed are those of such runs, of which there are at most as many as data sectors, and name these triples. Whether two neighbours are one run or two is free
pub record AreNamed (n : ℕ) (lists : List (List ℕ) → Type 0) (named : Triples) : Type 0 where
  pub runs : List Run
  pub listed : lists (map run_bytes runs)
  pub form : AreRuns n runs
  pub few : length runs ≤ most_records n
  pub are : (id page sector : ℕ) → named id page sector ≡ names_triple runs id page sector

-- the triples of a map without records
abbrev pub no_triples : Triples
no_triples id page sector = false

-- the triples with those of a run added
abbrev pub with_run : Triples → Run → Triples
with_run named r id page sector = named id page sector || run_names r id page sector

-- the triples without those of the pages of a file from one on
abbrev pub without_from : Triples → ℕ → ℕ → Triples
without_from named file from id page sector = named id page sector && not ((id == file) && nat_le from page)

-- no page of the run is named
abbrev pub IsNew : Triples → Run → Type 0
IsNew named r = (page sector : ℕ) → holds r r.id page ≡ true → named r.id page sector ≡ false

-- the page has no sector
abbrev pub IsNowhere : Triples → ℕ → ℕ → Type 0
IsNowhere named id page = (sector : ℕ) → named id page sector ≡ false

-- the run has the page, and is what is named for each of its pages; or the page has no sector
abbrev pub IsFound : Triples → ℕ → ℕ → Option Run → Type 0
IsFound named id page (Some r) = (holds r id page ≡ true) × ((p : ℕ) → holds r id p ≡ true → named id p (sector_at r p) ≡ true)
IsFound named id page None = IsNowhere named id page

-- one more than the highest page of the file below 4,294,967,295, the number of its leader, or 0 where it has none
pub record IsSize (named : Triples) (id size : ℕ) : Type 0 where
  pub below : size ≤ 4294967295
  pub highest : (page sector : ℕ) → named id page sector ≡ true → page < 4294967295 → page < size
  pub reached : (page : ℕ) → page + 1 ≡ size → (sector : ℕ) × (named id page sector ≡ true)

-- the least identifier above this one and at least 16 of which a page is named, or none where there is none
abbrev pub IsNext : Triples → ℕ → Option ℕ → Type 0
IsNext named id (Some next) =
    (id < next) × (16 ≤ next) × ((page : ℕ) × (sector : ℕ) × (named next page sector ≡ true))
    × ((other page sector : ℕ) → id < other → 16 ≤ other → named other page sector ≡ true → next ≤ other)
IsNext named id None = (other page sector : ℕ) → id < other → 16 ≤ other → named other page sector ≡ false
