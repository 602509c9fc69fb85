-- What a search for a page gives in a list of runs in ascending order.
use Rattle.std.specs.Prelude.{◌≡◌, ℕ, List, map, Option, Some, None}
use Rattle.flat_mem.specs.Order.{IsLastAtMost, NoneAtMost}
use Rattle.file_map.specs.declared.run.Run.{Run}
use Rattle.file_map.specs.Run.{key_bytes, run_bytes}
use Rattle.file_map.specs.FileMap.{run_at}
use Rattle.file_map.specs.Entries.{IsFirstAbove, NoneAbove}

-- the last run whose first page is at most this one, or none where there is no such run
abbrev pub IsLastRun : List Run → ℕ → ℕ → Option Run → Type 0
IsLastRun runs id page (Some r) = (i : ℕ) × IsLastAtMost 12 (map run_bytes runs) (key_bytes id page) i × (r ≡ run_at runs i)
IsLastRun runs id page None = NoneAtMost 12 (map run_bytes runs) (key_bytes id page)

-- the first run whose first page is above this one, or none where there is no such run
abbrev pub IsFirstRun : List Run → ℕ → ℕ → Option Run → Type 0
IsFirstRun runs id page (Some r) = (i : ℕ) × IsFirstAbove 12 (map run_bytes runs) (key_bytes id page) i × (r ≡ run_at runs i)
IsFirstRun runs id page None = NoneAbove 12 (map run_bytes runs) (key_bytes id page)
