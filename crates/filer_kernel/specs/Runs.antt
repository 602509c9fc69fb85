-- Lists of runs that were found.
use Rattle.std.specs.Prelude.{◌≡◌, ◌-◌, ℕ, List, length, drop, Some, slice_get}
use Rattle.file_map.specs.declared.run.Run.{Run}
use Rattle.file_map.specs.Run.{IsRun}

-- each is a run of a volume of n sectors
abbrev pub AreRunsOf : ℕ → List Run → Type 0
AreRunsOf n runs = (k : ℕ) (r : Run) → slice_get runs k ≡ Some r → IsRun n r

-- the last n, or all where there are no more
abbrev pub newest : ℕ → List Run → List Run
newest n runs = drop (length runs - n) runs
