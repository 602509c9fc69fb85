-- The runs of a file map that stands in bytes.
use Rattle.std.specs.Prelude.{◌≡◌, ◌⊎◌, ℕ, zero, suc, ◌+◌, ◌<◌, ◌≤◌, List, map, length, slice_get, Option, Some, None}
use Rattle.labelled_disk.specs.Layout.{vfm}
use Rattle.page_tree.specs.Reveals.{RevealsTree}
use Rattle.file_map.specs.declared.run.Run.{Run}
use Rattle.file_map.specs.Run.{IsRun, run_bytes}
use Rattle.file_map.specs.FileMap.{AreRuns, run_at, no_run}
use Rattle.volume_view.specs.declared.stop.Stop.{Stop}
use Rattle.volume_view.specs.declared.stop.Stop.TheVariants.{NoMemory, Broken}

-- the bytes are a tree in form, whose records are those of these runs, which are in form on a volume of n sectors
pub record AreRunsOfMap (n : ℕ) (bytes : List ℕ) (runs : List Run) : Type 0 where
  pub listed : RevealsTree 24 12 (vfm n) (λ b. b ≡ bytes) (map run_bytes runs)
  pub form : AreRuns n runs

-- the run begins after the end of the other, by identifier and page
abbrev pub Follows : Run → Run → Type 0
Follows last run = (last.id < run.id) ⊎ ((last.id ≡ run.id) × (last.first + last.pages ≤ run.first))

-- the last of the first k runs
abbrev pub last_of : List Run → ℕ → Run
last_of runs zero = no_run
last_of runs (suc k) = run_at runs k

-- run k, or none where there are k runs
abbrev pub IsStep : List Run → ℕ → Option Run → Type 0
IsStep runs k (Some r) = (k < length runs) × (r ≡ run_at runs k)
IsStep runs k None = k ≡ length runs

-- a run that is there is in form
abbrev pub IsInForm : ℕ → Option Run → Type 0
IsInForm n (Some run) = IsRun n run
IsInForm n None = Unit {0}

-- each of these runs is in form
abbrev pub AreAllInForm : ℕ → List Run → Type 0
AreAllInForm n runs = (j : ℕ) (r : Run) → slice_get runs j ≡ Some r → IsRun n r

-- there was no memory, and no page breaks its form
abbrev pub IsNoMemory : Stop → Type 0
IsNoMemory NoMemory = Unit {0}
IsNoMemory (Broken page) = ⊥
