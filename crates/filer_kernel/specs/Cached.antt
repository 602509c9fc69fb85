-- The runs that are kept of a volume.
use Rattle.std.specs.Prelude.{ℕ, ◌==◌, if◌then◌else◌, List, []}
use Rattle.file_map.specs.declared.run.Run.{Run}
use Rattle.filer_kernel.specs.declared.cached.CachedRuns.{CachedRuns}

-- those of a volume of n sectors
abbrev pub runs_of : ℕ → CachedRuns → List Run
runs_of n cached = if cached.sectors == n then cached.runs.items else []
