-- A maker of calls, and which of them comes next.
use Rattle.std.specs.Prelude.{◌≡◌, ℕ, ◌*◌}
use Rattle.trace_maker.specs.declared.maker.TraceMaker.{TraceMaker}
use Rattle.trace_maker.specs.Drawn.{number}

-- the next call is that of this index
abbrev pub IsAt : TraceMaker → ℕ → ℕ → Type 0
IsAt maker seed index = maker.drawn ≡ number seed (3 * index)
