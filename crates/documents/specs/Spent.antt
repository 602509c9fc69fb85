-- How many windows the bytes of a document take.
use Rattle.std.specs.Prelude.{◌+◌, ◌-◌, ◌*◌, ◌%◌, ℕ}
use Rattle.std.specs.Int.{div_ceil}
use Rattle.labelled_disk.specs.declared.disk.Disk.{Ghosts}
use Rattle.embedded.specs.declared.engine.Engine.{Engine}
use Rattle.embedded.specs.Spending.{Spends}

-- as many as so many bytes fill, each as long as a buffer that is cut to whole pages
abbrev pub windows : ℕ → ℕ → ℕ
windows buffer bytes = div_ceil bytes (buffer - buffer % 512)

module _ {D A : Type 0} {G : Ghosts D} where
  -- so many calls and pages, and for so many bytes five calls a window and a page for each that they fill
  abbrev pub PutsWithin : ℕ → ℕ → ℕ → ℕ → Engine D A G → Engine D A G → Type 0
  PutsWithin calls pages buffer bytes old new = Spends (calls + 5 * windows buffer bytes) (pages + div_ceil bytes 512) old new
