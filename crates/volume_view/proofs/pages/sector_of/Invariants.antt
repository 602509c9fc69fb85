use Rattle.std.proofs.Common.{◌≡◌, ℕ, ◌<◌, Some, None}
use Rattle.std.specs.Prelude.{slice_get}
use Rattle.label_survey.specs.declared.runs.Run.{Run}
use Rattle.label_survey.specs.Runs.{triples_of}
use Rattle.volume_view.specs.Placed.{IsPlace}
use Rattle.volume_view.proofs.pages.sector_of.Given as goal

-- the page is in none of the runs before this one
abbrev pub invariant-loop-i : goal.invariant-loop-i
invariant-loop-i l = (k : ℕ) (r : Run) → k < l.i → slice_get l.runs k ≡ Some r → IsPlace (triples_of r) l.id l.page None
