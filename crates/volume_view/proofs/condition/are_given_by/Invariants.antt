use Rattle.std.proofs.Common.{◌≡◌, ℕ, ◌<◌, Some}
use Rattle.std.specs.Prelude.{slice_get}
use Rattle.volume_view.specs.declared.files.FileLine.{FileLine}
use Rattle.volume_view.specs.Order.{IsGivenBy}
use Rattle.volume_view.proofs.condition.are_given_by.Given as goal

-- those of the files before this one were given out
abbrev pub invariant-loop-i : goal.invariant-loop-i
invariant-loop-i l = (k : ℕ) (line : FileLine) → k < l.i → slice_get l.files k ≡ Some line → IsGivenBy l.root line.id
