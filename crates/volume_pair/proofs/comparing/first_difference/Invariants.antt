use Rattle.std.proofs.Common.{◌-◌}
use Rattle.filer_kernel.specs.View.{view_of}
use Rattle.volume_pair.proofs.CompareLemmas.{AreSameUpTo}
use Rattle.volume_pair.proofs.comparing.first_difference.Given as goal

-- the pages up to this one are the same
abbrev pub invariant-loop-page : goal.invariant-loop-page
invariant-loop-page g l = AreSameUpTo l.fn.id l.page (view_of l.fn.from) (view_of l.fn.to) (view_of l.from) (view_of l.to)

abbrev pub decreases-loop-page : goal.decreases-loop-page
decreases-loop-page g l = l.fn.pages - l.page
