use Rattle.file_manager.proofs.DownTo.{IsFreedDownTo}
use Rattle.file_manager.proofs.shrinking.free_down.Given as goal
use Rattle.filer_kernel.specs.View.{view_of}

-- the pages down to this one are freed
abbrev pub invariant-loop-page : goal.invariant-loop-page
invariant-loop-page g l =
    IsFreedDownTo l.fn.id l.fn.from l.fn.end l.page (view_of l.fn.filer).disk (view_of l.fn.filer).slots (view_of l.fn.filer).layout l.fn.filer.runs
    (view_of l.filer).disk (view_of l.filer).slots (view_of l.filer).layout l.filer.runs

abbrev pub decreases-loop-page : goal.decreases-loop-page
decreases-loop-page g l = l.page
