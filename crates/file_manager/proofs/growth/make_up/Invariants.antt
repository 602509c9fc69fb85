use Rattle.std.proofs.Common.{◌-◌}
use Rattle.file_manager.proofs.UpTo.{IsUpTo}
use Rattle.file_manager.proofs.growth.make_up.Given as goal
use Rattle.filer_kernel.specs.View.{view_of}

-- the pages up to this one are made
abbrev pub invariant-loop-page : goal.invariant-loop-page
invariant-loop-page g l =
    IsUpTo l.fn.clears l.fn.id l.fn.kind l.fn.from l.fn.end l.page (view_of l.fn.filer).disk (view_of l.fn.filer).slots (view_of l.fn.filer).layout l.fn.filer.runs
    (view_of l.filer).disk (view_of l.filer).slots (view_of l.filer).layout l.filer.runs

abbrev pub decreases-loop-page : goal.decreases-loop-page
decreases-loop-page g l = l.end - l.page
