use Rattle.std.proofs.Common.{◌-◌}
use Rattle.file_manager.proofs.TablesMade.{AreTablesUpTo}
use Rattle.file_manager.proofs.tables.make_pages.Given as goal
use Rattle.filer_kernel.specs.View.{view_of}

-- the pages below this one are made
abbrev pub invariant-loop-page : goal.invariant-loop-page
invariant-loop-page g l =
    AreTablesUpTo l.page (view_of l.fn.filer).disk (view_of l.fn.filer).slots (view_of l.fn.filer).layout l.fn.filer.runs
    (view_of l.filer).disk (view_of l.filer).slots (view_of l.filer).layout l.filer.runs

abbrev pub decreases-loop-page : goal.decreases-loop-page
decreases-loop-page g l = 96 - l.page
