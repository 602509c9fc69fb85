use Rattle.filer_kernel.specs.View.{view_of}
use Rattle.fault_core.proofs.FindLemmas.{IsFinding, IsInHand}
use Rattle.fault_core.proofs.search.homes_of.Given as goal

-- the homes of the first pages were found, and the run at hand is one that the map gave
abbrev pub invariant-loop-k : goal.invariant-loop-k
invariant-loop-k g l = IsFinding (view_of l.fn.filer) l.fn.id l.fn.first l.fn.pages (view_of l.filer) l.homes l.k × IsInHand l.fn.id (view_of l.fn.filer) l.hand
