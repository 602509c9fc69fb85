use Rattle.frame_pool.proofs.RunLemmas.{IsThereUpto}
use Rattle.frame_pool.proofs.chain.has_run.Given as goal

-- the first pages are there
abbrev pub invariant-loop-k : goal.invariant-loop-k
invariant-loop-k g l = IsThereUpto l.table.frames l.run.id l.run.first l.run.pages l.k
