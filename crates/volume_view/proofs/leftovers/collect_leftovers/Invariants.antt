use Rattle.volume_view.specs.Orphans.{AreOrphans}
use Rattle.volume_view.proofs.leftovers.collect_leftovers.Given as goal

-- the orphans before this sector are collected
abbrev pub invariant-loop-i : goal.invariant-loop-i
invariant-loop-i g l = record { orphans : AreOrphans l.first l.labels l.sector_states l.i l.triples.items }
