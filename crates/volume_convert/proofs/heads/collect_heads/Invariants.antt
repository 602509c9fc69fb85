use Rattle.std.proofs.Common.{◌≡◌, take}
use Rattle.volume_convert.specs.Heads.{heads_from}
use Rattle.volume_convert.proofs.heads.collect_heads.Given as goal

abbrev pub invariant-loop-i : goal.invariant-loop-i
invariant-loop-i g l = l.heads.items ≡ heads_from (take l.i l.labels) (take l.i l.sector_states)
