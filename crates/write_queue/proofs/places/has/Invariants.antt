use Rattle.std.proofs.Common.{◌≡◌, eqb, take}
use Rattle.std.specs.List.{list_any}
use Rattle.write_queue.proofs.places.has.Given as goal

-- whether the sector is among those so far
abbrev pub invariant-loop-other : goal.invariant-loop-other
invariant-loop-other l = l.any ≡ list_any (λ s. eqb s l.sector) (take l.other-index l.block)
