use Rattle.std.proofs.Common.{◌≡◌, eqb, take}
use Rattle.std.specs.List.{list_any}
use Rattle.trace_io.proofs.adapters.has.Given as goal

-- whether the byte is among those so far
abbrev pub invariant-loop-b : goal.invariant-loop-b
invariant-loop-b l = l.any ≡ list_any (λ b. eqb b l.stop) (take l.b-index l.block)
