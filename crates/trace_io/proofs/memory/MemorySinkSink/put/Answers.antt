use Rattle.std.proofs.Common.{rules, inl, inr, refl, arith}
use Rattle.trace_io.proofs.memory.MemorySinkSink.put.Goals as goal
use Rattle.trace_io.proofs.memory.MemorySinkSink.put.Goals.{then-is_listed-via-then-is_listed, then-is_listed-via-else-is_listed+then-piece-self}

pub returns-then-is_listed-clause-fails : goal.returns-then-is_listed-clause-fails
returns-then-is_listed-clause-fails g c = (
  λ _. elim c.then-is_listed.branch [
    | then-is_listed-via-then-is_listed w ↦ inl (search rules)
    | then-is_listed-via-else-is_listed+then-piece-self w ↦ inr (omega (arith, w.if-piece-self.true))
  ],
  λ _. refl,
)
