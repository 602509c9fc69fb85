use Rattle.std.proofs.Common.{arith, length-append, ℕ}
use Rattle.slow_machine.proofs.LoadLemmas.{loaded_more}
use Rattle.slow_machine.proofs.SlowMachine.bytes_at.Goals as goal

pub loop-k-preserved : goal.loop-k-preserved
loop-k-preserved g c = record {
  so_far = loaded_more c.args.self.now c.args.address c.loop-k.k _ _ _ _ _ _ c.loop-k.invariant.so_far c.from.ensures c.from-in-loop-k.ensures c.cell_at-cell.ensures c.unwrap_or.ensures c.append.ensures;
  counted = rw c.append.ensures (omega (arith, length-append {A = ℕ}, c.loop-k.invariant.counted));
}
