use Rattle.std.proofs.Common.{sym, to_z-of_z, arith}
use Rattle.pilot_c.proofs.session.pilot_halt.Goals as goal

pub returns : goal.returns
returns c = record {
  answer = c.abandon-halted.result;
  between = c.abandon-halted.new.self.engine;
  answered = rw (sym c.engine-handle.ensures.value) c.abandon-halted.ensures;
  gone = c.release.ensures;
  number_is = grind (arith, to_z-of_z);
}
