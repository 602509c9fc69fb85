use Rattle.std.proofs.Common.{sym, to_z-of_z, arith}
use Rattle.pilot_c.proofs.spaces.pilot_kill.Goals as goal

pub returns : goal.returns
returns c = record {
  answer = c.kill.result;
  called = rw (sym c.engine.ensures.value) c.kill.ensures;
  number_is = grind (arith, to_z-of_z);
}
