use Rattle.std.proofs.Common.{sym, to_z-of_z, arith}
use Rattle.pilot_c.proofs.spaces.pilot_activate.Goals as goal

pub returns : goal.returns
returns c = record {
  answer = c.activate.result;
  called = rw (sym c.engine.ensures.value) c.activate.ensures;
  number_is = grind (arith, to_z-of_z);
}
