use Rattle.std.proofs.Common.{sym, to_z-of_z, arith}
use Rattle.pilot_c.proofs.files.pilot_permanent.Goals as goal

pub returns : goal.returns
returns c = record {
  answer = c.make_permanent.result;
  called = rw (sym c.engine.ensures.value) c.make_permanent.ensures;
  number_is = grind (arith, to_z-of_z);
}
