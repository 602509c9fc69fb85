use Rattle.std.proofs.Common.{sym, to_z-of_z, arith}
use Rattle.pilot_c.proofs.making.pilot_make.Goals as goal

pub returns : goal.returns
returns c = record {
  answer = c.format.result;
  answered = rw (sym c.engine.ensures.value) c.format.ensures;
  number_is = grind (arith, to_z-of_z);
}
