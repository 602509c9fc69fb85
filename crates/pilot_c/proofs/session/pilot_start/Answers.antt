use Rattle.std.proofs.Common.{sym, to_z-of_z, arith}
use Rattle.pilot_c.proofs.session.pilot_start.Goals as goal

pub returns : goal.returns
returns c = record {
  answer = c.open.result;
  answered = rw (sym c.engine.ensures.value) c.open.ensures;
  number_is = grind (arith, to_z-of_z);
}
