use Rattle.std.proofs.Common.{sym, to_z-of_z, arith}
use Rattle.pilot_c.proofs.spaces.pilot_protect.Goals as goal

pub returns : goal.returns
returns c = record {
  answer = c.protect.result;
  called = rw (sym c.engine.ensures.value) c.protect.ensures;
  number_is = grind (arith, to_z-of_z);
}
