use Rattle.std.proofs.Common.{sym, to_z-of_z, arith}
use Rattle.pilot_c.proofs.files.pilot_setsize.Goals as goal

pub returns : goal.returns
returns c = record {
  answer = c.set_size.result;
  called = rw (sym c.engine.ensures.value) c.set_size.ensures;
  number_is = grind (arith, to_z-of_z);
  numbers_are = c.reply_with.ensures.numbers;
}
