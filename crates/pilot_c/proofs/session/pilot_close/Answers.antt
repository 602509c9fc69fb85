use Rattle.std.proofs.Common.{sym, to_z-of_z, arith}
use Rattle.pilot_c.proofs.session.pilot_close.Goals as goal

pub returns : goal.returns
returns c = record {
  answer = c.close-closed.result;
  between = c.close-closed.new.self;
  answered = rw (sym c.engine.ensures.value) c.close-closed.ensures;
  gone = c.release.ensures;
  number_is = grind (arith, to_z-of_z);
}
