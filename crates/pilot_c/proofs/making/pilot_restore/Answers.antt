use Rattle.std.proofs.Common.{sym, to_z-of_z, arith}
use Rattle.pilot_c.proofs.making.pilot_restore.Goals as goal

pub returns : goal.returns
returns c = record {
  answer = c.scavenge.result;
  answered = rw (sym c.engine.ensures.value) c.scavenge.ensures;
  number_is = grind (arith, to_z-of_z);
  report_is = c.report_with.ensures.report;
}
