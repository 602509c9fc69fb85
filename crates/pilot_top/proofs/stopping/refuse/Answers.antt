use Rattle.pilot_top.proofs.StoppingLemmas.{not_opened}
use Rattle.pilot_top.proofs.stopping.refuse.Goals as goal

pub returns-in_default : goal.returns-in_default
returns-in_default g c = record {
  stops = not_opened c.args.fault c.in-Root.why c.args.sink.now c.put_last-in_default.new.sink _ c.in-Root.is c.in_default.not-Disk c.put_last-in_default.ensures.put;
  later = c.put_last-in_default.ensures.later;
}
