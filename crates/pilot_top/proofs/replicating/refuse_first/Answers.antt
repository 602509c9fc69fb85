use Rattle.std.proofs.Common.{Option, sym, subst}
use Rattle.labelled_disk.specs.Calls.{Rose}
use Rattle.pilot_top.specs.Replicating.{PutsCause}
use Rattle.pilot_top.specs.declared.last.Cause.{Cause}
use Rattle.pilot_top.proofs.JudgedRootLemmas.{not_first}
use Rattle.pilot_top.proofs.replicating.refuse_first.Goals as goal

pub returns-in_default : goal.returns-in_default
returns-in_default g c =
    let apart = not_first c.args.why c.in_default.not-Disk in
    let new = c.put_last-in_default.new.sink in
    record {
      status = sym apart.0;
      line = subst (λ (o : Option Cause). PutsCause (Rose (g.K.Sink.faults c.args.sink.now) (g.K.Sink.faults new)) (g.K.Sink.took c.args.sink.now) (g.K.Sink.took new) o) (sym apart.1)
          c.put_last-in_default.ensures.put;
      later = c.put_last-in_default.ensures.later;
    }
