use Rattle.std.proofs.Common.{◌≡◌, sym, ◌∙◌, subst, Option, Some}
use Rattle.labelled_disk.specs.Calls.{Rose}
use Rattle.labelled_disk.specs.declared.evidence.Evidence.{Evidence}
use Rattle.pilot_top.specs.Last.{last_line, Puts}
use Rattle.pilot_top.specs.RunDisk.{halt_on}
use Rattle.pilot_top.specs.Stopping.{cause_of}
use Rattle.pilot_top.proofs.ending.stop_on.Goals as goal

pub returns-in-Some-clause-line : goal.returns-in-Some-clause-line
returns-in-Some-clause-line g c =
    let shown : g.D.RunDisk.shown c.args.disk.now ≡ Some c.in-Some.evidence = sym c.changed.ensures ∙ c.in-Some.is in
    subst (λ (o : Option Evidence). Puts (Rose (g.K.Sink.faults c.args.sink.now) (g.K.Sink.faults c.stop.new.sink)) (g.K.Sink.took c.args.sink.now) (g.K.Sink.took c.stop.new.sink) (last_line (cause_of (halt_on o c.args.halt)))) (sym shown) c.stop.ensures.line
