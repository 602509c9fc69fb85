use Rattle.std.proofs.Common.{ap}
use Rattle.pair_session.specs.Pairs.{shown}
use Rattle.pair_session.proofs.ClosingLemmas.{finishes_done, finishes_halted, finishes_unheard}
use Rattle.pair_session.proofs.closing.close.Goals as goal

pub returns-in-Err-clause-finishes : goal.returns-in-Err-clause-finishes
returns-in-Err-clause-finishes g c =
    let f = c.finish-ended.ensures in
    finishes_halted (shown c.args.pair) c.finish-ended.result.0 _ (g.E.Disk.state c.finish-ended.result.2) f.closed f.crash_states (ap (λ x. g.D.Disk.state x) f.from) f.to c.in-Err.halt c.in-Err.is f.why

pub returns-in-Ok-write_pair-clause-finishes : goal.returns-in-Ok-write_pair-clause-finishes
returns-in-Ok-write_pair-clause-finishes g c =
    let f = c.finish-ended.ensures in
    finishes_done (shown c.args.pair) c.finish-ended.result.0 _ (g.E.Disk.state c.finish-ended.result.2) f.closed f.crash_states (ap (λ x. g.D.Disk.state x) f.from) f.to c.in-Ok.is

pub returns-in-Err-write_pair-clause-finishes : goal.returns-in-Err-write_pair-clause-finishes
returns-in-Err-write_pair-clause-finishes g c =
    let f = c.finish-ended.ensures in
    finishes_unheard (shown c.args.pair) c.finish-ended.result.0 _ (g.E.Disk.state c.finish-ended.result.2) f.closed f.crash_states (ap (λ x. g.D.Disk.state x) f.from) f.to c.in-Ok.is
