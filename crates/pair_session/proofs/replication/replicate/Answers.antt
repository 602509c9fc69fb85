use Rattle.std.proofs.Common.{rules, ◌≡◌}
use Rattle.pair_session.specs.Replicated.{Replicated, streams}
use Rattle.pair_session.proofs.ReplicationLemmas.{through_first}
use Rattle.pair_session.proofs.replication.replicate.Given as given
use Rattle.pair_session.proofs.replication.replicate.Goals as goal

-- the disk through the reference is the one that was handed back
from_after : (g : given.Over) (c : goal.After-from-1 g) → c.from-1.given.0 ≡ c.replicate_on-outcome.result.1.now
from_after g c = search rules

pub returns : goal.returns
returns g c =
    let r = through_first _ c.replicate_on-outcome.result.1.ghost_name (g.D.Disk.state c.args.from.now) (g.E.Disk.state c.args.to.now) (g.D.Disk.state c.replicate_on-outcome.result.1.now) (g.E.Disk.state c.replicate_on-outcome.new.to) c.replicate_on-outcome.result.0
    (streams (g.S.Source.left c.args.source.now) (g.S.Source.faults c.args.source.now) (g.K.Sink.took c.args.sink.now) (g.K.Sink.faults c.args.sink.now))
    (streams (g.S.Source.left c.replicate_on-outcome.new.source) (g.S.Source.faults c.replicate_on-outcome.new.source) (g.K.Sink.took c.replicate_on-outcome.new.sink) (g.K.Sink.faults c.replicate_on-outcome.new.sink)) c.replicate_on-outcome.ensures.replicated in
    record {
      replies = r.replies;
      texts = r.texts;
      judged = r.judged;
      from = rw (from_after g c) r.first;
      to = r.second;
      shown = rw (from_after g c) r.seen;
      reason = r.reason;
      kept = c.replicate_on-outcome.ensures.kept;
    }
