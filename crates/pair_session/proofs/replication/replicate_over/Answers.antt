use Rattle.std.proofs.Common.{ap}
use Rattle.pair_session.specs.Pairs.{shown}
use Rattle.pair_session.proofs.ReplicationLemmas.{carried, not_started}
use Rattle.pair_session.proofs.WroteLemmas.{only_reads}
use Rattle.pair_session.proofs.replication.replicate_over.Goals as goal

pub returns-in-Ok-clause-replicated : goal.returns-in-Ok-clause-replicated
returns-in-Ok-clause-replicated g c =
    let o = c.in-Ok.ensures in
    carried (g.D.Disk.state c.args.from) (g.E.Disk.state c.args.to) c.answer_pair.ensures.carries (only_reads o.from) o.to o.stands o.root o.refused

pub returns-in-Err-clause-replicated : goal.returns-in-Err-clause-replicated
returns-in-Err-clause-replicated g c =
    let o = c.in-Err.ensures in
    not_started c.in-Err.why (g.D.Disk.state c.args.from) (g.E.Disk.state c.args.to) _ _ _ (only_reads o.from) o.to o.stands o.refused o.counted
