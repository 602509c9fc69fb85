use Rattle.std.proofs.Common.{rules, ◌≡◌}
use Rattle.pair_session.proofs.ReplicationLemmas.{through_second}
use Rattle.pair_session.proofs.replication.replicate_on.Given as given
use Rattle.pair_session.proofs.replication.replicate_on.Goals as goal

-- the disk through the reference is the one that was handed back
to_after : (g : given.Over) (c : goal.After-to-1 g) → c.to-1.given.0 ≡ c.replicate_over-outcome.result.2.now
to_after g c = search rules

pub returns-clause-replicated : goal.returns-clause-replicated
returns-clause-replicated g c =
    rw (to_after g c) (through_second _ c.replicate_over-outcome.result.2.ghost_name (g.D.Disk.state c.args.from) (g.E.Disk.state c.args.to.now) (g.D.Disk.state c.replicate_over-outcome.result.1) (g.E.Disk.state c.replicate_over-outcome.result.2.now) c.replicate_over-outcome.result.0 _ _
    c.replicate_over-outcome.ensures.replicated)
