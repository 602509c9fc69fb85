use Rattle.pilot_engine.proofs.ShutLemmas.{on_of}
use Rattle.filer_kernel.specs.FailsLaws.{cause_in, counted_in, evidence_seen_in}
use Rattle.pilot_engine.proofs.session.Session.finish.Goals as goal

pub returns-clause-machine : goal.returns-clause-machine
returns-clause-machine g c = λ m r.
    let ends = c.close-closed.ensures.ends m r in
    rw c.into_disk.ensures (record { closed = ends.gives; sound = ends.sound; stops = ends.stops; syncs = c.close-closed.ensures.syncs m r; cost = c.close-closed.ensures.cost m r })

pub returns-clause-halts : goal.returns-clause-halts
returns-clause-halts g c =
    let r = c.close-closed.result in
    let fails = c.close-closed.ensures.fails in
    rw c.into_disk.ensures (record {
      cause = cause_in _ _ _ r fails;
      counted = counted_in _ _ _ r fails;
      evidence_seen = evidence_seen_in _ _ _ r fails;
      left_open = c.close-closed.ensures.left_open;
    })

pub returns-clause-accounts : goal.returns-clause-accounts
returns-clause-accounts g c = λ o keeps. rw c.into_disk.ensures (record { reasons = c.close-closed.ensures.reasons o keeps; sees = c.close-closed.ensures.sees o keeps })

pub returns-clause-writes : goal.returns-clause-writes
returns-clause-writes g c = rw c.into_disk.ensures (record { wrote = on_of c.close-closed.ensures.wrote; spares = c.close-closed.ensures.spares; synced = c.close-closed.ensures.synced })
