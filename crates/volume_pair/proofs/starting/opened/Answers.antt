use Rattle.std.proofs.Common.{refl, sym, subst}
use Rattle.labelled_disk.specs.Layout.{IsCount}
use Rattle.volume_pair.proofs.StartLemmas.{accepted_there, right_so, root_there}
use Rattle.volume_pair.proofs.starting.opened.Goals as goal

pub returns-in-Err-clause-read : goal.returns-in-Err-clause-read
returns-in-Err-clause-read g c = λ d revealed.
    right_so d (g.D.Disk.state c.args.disk.now).sectors (g.met.D.Disk.whole c.args.disk.now d revealed) c.read_root.result c.read_root.ensures.count (λ count. c.read_root.ensures.judged count d revealed) c.in-Err.why c.in-Err.is

pub returns-in-Ok-of-clause-read : goal.returns-in-Ok-of-clause-read
returns-in-Ok-of-clause-read g c = λ d revealed.
    let long = g.met.D.Disk.whole c.args.disk.now d revealed in (
      root_there d (g.D.Disk.state c.args.disk.now).sectors long c.read_root.result c.read_root.ensures.count (λ count. c.read_root.ensures.judged count d revealed) c.in-Ok.root c.in-Ok.is c.in-Ok.ensures.valid.accepted,
      accepted_there d (g.D.Disk.state c.args.disk.now).sectors long c.read_root.result c.read_root.ensures.count (λ count. c.read_root.ensures.judged count d revealed) c.in-Ok.root c.in-Ok.is c.in-Ok.ensures.valid.accepted,
    )

pub returns-in-Ok-of-clause-laid : goal.returns-in-Ok-of-clause-laid
returns-in-Ok-of-clause-laid g c = rw c.in-Ok-of.ensures.layout.1 ((subst IsCount (sym c.in-Ok.ensures.valid.count) c.in-Ok.ensures.valid.accepted, refl), c.in-Ok.ensures.valid.count)

pub returns-in-Err-of-clause-read : goal.returns-in-Err-of-clause-read
returns-in-Err-of-clause-read g c = λ d revealed. absurd (c.in-Err-of.ensures.refused.0 (subst IsCount (sym c.in-Ok.ensures.valid.count) c.in-Ok.ensures.valid.accepted))

pub returns-in-Err-of-clause-counted : goal.returns-in-Err-of-clause-counted
returns-in-Err-of-clause-counted g c = λ is. absurd (c.in-Err-of.ensures.refused.0 (subst IsCount (sym c.in-Ok.ensures.valid.count) c.in-Ok.ensures.valid.accepted))
