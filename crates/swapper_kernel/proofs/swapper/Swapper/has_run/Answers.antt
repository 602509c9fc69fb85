use Rattle.swapper_kernel.proofs.LendLemmas.{same_swapper}
use Rattle.swapper_kernel.proofs.swapper.Swapper.has_run.Goals as goal

pub returns-clause-same : goal.returns-clause-same
returns-clause-same g c =
    let self = c.args.self.now in
    same_swapper self.disk self.pool c.has_run.new.self self.layout c.has_run.ensures.same _ self.accepted _ self.placed _ self.least

pub invariant_of-self : goal.invariant_of-self
invariant_of-self g c =
    let self = c.args.self.now in
    rw c.has_run.ensures.same (record { accepted = self.accepted; placed = self.placed; least = self.least })
