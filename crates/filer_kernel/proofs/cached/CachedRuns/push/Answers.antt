use Rattle.std.proofs.Common.{rules, ◌≡◌, ◌++◌, ◌∷◌, []}
use Rattle.filer_kernel.specs.Runs.{newest}
use Rattle.filer_kernel.proofs.RunLemmas.{newest_runs}
use Rattle.filer_kernel.proofs.cached.CachedRuns.push.Goals as goal

pub invariant_of-self : goal.invariant_of-self
invariant_of-self c =
    let same : c.push.new.self.items ≡ newest 32 (c.args.self.now.runs.items ++ c.args.run ∷ []) = search rules in
    record { form = newest_runs c.args.self.now.sectors 32 _ _ c.args.run same c.args.self.now.form c.requires; few = search rules }
