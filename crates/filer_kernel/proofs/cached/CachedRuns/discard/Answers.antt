use Rattle.std.proofs.Common.{rules, ◌==◌, not, sym, subst}
use Rattle.arrayvec.proofs.ArrayVecLemmas.{filter-from_retain}
use Rattle.filer_kernel.specs.Runs.{AreRunsOf}
use Rattle.filer_kernel.proofs.RunLemmas.{runs_filtered, left_of_volume}
use Rattle.filer_kernel.proofs.cached.CachedRuns.discard.Goals as goal

pub invariant_of-self : goal.invariant_of-self
invariant_of-self c =
    let left = filter-from_retain _ (λ r. not (r.id == c.args.id)) _ (λ x b f' y called. search rules) _ _ c.retain.ensures.filtered in
    record {
      form = subst (AreRunsOf c.args.self.now.sectors) (sym left) (runs_filtered c.args.self.now.sectors (λ r. not (r.id == c.args.id)) c.args.self.now.runs.items c.args.self.now.form);
      few = search rules;
    }

pub returns : goal.returns
returns c n =
    let left = filter-from_retain _ (λ r. not (r.id == c.args.id)) _ (λ x b f' y called. search rules) _ _ c.retain.ensures.filtered in
    left_of_volume (c.args.self.now.sectors == n) (λ r. not (r.id == c.args.id)) c.args.self.now.runs.items c.retain.new.self.items left
