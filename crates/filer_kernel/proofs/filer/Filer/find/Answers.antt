use Rattle.std.proofs.Common.{rules, ◌≡◌, ℕ, ◌∙◌, sym, subst, inl, inr, Some, Err, [], ◌∷◌, ◌++◌, arith}
use Rattle.file_map.specs.Run.{holds, run_bytes}
use Rattle.file_map.specs.FileMap.{IsFound}
use Rattle.file_map.specs.Entries.{Entry}
use Rattle.swapper_kernel.specs.declared.manager.Manager.TheVariants.{FileMap}
use Rattle.swapper_kernel.specs.WindowLaws.{beside_itself, looked_itself}
use Rattle.filer_kernel.specs.Cached.{runs_of}
use Rattle.filer_kernel.specs.Causes.{IsGiven, MapShows}
use Rattle.filer_kernel.specs.Runs.{newest}
use Rattle.filer_kernel.specs.Triples.{AreOf, IsOneOf}
use Rattle.filer_kernel.proofs.KeptLemmas.{found_in, newest_kept, kept_or_newest, of_file, of_one, are_of_kept}
use Rattle.filer_kernel.proofs.RunLemmas.{of_volume}
use Rattle.filer_kernel.proofs.filer.Filer.find.Goals as goal

pub returns-in-Some-clause-found : goal.returns-in-Some-clause-found
returns-in-Some-clause-found g c = λ m named stands map are.
    let kept = found_in (λ r. holds r c.args.id c.args.page) (runs_of c.args.self.now.swapper.layout.sectors c.args.self.now.runs) c.in-Some.run' (sym (rw c.layout-sectors.ensures at c.find.ensures) ∙ c.in-Some.is) in
    (kept.1, of_one named _ c.in-Some.run' c.args.id c.args.page are kept.0 kept.1)

pub returns-in-Some-clause-form : goal.returns-in-Some-clause-form
returns-in-Some-clause-form g c =
    let kept = found_in (λ r. holds r c.args.id c.args.page) (runs_of c.args.self.now.swapper.layout.sectors c.args.self.now.runs) c.in-Some.run' (sym (rw c.layout-sectors.ensures at c.find.ensures) ∙ c.in-Some.is) in
    of_volume c.args.self.now.swapper.layout.sectors c.args.self.now.runs kept.0.0 c.in-Some.run' kept.0.1

pub returns-in-Some-clause-holds : goal.returns-in-Some-clause-holds
returns-in-Some-clause-holds g c = (found_in (λ r. holds r c.args.id c.args.page) (runs_of c.args.self.now.swapper.layout.sectors c.args.self.now.runs) c.in-Some.run' (sym (rw c.layout-sectors.ensures at c.find.ensures) ∙ c.in-Some.is)).1

pub returns-in-Some-clause-given : goal.returns-in-Some-clause-given
returns-in-Some-clause-given g c = inl (found_in (λ r. holds r c.args.id c.args.page) (runs_of c.args.self.now.swapper.layout.sectors c.args.self.now.runs) c.in-Some.run' (sym (rw c.layout-sectors.ensures at c.find.ensures) ∙ c.in-Some.is)).0

pub returns-in_err-found-clause-idle : goal.returns-in_err-found-clause-idle
returns-in_err-found-clause-idle g c = λ r found.
    let same : c.find.result ≡ Some r = (rw c.layout-sectors.ensures at c.find.ensures) ∙ found in
    absurd (c.in_default.not-Some r same)

pub returns-in-Some-found-clause-found : goal.returns-in-Some-found-clause-found
returns-in-Some-found-clause-found g c = λ m named stands map are.
    subst (IsFound named c.args.id c.args.page) c.in-Some-found.is (c.in_ok-found.ensures.found m named stands map)

pub returns-in-Some-found-clause-idle : goal.returns-in-Some-found-clause-idle
returns-in-Some-found-clause-idle g c = λ r found.
    let same : c.find.result ≡ Some r = (rw c.layout-sectors.ensures at c.find.ensures) ∙ found in
    absurd (c.in_default.not-Some r same)

pub returns-in_default-found-clause-found : goal.returns-in_default-found-clause-found
returns-in_default-found-clause-found g c = λ m named stands map are. c.in_ok-found.ensures.found m named stands map

pub returns-in_default-found-clause-idle : goal.returns-in_default-found-clause-idle
returns-in_default-found-clause-idle g c = λ r found.
    let same : c.find.result ≡ Some r = (rw c.layout-sectors.ensures at c.find.ensures) ∙ found in
    absurd (c.in_default.not-Some r same)

pub returns-in_default-found-clause-nowhere : goal.returns-in_default-found-clause-nowhere
returns-in_default-found-clause-nowhere g c = λ m named stands map none. subst (IsFound named c.args.id c.args.page) c.in_default-found.is (c.in_ok-found.ensures.found m named stands map)

pub returns-in_err-found-clause-fails : goal.returns-in_err-found-clause-fails
returns-in_err-found-clause-fails g c = record {
  sound = λ m named stands map labels.
      let same : c.from_residual.result ≡ Err c.in_err-found.field-0.0 = search rules in
      rw same (c.in_err-found.ensures.fails.sound m named stands map labels);
  right = λ m named stands map.
      let same : c.from_residual.result ≡ Err c.in_err-found.field-0.0 = search rules in
      rw same (c.in_err-found.ensures.fails.right m named stands map);
  cause =
      let same : c.from_residual.result ≡ Err c.in_err-found.field-0.0 = search rules in
      rw same c.in_err-found.ensures.fails.cause;
}

pub returns-in-Some-found-clause-keeps : goal.returns-in-Some-found-clause-keeps
returns-in-Some-found-clause-keeps g c = record {
  is_kept =
      let n = c.args.self.now.swapper.layout.sectors in
      let same : runs_of n c.keep.new.self ≡ newest 32 (runs_of n c.args.self.now.runs ++ c.in-Some-found.run' ∷ []) = search rules in
      subst (IsOneOf c.in-Some-found.run') (sym same) (newest_kept 32 (runs_of n c.args.self.now.runs) c.in-Some-found.run' (omega arith));
  runs_given = λ r one.
      let x = c.args.self.now.swapper.layout in
      let d = g.D.Disk.state c.args.self.now.swapper.disk in
      let s = c.args.self.now.swapper.pool in
      let kept = runs_of x.sectors c.args.self.now.runs in
      let same : runs_of x.sectors c.keep.new.self ≡ newest 32 (kept ++ c.in-Some-found.run' ∷ []) = search rules in
      let read : (page : ℕ) × MapShows x d s (Entry page (run_bytes c.in-Some-found.run')) = search rules in
      elim (kept_or_newest 32 kept c.in-Some-found.run' r (subst (IsOneOf r) same one)) [
        | inl was ↦ inl was
        | inr is ↦ subst (IsGiven x d s kept) is (inr read)
      ];
  runs_are = λ m named stands map are.
      let n = c.args.self.now.swapper.layout.sectors in
      let run = c.in-Some-found.run' in
      let same : runs_of n c.keep.new.self ≡ newest 32 (runs_of n c.args.self.now.runs ++ run ∷ []) = search rules in
      let found = subst (IsFound named c.args.id c.args.page) c.in-Some-found.is (c.in_ok-found.ensures.found m named stands map) in
      subst (AreOf named) (sym same) (are_of_kept named 32 (runs_of n c.args.self.now.runs) run are (of_file named run c.args.id c.args.page found.0 found.1));
}

pub returns-in-Some-clause-keeps : goal.returns-in-Some-clause-keeps
returns-in-Some-clause-keeps g c = record {
  is_kept = (found_in (λ r. holds r c.args.id c.args.page) (runs_of c.args.self.now.swapper.layout.sectors c.args.self.now.runs) c.in-Some.run' (sym (rw c.layout-sectors.ensures at c.find.ensures) ∙ c.in-Some.is)).0;
  runs_given = λ r one. inl one;
  runs_are = λ m named stands map are. are;
}

pub returns-in-Some-clause-leaves : goal.returns-in-Some-clause-leaves
returns-in-Some-clause-leaves g c = record {
  same = λ m named stands map. stands;
  same_bytes = λ b reveals. reveals;
  beside =
      let swapper = c.args.self.now.swapper in
      beside_itself FileMap (g.D.Disk.state swapper.disk) swapper.pool swapper.layout;
  looked =
      let swapper = c.args.self.now.swapper in
      looked_itself FileMap (g.D.Disk.state swapper.disk) swapper.pool swapper.layout;
}
