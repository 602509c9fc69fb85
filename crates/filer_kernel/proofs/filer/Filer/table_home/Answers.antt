use Rattle.std.proofs.Common.{rules, ◌≡◌, ℕ, List, Ok, Err, None, Some}
use Rattle.labelled_disk.specs.Sectors.{Sector}
use Rattle.file_map.specs.Run.{sector_at}
use Rattle.file_map.specs.FileMap.{IsFound}
use Rattle.swapper_kernel.specs.Stands.{Stands}
use Rattle.filer_kernel.specs.Cached.{runs_of}
use Rattle.filer_kernel.specs.Tables.{BesideTables, LookedTables, TablesReveal}
use Rattle.filer_kernel.specs.TableOnce.{map_over, tables_stay}
use Rattle.filer_kernel.proofs.FoundLemmas.{memory_stays, beside_found, looked_found, accounted_found, accounted_missing, none_missing, found_home, found_named}
use Rattle.filer_kernel.proofs.filer.Filer.table_home.Given as given
use Rattle.filer_kernel.proofs.filer.Filer.table_home.Goals as goal
use Rattle.filer_kernel.proofs.filer.Filer.table_home.Goals.{After-find}

-- ---- After the search.

stays : (g : given.Over) (c : After-find g) → (m : List Sector) → Stands (g.D.Disk.state c.args.self.now.swapper.disk) c.args.self.now.swapper.pool m → Stands (g.D.Disk.state c.find.new.self.swapper.disk) c.find.new.self.swapper.pool m
stays g c =
    let self = c.args.self.now in
    memory_stays self.swapper.accepted c.requires.size (g.met.D.Disk.whole self.swapper.disk) (g.met.D.Disk.in_form self.swapper.disk) c.requires.pages c.find.ensures.leaves.beside c.find.ensures.leaves.same_bytes

same : (g : given.Over) (c : After-find g) → (b : List ℕ) → TablesReveal (g.D.Disk.state c.args.self.now.swapper.disk) c.args.self.now.swapper.pool c.args.self.now.swapper.layout c.args.self.now.runs b
    → TablesReveal (g.D.Disk.state c.find.new.self.swapper.disk) c.find.new.self.swapper.pool c.find.new.self.swapper.layout c.find.new.self.runs b
same g c = λ b reveals. tables_stay c.find.ensures.leaves.beside.layout c.find.ensures.leaves.beside.goes.makes.went.sectors (λ m named stands map. stays g c m stands) c.find.ensures.keeps.runs_are b reveals
    (map_over c.args.self.now.swapper.layout reveals.triples c.find.ensures.leaves.beside.brings)

kept : (g : given.Over) (c : After-find g)
    → BesideTables (g.D.Disk.state c.args.self.now.swapper.disk) c.args.self.now.swapper.pool c.args.self.now.swapper.layout c.args.self.now.runs (g.D.Disk.state c.find.new.self.swapper.disk) c.find.new.self.swapper.pool c.find.new.self.swapper.layout c.find.new.self.runs
kept g c = beside_found c.find.ensures.leaves.beside (stays g c) c.find.ensures.keeps.runs_given c.find.ensures.keeps.runs_are

looked : (g : given.Over) (c : After-find g)
    → LookedTables (g.D.Disk.state c.args.self.now.swapper.disk) c.args.self.now.swapper.pool c.args.self.now.swapper.layout c.args.self.now.runs (g.D.Disk.state c.find.new.self.swapper.disk) c.find.new.self.swapper.pool c.find.new.self.swapper.layout c.find.new.self.runs
looked g c = looked_found c.find.ensures.leaves.looked c.find.ensures.keeps.runs_given c.find.ensures.keeps.runs_are

-- ---- It failed.

pub returns-in_err-run-clause-stays : goal.returns-in_err-run-clause-stays
returns-in_err-run-clause-stays g c = stays g (goal.at.returns-in_err-run-clause-stays g c).After-find

pub returns-in_default-clause-stays : goal.returns-in_default-clause-stays
returns-in_default-clause-stays g c = stays g (goal.at.returns-in_default-clause-stays g c).After-find

pub returns-clause-stays : goal.returns-clause-stays
returns-clause-stays g c = stays g (goal.at.returns-clause-stays g c).After-find

pub returns-clause-found : goal.returns-clause-found
returns-clause-found g c =
    let self = c.args.self.now in
    found_home self.swapper.layout _ self.swapper.pool (runs_of self.swapper.layout.sectors self.runs) c.in-Some.run' c.args.page self.swapper.accepted
    (rw c.in-Some.is at c.in_ok-run.ensures.given) (rw c.in-Some.is at c.in_ok-run.ensures.form) (rw c.in-Some.is at c.in_ok-run.ensures.holds)

pub returns-clause-named : goal.returns-clause-named
returns-clause-named g c = λ b reveals m stands.
    let self = c.args.self.now in
    let found : IsFound reveals.triples 3 c.args.page (Some c.in-Some.run') = rw c.in-Some.is at (c.in_ok-run.ensures.found reveals.memory reveals.triples reveals.stands reveals.map reveals.kept) in
    found_named self.swapper.layout _ self.swapper.pool self.runs b c.args.page (sector_at c.in-Some.run' c.args.page) c.requires.page reveals (found.1 c.args.page found.0) m stands

pub returns-in_err-run-clause-looks : goal.returns-in_err-run-clause-looks
returns-in_err-run-clause-looks g c = record {
  same = same g (goal.at.returns-in_err-run-clause-looks g c).After-find;
  error =
      let self = c.args.self.now in
      let failed : c.from_residual.result ≡ Err c.in_err-run.field-0.0 = search rules in
      rw failed (accounted_found self.swapper.layout _ _ self.swapper.pool self.runs c.in_err-run.field-0.0 c.in_err-run.ensures.fails.cause c.in_err-run.ensures.fails.sound);
  missing =
      let self = c.args.self.now in
      let failed : c.from_residual.result ≡ Err c.in_err-run.field-0.0 = search rules in
      rw failed (none_missing self.swapper.layout (g.D.Disk.state self.swapper.disk) (g.D.Disk.state c.find.new.self.swapper.disk) self.swapper.pool c.args.page c.in_err-run.field-0.0 c.in_err-run.ensures.fails.cause);
  kept = kept g (goal.at.returns-in_err-run-clause-looks g c).After-find;
  looked = looked g (goal.at.returns-in_err-run-clause-looks g c).After-find;
  same_bytes = c.find.ensures.leaves.same_bytes;
}

pub returns-in_default-clause-looks : goal.returns-in_default-clause-looks
returns-in_default-clause-looks g c = record {
  same = same g (goal.at.returns-in_default-clause-looks g c).After-find;
  error =
      let self = c.args.self.now in
      let none : c.find.result ≡ Ok None = search rules in
      accounted_missing self.swapper.layout _ _ self.swapper.pool self.runs c.args.page c.requires.page (λ m named stands map. c.find.ensures.nowhere m named stands map none);
  missing = search rules;
  kept = kept g (goal.at.returns-in_default-clause-looks g c).After-find;
  looked = looked g (goal.at.returns-in_default-clause-looks g c).After-find;
  same_bytes = c.find.ensures.leaves.same_bytes;
}

pub returns-clause-looks : goal.returns-clause-looks
returns-clause-looks g c = record {
  same = same g (goal.at.returns-clause-looks g c).After-find;
  error = search rules;
  missing = search rules;
  kept = kept g (goal.at.returns-clause-looks g c).After-find;
  looked = looked g (goal.at.returns-clause-looks g c).After-find;
  same_bytes = c.find.ensures.leaves.same_bytes;
}
