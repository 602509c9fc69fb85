use Rattle.std.proofs.Common.{rules, ◌≡◌, refl}
use Rattle.swapper_kernel.specs.declared.manager.Manager.TheVariants.{FileMap}
use Rattle.swapper_kernel.proofs.WindowLemmas.{reveals_swapped}
use Rattle.filer_kernel.specs.TableLaws.{beside_tables_itself, looked_tables_itself}
use Rattle.filer_kernel.proofs.TableLemmas.{table_shown, table_there, table_shown_there, beside_fetched, looked_fetched, revealed_fetched, accounted_fetched, found_missing}
use Rattle.filer_kernel.proofs.filer.Filer.fetch_table_page.Goals as goal

pub returns-in-Some-clause-shown : goal.returns-in-Some-clause-shown
returns-in-Some-clause-shown g c = λ b reveals.
    let self = c.args.self.now in
    let found = c.in-Some.ensures.found in
    let has = rw c.frames.ensures at found.1 in
    (found.0, has, table_shown self.swapper.layout _ self.swapper.pool self.runs b c.args.page c.in-Some.slot found.0 c.requires.page reveals has found.2.0 found.2.1)

pub returns-clause-there : goal.returns-clause-there
returns-clause-there g c = table_there c.fetch.result c.fetch.new.self.pool c.in_ok-home.home c.args.page c.in_ok-home.ensures.found.table.of_tables c.in_ok-home.ensures.page c.fetch.ensures.there

pub returns-clause-shown : goal.returns-clause-shown
returns-clause-shown g c = λ b reveals.
    let after = c.fetch.new.self in
    let there = table_there c.fetch.result after.pool c.in_ok-home.home c.args.page c.in_ok-home.ensures.found.table.of_tables c.in_ok-home.ensures.page c.fetch.ensures.there in
    table_shown_there c.fetch.result after.layout _ after.pool c.table_home.new.self.runs b c.args.page c.requires.page
    (revealed_fetched c.in_ok-home.home c.in_ok-home.ensures.looks.kept c.in_ok-home.ensures.found c.args.self.now.swapper.accepted c.fetch.ensures.moves.swaps c.fetch.ensures.moves.brings c.fetch.ensures.layout c.in_ok-home.ensures.looks.same b reveals) there

pub returns-in_err-home-clause-idle : goal.returns-in_err-home-clause-idle
returns-in_err-home-clause-idle g c = λ i has. absurd (c.find.ensures.nowhere.0 c.in_default.is i has.0 (rw c.frames.ensures has.1) has.2.0 has.2.1)

pub returns-clause-idle : goal.returns-clause-idle
returns-clause-idle g c = λ i has. absurd (c.find.ensures.nowhere.0 c.in_default.is i has.0 (rw c.frames.ensures has.1) has.2.0 has.2.1)

pub returns-in-Some-clause-looks : goal.returns-in-Some-clause-looks
returns-in-Some-clause-looks g c = record {
  same = λ b reveals. reveals;
  error = search rules;
  missing = search rules;
  kept =
      let self = c.args.self.now in
      beside_tables_itself (g.D.Disk.state self.swapper.disk) self.swapper.pool self.swapper.layout self.runs;
  looked =
      let self = c.args.self.now in
      looked_tables_itself (g.D.Disk.state self.swapper.disk) self.swapper.pool self.swapper.layout self.runs;
  same_bytes = λ b reveals. reveals;
}

pub returns-clause-looks : goal.returns-clause-looks
returns-clause-looks g c = record {
  same =
      revealed_fetched c.in_ok-home.home c.in_ok-home.ensures.looks.kept c.in_ok-home.ensures.found c.args.self.now.swapper.accepted c.fetch.ensures.moves.swaps c.fetch.ensures.moves.brings c.fetch.ensures.layout c.in_ok-home.ensures.looks.same;
  error =
      accounted_fetched c.in_ok-home.home c.in_ok-home.ensures.looks.kept c.in_ok-home.ensures.found (g.D.Disk.state c.fetch.new.self.disk) c.fetch.result c.fetch.ensures.cause c.fetch.ensures.sound c.in_ok-home.ensures.stays
      (λ b reveals m stands. c.in_ok-home.ensures.named b reveals m stands);
  missing = found_missing (λ o. o ≡ c.in_ok-home.home) (g.D.Disk.state c.table_home.new.self.swapper.disk) c.table_home.new.self.swapper.pool (g.D.Disk.state c.fetch.new.self.disk) c.args.page c.fetch.result c.fetch.ensures.cause;
  kept =
      beside_fetched c.in_ok-home.home c.in_ok-home.ensures.looks.kept c.in_ok-home.ensures.found c.args.self.now.swapper.accepted c.fetch.ensures.moves.swaps c.fetch.ensures.moves.brings c.fetch.ensures.moves.steps c.fetch.ensures.layout;
  looked =
      looked_fetched c.in_ok-home.home c.in_ok-home.ensures.looks.looked c.in_ok-home.ensures.found c.args.self.now.swapper.accepted c.fetch.ensures.moves.swaps c.fetch.ensures.moves.brings c.fetch.ensures.moves.steps c.fetch.ensures.layout;
  same_bytes = λ b reveals. reveals_swapped FileMap refl c.fetch.ensures.moves.swaps b (c.in_ok-home.ensures.looks.same_bytes b reveals);
}
