use Rattle.std.proofs.Common.{◌≡◌, ◌*◌, ◌%◌, get_or, arith}
use Rattle.std.proofs.lemmas.Bool.Decides.{nat_tests}
use Rattle.space_tables.proofs.Pages.{first_reveals}
use Rattle.space_tables.proofs.records.has_space_on.Goals as goal

pub returns : goal.returns
returns c = record {
  space = λ b slots xs is are.
      let reveals = first_reveals b slots xs c.args.handle c.args.page.now is are c.requires.inside in
      (λ none. reveals.0 (let zero : get_or c.args.page.now (c.args.handle % 16 * 32) 0 ≡ 0 = grind (arith, nat_tests, none) in zero), λ free. let zero = reveals.1 free in grind (arith, nat_tests, zero));
}
