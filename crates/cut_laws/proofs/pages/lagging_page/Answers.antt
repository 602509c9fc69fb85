use Rattle.std.proofs.Common.{rules}
use Rattle.cut_laws.proofs.MixLemmas.{unit-put_mid}
use Rattle.cut_laws.proofs.pages.lagging_page.Goals as goal

pub returns-clause-others : goal.returns-clause-others
returns-clause-others c u apart = unit-put_mid c.args.lagging u c.args.new.now c.copy_from_slice.new.self (search rules) (search rules) apart
