use Rattle.flat_machine.proofs.UnitLemmas as lemmas
use Rattle.flat_machine.proofs.laws.unit_holds_its_page.Goals as goal

pub returns : goal.returns
returns c = lemmas.unit_holds_its_page
