use Rattle.flat_machine.proofs.NextLemmas as lemmas
use Rattle.flat_machine.proofs.MoreLaws as more
use Rattle.flat_machine.proofs.laws.next_keeps_machine.Goals as goal

pub returns : goal.returns
returns c = record { next = lemmas.next_keeps_machine; after = more.after_is_machine }
