use Rattle.flat_machine.proofs.AfterLemmas as lemmas
use Rattle.flat_machine.proofs.laws.transcript_grows.Goals as goal

pub returns : goal.returns
returns c = record { begins = lemmas.transcript_begins; grows = lemmas.transcript_grows; after = lemmas.after_grows }
