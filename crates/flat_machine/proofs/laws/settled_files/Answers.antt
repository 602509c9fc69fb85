use Rattle.flat_machine.proofs.MoreLaws as more
use Rattle.flat_machine.proofs.SettledLemmas as lemmas
use Rattle.flat_machine.proofs.laws.settled_files.Goals as goal

pub returns : goal.returns
returns c = record {
  forced = more.forced_is_settled;
  sector_state = lemmas.sector_state_files_agree;
  file = lemmas.settled_by_identifier;
  page = lemmas.settled_by_page;
}
