use Rattle.label_survey.proofs.LawLemmas as laws
use Rattle.label_survey.proofs.laws.sector_states_reveal.Goals as goal

pub returns-clause-freed : goal.returns-clause-freed
returns-clause-freed c = laws.freed_are_unneeded

pub returns-clause-kept : goal.returns-clause-kept
returns-clause-kept c = laws.kept_are_needed

pub returns-clause-files : goal.returns-clause-files
returns-clause-files c = laws.needed_are_files
