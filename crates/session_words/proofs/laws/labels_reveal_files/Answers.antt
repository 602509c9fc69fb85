use Rattle.session_words.proofs.FoundLemmas as laws
use Rattle.session_words.proofs.laws.labels_reveal_files.Goals as goal

pub returns-clause-found : goal.returns-clause-found
returns-clause-found c d shapes labels are id f is = laws.file_found 96 d shapes labels are id f is

pub returns-clause-missing : goal.returns-clause-missing
returns-clause-missing c d shapes labels are id none = laws.file_missing 96 d shapes labels are id none
