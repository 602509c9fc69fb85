use Rattle.session_words.proofs.DeleteLemmas as laws
use Rattle.session_words.proofs.laws.files_deleted.Goals as goal

pub returns : goal.returns
returns c spaces_of = laws.delete_stands spaces_of
