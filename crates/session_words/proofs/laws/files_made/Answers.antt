use Rattle.session_words.proofs.CreateLemmas as laws
use Rattle.session_words.proofs.laws.files_made.Goals as goal

pub returns : goal.returns
returns c spaces_of = laws.create_stands spaces_of
