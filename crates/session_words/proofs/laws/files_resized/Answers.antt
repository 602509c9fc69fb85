use Rattle.session_words.proofs.SizeLemmas as laws
use Rattle.session_words.proofs.laws.files_resized.Goals as goal

pub returns : goal.returns
returns c spaces_of = laws.size_laws spaces_of
