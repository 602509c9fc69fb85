use Rattle.session_words.proofs.MarkLemmas as laws
use Rattle.session_words.proofs.laws.files_marked.Goals as goal

pub returns : goal.returns
returns c spaces_of = laws.mark_laws spaces_of
