use Rattle.std.proofs.Common.{inl}
use Rattle.session_words.proofs.FoundLemmas.{above_reserved}
use Rattle.file_manager.proofs.MayBeFreed.{all_may_be_freed}
use Rattle.file_manager.proofs.freeing_laws.files_may_be_freed.Goals as goal

pub returns : goal.returns
returns c = λ disk slots layout runs shapes spaces x id f is books hidden is_file.
    all_may_be_freed disk slots layout runs shapes spaces x is books id (inl (above_reserved id (books.booked.files.given id f is_file), hidden)) f is_file
