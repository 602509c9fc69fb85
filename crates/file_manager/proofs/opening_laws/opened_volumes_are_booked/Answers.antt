use Rattle.file_manager.proofs.OpenedBooks.{opened_is_booked}
use Rattle.file_manager.proofs.opening_laws.opened_volumes_are_booked.Goals as goal

pub returns : goal.returns
returns c = λ layout runs d x can cleared sectors size kept. opened_is_booked d x can cleared layout runs sectors size kept
