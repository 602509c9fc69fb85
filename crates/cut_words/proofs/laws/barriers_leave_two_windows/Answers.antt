use Rattle.cut_words.proofs.BarrierLemmas.{two_windows}
use Rattle.cut_words.proofs.laws.barriers_leave_two_windows.Goals as goal

pub returns : goal.returns
returns c = two_windows
