-- The laws of the machine that a core stands for.
use Rattle.running_words.specs.RunningLaws.{RunningLaws}
use Rattle.running_words.proofs.ApartLemmas.{apart}
use Rattle.running_words.proofs.ChangedLemmas.{changed, reshaped}
use Rattle.running_words.proofs.KnownLemmas.{known}
use Rattle.running_words.proofs.LaterLemmas.{asked, moved, quiet}
use Rattle.running_words.proofs.StoreLemmas.{store_passes}

pub running_laws : RunningLaws
running_laws = record { known = known; apart = apart; asked = asked; changed = changed; reshaped = reshaped; moved = moved; quiet = quiet; store_passes = store_passes }
