use Rattle.pilot_top.proofs.RestoredLemmas.{has_files_of, settled_stay}
use Rattle.pilot_top.proofs.laws.lost_maps_are_restored.Goals as goal

pub returns-clause-files : goal.returns-clause-files
returns-clause-files c e g h right only restored = has_files_of e g h right only restored

pub returns-clause-run : goal.returns-clause-run
returns-clause-run c m e g h revealed only restored = settled_stay m e g h revealed only restored
