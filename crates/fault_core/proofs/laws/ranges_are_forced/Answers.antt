use Rattle.fault_core.proofs.ForcedLemmas.{forced_ranges}
use Rattle.fault_core.proofs.ShowLemmas.{own_came}
use Rattle.fault_core.proofs.laws.ranges_are_forced.Goals as goal

pub returns : goal.returns
returns c = record { forced = forced_ranges; came = own_came }
