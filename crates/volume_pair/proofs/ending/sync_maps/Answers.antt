use Rattle.std.proofs.Common.{sym, subst}
use Rattle.swapper_kernel.specs.GoesLaws.{swaps_stands, swaps_then}
use Rattle.volume_pair.specs.Ends.{AreWritten}
use Rattle.volume_pair.proofs.EndLemmas.{both_clean}
use Rattle.volume_pair.proofs.SideLemmas.{why_after}
use Rattle.volume_pair.proofs.ending.sync_maps.Goals as goal

pub returns-in-Err-write_map-clause-sound : goal.returns-in-Err-write_map-clause-sound
returns-in-Err-write_map-clause-sound g c = λ x stands. c.in-Err-write_map.ensures.sound x (swaps_stands c.write_map.ensures.swaps x stands)

pub returns-in-Err-write_map-clause-swaps : goal.returns-in-Err-write_map-clause-swaps
returns-in-Err-write_map-clause-swaps g c = swaps_then c.write_map.ensures.swaps c.write_map-2.ensures.swaps

pub returns-in-Err-write_map-clause-why : goal.returns-in-Err-write_map-clause-why
returns-in-Err-write_map-clause-why g c = why_after c.write_map.ensures.swaps.makes.went.faults c.in-Err-write_map.ensures.why

pub returns-in-Ok-sync_disk-clause-clean : goal.returns-in-Ok-sync_disk-clause-clean
returns-in-Ok-sync_disk-clause-clean g c =
    subst AreWritten (sym c.sync_disk.ensures.stays.frames) (both_clean _ _ _ _ c.in-Ok.ensures.clean c.write_map-2.ensures.swaps c.in-Ok-write_map.ensures.clean)

pub returns-in-Ok-sync_disk-clause-swaps : goal.returns-in-Ok-sync_disk-clause-swaps
returns-in-Ok-sync_disk-clause-swaps g c = swaps_then c.write_map.ensures.swaps (swaps_then c.write_map-2.ensures.swaps c.sync_disk.ensures.swaps)

pub returns-in-Err-sync_disk-clause-swaps : goal.returns-in-Err-sync_disk-clause-swaps
returns-in-Err-sync_disk-clause-swaps g c = swaps_then c.write_map.ensures.swaps (swaps_then c.write_map-2.ensures.swaps c.sync_disk.ensures.swaps)

pub returns-in-Err-sync_disk-clause-why : goal.returns-in-Err-sync_disk-clause-why
returns-in-Err-sync_disk-clause-why g c = why_after (swaps_then c.write_map.ensures.swaps c.write_map-2.ensures.swaps).makes.went.faults c.in-Err-sync_disk.ensures.why
