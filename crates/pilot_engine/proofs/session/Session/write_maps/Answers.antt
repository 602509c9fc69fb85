use Rattle.swapper_kernel.specs.GoesLaws.{swaps_then, swaps_stands}
use Rattle.pilot_engine.proofs.EndLemmas.{both_clean}
use Rattle.std.proofs.Common.{refl, subst}
use Rattle.fault_core.specs.Core.{state}
use Rattle.pilot_engine.proofs.WroteLemmas.{wrote_nothing, wrote_swapping}
use Rattle.labelled_disk.specs.declared.layout.Layout.{Layout}
use Rattle.file_manager.specs.Reasons.{ShowsReason}
use Rattle.pilot_engine.proofs.FailSteps.{fails_after, fails_wider}
use Rattle.pilot_engine.proofs.session.Session.write_maps.Goals as goal

pub returns-in-Ok-write_map-clause-clean : goal.returns-in-Ok-write_map-clause-clean
returns-in-Ok-write_map-clause-clean g c = both_clean _ _ _ _ c.in-Ok.ensures.clean c.write_map-2.ensures.swaps c.in-Ok-write_map.ensures.clean

pub returns-in-Ok-write_map-clause-swaps : goal.returns-in-Ok-write_map-clause-swaps
returns-in-Ok-write_map-clause-swaps g c = swaps_then c.write_map.ensures.swaps c.write_map-2.ensures.swaps

pub returns-in-Err-write_map-clause-sound : goal.returns-in-Err-write_map-clause-sound
returns-in-Err-write_map-clause-sound g c = λ x stands. c.in-Err-write_map.ensures.sound x (swaps_stands c.write_map.ensures.swaps x stands)

pub returns-in-Err-write_map-clause-swaps : goal.returns-in-Err-write_map-clause-swaps
returns-in-Err-write_map-clause-swaps g c = swaps_then c.write_map.ensures.swaps c.write_map-2.ensures.swaps

-- ---- Why it failed.

pub returns-in-Err-clause-fails : goal.returns-in-Err-clause-fails
returns-in-Err-clause-fails g c =
    let old = c.args.self.now.core in
    fails_wider (λ h. (state old, (wrote_nothing (state old).disk (state old).slots, refl), h)) c.in-Err.ensures.fails

pub returns-in-Err-write_map-clause-fails : goal.returns-in-Err-write_map-clause-fails
returns-in-Err-write_map-clause-fails g c = fails_after c.write_map.ensures.swaps.makes.went.faults (λ h. (state c.write_map.new.self.core, (wrote_swapping c.write_map.ensures.swaps, c.write_map.ensures.layout), h)) c.in-Err-write_map.ensures.fails

-- ---- What began stays a reason.

pub returns-in-Ok-write_map-clause-keeps_to : goal.returns-in-Ok-write_map-clause-keeps_to
returns-in-Ok-write_map-clause-keeps_to g c = λ o keeps. c.in-Ok-write_map.ensures.keeps_to o (c.in-Ok.ensures.keeps_to o keeps)

pub returns-in-Err-write_map-clause-reasons : goal.returns-in-Err-write_map-clause-reasons
returns-in-Err-write_map-clause-reasons g c = λ o keeps.
    subst (λ (l : Layout). ShowsReason o l (state c.write_map-2.new.self.core).disk c.in-Err-write_map.halt) c.write_map.ensures.layout (c.in-Err-write_map.ensures.reasons o (c.in-Ok.ensures.keeps_to o keeps))
