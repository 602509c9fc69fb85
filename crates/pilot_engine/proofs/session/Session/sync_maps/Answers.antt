use Rattle.std.proofs.Common.{subst, sym}
use Rattle.fault_core.specs.Core.{state}
use Rattle.swapper_kernel.specs.GoesLaws.{swaps_then}
use Rattle.pilot_engine.specs.Closing.{AreWritten}
use Rattle.pilot_engine.proofs.ShutBySyncLemmas.{reached_swaps}
use Rattle.pilot_engine.proofs.WroteLemmas.{wrote_swapping}
use Rattle.pilot_engine.specs.Halting.{WriteHalts}
use Rattle.labelled_disk.specs.declared.evidence.Halt.{Halt}
use Rattle.space_calls.specs.OutcomesLaws.{waited_rose}
use Rattle.pilot_engine.proofs.FailSteps.{fails_after}
use Rattle.space_calls.specs.OutcomesLaws.{halted}
use Rattle.pilot_engine.proofs.session.Session.sync_maps.Goals as goal

pub returns-in-Ok-sync-clause-clean : goal.returns-in-Ok-sync-clause-clean
returns-in-Ok-sync-clause-clean g c = subst AreWritten (sym c.sync.ensures.waits.frames) c.in-Ok.ensures.clean

pub returns-in-Ok-sync-clause-swaps : goal.returns-in-Ok-sync-clause-swaps
returns-in-Ok-sync-clause-swaps g c =
    swaps_then c.write_maps.ensures.swaps (reached_swaps (state c.write_maps.new.self.core) (state c.sync.new.core) c.sync.ensures.waits.frames c.sync.ensures.waits.same c.sync.ensures.waits.reaches)

pub returns-in-Err-sync-clause-swaps : goal.returns-in-Err-sync-clause-swaps
returns-in-Err-sync-clause-swaps g c =
    swaps_then c.write_maps.ensures.swaps (reached_swaps (state c.write_maps.new.self.core) (state c.sync.new.core) c.sync.ensures.waits.frames c.sync.ensures.waits.same c.sync.ensures.waits.reaches)

pub returns-in-Err-sync-clause-fails : goal.returns-in-Err-sync-clause-fails
returns-in-Err-sync-clause-fails g c =
    let u = state c.write_maps.new.self.core in
    let w = state c.sync.new.core in
    fails_after c.write_maps.ensures.swaps.makes.went.faults (λ h. (u, (wrote_swapping c.write_maps.ensures.swaps, c.write_maps.ensures.layout), subst (λ (x : Halt). WriteHalts u w x) (sym h) (waited_rose c.in-Err-sync.ensures.fails))) (halted c.in-Err-sync.ensures.fails)

pub returns-in-Err-clause-fails : goal.returns-in-Err-clause-fails
returns-in-Err-clause-fails g c = c.in-Err.ensures.fails
