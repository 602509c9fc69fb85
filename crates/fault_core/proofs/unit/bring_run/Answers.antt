use Rattle.std.proofs.Common.{rules, ◌⊎◌, inl, ◌≤◌}
use Rattle.frame_pool.specs.Frames.{IsWithin}
use Rattle.swapper_kernel.specs.Halts.{Halts}
use Rattle.swapper_kernel.specs.HaltLaws.{brings_wider}
use Rattle.swapper_kernel.specs.Homes.{IsAmong}
use Rattle.filer_kernel.proofs.Outcomes.{err_wider, on_ok_wider}
use Rattle.fault_core.specs.Homes.{homes_in}
use Rattle.filer_kernel.specs.View.{accepted, view_of}
use Rattle.fault_core.specs.Reach.{TouchHalts, no_break}
use Rattle.fault_core.specs.ReachLaws.{touch_of_reach}
use Rattle.fault_core.proofs.ReachLemmas.{known_after}
use Rattle.fault_core.proofs.RoomLemmas.{room_then, steps_room}
use Rattle.fault_core.proofs.RunLemmas.{homes_row, homes_resident, run_came, homes_are_named, have_sectors, homes_placed}
use Rattle.fault_core.proofs.TurnLemmas.{reaches_brought, brought_halt}
use Rattle.fault_core.specs.Lack.{MissesPage, run_pages}
use Rattle.fault_core.specs.Early.{IfUnfound, KeepsClients}
use Rattle.fault_core.proofs.EarlyLemmas.{brought_found, unfound_so}
use Rattle.fault_core.proofs.LackLemmas.{brought_misses}
use Rattle.fault_core.proofs.unit.bring_run.Goals as goal

pub returns-in-Err-clause-fails : goal.returns-in-Err-clause-fails
returns-in-Err-clause-fails g c = record {
  cause = search rules;
  misses = search rules;
  sound = λ m named b known stored. c.in-Err.ensures.fails.sound m named b known (have_sectors named m c.args.id c.args.first c.args.pages stored);
  early =
      let v = view_of c.args.filer.now in
      let w = view_of c.homes_of.new.filer in
      unfound_so (KeepsClients v.slots w.slots) c.in-Err.halt (record { came = c.homes_of.ensures.brings.came; stay = c.homes_of.ensures.brings.stay });
}

pub returns-in-Err-clause-brings : goal.returns-in-Err-clause-brings
returns-in-Err-clause-brings g c = record {
  reaches = search rules;
  came = brings_wider (λ home. ((1 ≤ home.id) × (home.id ≤ 3)) ⊎ IsWithin c.args.id c.args.first c.args.pages home) (λ home is. inl is) c.homes_of.ensures.brings.came;
  room = search rules;
}

pub bring-requires-clause-row : goal.bring-requires-clause-row
bring-requires-clause-row g c = homes_row c.in-Ok.ensures.comes.are

pub bring-requires-clause-homes : goal.bring-requires-clause-homes
bring-requires-clause-homes g c = homes_placed (view_of c.args.filer.now) (view_of c.homes_of.new.filer) (homes_in c.in-Ok.homes) c.homes_of.ensures.brings.reaches.layout c.in-Ok.ensures.comes.found

pub returns-clause-there : goal.returns-clause-there
returns-clause-there g c = on_ok_wider c.bring.result _ _ (homes_resident c.in-Ok.ensures.comes.are (view_of c.bring.new.filer).slots) c.bring.ensures.there

pub returns-clause-fails : goal.returns-clause-fails
returns-clause-fails g c = record {
  cause =
      let v = view_of c.args.filer.now in
      let w = view_of c.homes_of.new.filer in
      let x = view_of c.bring.new.filer in
      err_wider c.bring.result (Halts (IsAmong (homes_in c.in-Ok.homes)) w.disk w.slots x.disk) (TouchHalts no_break v x)
      (λ e is. touch_of_reach no_break v x e (brought_halt v w x (accepted c.args.filer.now) c.homes_of.ensures.brings.reaches (IsAmong (homes_in c.in-Ok.homes)) c.in-Ok.ensures.comes.found e is)) c.bring.ensures.cause;
  misses =
      let w = view_of c.homes_of.new.filer in
      let x = view_of c.bring.new.filer in
      err_wider c.bring.result (Halts (IsAmong (homes_in c.in-Ok.homes)) w.disk w.slots x.disk) (MissesPage (run_pages c.args.id c.args.first c.args.pages))
      (brought_misses (IsAmong (homes_in c.in-Ok.homes)) w.disk w.slots x.disk (run_pages c.args.id c.args.first c.args.pages)) c.bring.ensures.cause;
  sound = λ m named b known stored.
      let v = view_of c.args.filer.now in
      let after = known_after v (view_of c.homes_of.new.filer) m named b (accepted c.args.filer.now) c.homes_of.ensures.brings.reaches known in
      c.bring.ensures.sound m after.stands (homes_are_named c.in-Ok.ensures.comes.are v m named b known stored (c.in-Ok.ensures.comes.named m named b known));
  early =
      let v = view_of c.args.filer.now in
      let w = view_of c.homes_of.new.filer in
      let x = view_of c.bring.new.filer in
      err_wider c.bring.result (Halts (IsAmong (homes_in c.in-Ok.homes)) w.disk w.slots x.disk) (IfUnfound (KeepsClients v.slots x.slots))
      (brought_found (IsAmong (homes_in c.in-Ok.homes)) w.disk w.slots x.disk (KeepsClients v.slots x.slots)) c.bring.ensures.cause;
}

pub returns-clause-brings : goal.returns-clause-brings
returns-clause-brings g c = record {
  reaches =
      reaches_brought (view_of c.args.filer.now) (view_of c.homes_of.new.filer) (view_of c.bring.new.filer) (accepted c.args.filer.now) c.homes_of.ensures.brings.reaches (IsAmong (homes_in c.in-Ok.homes)) c.in-Ok.ensures.comes.found
      c.bring.ensures.swaps c.bring.ensures.brings c.bring.ensures.layout c.bring.ensures.runs;
  came = run_came c.in-Ok.ensures.comes.are (view_of c.args.filer.now).slots (view_of c.homes_of.new.filer).slots (view_of c.bring.new.filer).slots c.homes_of.ensures.brings.came c.bring.ensures.brings;
  room = room_then c.homes_of.ensures.brings.room (steps_room c.bring.ensures.steps);
}
