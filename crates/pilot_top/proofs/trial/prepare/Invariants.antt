-- The first of the first calls were answered.
use Rattle.std.proofs.Common.{◌≡◌, true, List, take}
use Rattle.flat_machine.specs.declared.call.Reply.{Reply}
use Rattle.flat_machine.specs.Machine.{Machine}
use Rattle.swapper_kernel.specs.Goes.{Went}
use Rattle.running_words.specs.Running.{Runs}
use Rattle.running_words.specs.Session.{IsOpen}
use Rattle.pilot_top.specs.CrashStates.{Openly}
use Rattle.pilot_top.specs.Trial.{HasAnswered, first_calls}
use Rattle.pilot_top.proofs.trial.prepare.Given as goal
use Rattle.fault_core.specs.Core.{state}

abbrev pub invariant-loop-index : goal.invariant-loop-index
invariant-loop-index g l = record {
  answered : (m : Machine) → Runs l.fn.session.core l.fn.session.volume m → (replies : List Reply) × HasAnswered m (take l.index first_calls) replies (Runs l.session.core l.session.volume);
  permitted : Openly (state l.fn.session.core).disk (state l.session.core).disk;
  went : Went (state l.fn.session.core).disk (state l.session.core).disk;
  layout : (state l.session.core).layout ≡ (state l.fn.session.core).layout;
  size : (state l.session.core).disk.sectors ≡ (state l.session.core).layout.sectors;
  opened : IsOpen (state l.session.core).layout l.session.volume;
  running : l.session.running ≡ true;
}
