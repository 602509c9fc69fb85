-- The first of the drawn calls were answered, and their replies are counted.
use Rattle.std.proofs.Common.{◌≡◌, ◌*◌, ◌≤◌, true, List, length}
use Rattle.flat_machine.specs.declared.call.Reply.{Reply}
use Rattle.flat_machine.specs.Machine.{Machine}
use Rattle.swapper_kernel.specs.Goes.{Went}
use Rattle.trace_maker.specs.Maker.{IsAt}
use Rattle.running_words.specs.Running.{Runs}
use Rattle.running_words.specs.Session.{IsOpen}
use Rattle.pilot_top.specs.Counting.{AreOf}
use Rattle.pilot_top.specs.CrashStates.{Openly}
use Rattle.pilot_top.specs.Trial.{HasAnswered, drawn_calls}
use Rattle.pilot_top.proofs.trial.count_calls.Given as goal
use Rattle.fault_core.specs.Core.{state}

abbrev pub invariant-loop : goal.invariant-loop
invariant-loop g l = record {
  answered : (replies : List Reply) × AreOf l.counts replies × (length replies ≡ l.counter)
      × ((m : Machine) → Runs l.fn.session.core l.fn.session.volume m → HasAnswered m (drawn_calls l.seed l.counter) replies (Runs l.session.core l.session.volume));
  drawn : IsAt l.maker l.seed l.counter;
  errors : l.counts.errors ≤ l.counter;
  loaded : l.counts.loaded ≤ 64 * l.counter;
  permitted : Openly (state l.fn.session.core).disk (state l.session.core).disk;
  went : Went (state l.fn.session.core).disk (state l.session.core).disk;
  layout : (state l.session.core).layout ≡ (state l.fn.session.core).layout;
  size : (state l.session.core).disk.sectors ≡ (state l.session.core).layout.sectors;
  opened : IsOpen (state l.session.core).layout l.session.volume;
  running : l.session.running ≡ true;
}
