use Rattle.std.proofs.Common.{◌≡◌, ◌⊎◌, ◌-◌, ◌^◌, ◌≤◌, false, Some, None}
use Rattle.trace_io.specs.declared.progress.Stop.TheVariants as stop
use Rattle.flat_machine.specs.Machine.{Machine}
use Rattle.swapper_kernel.specs.Goes.{Went}
use Rattle.pilot_engine.specs.Opening.{IsUnset}
use Rattle.pilot_engine.specs.Referring.{TakesCalls}
use Rattle.running_words.specs.Running.{Runs}
use Rattle.pilot_top.specs.OnePlace.{ChangesApart}
use Rattle.pilot_top.specs.Parts.{RaisesRoot}
use Rattle.pilot_top.specs.Sparing.{Hides}
use Rattle.pilot_top.proofs.ReasonLemmas.{GoesOn}
use Rattle.pilot_top.proofs.SparedLineLemmas.{SparedLines}
use Rattle.pilot_top.proofs.TurnedLemmas.{Turned}
use Rattle.pilot_top.proofs.run.answer_lines.Given as goal
use Rattle.fault_core.specs.Core.{state}

-- so many lines are answered
abbrev pub invariant-turns : goal.invariant-turns
invariant-turns g l = record {
  turned : Turned (g.S.Source.left l.fn.source) (g.S.Source.left l.source) (g.K.Sink.took l.fn.sink) (g.K.Sink.took l.sink) l.lines
      (Runs l.fn.session.core l.fn.session.volume)
      (Runs l.session.core l.session.volume)
      (state l.fn.session.core).disk (state l.session.core).disk;
  spared : SparedLines (g.S.Source.left l.fn.source) (g.S.Source.left l.source) l.lines l.fn.session.volume.root
      (state l.fn.session.core).disk (state l.fn.session.core).slots (state l.session.core).disk (state l.session.core).slots (Hides l.fn.session) (Hides l.session);
  apart : (m : Machine) → Runs l.fn.session.core l.fn.session.volume m → ChangesApart false (state l.fn.session.core).disk (state l.session.core).disk;
  roots : RaisesRoot l.fn.session.volume.root l.session.volume.root (state l.fn.session.core).disk (state l.session.core).disk;
  same_disk : Went (state l.fn.session.core).disk (state l.session.core).disk;
  goes_on : (l.lines.stopped ≡ None) ⊎ (l.lines.stopped ≡ Some stop.End);
  limit : l.lines.limit ≡ 2 ^ 32;
  bound : l.lines.taken ≤ l.lines.limit;
  ready : TakesCalls l.session;
  layout : (state l.session.core).layout ≡ (state l.fn.session.core).layout;
  goes : GoesOn l.fn.session l.session;
  left_open : IsUnset (state l.fn.session.core).disk → IsUnset (state l.session.core).disk;
  source : g.S.Source.faults l.fn.source ≤ g.S.Source.faults l.source;
  sink : g.K.Sink.faults l.fn.sink ≤ g.K.Sink.faults l.sink;
}

abbrev pub decreases-turns : goal.decreases-turns
decreases-turns g l = l.lines.limit - l.lines.taken
