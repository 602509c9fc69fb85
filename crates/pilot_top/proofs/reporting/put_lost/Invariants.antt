use Rattle.std.proofs.Common.{◌≤◌, take}
use Rattle.std.specs.Io.KnownBytes.{Appends}
use Rattle.pilot_top.specs.Reporting.{lost_lines}
use Rattle.pilot_top.proofs.reporting.put_lost.Given as goal

-- the lines of the first sectors are put
abbrev pub invariant-loop-sector : goal.invariant-loop-sector
invariant-loop-sector g l = record {
  put : Appends (g.K.Sink.took l.fn.sink) (g.K.Sink.took l.sink) (lost_lines (take l.sector-index l.lost));
  faults : g.K.Sink.faults l.fn.sink ≤ g.K.Sink.faults l.sink;
}
