use Rattle.std.proofs.Common.{◌≡◌, ◌⊎◌, ◌-◌, ◌≤◌, Some, None}
use Rattle.trace_io.specs.Course.{HasRead}
use Rattle.trace_io.specs.declared.progress.Stop.TheVariants as stop
use Rattle.trace_io.proofs.trace.read_trace.Given as goal

-- so many lines were read
abbrev pub invariant-lines : goal.invariant-lines
invariant-lines g l = record {
  read : HasRead (g.S.Source.left l.initial.source) (g.S.Source.left l.source) l.lines l.items.items;
  goes_on : (l.lines.stopped ≡ None) ⊎ (l.lines.stopped ≡ Some stop.End);
  limit : l.lines.limit ≡ l.limit;
  bound : l.lines.taken ≤ l.lines.limit;
  faults : g.S.Source.faults l.initial.source ≤ g.S.Source.faults l.source;
}

abbrev pub decreases-lines : goal.decreases-lines
decreases-lines g l = l.lines.limit - l.lines.taken
