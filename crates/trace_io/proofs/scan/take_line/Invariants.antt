use Rattle.std.proofs.Common.{◌≡◌, ◌≤◌, ℕ, List, length}
use Rattle.std.specs.Io.KnownBytes.{Consumes}
use Rattle.trace_io.specs.Stream.{Misses}
use Rattle.trace_io.specs.Scan.{Keeps255}
use Rattle.trace_io.proofs.scan.take_line.Given as goal

-- the part of the line so far
abbrev pub invariant-loop-size : goal.invariant-loop-size
invariant-loop-size g l = record {
  part : (line : List ℕ) × Misses 10 line × (length line ≡ l.size) × Keeps255 l.buffer line × Consumes (g.S.Source.left l.fn.source) (g.S.Source.left l.source) line;
  room : length l.buffer ≡ 255;
  faults : g.S.Source.faults l.fn.source ≤ g.S.Source.faults l.source;
}
