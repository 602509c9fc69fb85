use Rattle.std.proofs.Common.{length, ◌-◌, ◌≡◌, ◌≤◌}
use Rattle.std.specs.Prelude.{take}
use Rattle.std.specs.Io.KnownBytes.{Consumes}
use Rattle.documents.proofs.streams.fill.Given as goal

-- the room is as long as it was, and has what the source gave, which has failed no less often
abbrev pub invariant-turns : goal.invariant-turns
invariant-turns g l = record {
  within : l.done ≤ length l.room;
  width : length l.room ≡ length l.fn.room;
  taken : Consumes (g.S.Source.left l.fn.source) (g.S.Source.left l.source) (take l.done l.room);
  later : g.S.Source.faults l.fn.source ≤ g.S.Source.faults l.source;
}

abbrev pub decreases-turns : goal.decreases-turns
decreases-turns g l = length l.initial.room - l.done
