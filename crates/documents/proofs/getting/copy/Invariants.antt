use Rattle.std.proofs.Common.{◌≡◌, ◌≤◌, ◌<◌, ◌+◌, ◌-◌, ◌*◌, ◌%◌, Some, length}
use Rattle.flat_machine.specs.File.{File, file_at}
use Rattle.flat_machine.specs.Machine.{Machine}
use Rattle.embedded.specs.Engine.{StandsFor}
use Rattle.documents.specs.Course.{Led, is_look}
use Rattle.documents.specs.Ends.{TookSoMany}
use Rattle.documents.specs.Stands.{HasSent}
use Rattle.documents.proofs.SpentLemmas.{SpentWindows}
use Rattle.documents.proofs.getting.copy.Given as goal

-- so many bytes were handed over, those of the file from the first page on, and the next ones are those of the page
abbrev pub invariant-pieces : goal.invariant-pieces
invariant-pieces g l = record {
  within : l.left ≤ l.bytes;
  place : 512 * l.page + l.left ≤ 512 * l.fn.part.page + l.bytes;
  width : length l.buffer ≡ length l.fn.buffer;
  led : Led is_look l.fn.engine l.engine;
  taken : TookSoMany (l.bytes - l.left) (g.S.Sink.took l.fn.sink) (g.S.Sink.took l.sink);
  even : 0 < l.left → 512 * l.page ≡ 512 * l.fn.part.page + (l.bytes - l.left);
  sent : (m : Machine) (f : File) → StandsFor l.fn.engine m → file_at m.files l.fn.part.id ≡ Some f
      → HasSent m f (512 * l.fn.part.page) (l.bytes - l.left) (g.S.Sink.took l.fn.sink) (g.S.Sink.took l.sink) l.engine;
  later : g.S.Sink.faults l.fn.sink ≤ g.S.Sink.faults l.sink;
  spent : SpentWindows 4 (length l.fn.buffer - length l.fn.buffer % 512) (l.bytes - l.left) l.left l.fn.engine l.engine;
}

abbrev pub decreases-pieces : goal.decreases-pieces
decreases-pieces g l = l.left
