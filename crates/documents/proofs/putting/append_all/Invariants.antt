use Rattle.std.proofs.Common.{◌≡◌, ◌≤◌, ◌<◌, ◌+◌, ◌-◌, ◌*◌, ◌%◌, ◌^◌, length}
use Rattle.flat_machine.specs.Machine.{Machine}
use Rattle.flat_machine.specs.Next.{new_id}
use Rattle.embedded.specs.Engine.{StandsFor, disk_of}
use Rattle.embedded.specs.Spending.{IsLater}
use Rattle.documents.proofs.SpentLemmas.{AppendedSoFar}
use Rattle.documents.specs.Pieces.{adding}
use Rattle.documents.specs.Stands.{IsFresh, blank}
use Rattle.documents.proofs.FillLemmas.{IsSoFar}
use Rattle.std.specs.Io.KnownBytes.{IsAtEnd}
use Rattle.documents.specs.Course.{Led, is_quiet}
use Rattle.documents.specs.Stops.{StaysUnseen}
use Rattle.documents.proofs.putting.append_all.Given as goal

-- the bytes fit the pages, and where fewer were taken than there is room for, the source has ended
abbrev pub invariant-windows : goal.invariant-windows
invariant-windows g l = record {
  within : l.count ≤ l.room;
  room : l.room ≤ length l.buffer;
  width : length l.buffer ≡ length l.fn.buffer;
  bytes : l.bytes ≤ 512 * l.pages;
  full : 512 * l.pages ≡ 512 + l.bytes;
  filled : (m : Machine) → IsFresh m l.fn.id → l.fn.id ≡ new_id m → StandsFor l.fn.engine (adding (blank m) m)
      → IsSoFar m l.bytes l.pages l.count l.buffer (g.S.Source.left l.fn.source) (g.S.Source.left l.source) l.engine;
  led : Led is_quiet l.fn.engine l.engine;
  stops : StaysUnseen l.fn.id l.fn.engine l.engine;
  ended : l.count < l.room → IsAtEnd (g.S.Source.left l.source);
  later : g.S.Source.faults l.fn.source ≤ g.S.Source.faults l.source;
  same_disk : IsLater (disk_of l.fn.engine) (disk_of l.engine);
  spent : AppendedSoFar (length l.fn.buffer - length l.fn.buffer % 512) l.bytes l.count (g.S.Source.left l.fn.source) (g.S.Source.left l.source) l.fn.engine l.engine;
}

abbrev pub decreases-windows : goal.decreases-windows
decreases-windows g l = 2 ^ 32 - l.pages
