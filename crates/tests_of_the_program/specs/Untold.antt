-- A disk that reveals nothing.
use Rattle.std.specs.Prelude.{None}
use Rattle.labelled_disk.specs.State.{DiskState}

-- the same disk, which reveals neither what it holds nor its writes and syncs
abbrev pub untold : DiskState → DiskState
untold disk = record disk { contents = None; writes = None; syncs = None }
