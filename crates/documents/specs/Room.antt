-- Where a volume has no room for a document.
use Rattle.std.specs.Prelude.{◌<◌, ◌+◌, ℕ, List, Option, length}
use Rattle.std.specs.Io.KnownBytes.{Consumes}
use Rattle.document_head.specs.Head.{pages_of}
use Rattle.flat_machine.specs.declared.call.Refusal.TheVariants as why
use Rattle.flat_machine.specs.Machine.{Machine, used}
use Rattle.embedded.specs.declared.code.Code.{Code}
use Rattle.embedded.specs.declared.code.Code.TheVariants as code

-- the code of a volume that has no room
abbrev pub is_full : Code
is_full = code.Refused why.Full

-- a file of so many pages, and its leader, are more sectors than the volume has left
abbrev pub MissesRoom : Machine → ℕ → Type 0
MissesRoom m pages = m.capacity < used m + (pages + 1)

-- what was read of the source so far, the next window with it, is more than the volume has room for
pub record HasNoRoom (m : Machine) (old new : Option (List ℕ)) : Type 0 where
  pub bytes : List ℕ
  pub read : Consumes old new bytes
  pub misses : MissesRoom m (pages_of (length bytes))
