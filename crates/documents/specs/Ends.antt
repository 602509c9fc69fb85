-- How a document's calls end.
use Rattle.std.specs.Prelude.{◌≡◌, ◌⊎◌, ℕ, List, Option, Result, Ok, length}
use Rattle.std.specs.Io.KnownBytes.{Appends}
use Rattle.labelled_disk.specs.declared.disk.Disk.{Ghosts}
use Rattle.flat_machine.specs.declared.call.Call.{Call}
use Rattle.flat_machine.specs.declared.call.Call.TheVariants as call
use Rattle.flat_machine.specs.declared.call.Reply.{Reply}
use Rattle.embedded.specs.declared.code.Code.{Code}
use Rattle.embedded.specs.declared.engine.Engine.{Engine}
use Rattle.embedded.specs.Called.{Called}
use Rattle.documents.specs.Course.{Led, is_look, is_quiet}

-- a sink took so many bytes more
abbrev pub TookSoMany : ℕ → Option (List ℕ) → Option (List ℕ) → Type 0
TookSoMany count old new = (bytes : List ℕ) × (length bytes ≡ count) × Appends old new bytes

module _ {D A : Type 0} {G : Ghosts D} where
  -- The last call of a row marked the file, and was carried out; those before it marked no file, and deleted none.
  pub record Marked (id : ℕ) (old new : Engine D A G) : Type 0 where
    pub before : Engine D A G
    pub reply : Reply
    pub quiet : Led is_quiet old before
    pub mark : Called (call.MakePermanent id) before (Ok reply) new

  -- The last call of a row deleted the file, and was carried out; those before it only looked.
  pub record Deleted (id : ℕ) (old new : Engine D A G) : Type 0 where
    pub before : Engine D A G
    pub reply : Reply
    pub looked : Led is_look old before
    pub gone : Called (call.Delete id) before (Ok reply) new

  -- A file was marked, and only then another one deleted.
  pub record Replaced (gone id : ℕ) (old new : Engine D A G) : Type 0 where
    pub first : Engine D A G
    pub between : Engine D A G
    pub reply : Reply
    pub looked : Led is_look old first
    pub marked : Marked id first between
    pub deleted : Called (call.Delete gone) between (Ok reply) new

  -- the last call was this one, whatever was answered
  abbrev pub EndsWith : Call → Engine D A G → Type 0
  EndsWith last new = (before : Engine D A G) × (answer : Result Reply Code) × Called last before answer new

  -- the last call was to make the file, or to delete one
  abbrev pub IsUndone : Engine D A G → Type 0
  IsUndone new = EndsWith (call.Create 1 17475) new ⊎ ((id : ℕ) × EndsWith (call.Delete id) new)
