-- What is read of a whole trace.
use Rattle.std.specs.Prelude.{◌≡◌, ◌⊎◌, ◌<◌, ◌≤◌, ℕ, List, [], ◌∷◌, ◌++◌, length, Option, Some, None, Result, Ok, Err}
use Rattle.std.specs.Io.KnownBytes.{Consumes, IsAtEnd}
use Rattle.flat_machine.specs.declared.call.Call.{Call}
use Rattle.trace_io.specs.Reading.{reading, whole_reading, rest_of, IsShort}
use Rattle.trace_io.specs.Progress.{Progress}
use Rattle.trace_io.specs.Lines.{TakesLine, TakesPart}
use Rattle.trace_io.specs.declared.progress.Stop.{Stop}
use Rattle.trace_io.specs.declared.progress.Stop.TheVariants as stop

-- Of a source with the bytes b these were taken, the others are left, and the items are the lines that are whole in them.
pub record TakesPrefix (b : List ℕ) (left : Option (List ℕ)) (items : List (Option Call)) : Type 0 where
  pub bytes : List ℕ
  pub rest : List ℕ
  pub all : b ≡ bytes ++ rest
  pub left_is : left ≡ Some rest
  pub items_are : items ≡ whole_reading bytes

-- Of a source with the bytes b some were taken, no more than the limit, and the others are left. The last that was taken
-- ends a line, or none is left: so no line is torn.
pub record TakesSomeLines (limit : ℕ) (b : List ℕ) (left : Option (List ℕ)) : Type 0 where
  pub bytes : List ℕ
  pub rest : List ℕ
  pub all : b ≡ bytes ++ rest
  pub left_is : left ≡ Some rest
  pub some : 0 < length bytes
  pub within : length bytes ≤ limit
  pub ends : ((prefix : List ℕ) × (bytes ≡ prefix ++ 10 ∷ [])) ⊎ (rest ≡ [])

-- what was read of a source with the bytes b, and what it has left, by why no more was read
abbrev pub Reads : Stop → ℕ → List ℕ → Option (List ℕ) → List (Option Call) → Type 0
-- all lines, and what is left stands after the last of them
Reads stop.End limit b left items = (items ≡ reading b) × (left ≡ Some (rest_of b)) × IsShort limit b
Reads stop.ReadFault limit b left items = (prefix : TakesPrefix b left items) × (length prefix.bytes < limit)
Reads stop.Long limit b left items = (prefix : TakesPrefix b left items) × (length prefix.bytes ≡ limit) × (IsShort limit b → ⊥)

-- a line was taken, or no more lines come
abbrev pub TakesItem : Result (Option Call) Stop → Option (List ℕ) → Option (List ℕ) → Progress → Progress → Type 0
TakesItem (Ok item) left_old left_new old new = (old.stopped ≡ None) × TakesLine item left_old left_new old new
TakesItem (Err stop.End) left_old left_new old new =
    ((old.stopped ≡ None) × Consumes left_old left_new [] × IsAtEnd left_new × (old.taken < old.limit)) ⊎ ((old.stopped ≡ Some stop.End) × (left_new ≡ left_old))
TakesItem (Err stop.ReadFault) left_old left_new old new = (old.stopped ≡ None) × TakesPart stop.ReadFault left_old left_new old new × (new.taken < new.limit)
TakesItem (Err stop.Long) left_old left_new old new = (old.stopped ≡ None) × TakesPart stop.Long left_old left_new old new × (new.taken ≡ new.limit)
