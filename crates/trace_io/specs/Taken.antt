-- What is taken of a source with one line, by what a line says.
use Rattle.std.specs.Prelude.{◌≡◌, ◌⊎◌, ◌<◌, ◌≤◌, ◌+◌, ℕ, List, [], ◌∷◌, ◌++◌, length, Option, Some, None}
use Rattle.std.specs.Io.KnownBytes.{Consumes, IsAtEnd}
use Rattle.trace_io.specs.Stream.{Misses}
use Rattle.trace_io.specs.Progress.{Progress}
use Rattle.trace_io.specs.declared.progress.Stop.{Stop}
use Rattle.trace_io.specs.declared.progress.Stop.TheVariants as stop

-- A line was taken with its line feed, or the last one without, which has a byte.
pub record TakesSaid {A : Type 0} (meaning : List ℕ → Option A) (item : Option A) (left_old left_new : Option (List ℕ)) (old new : Progress) : Type 0 where
  pub line : List ℕ
  pub says : item ≡ meaning line
  pub misses : Misses 10 line
  pub bytes : List ℕ
  pub took : Consumes left_old left_new bytes
  pub ends : ((bytes ≡ line ++ 10 ∷ []) × (new.stopped ≡ None)) ⊎ ((bytes ≡ line) × (0 < length line) × IsAtEnd left_new × (new.stopped ≡ Some stop.End) × (new.taken < new.limit))
  pub taken : new.taken ≡ old.taken + length bytes
  pub within : new.taken ≤ new.limit
  pub limit : new.limit ≡ old.limit

-- Part of a line was taken, and no line feed.
pub record TakesPart (why : Stop) (left_old left_new : Option (List ℕ)) (old new : Progress) : Type 0 where
  pub part : List ℕ
  pub misses : Misses 10 part
  pub took : Consumes left_old left_new part
  pub taken : new.taken ≡ old.taken + length part
  pub limit : new.limit ≡ old.limit
  pub stopped : new.stopped ≡ Some why

-- what was taken where no line comes
abbrev pub StopsBy : Stop → Option (List ℕ) → Option (List ℕ) → Progress → Progress → Type 0
-- no byte is left, and fewer than the limit were taken
StopsBy stop.End left_old left_new old new = Consumes left_old left_new [] × IsAtEnd left_new × (new ≡ record old { stopped = Some stop.End }) × (old.taken < old.limit)
-- fewer bytes than the limit were taken, and a further one did not come
StopsBy stop.ReadFault left_old left_new old new = TakesPart stop.ReadFault left_old left_new old new × (new.taken < new.limit)
-- as many bytes as the limit were taken, and no line feed is the last of them
StopsBy stop.Long left_old left_new old new = TakesPart stop.Long left_old left_new old new × (new.taken ≡ new.limit)
