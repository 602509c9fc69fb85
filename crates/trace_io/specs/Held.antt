-- The line that a reader holds, and what was taken with it.
use Rattle.std.specs.Prelude.{◌≡◌, ◌⊎◌, ◌<◌, ◌≤◌, ◌+◌, ℕ, nat_le, if◌then◌else◌, List, [], ◌∷◌, ◌++◌, length, take, Option, Some, None, Result, Ok, Err}
use Rattle.std.specs.Io.KnownBytes.{Consumes, IsAtEnd}
use Rattle.trace_io.specs.Stream.{Misses}
use Rattle.trace_io.specs.Progress.{Progress}
use Rattle.trace_io.specs.Taken.{StopsBy}
use Rattle.trace_io.specs.declared.reader.LineReader.{LineReader}
use Rattle.trace_io.specs.declared.progress.Stop.{Stop}
use Rattle.trace_io.specs.declared.progress.Stop.TheVariants as stop

-- how far the reader is
abbrev pub progress_of : LineReader → Progress
progress_of r = record { taken = r.taken; limit = r.limit; stopped = r.stopped }

-- how much of a line is held: nothing of one that is longer than the buffer
abbrev pub held_size : ℕ → Option ℕ
held_size size = if nat_le size 255 then Some size else None

-- A line was taken with its line feed, or the last one without, which has a byte.
pub record TakesText (line : List ℕ) (left_old left_new : Option (List ℕ)) (old new : Progress) : Type 0 where
  pub misses : Misses 10 line
  pub bytes : List ℕ
  pub took : Consumes left_old left_new bytes
  pub ends : ((bytes ≡ line ++ 10 ∷ []) × (new.stopped ≡ None)) ⊎ ((bytes ≡ line) × (0 < length line) × IsAtEnd left_new × (new.stopped ≡ Some stop.End) × (new.taken < new.limit))
  pub taken : new.taken ≡ old.taken + length bytes
  pub within : new.taken ≤ new.limit
  pub limit : new.limit ≡ old.limit

-- the line is longer than what a reader holds
abbrev pub IsTooLong : List ℕ → Type 0
IsTooLong line = 255 < length line

-- what came of the next line, by the bytes that are held
abbrev pub Holds : Result (Option ℕ) Stop → List ℕ → Option (List ℕ) → Option (List ℕ) → Progress → Progress → Type 0
Holds (Ok (Some size)) buffer left_old left_new old new = TakesText (take size buffer) left_old left_new old new
Holds (Ok None) buffer left_old left_new old new = (line : List ℕ) × IsTooLong line × TakesText line left_old left_new old new
Holds (Err why) buffer left_old left_new old new = StopsBy why left_old left_new old new
