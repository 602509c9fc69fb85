-- What one line for a pair after another takes from a source.
use Rattle.std.specs.Prelude.{ℕ, List, Option, Some, None}
use Rattle.trace_io.specs.PairGrammar.{PairItem, Ask, Close, pair_item_of}
use Rattle.trace_io.specs.Progress.{Progress}
use Rattle.trace_io.specs.Taken.{TakesSaid, StopsBy}
use Rattle.trace_io.specs.declared.progress.Stop.{Stop}
use Rattle.trace_io.specs.declared.progress.Stop.TheVariants as stop
use Rattle.trace_io.specs.declared.pair_line.PairLine.{PairLine}
use Rattle.trace_io.specs.declared.pair_line.PairLine.TheVariants as line

-- a line was taken with its line feed, or the last one without, which has a byte
abbrev pub TakesPairLine : Option PairItem → Option (List ℕ) → Option (List ℕ) → Progress → Progress → Type 0
TakesPairLine item left_old left_new old new = TakesSaid pair_item_of item left_old left_new old new

-- what the next line is
abbrev pub TakesNextPair : PairLine → Option (List ℕ) → Option (List ℕ) → Progress → Progress → Type 0
TakesNextPair (line.Call c) left_old left_new old new = TakesPairLine (Some (Ask c)) left_old left_new old new
TakesNextPair line.Close left_old left_new old new = TakesPairLine (Some Close) left_old left_new old new
TakesNextPair line.Bad left_old left_new old new = TakesPairLine None left_old left_new old new
TakesNextPair line.End left_old left_new old new = StopsBy stop.End left_old left_new old new
TakesNextPair line.ReadFault left_old left_new old new = StopsBy stop.ReadFault left_old left_new old new
TakesNextPair line.Long left_old left_new old new = StopsBy stop.Long left_old left_new old new

-- the answer from then on
abbrev pub pair_line_after : Stop → PairLine
pair_line_after stop.End = line.End
pair_line_after stop.ReadFault = line.ReadFault
pair_line_after stop.Long = line.Long

-- the line of an item
abbrev pub pair_line_at : Option PairItem → PairLine
pair_line_at (Some (Ask c)) = line.Call c
pair_line_at (Some Close) = line.Close
pair_line_at None = line.Bad
