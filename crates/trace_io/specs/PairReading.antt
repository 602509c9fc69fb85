-- What a text for a pair of volumes says: the items of its text, or None where the line is bad.
use Rattle.std.specs.Prelude.{◌≡◌, ◌<◌, ℕ, if◌then◌else◌, List, [], ◌∷◌, ◌++◌, length, Option}
use Rattle.trace_io.specs.PairGrammar.{PairItem, pair_item_of, is_last_pair_item}
use Rattle.trace_io.specs.Items.{items_of, whole_items_of, left_after}
use Rattle.trace_io.specs.Stream.{Misses}

-- the lines for a pair
abbrev pub pair_reading : List ℕ → List (Option PairItem)
pair_reading bytes = items_of pair_item_of is_last_pair_item bytes

-- the same of the lines whose line feed is there
abbrev pub whole_pair_reading : List ℕ → List (Option PairItem)
whole_pair_reading bytes = whole_items_of pair_item_of is_last_pair_item bytes

-- what stands after the last line of the reading
abbrev pub rest_of_pair : List ℕ → List ℕ
rest_of_pair bytes = left_after pair_item_of is_last_pair_item bytes

-- a whole line says its item, and what follows is read after it, unless it is the last
abbrev pub PairLinesGoOn : Type 0
PairLinesGoOn = (line s : List ℕ) → Misses 10 line
    → pair_reading (line ++ 10 ∷ s) ≡ pair_item_of line ∷ (if is_last_pair_item (pair_item_of line) then [] else pair_reading s)

-- the last line may lack its line feed
abbrev pub PairLinesEnd : Type 0
PairLinesEnd = (line : List ℕ) → Misses 10 line → 0 < length line → pair_reading line ≡ pair_item_of line ∷ []
