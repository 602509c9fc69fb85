-- What a line for a pair of volumes says, by its words.
use Rattle.std.specs.Prelude.{ℕ, Bool, true, false, nat_le, if◌then◌else◌, List, [], ◌∷◌, length, codes, Option, Some, None}
use Rattle.std.specs.Str.{bytes_eq}
use Rattle.pair_machine.specs.declared.call.PairCall.{PairCall}
use Rattle.pair_machine.specs.declared.call.PairCall.TheVariants.{Copy, Compare}
use Rattle.trace_io.specs.Grammar.{◌>>=◌, only_id, nothing, words_of}

-- a call, or that the copying ends
pub data PairItem : Type 0 where
  Ask : PairCall → PairItem
  Close : PairItem

-- the items by their first word
abbrev pub copied : List (List ℕ) → Option PairItem
copied words = do
  id ← only_id words
  Some (Ask (Copy id))

abbrev pub compared : List (List ℕ) → Option PairItem
compared words = do
  id ← only_id words
  Some (Ask (Compare id))

abbrev pub pair_closed : List (List ℕ) → Option PairItem
pair_closed words = do
  f ← nothing words
  Some Close

-- the item of a line of these words
unfoldable pub pair_item_of_words : List (List ℕ) → Option PairItem
pair_item_of_words [] = None
pair_item_of_words (word ∷ fields) =
    if bytes_eq word (codes "copy") then copied fields
    else if bytes_eq word (codes "compare") then compared fields
    else if bytes_eq word (codes "close") then pair_closed fields
    else None

-- the item of a line, if it is one: it has at most 255 bytes
unfoldable pub pair_item_of : List ℕ → Option PairItem
pair_item_of line = if nat_le (length line) 255 then pair_item_of_words (words_of line) else None

-- whether a line is the last that is read
abbrev pub is_last_pair_item : Option PairItem → Bool
is_last_pair_item (Some Close) = true
is_last_pair_item item = false
