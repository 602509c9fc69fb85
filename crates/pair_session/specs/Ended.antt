-- What source and sink have where a replication ends.
use Rattle.std.specs.Prelude.{◌≡◌, ◌⊎◌, ◌^◌, Bool, false, ℕ, List, [], ◌∷◌, ◌++◌, length, flat_map, Option, Some}
use Rattle.std.specs.List.{list_any}
use Rattle.pair_machine.specs.declared.call.PairReply.{PairReply}
use Rattle.trace_io.specs.PairGrammar.{is_last_pair_item}
use Rattle.trace_io.specs.PairReading.{pair_reading, whole_pair_reading, rest_of_pair}
use Rattle.trace_io.specs.PairText.{pair_text}
use Rattle.trace_io.specs.Stream.{IsPrefixOf}
use Rattle.pair_session.specs.Lines.{Item}
use Rattle.pair_session.specs.declared.outcome.Outcome.{Outcome}
use Rattle.pair_session.specs.declared.outcome.Outcome.TheVariants as outcome

-- A sink that had the bytes t took the texts of replies of which this holds, and nothing else.
pub record HasReplies (t : List ℕ) (took : Option (List ℕ)) (holds : List PairReply → Type 0) : Type 0 where
  pub replies : List PairReply
  pub are : holds replies
  pub took_is : took ≡ Some (t ++ flat_map pair_text replies)

-- The same, but of the text of the last one it took a prefix.
pub record IsCutShort (t : List ℕ) (took : Option (List ℕ)) (holds : List PairReply → Type 0) : Type 0 where
  pub replies : List PairReply
  pub last : PairReply
  pub are : holds (replies ++ last ∷ [])
  pub prefix : List ℕ
  pub is_prefix : IsPrefixOf prefix (pair_text last)
  pub took_is : took ≡ Some (t ++ flat_map pair_text replies ++ prefix)

-- Of a source with the bytes b some were taken, and the rest is left; these lines are the first ones.
pub record HasTaken (b : List ℕ) (left : Option (List ℕ)) (items : List Item) : Type 0 where
  pub bytes : List ℕ
  pub rest : List ℕ
  pub all : b ≡ bytes ++ rest
  pub left_is : left ≡ Some rest
  pub more : List Item
  pub first : pair_reading b ≡ items ++ more

-- they are all that are whole in the bytes taken
abbrev pub TakesWhole : List ℕ → Option (List ℕ) → List Item → Type 0
TakesWhole b left items = (taken : HasTaken b left items) × (whole_pair_reading taken.bytes ≡ items)

-- they are; or nothing is left, and they are all
abbrev pub TakesToLast : List ℕ → Option (List ℕ) → List Item → Type 0
TakesToLast b left items = (taken : HasTaken b left items) × ((whole_pair_reading taken.bytes ≡ items) ⊎ ((taken.rest ≡ []) × (taken.more ≡ [])))

-- one of these lines ends the text
abbrev pub closes : List Item → Bool
closes items = list_any is_last_pair_item items

-- One line more was taken, at which it halted; or these are all lines of a text that none of them ends, and the end halted.
abbrev pub HaltsAfter : List ℕ → Option (List ℕ) → List Item → Type 0
HaltsAfter b left items =
    ((item : Item) × TakesToLast b left (items ++ item ∷ [])) ⊎ ((left ≡ Some []) × (pair_reading b ≡ items) × (closes items ≡ false))

-- Lines of a source with the bytes b were answered to a sink that had the bytes t. By how it ended: which lines were taken, and what
-- was written of them. `each` holds of the lines that were answered, with their replies.
abbrev pub Ended : Outcome → List ℕ → Option (List ℕ) → List ℕ → Option (List ℕ) → (List Item → List PairReply → Type 0) → Type 0
-- all lines of the text; where one of them ends it, what stands after it is left
Ended outcome.Done b left t took each = (left ≡ Some (rest_of_pair b)) × HasReplies t took (each (pair_reading b))
-- nothing was taken, and nothing was written
Ended (outcome.NotStarted why) b left t took each = (left ≡ Some b) × (took ≡ Some t) × each [] []
-- all lines before the one at which it halted, or before the end
Ended (outcome.Halted why) b left t took each = (items : List Item) × HaltsAfter b left items × HasReplies t took (each items)
-- all that are whole in the bytes taken, which are as many as the limit
Ended outcome.Long b left t took each =
    (items : List Item) × ((takes : TakesWhole b left items) × (length takes.0.bytes ≡ 2 ^ 32)) × HasReplies t took (each items)
-- all that are whole in the bytes taken
Ended outcome.ReadFault b left t took each = (items : List Item) × TakesWhole b left items × HasReplies t took (each items)
-- the same, but of the last reply a prefix
Ended outcome.SinkFault b left t took each = (items : List Item) × TakesToLast b left items × IsCutShort t took (each items)
