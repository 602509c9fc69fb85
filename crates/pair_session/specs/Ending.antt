-- How lines of a pair end, before the second volume is closed.
use Rattle.std.specs.Prelude.{◌≡◌, ◌^◌, false, ℕ, List, [], ◌∷◌, ◌++◌, length, flat_map, Option, Some}
use Rattle.labelled_disk.specs.Sectors.{Sector}
use Rattle.pair_machine.specs.Pair.{Pair}
use Rattle.pair_machine.specs.declared.call.PairReply.{PairReply}
use Rattle.trace_io.specs.PairGrammar.{Close}
use Rattle.trace_io.specs.PairReading.{pair_reading, rest_of_pair}
use Rattle.trace_io.specs.PairText.{pair_text}
use Rattle.volume_pair.specs.CrashStates.{SyncedStatesOf}
use Rattle.volume_pair.specs.Kept.{IsRootOf}
use Rattle.volume_pair.specs.Owned.{WritesFor}
use Rattle.volume_pair.specs.Pairs.{IsFaultOfDisk}
use Rattle.pair_session.specs.Causes.{IfHalted}
use Rattle.pair_session.specs.Ended.{IsCutShort, TakesToLast, TakesWhole, closes}
use Rattle.pair_session.specs.Lines.{Answers, AreTo, Item, after_lines}
use Rattle.pair_session.specs.Owned.{copied_by_any}
use Rattle.pair_session.specs.Pairs.{MayBeAsked, PairView, StandsFor}
use Rattle.pair_session.specs.Second.{EndsAfter, IsAfter, IsCopied}
use Rattle.pair_session.specs.declared.ending.Ending.{Ending}
use Rattle.pair_session.specs.declared.ending.Ending.TheVariants as ending
use Rattle.pair_session.specs.declared.outcome.Outcome.{Outcome}
use Rattle.pair_session.specs.declared.outcome.Outcome.TheVariants as outcome

-- the outcome, where nothing more fails
abbrev pub outcome_of : Ending → Outcome
outcome_of ending.Close = outcome.Done
outcome_of ending.End = outcome.Done
outcome_of ending.Long = outcome.Long
outcome_of ending.ReadFault = outcome.ReadFault
outcome_of ending.SinkFault = outcome.SinkFault
outcome_of (ending.Halted why) = outcome.Halted why

-- the sink took the texts of these replies, and nothing else
abbrev pub TookTexts : List ℕ → Option (List ℕ) → List PairReply → Type 0
TookTexts t took replies = took ≡ Some (t ++ flat_map pair_text replies)

-- the lines that were begun: those that were replied to, and one at which it halted
abbrev pub AreBegun : Ending → List Item → List Item → Type 0
AreBegun (ending.Halted why) items lines = (item : Item) × (lines ≡ items ++ item ∷ [])
AreBegun how items lines = lines ≡ items

-- These lines of a source with the bytes b got these replies, on a sink that had the bytes t, and these ones were begun; by how they ended.
abbrev pub EndsAt : Ending → List ℕ → Option (List ℕ) → List ℕ → Option (List ℕ) → List Item → List PairReply → List Item → Type 0
EndsAt ending.Close b left t took items replies lines =
    (pair_reading b ≡ items ++ Some Close ∷ []) × (left ≡ Some (rest_of_pair b)) × TakesToLast b left (items ++ Some Close ∷ []) × TookTexts t took replies
EndsAt ending.End b left t took items replies lines = (pair_reading b ≡ items) × (left ≡ Some (rest_of_pair b)) × (left ≡ Some []) × TookTexts t took replies
EndsAt ending.Long b left t took items replies lines = ((takes : TakesWhole b left items) × (length takes.0.bytes ≡ 2 ^ 32)) × TookTexts t took replies
EndsAt ending.ReadFault b left t took items replies lines = TakesWhole b left items × TookTexts t took replies
EndsAt ending.SinkFault b left t took items replies lines = TakesToLast b left items × IsCutShort t took (λ rs. rs ≡ replies)
EndsAt (ending.Halted why) b left t took items replies lines = TakesToLast b left lines × TookTexts t took replies

-- it may be asked, unless it halted
abbrev pub IsOpenAt : Ending → PairView → Type 0
IsOpenAt (ending.Halted why) v = Unit {0}
IsOpenAt how v = MayBeAsked v

-- the pair stands for this machine, or a disk failed where it halted
abbrev pub StandsOr : Ending → PairView → Pair → Type 0
StandsOr (ending.Halted why) v p = IsFaultOfDisk why
StandsOr how v p = StandsFor v p

-- Lines were taken and replied to, whatever source and sink reveal; none of them ends the text.
pub record HasReplied (how : Ending) (v w : PairView) (left_old left_new took_old took_new : Option (List ℕ)) : Type 0 where
  pub items : List Item
  pub replies : List PairReply
  pub suit : AreTo items replies
  pub none_last : closes items ≡ false
  pub lines : List Item
  pub begun : AreBegun how items lines
  pub own : WritesFor (copied_by_any lines) v.to w.to
  pub leads : (p : Pair) → StandsFor v p → Answers p items replies × StandsOr how w (after_lines p items)
  pub crash_states : (p : Pair) → StandsFor v p → (d : List Sector) → IsRootOf d v.volume.root → SyncedStatesOf (IsAfter d p lines) (length lines) (IsCopied items replies) v.to.disk w.to.disk
  pub halted : (p : Pair) → StandsFor v p → (d : List Sector) → IsRootOf d v.volume.root → IfHalted (outcome_of how) (λ why. EndsAfter d p lines (length items) (length lines) w.to.disk)
  pub ended : (b t : List ℕ) → left_old ≡ Some b → took_old ≡ Some t → EndsAt how b left_new t took_new items replies lines
