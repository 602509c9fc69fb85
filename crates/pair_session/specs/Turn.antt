-- What one line does, before its reply is written.
use Rattle.std.specs.Prelude.{◌≡◌, ◌⊎◌, ◌<◌, ◌≤◌, ℕ, List, [], Option, Some, None, false}
use Rattle.std.specs.Io.KnownBytes.{Consumes, IsAtEnd}
use Rattle.labelled_disk.specs.Calls.{Rose}
use Rattle.pair_machine.specs.Pair.{Pair}
use Rattle.pair_machine.specs.declared.call.PairReply.{PairReply}
use Rattle.pair_machine.specs.declared.call.PairReply.TheVariants as reply
use Rattle.trace_io.specs.PairGrammar.{Close, is_last_pair_item}
use Rattle.trace_io.specs.PairLines.{TakesPairLine}
use Rattle.trace_io.specs.Progress.{Progress}
use Rattle.trace_io.specs.Taken.{TakesPart}
use Rattle.trace_io.specs.declared.progress.Stop.TheVariants as stop
use Rattle.volume_pair.specs.CrashStates.{ChangesFiles, IsSyncedNow}
use Rattle.volume_pair.specs.Owned.{WritesFor}
use Rattle.volume_pair.specs.Pairs.{IsFaultOfDisk}
use Rattle.volume_pair.specs.declared.fault.PairHalt.{PairHalt}
use Rattle.pair_session.specs.Lines.{AllowsLine, Item, Suits, next_line}
use Rattle.pair_session.specs.Owned.{copied_by}
use Rattle.pair_session.specs.Pairs.{MayBeAsked, PairView, StandsFor}
use Rattle.pair_session.specs.declared.ending.Ending.{Ending}
use Rattle.pair_session.specs.declared.ending.Ending.TheVariants as ending
use Rattle.pair_session.specs.declared.turn.Turn.{Turn}
use Rattle.pair_session.specs.declared.turn.Turn.TheVariants as turn

-- What was taken where no line follows. A line that halts is one that others may follow, and `halted` holds of why it did and of it.
abbrev pub EndsSo : Ending → Option (List ℕ) → Option (List ℕ) → Progress → Progress → (PairHalt → Item → Type 0) → Type 0
EndsSo ending.Close b c p q halted = (p.stopped ≡ None) × TakesPairLine (Some Close) b c p q
EndsSo ending.End b c p q halted = ((p.stopped ≡ None) × Consumes b c [] × IsAtEnd c × (p.taken < p.limit)) ⊎ ((p.stopped ≡ Some stop.End) × (c ≡ b))
EndsSo ending.Long b c p q halted = (p.stopped ≡ None) × TakesPart stop.Long b c p q × (q.taken ≡ q.limit)
EndsSo ending.ReadFault b c p q halted = (p.stopped ≡ None) × TakesPart stop.ReadFault b c p q
EndsSo ending.SinkFault b c p q halted = ⊥
EndsSo (ending.Halted why) b c p q halted = (p.stopped ≡ None) × (item : Item) × TakesPairLine item b c p q × (is_last_pair_item item ≡ false) × halted why item

-- what a turn takes from the source, and its reply; `step` holds of the line and the reply
abbrev pub Turns : Turn → Option (List ℕ) → Option (List ℕ) → Progress → Progress → (Item → PairReply → Type 0) → (PairHalt → Item → Type 0) → Type 0
Turns (turn.Replies r) b c p q step halted = (p.stopped ≡ None) × (item : Item) × TakesPairLine item b c p q × (is_last_pair_item item ≡ false) × Suits item r × step item r
Turns (turn.Ends how) b c p q step halted = EndsSo how b c p q halted

-- in each crash state the second disk has the list of before the line, or that of after it
abbrev pub ChangesByLine : PairView → PairView → Pair → Item → Type 0
ChangesByLine v w p item = ChangesFiles p.to (next_line p item).to v.volume.root v.to.disk w.to.disk

-- The pair allows the reply to the line, and stands for what follows. What is done is on the medium.
pub record StepsBy (v w : PairView) (p : Pair) (item : Item) (r : PairReply) : Type 0 where
  pub allowed : AllowsLine p item r
  pub stands : StandsFor w (next_line p item)
  pub crash_states : ChangesByLine v w p item
  pub synced : r ≡ reply.Done → IsSyncedNow w.to.disk

-- over any contents, the second disk was written for the file that the line copies alone
abbrev pub WritesByLine : PairView → PairView → Item → Type 0
WritesByLine v w item = WritesFor (copied_by item) v.to w.to

abbrev pub Steps : PairView → PairView → Item → PairReply → Type 0
Steps v w item r = WritesByLine v w item × ((p : Pair) → StandsFor v p → StepsBy v w p item r)

-- a disk failed, in the middle of the line
abbrev pub HaltsBy : PairView → PairView → PairHalt → Item → Type 0
HaltsBy v w why item = WritesByLine v w item × ((p : Pair) → StandsFor v p → IsFaultOfDisk why × ChangesByLine v w p item)

-- this holds of why it halted, if it did
abbrev pub IfHalts : Turn → (PairHalt → Type 0) → Type 0
IfHalts (turn.Ends (ending.Halted why)) holds = holds why
IfHalts other holds = Unit {0}

-- it may be asked again: after a reply; and where no line follows, it is as it was, unless it halted
abbrev pub StaysOpen : Turn → PairView → PairView → Type 0
StaysOpen (turn.Replies r) v w = MayBeAsked w
StaysOpen (turn.Ends (ending.Halted why)) v w = Unit {0}
StaysOpen (turn.Ends how) v w = w ≡ v

-- The source's faults never fall, and rose where it failed.
pub record FaultsBy (t : Turn) (before now : ℕ) : Type 0 where
  pub later : before ≤ now
  pub cause : t ≡ turn.Ends ending.ReadFault → Rose before now
