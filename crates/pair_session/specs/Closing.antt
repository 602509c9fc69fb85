-- How the second volume is closed once the lines have ended.
use Rattle.std.specs.Prelude.{◌≡◌, ◌≤◌, ℕ, List, Option}
use Rattle.std.specs.Io.KnownBytes.{Appends}
use Rattle.labelled_disk.specs.Calls.{Rose}
use Rattle.labelled_disk.specs.File.{File}
use Rattle.labelled_disk.specs.Sectors.{Sector}
use Rattle.labelled_disk.specs.State.{DiskState}
use Rattle.swapper_kernel.specs.Goes.{IsDirty}
use Rattle.pair_machine.specs.Pair.{Pair}
use Rattle.pair_machine.specs.declared.call.PairReply.TheVariants as reply
use Rattle.trace_io.specs.PairText.{pair_text}
use Rattle.trace_io.specs.Stream.{AppendsPrefix}
use Rattle.volume_pair.specs.CrashStates.{KeepsFiles}
use Rattle.volume_pair.specs.Kept.{IsRootOf}
use Rattle.volume_pair.specs.Owned.{EachWrite, IsWriteFor, no_file}
use Rattle.volume_pair.specs.Pairs.{IsFaultOfDisk}
use Rattle.pair_session.specs.Causes.{IfHalted, IsPermitted, ShowsHalt}
use Rattle.pair_session.specs.Pairs.{PairView, StandsFor}
use Rattle.pair_session.specs.Second.{IsClosedWith}
use Rattle.pair_session.specs.declared.outcome.Outcome.{Outcome}
use Rattle.pair_session.specs.declared.outcome.Outcome.TheVariants as outcome

-- the volume has these files and is closed, or a disk failed where it halted
abbrev pub ShutsSo : Outcome → List Sector → List File → DiskState → Type 0
ShutsSo (outcome.Halted why) d files disk = IsFaultOfDisk why
ShutsSo how d files disk = IsClosedWith d files disk

-- Over any contents, the end of a pair: the first disk is as it was, the second was written as it may be; and where both volumes have the
-- lists of a machine, the second is closed, and keeps its files in each crash state.
pub record Finishes (how : Outcome) (v : PairView) (from to : DiskState) : Type 0 where
  pub shut : (d : List Sector) (p : Pair) → IsRootOf d v.volume.root → StandsFor v p → ShutsSo how d p.to to
  pub crash_states : (p : Pair) → StandsFor v p → KeepsFiles p.to v.volume.root.serial v.volume.root.counter v.to.disk to
  pub same : from ≡ v.from.disk
  pub wrote : IsPermitted v.to.disk to
  pub own : EachWrite (IsWriteFor (IsDirty v.to.slots) no_file) v.to.disk to
  pub halted : IfHalted how (ShowsHalt v.from.disk v.to.disk from to)

-- no reply is due: it is done, or it halted
abbrev pub EndsSilently : Outcome → Type 0
EndsSilently outcome.Done = Unit {0}
EndsSilently (outcome.Halted why) = Unit {0}
EndsSilently other = ⊥

-- the reply to the line that ends the text, once the volume is closed
abbrev pub RepliesLast : Outcome → Option (List ℕ) → Option (List ℕ) → ℕ → ℕ → Type 0
RepliesLast outcome.Done old new before now = (before ≤ now) × Appends old new (pair_text reply.Done)
RepliesLast outcome.SinkFault old new before now = (before ≤ now) × Rose before now × AppendsPrefix old new (pair_text reply.Done)
RepliesLast (outcome.Halted why) old new before now = (before ≤ now) × (new ≡ old)
RepliesLast other old new before now = ⊥
