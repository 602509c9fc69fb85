-- What a replication does, of disks and streams together.
use Rattle.std.specs.Prelude.{◌≡◌, ◌≤◌, ◌+◌, ℕ, List, ◌++◌, length, Option, Some, slice_get}
use Rattle.labelled_disk.specs.Sectors.{Sector}
use Rattle.labelled_disk.specs.State.{DiskState}
use Rattle.pair_machine.specs.Pair.{Pair}
use Rattle.pair_machine.specs.declared.call.PairReply.{PairReply}
use Rattle.swapper_kernel.specs.Goes.{IsDirty}
use Rattle.trace_io.specs.PairReading.{pair_reading}
use Rattle.volume_pair.specs.CrashStates.{SyncedStatesOf}
use Rattle.volume_pair.specs.Kept.{IsOnlyRead, IsRootOf}
use Rattle.volume_pair.specs.Owned.{EachWrite, IsWriteFor, RevealsWrites}
use Rattle.volume_root.specs.Sound.{Sound}
use Rattle.pair_session.specs.Causes.{HasReason, IfHalted, IsJudged, IsPermitted, IsShown, ShowsHalt, WroteSecond}
use Rattle.pair_session.specs.Ended.{Ended}
use Rattle.pair_session.specs.Lines.{Answers, AreTo, Item}
use Rattle.pair_session.specs.Owned.{IsLeftOpen, RepliesTo, begun, copied_by_any}
use Rattle.pair_session.specs.Pairs.{PairView, StandsFor}
use Rattle.pair_session.specs.Second.{EndsAfter, IsAfter, IsCopied, Leaves, Replicates}
use Rattle.pair_session.specs.declared.outcome.Outcome.{Outcome}
use Rattle.pair_session.specs.declared.outcome.Outcome.TheVariants as outcome

-- what source and sink reveal, and how often each failed
pub record Streams : Type 0 where
  pub left : Option (List ℕ)
  pub source_faults : ℕ
  pub took : Option (List ℕ)
  pub sink_faults : ℕ

abbrev pub streams : Option (List ℕ) → ℕ → Option (List ℕ) → ℕ → Streams
streams left source_faults took sink_faults = record { left = left; source_faults = source_faults; took = took; sink_faults = sink_faults }

abbrev pub reasons : Outcome → Streams → Streams → Type 0
reasons how before after = HasReason how before.left before.source_faults after.source_faults before.sink_faults after.sink_faults

-- a pair was started
abbrev pub IsStarted : Outcome → Type 0
IsStarted (outcome.NotStarted why) = ⊥
IsStarted how = Unit {0}

-- where both disks reveal their contents, sector 0 is that of before
abbrev pub KeepsRoot : DiskState → DiskState → Type 0
KeepsRoot old new = (d e : List Sector) → old.contents ≡ Some d → new.contents ≡ Some e → slice_get e 0 ≡ slice_get d 0

-- A pair that may be asked answered lines, whatever source and sink reveal, and was ended.
pub record Carries (how : Outcome) (v : PairView) (before after : Streams) (from to : DiskState) : Type 0 where
  pub items : List Item
  pub replies : List PairReply
  pub suit : AreTo items replies
  pub lines : List Item
  pub few : length lines ≤ length items + begun how
  pub own : RevealsWrites v.to.disk → EachWrite (IsWriteFor (IsDirty v.to.slots) (copied_by_any lines)) v.to.disk to
  pub leads : (p : Pair) → StandsFor v p → Answers p items replies × ((d : List Sector) → IsRootOf d v.volume.root → Leaves how d p items to)
  pub crash_states : (p : Pair) → StandsFor v p → (d : List Sector) → IsRootOf d v.volume.root → SyncedStatesOf (IsAfter d p lines) (length lines) (IsCopied items replies) v.to.disk to
  pub halts : (p : Pair) → StandsFor v p → (d : List Sector) → IsRootOf d v.volume.root → IfHalted how (λ why. EndsAfter d p lines (length items) (length lines) to)
  pub text : (b t : List ℕ) → before.left ≡ Some b → before.took ≡ Some t → (more : List Item) × (pair_reading b ≡ lines ++ more)
  pub ended : (b t : List ℕ) → before.left ≡ Some b → before.took ≡ Some t → Ended how b after.left t after.took (λ is rs. (is ≡ items) × (rs ≡ replies))
  pub left_open : (b t : List ℕ) → before.left ≡ Some b → before.took ≡ Some t → IsLeftOpen how (pair_reading b) items → KeepsRoot v.to.disk to
  pub first : IsOnlyRead v.from.disk from
  pub second : IsPermitted v.to.disk to
  pub halted : IfHalted how (ShowsHalt v.from.disk v.to.disk from to)
  pub reason : reasons how before after
  pub started : IsStarted how

-- A replication over both disks and both streams.
pub record Replicated (how : Outcome) (from to : DiskState) (before : Streams) (new_from new_to : DiskState) (after : Streams) : Type 0 where
  pub replies : (d e : List Sector) (b t : List ℕ) → from.contents ≡ Some d → to.contents ≡ Some e → Sound d → Sound e → before.left ≡ Some b → before.took ≡ Some t
      → Ended how b after.left t after.took (Replicates how d e (pair_reading b) to new_to)
  pub texts : (b t : List ℕ) → before.left ≡ Some b → before.took ≡ Some t → Ended how b after.left t after.took (RepliesTo how (pair_reading b) to new_to)
  pub judged : (d e : List Sector) → from.contents ≡ Some d → to.contents ≡ Some e → IsJudged how d e
  pub first : IsOnlyRead from new_from
  pub second : WroteSecond how to new_to
  pub seen : IsShown how from to new_from new_to
  pub reason : reasons how before after
