-- Why a replication ended so, and what it did to both disks.
use Rattle.std.specs.Prelude.{◌≡◌, ◌⊎◌, ◌^◌, ◌≤◌, ℕ, List, Option, Some, slice_get}
use Rattle.labelled_disk.specs.declared.disk.DiskWrite.{DiskWrite}
use Rattle.labelled_disk.specs.declared.layout.RootFault.{RootFault}
use Rattle.labelled_disk.specs.declared.evidence.Halt.TheVariants as halt
use Rattle.labelled_disk.specs.Calls.{OnlyReads, Rose}
use Rattle.labelled_disk.specs.CrashState.{crash_state}
use Rattle.labelled_disk.specs.Permitted.{Permitted}
use Rattle.labelled_disk.specs.Runs.{IsWriteInForm}
use Rattle.labelled_disk.specs.Sectors.{Sector}
use Rattle.labelled_disk.specs.State.{DiskState}
use Rattle.labelled_disk.specs.WriteRuns.{Appended}
use Rattle.swapper_kernel.specs.Goes.{Went}
use Rattle.filer_kernel.specs.Evidence.{ShowsEvidence}
use Rattle.trace_io.specs.Items.{FitsIn}
use Rattle.trace_io.specs.PairGrammar.{is_last_pair_item, pair_item_of}
use Rattle.volume_pair.specs.Ends.{IsCounted, IsEarly, IsOutside, IsRightRefusal}
use Rattle.volume_pair.specs.Kept.{StartKeeps}
use Rattle.volume_pair.specs.Pairs.{IsFaultOfDisk}
use Rattle.volume_pair.specs.declared.fault.PairHalt.{PairHalt}
use Rattle.volume_pair.specs.declared.fault.PairHalt.TheVariants as on
use Rattle.volume_pair.specs.declared.fault.PairStart.{PairStart}
use Rattle.volume_root.specs.Flag.{IsRefused}
use Rattle.volume_root.specs.Sound.{Sound}
use Rattle.pair_session.specs.declared.outcome.Outcome.{Outcome}
use Rattle.pair_session.specs.declared.outcome.Outcome.TheVariants as outcome

-- this holds of why no pair started, if none did
abbrev pub IfNotStarted : Outcome → (PairStart → Type 0) → Type 0
IfNotStarted (outcome.NotStarted why) holds = holds why
IfNotStarted how holds = Unit {0}

-- this holds of why it halted, if it did
abbrev pub IfHalted : Outcome → (PairHalt → Type 0) → Type 0
IfHalted (outcome.Halted why) holds = holds why
IfHalted how holds = Unit {0}

-- no pair was started
abbrev pub IsNotStarted : Outcome → Type 0
IsNotStarted (outcome.NotStarted why) = Unit {0}
IsNotStarted how = ⊥

-- Of two disks that revealed these sectors: where a volume is refused none starts, and this is why; and from two sound ones only a disk
-- or the memory fails.
pub record IsJudged (how : Outcome) (d e : List Sector) : Type 0 where
  pub none_starts : (why : RootFault) → IsRefused d why ⊎ IsRefused e why → IsNotStarted how
  pub refused : IfNotStarted how (IsRightRefusal d e)
  pub starts : Sound d → Sound e → IfNotStarted how IsOutside
  pub goes_on : Sound d → Sound e → IfHalted how IsFaultOfDisk

-- the halt names the side on which it came: it is a fault of the disk only where that disk counted one, and its evidence of damage is
-- so of it
abbrev pub ShowsHalt : DiskState → DiskState → DiskState → DiskState → PairHalt → Type 0
ShowsHalt from to new_from new_to (on.From e) = (e ≡ halt.Disk → Rose from.faults new_from.faults) × ShowsEvidence new_from e
ShowsHalt from to new_from new_to (on.To e) = (e ≡ halt.Disk → Rose to.faults new_to.faults) × ShowsEvidence new_to e

-- what both disks show of why none started, or it halted
pub record IsShown (how : Outcome) (from to new_from new_to : DiskState) : Type 0 where
  pub started : IfNotStarted how (IsCounted from to new_from new_to)
  pub halted : IfHalted how (ShowsHalt from to new_from new_to)

-- Over any contents: the same disk later, and each write that was made was in form, and permitted where it was made.
pub record IsPermitted (old new : DiskState) : Type 0 where
  pub went : Went old new
  pub writes : List DiskWrite
  pub appended : Appended writes old new
  pub form : (k : ℕ) (w : DiskWrite) → slice_get writes k ≡ Some w → IsWriteInForm w
  pub permitted : (d : List Sector) (k : ℕ) (w : DiskWrite) → old.contents ≡ Some d → slice_get writes k ≡ Some w → Permitted (crash_state d writes k) w

-- So it was written. Where none started, a sound second volume keeps its files in each crash state, whatever the first one holds; and
-- nothing was written, if it was for another reason than that its first writes failed.
pub record WroteSecond (how : Outcome) (old new : DiskState) : Type 0 where
  pub permitted : IsPermitted old new
  pub keeps : IfNotStarted how (λ why. StartKeeps old new)
  pub early : IfNotStarted how (λ why. IsEarly why → OnlyReads old new)

-- the text fits in the bytes that are read
abbrev pub IsShortText : List ℕ → Type 0
IsShortText b = FitsIn pair_item_of is_last_pair_item (2 ^ 32) b

-- Whether the text fits in the limit, and whether the faults of the source or the sink rose; they never fall.
pub record HasReason (how : Outcome) (left : Option (List ℕ)) (source_before source_now sink_before sink_now : ℕ) : Type 0 where
  pub short : (b : List ℕ) → left ≡ Some b → how ≡ outcome.Done → IsShortText b
  pub long : (b : List ℕ) → left ≡ Some b → how ≡ outcome.Long → ¬ IsShortText b
  pub source : how ≡ outcome.ReadFault → Rose source_before source_now
  pub sink : how ≡ outcome.SinkFault → Rose sink_before sink_now
  pub source_later : source_before ≤ source_now
  pub sink_later : sink_before ≤ sink_now
