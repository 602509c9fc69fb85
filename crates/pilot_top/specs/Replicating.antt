-- What `replicate` does: how its lines end, and then its status and the last line.
use Rattle.std.specs.Prelude.{◌≡◌, ◌≢◌, ◌⊎◌, ◌≤◌, ℕ, List, Option, Some, None, Result, Err, IfErr}
use Rattle.labelled_disk.specs.Calls.{OnlyReads, Rose}
use Rattle.labelled_disk.specs.Layout.{IsCount}
use Rattle.labelled_disk.specs.Sectors.{Sector}
use Rattle.labelled_disk.specs.State.{DiskState}
use Rattle.labelled_disk.specs.declared.evidence.Halt.{Halt}
use Rattle.labelled_disk.specs.declared.evidence.Halt.TheVariants as halt
use Rattle.labelled_disk.specs.declared.layout.RootFault.{RootFault}
use Rattle.labelled_disk.specs.declared.layout.RootFault.TheVariants as fault
use Rattle.trace_io.specs.PairReading.{pair_reading}
use Rattle.volume_root.specs.Flag.{IsRefused}
use Rattle.volume_root.specs.Sound.{Sound}
use Rattle.volume_pair.specs.Ends.{IsCounted, IsEarly, IsOutside, IsRightRefusal}
use Rattle.volume_pair.specs.Kept.{IsOnlyRead}
use Rattle.volume_pair.specs.declared.fault.PairHalt.TheVariants as on
use Rattle.volume_pair.specs.declared.fault.PairStart.{PairStart}
use Rattle.volume_pair.specs.declared.fault.PairStart.TheVariants as unstarted
use Rattle.pair_session.specs.Causes.{HasReason, IsJudged, IsShortText, IsShown, WroteSecond}
use Rattle.pair_session.specs.Ended.{Ended}
use Rattle.pair_session.specs.Owned.{RepliesTo}
use Rattle.pair_session.specs.Second.{Replicates}
use Rattle.pair_session.specs.declared.outcome.Outcome.{Outcome}
use Rattle.pair_session.specs.declared.outcome.Outcome.TheVariants as outcome
use Rattle.pilot_top.specs.Last.{last_line, Puts}
use Rattle.pilot_top.specs.Stopping.{cause_of, status_of}
use Rattle.pilot_top.specs.World.{World, Holds, Gives, Took, DiskFailed, SourceFailed, SinkFailed, WritesLast}
use Rattle.pilot_top.specs.declared.last.Cause.{Cause}
use Rattle.pilot_top.specs.declared.last.Cause.TheVariants as cause
use Rattle.pilot_top.specs.declared.last.OtherCause.TheVariants as other
use Rattle.pilot_top.specs.declared.status.Status.{Status}
use Rattle.pilot_top.specs.declared.status.Status.TheVariants as status

-- the status where no pair started
abbrev pub status_unstarted : PairStart → Status
status_unstarted (unstarted.From fault.Disk) = status.DiskFault
status_unstarted (unstarted.From why) = status.NotOpened
status_unstarted (unstarted.To fault.Disk) = status.DiskFault
status_unstarted (unstarted.To why) = status.NotOpened
status_unstarted unstarted.NoMemory = status.NoMemory
status_unstarted (unstarted.Halt why) = status_of why

-- the status by how the lines end
abbrev pub status_after : Outcome → Status
status_after outcome.Done = status.Done
status_after (outcome.NotStarted why) = status_unstarted why
status_after (outcome.Halted (on.From why)) = status_of why
status_after (outcome.Halted (on.To why)) = status_of why
status_after outcome.Long = status.Long
status_after outcome.ReadFault = status.StreamFault
status_after outcome.SinkFault = status.StreamFault

-- why it halted on the second volume, in the last line
abbrev pub other_cause_of : Halt → Cause
other_cause_of halt.Disk = cause.Other other.DiskFault
other_cause_of (halt.Damaged evidence) = cause.Other (other.Damaged evidence)

-- why no pair started, in the last line, if there is one
abbrev pub cause_unstarted : PairStart → Option Cause
cause_unstarted (unstarted.From fault.Disk) = Some cause.DiskFault
cause_unstarted (unstarted.From why) = Some (cause.Root why)
cause_unstarted (unstarted.To fault.Disk) = Some (cause.Other other.DiskFault)
cause_unstarted (unstarted.To why) = Some (cause.Other (other.Root why))
cause_unstarted unstarted.NoMemory = None
cause_unstarted (unstarted.Halt why) = Some (other_cause_of why)

-- why it stopped, in the last line, if there is one
abbrev pub cause_after : Outcome → Option Cause
cause_after outcome.Done = None
cause_after (outcome.NotStarted why) = cause_unstarted why
cause_after (outcome.Halted (on.From why)) = Some (cause_of why)
cause_after (outcome.Halted (on.To why)) = Some (other_cause_of why)
cause_after outcome.Long = Some cause.Long
cause_after outcome.ReadFault = None
cause_after outcome.SinkFault = None

-- the last line was written, if there is one
abbrev pub PutsCause : Type 0 → Option (List ℕ) → Option (List ℕ) → Option Cause → Type 0
PutsCause failed old new None = new ≡ old
PutsCause failed old new (Some why) = Puts failed old new (last_line why)

-- no pair started, for this, unless there was no memory for the words
abbrev pub IsRefusal : PairStart → Outcome → Type 0
IsRefusal why how = (how ≡ outcome.NotStarted why) ⊎ (how ≡ outcome.NotStarted unstarted.NoMemory)

-- no pair started, and the first volume is why
abbrev pub IsOfFirst : Outcome → Type 0
IsOfFirst how = (w : RootFault) × (how ≡ outcome.NotStarted (unstarted.From w))

-- Where a root fails a test, no pair starts: the first volume's root comes first, and the first test that fails is why, or that root's
-- disk failed.
pub record RefusesRoots (how : Outcome) (from to : DiskState) : Type 0 where
  pub first : (d : List Sector) (why : RootFault) → from.contents ≡ Some d → IsRefused d why
      → IsRefusal (unstarted.From why) how ⊎ (how ≡ outcome.NotStarted (unstarted.From fault.Disk))
  pub second : (e : List Sector) (why : RootFault) → to.contents ≡ Some e → IsRefused e why
      → IsRefusal (unstarted.To why) how ⊎ (how ≡ outcome.NotStarted (unstarted.To fault.Disk)) ⊎ IsOfFirst how
  -- so it is with a count of sectors that no volume has, whatever the disk reveals
  pub first_count : ¬ IsCount from.sectors → IsRefusal (unstarted.From (fault.BadCount from.sectors)) how
  pub second_count : ¬ IsCount to.sectors → IsRefusal (unstarted.To (fault.BadCount to.sectors)) how ⊎ IsOfFirst how

-- Both roots were looked at, the first one's first: whether a pair may be started, or why not.
pub record JudgesRoots (result : Result (Unit {0}) PairStart) (from to new_from new_to : DiskState) : Type 0 where
  pub from_reads : OnlyReads from new_from
  pub to_reads : OnlyReads to new_to
  pub first : (d : List Sector) (why : RootFault) → from.contents ≡ Some d → IsRefused d why
      → (result ≡ Err (unstarted.From why)) ⊎ (result ≡ Err (unstarted.From fault.Disk))
  pub second : (e : List Sector) (why : RootFault) → to.contents ≡ Some e → IsRefused e why
      → (result ≡ Err (unstarted.To why)) ⊎ (result ≡ Err (unstarted.To fault.Disk)) ⊎ ((w : RootFault) × (result ≡ Err (unstarted.From w)))
  pub first_count : ¬ IsCount from.sectors → result ≡ Err (unstarted.From (fault.BadCount from.sectors))
  pub second_count : ¬ IsCount to.sectors → (result ≡ Err (unstarted.To (fault.BadCount to.sectors))) ⊎ ((w : RootFault) × (result ≡ Err (unstarted.From w)))
  pub right : (d e : List Sector) → from.contents ≡ Some d → to.contents ≡ Some e → IfErr result (IsRightRefusal d e)
  pub sound : (d e : List Sector) → from.contents ≡ Some d → to.contents ≡ Some e → Sound d → Sound e → IfErr result IsOutside
  pub shown : IfErr result (λ w. IsEarly w × IsCounted from to new_from new_to w)

-- The lines of a `replicate` ended so, and left both disks, source and sink so.
pub record RanLines (how : Outcome) (before after : World) (second second_after : DiskState) : Type 0 where
  -- From two sound volumes: replies that the pair of their lists allows, to the lines that were taken; what the second volume has then, and
  -- what it has in each crash state of what was written on it.
  pub replies : (d e : List Sector) (b t : List ℕ) → Holds before d → second.contents ≡ Some e → Sound d → Sound e → Gives before b → Took before t
      → Ended how b after.left t after.took (Replicates how d e (pair_reading b) second second_after)
  -- Whatever the disks hold, replies that suit the lines; for which files the second disk was written, and that its volume is in use
  -- until the end.
  pub texts : (b t : List ℕ) → Gives before b → Took before t → Ended how b after.left t after.took (RepliesTo how (pair_reading b) second second_after)
  -- The first disk is never written; each write of the second is permitted where it is made, and none is made where it is refused.
  pub from : IsOnlyRead before.disk after.disk
  pub to : WroteSecond how second second_after
  -- Why no pair started, or it halted; from two sound volumes a disk that failed, or the memory.
  pub judged : (d e : List Sector) → Holds before d → second.contents ≡ Some e → IsJudged how d e
  pub shown : IsShown how before.disk second after.disk second_after
  pub refuses : RefusesRoots how before.disk second
  -- Whether the text is too long, and whether source or sink failed.
  pub reason : HasReason how before.left before.source_faults after.source_faults before.sink_faults after.sink_faults

-- Each status but `Done` and `Damaged` has its cause.
pub record HasReasonOfTwo (s : Status) (before after : World) (second second_after : DiskState) : Type 0 where
  pub disk : s ≡ status.DiskFault → DiskFailed before after ⊎ Rose second.faults second_after.faults
  pub stream : s ≡ status.StreamFault → SourceFailed before after ⊎ SinkFailed before after
  -- nothing was written to the second disk, and there is a line that says why
  pub not_opened : s ≡ status.NotOpened
      → OnlyReads second second_after × (why : RootFault) × (WritesLast before after (cause.Root why) ⊎ WritesLast before after (cause.Other (other.Root why)))
  pub count : ¬ IsCount before.disk.sectors
      → (s ≡ status.NoMemory) ⊎ ((s ≡ status.NotOpened) × WritesLast before after (cause.Root (fault.BadCount before.disk.sectors)))
  pub long : (b : List ℕ) → Gives before b → s ≡ status.Long → ¬ IsShortText b
  pub memory : s ≡ status.NoMemory → OnlyReads second second_after
  pub no_other : s ≢ status.Usage × s ≢ status.Unfit

-- A `replicate` ended with this status, and left both disks, source and sink so.
pub record Replicated (s : Status) (before after : World) (second second_after : DiskState) : Type 0 where
  -- How its lines ended, what the sink had then, and how often it had failed; status and last line are those of that end.
  pub how : Outcome
  pub heard : Option (List ℕ)
  pub faults_then : ℕ
  pub later : faults_then ≤ after.sink_faults
  pub lines : RanLines how before (record after { took = heard; sink_faults = faults_then }) second second_after
  pub status_is : s ≡ status_after how
  pub last : PutsCause (SinkFailed before after) heard after.took (cause_after how)
  -- Where nothing failed, and both volumes are sound, a text that is not too long is read to its end.
  pub complete : (d e : List Sector) (b : List ℕ) → Holds before d → second.contents ≡ Some e → Sound d → Sound e → Gives before b → IsShortText b
      → ¬ DiskFailed before after → ¬ Rose second.faults second_after.faults → ¬ SourceFailed before after → ¬ SinkFailed before after
      → (s ≡ status.Done) ⊎ (s ≡ status.NoMemory)
  pub cause : HasReasonOfTwo s before after second second_after
