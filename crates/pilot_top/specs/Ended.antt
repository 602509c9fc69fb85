-- How the session of a run is ended, and what that leaves.
use Rattle.std.specs.Prelude.{◌≡◌, ◌≢◌, ◌⊎◌, ℕ, List, Option, Some, None}
use Rattle.std.specs.Io.KnownBytes.{Appends}
use Rattle.labelled_disk.specs.declared.evidence.Evidence.{Evidence}
use Rattle.labelled_disk.specs.Calls.{Rose}
use Rattle.labelled_disk.specs.State.{DiskState}
use Rattle.frame_pool.specs.Frames.{Slots}
use Rattle.flat_machine.specs.Machine.{Machine}
use Rattle.trace_io.specs.Stream.{IsPrefixOf}
use Rattle.volume_root.specs.declared.root.Root.{Root}
use Rattle.running_words.specs.Bound.{CostsOther}
use Rattle.pilot_engine.specs.Closing.{HasShut, IsStop, ShutsBySync, Throughout, WroteOn}
use Rattle.pilot_engine.specs.Opening.{IsUnset}
use Rattle.pilot_engine.specs.Sparing.{SparesAll}
use Rattle.pilot_top.specs.Ending.{end_text}
use Rattle.pilot_top.specs.Last.{Puts, last_line}
use Rattle.pilot_top.specs.RunDisk.{HasSeen}
use Rattle.pilot_top.specs.declared.last.Cause.TheVariants as cause
use Rattle.pilot_top.specs.declared.status.Status.{Status}
use Rattle.pilot_top.specs.declared.status.Status.TheVariants as status
use Rattle.pilot_top.specs.declared.turn.End.{End}
use Rattle.pilot_top.specs.declared.turn.End.TheVariants as end

-- A session that stood for this machine was ended: the volume is closed where `shut` says so, and no damage was found, which `damaged` says.
-- Each crash state of its writes has the machine's settled files, and the flag is set after a sync.
pub record EndsAs (m : Machine) (shut damaged : Type 0) (old new : DiskState) : Type 0 where
  pub closed : shut → HasShut m new
  pub stops : Throughout (IsStop m) old new
  pub sound : ¬ damaged
  pub cost : CostsOther old new
  pub syncs : ShutsBySync old new

-- Over any contents, what it wrote on a volume with this root, from these frames; and it spares all files of clients.
pub record WritesEnd (root : Root) (before : Slots) (old new : DiskState) : Type 0 where
  pub wrote : WroteOn root before old new
  pub spares : SparesAll old new

-- Whether it halted, by the status that it has then: the disk failed, or the volume is damaged, as what is revealed shows. `shown` is the label
-- that had changed, if one had; `reasoned` says of evidence that it has its reason, and `puts` of a line that it was written.
pub record StopsEnding (s : Option Status) (shown : Option Evidence) (reasoned : Evidence → Type 0) (old new : DiskState) (puts : List ℕ → Type 0) : Type 0 where
  pub disk_fault : s ≡ Some status.DiskFault → (shown ≡ None) × Rose old.faults new.faults × puts (last_line cause.DiskFault)
  pub damage : s ≡ Some status.Damaged → (e : Evidence) × HasSeen shown new reasoned e × puts (last_line (cause.Damaged e))
  pub left_open : IsUnset old → s ≡ Some status.Damaged → IsUnset new
  pub ends : (s ≡ None) ⊎ (s ≡ Some status.DiskFault) ⊎ (s ≡ Some status.Damaged)

-- What the sink took at the end of a trace, by the status: the reply to the line that ended it, or a prefix of that where the sink failed, which
-- `failed` says; or the last line.
pub record AnswersEnd (s : Status) (how : End) (shown : Option Evidence) (reasoned : Evidence → Type 0) (old new : DiskState) (took now : Option (List ℕ)) (failed : Type 0) : Type 0 where
  pub done : s ≡ status.Done → Appends took now (end_text how)
  pub part : s ≡ status.StreamFault → (prefix : List ℕ) × IsPrefixOf prefix (end_text how) × Appends took now prefix
  pub stream_cause : s ≡ status.StreamFault → failed × (how ≢ end.Trace)
  pub disk_fault : s ≡ status.DiskFault → (shown ≡ None) × Rose old.faults new.faults × Puts failed took now (last_line cause.DiskFault)
  pub damage : s ≡ status.Damaged → (e : Evidence) × HasSeen shown new reasoned e × Puts failed took now (last_line (cause.Damaged e))
  pub ends : (s ≡ status.Done) ⊎ (s ≡ status.StreamFault) ⊎ (s ≡ status.DiskFault) ⊎ (s ≡ status.Damaged)
