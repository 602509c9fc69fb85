-- What `run` does with a queue, by its status, over the disk beneath.
use Rattle.std.specs.Prelude.{◌≡◌, ◌≢◌, ◌⊎◌, ◌+◌, ◌*◌, ◌^◌, ◌≤◌, true, false, ℕ, List, ◌++◌, flat_map, Option, Some, None}
use Rattle.labelled_disk.specs.Sectors.{Sector}
use Rattle.labelled_disk.specs.State.{DiskState}
use Rattle.labelled_disk.specs.declared.evidence.Evidence.{Evidence}
use Rattle.labelled_disk.specs.declared.layout.RootFault.{RootFault}
use Rattle.filer_kernel.specs.Evidence.{IsEvident}
use Rattle.flat_machine.specs.declared.call.Reply.{Reply}
use Rattle.flat_machine.specs.After.{TraceLine}
use Rattle.flat_machine.specs.Machine.{Machine}
use Rattle.flat_machine.specs.Start.{start}
use Rattle.flat_machine.specs.Text.{text}
use Rattle.trace_io.specs.Reading.{IsShort, reading, rest_of}
use Rattle.volume_root.specs.Flag.{IsRefused}
use Rattle.volume_root.specs.Sound.{Sound}
use Rattle.pilot_engine.specs.Closing.{HasShut}
use Rattle.pilot_top.specs.Ending.{halts, closes}
use Rattle.pilot_top.specs.Headline.{Answering, HasFilesAt, HasWritten, at_end, run_bound}
use Rattle.pilot_top.specs.Last.{last_line}
use Rattle.pilot_top.specs.Replied.{AreToFirst, Replied}
use Rattle.pilot_top.specs.RunDisk.{IsChange}
use Rattle.pilot_top.specs.World.{World, Holds, Gives, Took, DiskFailed, SourceFailed, SinkFailed, StaysUnwritten, WritesLast}
use Rattle.pilot_top.specs.declared.last.Cause.TheVariants as cause
use Rattle.pilot_top.specs.declared.status.Status.{Status}
use Rattle.pilot_top.specs.declared.status.Status.TheVariants as status

-- A sink that had the bytes t took replies, and then the line of a label that had changed.
abbrev pub WroteChange : List ℕ → Option (List ℕ) → Type 0 → Evidence → Type 0
WroteChange t took failed e = (replies : List Reply) × HasWritten failed (t ++ flat_map text replies) took (last_line (cause.Damaged e))

-- so it is, and the replies are those to the first lines of the trace
abbrev pub RepliesChange : List ℕ → List ℕ → Option (List ℕ) → Type 0 → Evidence → Type 0
RepliesChange b t took failed e = (replies : List Reply) × AreToFirst replies (reading b) × HasWritten failed (t ++ flat_map text replies) took (last_line (cause.Damaged e))

-- The evidence is so of the disk. Or it is a label that had changed while a page waited to be written under it: then the disk doesn't
-- reveal what it holds.
abbrev pub IsSeen : DiskState → Evidence → Type 0
IsSeen disk e = IsEvident disk e ⊎ (IsChange e × (disk.contents ≡ None))

-- A sink that had the bytes t took replies, and then what shows that the volume is damaged.
pub record RevealsSeen (t : List ℕ) (took : Option (List ℕ)) (failed : Type 0) (disk : DiskState) : Type 0 where
  pub replies : List Reply
  pub evidence : Evidence
  pub evidence_seen : IsSeen disk evidence
  pub written : HasWritten failed (t ++ flat_map text replies) took (last_line (cause.Damaged evidence))

-- what was replied, as without a queue, whatever the disk holds
abbrev pub RepliedQueued : Status → List ℕ → Option (List ℕ) → List ℕ → Option (List ℕ) → Type 0 → DiskState → Type 0
RepliedQueued status.Damaged b left t took failed disk = (revealed : RevealsSeen t took failed disk) × AreToFirst revealed.replies (reading b)
RepliedQueued s b left t took failed disk = Replied s b left t took failed disk (λ e. Unit {0})

-- what the disk has after k replies: the settled files, where nothing waited when the run ended
abbrev pub HasSettledAt : Status → Machine → List TraceLine → DiskState → ℕ → ℕ → Type 0
HasSettledAt status.Done m lines disk k i = HasFilesAt m lines disk k i
HasSettledAt status.Long m lines disk k i = HasFilesAt m lines disk k i
HasSettledAt s m lines disk k i = Unit {0}

-- what a run with a queue leaves, where the disk had a sound volume
abbrev pub RunQueued : Status → List Sector → List ℕ → Option (List ℕ) → List ℕ → Option (List ℕ) → Type 0 → DiskState → Type 0
RunQueued status.NotOpened d b left t took failed disk = ⊥
RunQueued status.NoMemory d b left t took failed disk = (left ≡ Some b) × (took ≡ Some t)
RunQueued s d b left t took failed disk = Answering s (start d) b left t took failed (HasSettledAt s (start d) (reading b) disk)

-- A `run` with a queue ended with this status, and left the disk beneath, source and sink so.
pub record RanQueued (s : Status) (before after : World) : Type 0 where
  -- On a sound volume: the replies as without a queue, what the source has left, and the files of the disk where nothing waited.
  pub answers : (d : List Sector) (b t : List ℕ) → Holds before d → Sound d → Gives before b → Took before t → RunQueued s d b after.left t after.took (SinkFailed before after) after.disk
  -- Whatever the disk holds, replies to the lines that were read, and the last line where it stopped.
  pub replied : (b t : List ℕ) → Gives before b → Took before t → RepliedQueued s b after.left t after.took (SinkFailed before after) after.disk
  -- Where its end was not a `halt`, the volume is closed, sound, and on the medium; so it is where only the reply to `close`
  -- was not heard.
  pub closed : (d : List Sector) (b : List ℕ) → Holds before d → Sound d → Gives before b → s ≡ status.Done → halts (reading b) ≡ false → HasShut (at_end d (reading b)) after.disk
  pub closed_unheard : (d : List Sector) (b : List ℕ) → Holds before d → Sound d → Gives before b
      → s ≡ status.StreamFault → ¬ SourceFailed before after → Gives after (rest_of b) → closes (reading b) ≡ true → HasShut (at_end d (reading b)) after.disk
  -- After a `halt` too, and after a trace that is too long, all that was written is on the medium, whatever the disk holds.
  pub halted : (s ≡ status.Done) ⊎ (s ≡ status.Long) → after.disk.synced ≡ true
  -- How many transfers are made beneath: for each line twice as many as without a queue, at most.
  pub transfers : (d : List Sector) (b : List ℕ) → Holds before d → Sound d → Gives before b
      → after.disk.transfers ≤ before.disk.transfers + 2 * run_bound before.disk.sectors (reading b)
  -- What is revealed of a damaged volume is so, or a label had changed; and a sound volume is not refused, and shows no damage.
  pub damage : (t : List ℕ) → Took before t → s ≡ status.Damaged → RevealsSeen t after.took (SinkFailed before after) after.disk
  pub sound : (d : List Sector) → Holds before d → Sound d → s ≢ status.NotOpened × s ≢ status.Damaged
  -- A volume that can't be opened.
  pub not_opened : (d : List Sector) → Holds before d → s ≡ status.NotOpened → (why : RootFault) × IsRefused d why × WritesLast before after (cause.Root why)
  pub refused : (d : List Sector) (why : RootFault) → Holds before d → IsRefused d why → s ≡ status.NotOpened ⊎ s ≡ status.DiskFault ⊎ s ≡ status.NoMemory
  pub refused_unwritten : (d : List Sector) (why : RootFault) → Holds before d → IsRefused d why → StaysUnwritten before after
  -- Where nothing failed, a trace that is not too long is read to its end, and no other.
  pub complete : (d : List Sector) (b : List ℕ) → Holds before d → Sound d → Gives before b → IsShort (2 ^ 32) b
      → ¬ DiskFailed before after → ¬ SourceFailed before after → ¬ SinkFailed before after → (s ≡ status.Done) ⊎ (s ≡ status.NoMemory)
  pub short : (b : List ℕ) → Gives before b → s ≡ status.Done → IsShort (2 ^ 32) b
