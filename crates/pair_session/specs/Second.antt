-- What the second volume has where a replication ends.
use Rattle.std.specs.Prelude.{◌≡◌, ◌≤◌, ◌+◌, ℕ, true, false, List, length, take, Some, slice_get}
use Rattle.labelled_disk.specs.File.{File}
use Rattle.labelled_disk.specs.FilesOn.{files_on}
use Rattle.labelled_disk.specs.Root.{LabelsRight, counter_of, root_page, serial_of, short_at}
use Rattle.labelled_disk.specs.Sectors.{Sector}
use Rattle.labelled_disk.specs.State.{DiskState}
use Rattle.pair_machine.specs.Pair.{Pair}
use Rattle.pair_machine.specs.declared.call.PairCall.TheVariants as call
use Rattle.pair_machine.specs.declared.call.PairReply.{PairReply}
use Rattle.pair_machine.specs.declared.call.PairReply.TheVariants as reply
use Rattle.trace_io.specs.PairGrammar.{Ask}
use Rattle.volume_pair.specs.CrashStates.{HasFilesHonestly, SyncedStatesOf}
use Rattle.volume_pair.specs.Ends.{IsOutside, pair_of}
use Rattle.volume_pair.specs.Pairs.{IsFaultOfDisk}
use Rattle.volume_root.specs.Sound.{Sound}
use Rattle.pair_session.specs.Causes.{IfHalted}
use Rattle.pair_session.specs.Ended.{closes}
use Rattle.pair_session.specs.Lines.{Answers, Item, after_lines}
use Rattle.pair_session.specs.Owned.{begun}
use Rattle.pair_session.specs.declared.outcome.Outcome.{Outcome}
use Rattle.pair_session.specs.declared.outcome.Outcome.TheVariants as outcome

-- The disk has a sound volume with these files and the numbers of these sectors, and all of it is on the medium.
pub record IsClosedWith (d : List Sector) (files : List File) (disk : DiskState) : Type 0 where
  pub sectors : List Sector
  pub revealed : disk.contents ≡ Some sectors
  pub sound : Sound sectors
  pub files_are : files_on sectors ≡ files
  pub same_serial : serial_of sectors ≡ serial_of d
  pub same_counter : counter_of sectors ≡ counter_of d
  pub synced : disk.synced ≡ true

-- The disk has a volume in use: its labels are right and name these files, it has the numbers of these sectors, and its clean flag is 0.
pub record IsLeftWith (d : List Sector) (files : List File) (disk : DiskState) : Type 0 where
  pub sectors : List Sector
  pub revealed : disk.contents ≡ Some sectors
  pub right : LabelsRight sectors
  pub files_are : files_on sectors ≡ files
  pub same_serial : serial_of sectors ≡ serial_of d
  pub same_counter : counter_of sectors ≡ counter_of d
  pub open_flag : short_at (root_page sectors) 10 ≡ 0

-- The pair p was stood for, and the second disk had the sectors d. By how it ended: what this disk has after these lines, or what
-- failed.
abbrev pub Leaves : Outcome → List Sector → Pair → List Item → DiskState → Type 0
Leaves outcome.Done d p items disk = IsClosedWith d (after_lines p items).to disk
Leaves (outcome.NotStarted why) d p items disk = IsOutside why
Leaves (outcome.Halted why) d p items disk = IsFaultOfDisk why
Leaves outcome.Long d p items disk = IsLeftWith d (after_lines p items).to disk
Leaves outcome.ReadFault d p items disk = IsLeftWith d (after_lines p items).to disk
-- closed, where the sink failed on the reply to the line that ends the text
Leaves outcome.SinkFault d p items disk =
    (closes items ≡ true → IsClosedWith d (after_lines p items).to disk) × (closes items ≡ false → IsLeftWith d (after_lines p items).to disk)

-- In a crash state the second volume has the files that follow after so many of these lines, with right labels and the numbers of the
-- sectors d; where its clean flag is 1 it is sound.
abbrev pub IsAfter : List Sector → Pair → List Item → ℕ → List Sector → Type 0
IsAfter d p lines k e = HasFilesHonestly (after_lines p (take k lines)).to (serial_of d) (counter_of d) e

-- the disk ended with the files after some first lines, at least and at most so many
abbrev pub EndsAfter : List Sector → Pair → List Item → ℕ → ℕ → DiskState → Type 0
EndsAfter d p lines least most disk = (x : List Sector) → disk.contents ≡ Some x → (k : ℕ) × (least ≤ k) × (k ≤ most) × IsAfter d p lines k x

-- the line of this number copies a file, and `ok` was replied to it
abbrev pub IsCopied : List Item → List PairReply → ℕ → Type 0
IsCopied items replies j = (id : ℕ) × (slice_get items j ≡ Some (Some (Ask (call.Copy id)))) × (slice_get replies j ≡ Some reply.Done)

-- From two sound volumes, d and e, by a text of these lines: replies that the pair of their lists allows to the first lines, and what the
-- second disk has then. In each crash state of what was written on it there are the files after some first lines, at most those that were
-- replied to or begun; and with each write there are as many lines or more. After a copy that was answered there was a sync, with the files
-- after its line or after more. Where it halted, it ended with those of all lines that were
-- replied to, or of one more.
pub record Replicates (how : Outcome) (d e : List Sector) (text : List Item) (old new : DiskState) (items : List Item) (replies : List PairReply) : Type 0 where
  pub answers : Answers (pair_of d e) items replies
  pub leaves : Leaves how e (pair_of d e) items new
  pub crash_states : SyncedStatesOf (IsAfter e (pair_of d e) text) (length items + begun how) (IsCopied items replies) old new
  pub halted : IfHalted how (λ why. EndsAfter e (pair_of d e) text (length items) (length items + begun how) new)
