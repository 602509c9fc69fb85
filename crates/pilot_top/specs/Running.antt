-- What `run` does, by its status.
use Rattle.std.specs.Prelude.{◌≡◌, ◌≢◌, ◌⊎◌, ◌+◌, ◌^◌, ◌≤◌, true, false, ℕ, List, Some}
use Rattle.std.specs.List.{list_any}
use Rattle.labelled_disk.specs.declared.disk.DiskWrite.{DiskWrite}
use Rattle.labelled_disk.specs.Sectors.{Sector}
use Rattle.labelled_disk.specs.declared.layout.RootFault.{RootFault}
use Rattle.labelled_disk.specs.Root.{root_page}
use Rattle.flat_machine.specs.After.{TraceLine}
use Rattle.flat_machine.specs.Start.{start}
use Rattle.trace_io.specs.Reading.{IsShort, reading, rest_of}
use Rattle.volume_root.specs.declared.root.Root.{Root}
use Rattle.volume_root.specs.Flag.{IsRefused}
use Rattle.volume_root.specs.RootPage.{root_in}
use Rattle.volume_root.specs.Sound.{Sound}
use Rattle.pilot_engine.specs.Closing.{HasShut}
use Rattle.pilot_top.specs.Ending.{halts, closes}
use Rattle.pilot_top.specs.Headline.{EndsEarly, IsLeftOpen, Run, RevealsDamage, at_end, run_bound}
use Rattle.pilot_top.specs.Cuts.{HonestCuts}
use Rattle.pilot_top.specs.CrashStates.{Lawfully, CrashStates}
use Rattle.pilot_top.specs.Forcing.{KeepsForced}
use Rattle.pilot_top.specs.InitialState.{FromInitialState}
use Rattle.pilot_top.specs.OnePlace.{CutsHaveFiles}
use Rattle.pilot_top.specs.Parts.{InParts, PartMay, RaisesRoot, Stops}
use Rattle.pilot_top.specs.Replied.{Replied}
use Rattle.pilot_top.specs.Sparing.{IsPermanentFile, Spared, names_file}
use Rattle.pilot_top.specs.Staying.{StaysInCuts, StaysSinceNamed}
use Rattle.pilot_top.specs.World.{World, Holds, Gives, Took, DiskFailed, SourceFailed, SinkFailed, StaysUnwritten, WritesLast}
use Rattle.pilot_top.specs.declared.last.Cause.TheVariants as cause
use Rattle.pilot_top.specs.declared.status.Status.{Status}
use Rattle.pilot_top.specs.declared.status.Status.TheVariants as status

-- A `run` ended with this status, and left disk, source and sink so.
pub record Ran (s : Status) (before after : World) : Type 0 where
  -- On a sound volume: the replies, what the source has left, and the files of the disk.
  pub answers : (d : List Sector) (b t : List ℕ) → Holds before d → Sound d → Gives before b → Took before t → Run s d b after.left t after.took (SinkFailed before after) before.disk after.disk
  -- Whatever the disk holds, replies to the lines that were read, and the last line where it stopped.
  pub replied : (b t : List ℕ) → Gives before b → Took before t → Replied s b after.left t after.took (SinkFailed before after) after.disk (FromInitialState before.disk after.disk)
  -- Where its end was not a `halt`, the volume is closed, sound, and on the medium; so it is where only the reply to `close`
  -- was not heard.
  pub closed : (d : List Sector) (b : List ℕ) → Holds before d → Sound d → Gives before b → s ≡ status.Done → halts (reading b) ≡ false → HasShut (at_end d (reading b)) after.disk
  pub closed_unheard : (d : List Sector) (b : List ℕ) → Holds before d → Sound d → Gives before b
      → s ≡ status.StreamFault → ¬ SourceFailed before after → Gives after (rest_of b) → closes (reading b) ≡ true → HasShut (at_end d (reading b)) after.disk
  -- After each of its writes, whenever it is stopped, the disk has the machine's settled files: of a trace that the source
  -- reveals, and else of some trace.
  pub crash_states : (d : List Sector) (b : List ℕ) → Holds before d → Sound d → Gives before b → CrashStates (start d) (reading b) before.disk after.disk
  pub some_crash_states : (d : List Sector) → Holds before d → Sound d → (lines : List TraceLine) × CrashStates (start d) lines before.disk after.disk
  -- Where the power goes: in each cut of its writes since the disk was synced the root is valid, and a volume that says that it
  -- was closed is sound.
  pub cuts : (d : List Sector) → Holds before d → Sound d → HonestCuts d before.disk after.disk
  -- In which part of the run its last write is, whatever the disk holds: where the run stopped, in none after the line that has no
  -- reply, or after the lines that were read.
  pub stops : (b t : List ℕ) → Gives before b → Took before t → Stops s b after.left t after.took (SinkFailed before after) (λ k. InParts (PartMay (reading b)) k before.disk after.disk)
  -- Whatever the maps of the volume say: a permanent file that no line deletes, gives another size or marks has in each crash state the labels
  -- that it had, and where no line stores bytes, its bytes.
  pub spares : (d : List Sector) (earlier : List DiskWrite) (b : List ℕ) (id : ℕ) → Holds before d → before.disk.writes ≡ Some earlier → Gives before b
      → IsPermanentFile id d → list_any (names_file id) (reading b) ≡ false → Spared id (reading b) d before.disk after.disk
  -- Each root that it writes has the serial of the root at the start, and gives out no identifier again: none next below that root's next, nor
  -- below that of a root that it wrote before.
  pub roots : (d : List Sector) → Holds before d → (last : Root) × RaisesRoot (root_in (root_page d)) last before.disk after.disk
  -- Where the power goes, the same: in each cut of its writes such a file has these labels, and where no line stores bytes, its bytes. So it
  -- is since any line began: a file that no line named from then on has in each cut from a later sync on what it had when that line began.
  pub stays : (d : List Sector) (earlier : List DiskWrite) (b : List ℕ) (id : ℕ) → Holds before d → before.disk.writes ≡ Some earlier → Gives before b
      → IsPermanentFile id d → list_any (names_file id) (reading b) ≡ false → StaysInCuts id (reading b) d before.disk after.disk
  pub stays_since : (d : List Sector) (earlier : List DiskWrite) (b : List ℕ) → Holds before d → before.disk.writes ≡ Some earlier → Gives before b
      → StaysSinceNamed (reading b) d before.disk after.disk
  -- And on a sound volume: a file that the machine has settled at all places since the disk was synced is in each cut, with a size that it
  -- has at one of them, and a page with the bytes that were forced; one that it has settled at none of them is not.
  pub forced : (d : List Sector) (b : List ℕ) → Holds before d → Sound d → Gives before b → KeepsForced (start d) (reading b) d before.disk after.disk
  -- Each cut of its writes since the disk was synced has the files that the machine has settled at one place since, with types, marks and
  -- sizes, and no other. A page has the bytes that were forced at all places where its file is settled. The root gives out none of their
  -- identifiers again. The trace is the one that the source reveals, and else some trace.
  pub cut_files : (d : List Sector) (b : List ℕ) → Holds before d → Sound d → Gives before b → CutsHaveFiles (start d) (reading b) d before.disk after.disk
  pub some_cut_files : (d : List Sector) → Holds before d → Sound d → (lines : List TraceLine) × CutsHaveFiles (start d) lines d before.disk after.disk
  -- Where it ended before its session did, the volume is left open; so where lines are left after the one that was answered
  -- last, and where the trace is too long or the volume damaged, whatever the source reveals.
  pub stays_open : (b : List ℕ) → Gives before b → EndsEarly s (reading b) → IsLeftOpen after.disk
  pub untaken : (b : List ℕ) → Gives before b → s ≡ status.StreamFault → ¬ Gives after (rest_of b) → IsLeftOpen after.disk
  pub left_open : (s ≡ status.Long) ⊎ (s ≡ status.Damaged) → IsLeftOpen after.disk
  -- How many transfers its start, its lines and its end may make.
  pub transfers : (d : List Sector) (b : List ℕ) → Holds before d → Sound d → Gives before b → after.disk.transfers ≤ before.disk.transfers + run_bound before.disk.sectors (reading b)
  -- Over any contents each write is permitted where it is made, and the volume stays open between the first and the last. What is revealed
  -- of a damaged volume is so; and where the file map was in form at the start, a label was wanted there, or a page reported as missing,
  -- for a reason: the layout, what both maps said then, or what the run gave and gave up. No page of the space tables is reported as broken
  -- then, and a page of a file as missing only where it is the leader, which is or was at home, or is at most as high as such a page of that file.
  pub permitted : Lawfully before.disk after.disk
  pub damage : (t : List ℕ) → Took before t → s ≡ status.Damaged → (revealed : RevealsDamage t after.took (SinkFailed before after) after.disk) × FromInitialState before.disk after.disk revealed.evidence
  -- A sound volume is not refused, and shows no damage, whatever source and sink reveal.
  pub sound : (d : List Sector) → Holds before d → Sound d → s ≢ status.NotOpened × s ≢ status.Damaged
  -- A volume that can't be opened.
  pub not_opened : (d : List Sector) → Holds before d → s ≡ status.NotOpened → (why : RootFault) × IsRefused d why × WritesLast before after (cause.Root why)
  pub refused : (d : List Sector) (why : RootFault) → Holds before d → IsRefused d why → s ≡ status.NotOpened ⊎ s ≡ status.DiskFault ⊎ s ≡ status.NoMemory
  pub refused_unwritten : (d : List Sector) (why : RootFault) → Holds before d → IsRefused d why → StaysUnwritten before after
  -- Where nothing failed, a trace that is not too long is read to its end, and no other.
  pub complete : (d : List Sector) (b : List ℕ) → Holds before d → Sound d → Gives before b → IsShort (2 ^ 32) b
      → ¬ DiskFailed before after → ¬ SourceFailed before after → ¬ SinkFailed before after → (s ≡ status.Done) ⊎ (s ≡ status.NoMemory)
  pub short : (b : List ℕ) → Gives before b → s ≡ status.Done → IsShort (2 ^ 32) b
