-- What `processes` does, by its status.
use Rattle.std.specs.Prelude.{◌≡◌, ◌≢◌, ◌⊎◌, ◌^◌, ◌*◌, ℕ, List}
use Rattle.labelled_disk.specs.Sectors.{Sector}
use Rattle.labelled_disk.specs.State.{DiskState}
use Rattle.labelled_disk.specs.declared.evidence.Evidence.{Evidence}
use Rattle.labelled_disk.specs.declared.layout.RootFault.{RootFault}
use Rattle.flat_machine.specs.Start.{start}
use Rattle.filer_kernel.specs.Evidence.{IsEvident}
use Rattle.trace_io.specs.EventGrammar.{event_of, is_last_event}
use Rattle.trace_io.specs.Items.{FitsIn}
use Rattle.volume_root.specs.Flag.{IsRefused}
use Rattle.volume_root.specs.Sound.{Sound}
use Rattle.running_words.specs.Bound.{other_bound}
use Rattle.pilot_top.specs.Clients.{CostsEvents, Processes, RepliesToClients}
use Rattle.pilot_top.specs.CrashStates.{Lawfully}
use Rattle.pilot_top.specs.Headline.{IsLeftOpen}
use Rattle.pilot_top.specs.InitialState.{FromInitialState}
use Rattle.pilot_top.specs.World.{World, Holds, Gives, Took, DiskFailed, SourceFailed, SinkFailed, StaysUnwritten, WritesLast}
use Rattle.pilot_top.specs.declared.last.Cause.TheVariants as cause
use Rattle.pilot_top.specs.declared.status.Status.{Status}
use Rattle.pilot_top.specs.declared.status.Status.TheVariants as status

-- the text of events fits in the bytes that are read
abbrev pub IsShortText : List ℕ → Type 0
IsShortText b = FitsIn event_of is_last_event (2 ^ 32) b

-- the disk has this evidence as it was left; and where its file map was in form at the start, for a reason
abbrev pub ShowsDamage : DiskState → DiskState → Evidence → Type 0
ShowsDamage before after e = IsEvident after e × FromInitialState before after e

-- A `processes` ended with this status, and left disk, source and sink so.
pub record Processed (s : Status) (before after : World) : Type 0 where
  -- On a sound volume: the lines on the sink are those of a run of the crowd over the first lines of the text, then a line for each
  -- client that still waits, and the reply; and the disk has the settled files of the crowd's machine.
  pub answers : (d : List Sector) (b t : List ℕ) → Holds before d → Sound d → Gives before b → Took before t → Processes s (start d) b after.left t after.took (SinkFailed before after) after.disk
  -- Whatever the disk holds, lines that suit the events that were read, and the last line where it stopped; and where the session was left
  -- before its end, the volume is left open.
  pub replied : (b t : List ℕ) → Gives before b → Took before t → RepliesToClients s b after.left t after.took (SinkFailed before after) (ShowsDamage before.disk after.disk) (IsLeftOpen after.disk)
  -- How many transfers its start, its calls and its end may make.
  pub transfers : (d : List Sector) (b t : List ℕ) → Holds before d → Sound d → Gives before b → Took before t → CostsEvents b (2 * other_bound before.disk.sectors) before.disk after.disk
  -- Over any contents each write is permitted where it is made, and the volume stays open between the first and the last; where the
  -- text is too long or the volume damaged it is left open.
  pub permitted : Lawfully before.disk after.disk
  pub left_open : (s ≡ status.Long) ⊎ (s ≡ status.Damaged) → IsLeftOpen after.disk
  -- What is revealed of a damaged volume is so, and for a reason, whatever source and sink reveal.
  pub damage : s ≡ status.Damaged → (e : Evidence) × ShowsDamage before.disk after.disk e
  -- A sound volume is not refused, and shows no damage, whatever source and sink reveal.
  pub sound : (d : List Sector) → Holds before d → Sound d → s ≢ status.NotOpened × s ≢ status.Damaged
  -- A volume that can't be opened.
  pub not_opened : (d : List Sector) → Holds before d → s ≡ status.NotOpened → (why : RootFault) × IsRefused d why × WritesLast before after (cause.Root why)
  pub refused : (d : List Sector) (why : RootFault) → Holds before d → IsRefused d why → s ≡ status.NotOpened ⊎ s ≡ status.DiskFault ⊎ s ≡ status.NoMemory
  pub refused_unwritten : (d : List Sector) (why : RootFault) → Holds before d → IsRefused d why → StaysUnwritten before after
  -- Where nothing failed, a text that is not too long is read to its end, and no other.
  pub complete : (d : List Sector) (b : List ℕ) → Holds before d → Sound d → Gives before b → IsShortText b
      → ¬ DiskFailed before after → ¬ SourceFailed before after → ¬ SinkFailed before after → (s ≡ status.Done) ⊎ (s ≡ status.NoMemory)
  pub short : (b : List ℕ) → Gives before b → s ≡ status.Done → IsShortText b
