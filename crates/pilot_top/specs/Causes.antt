-- Why a command ends with its status, whatever it is.
use Rattle.std.specs.Prelude.{◌≡◌, ◌⊎◌, ◌^◌, ◌<◌, ℕ, List, String}
use Rattle.std.specs.declared.alloc.Global.{Global}
use Rattle.labelled_disk.specs.declared.layout.RootFault.{RootFault}
use Rattle.labelled_disk.specs.declared.layout.RootFault.TheVariants as fault
use Rattle.labelled_disk.specs.Layout.{IsCount, capacity}
use Rattle.labelled_disk.specs.Sectors.{Sector}
use Rattle.command_words.specs.Meaning.{IsNoCommand, Means, Names}
use Rattle.command_words.specs.declared.words.Command.{Command}
use Rattle.command_words.specs.declared.words.Command.TheVariants as command
use Rattle.trace_io.specs.Reading.{IsShort}
use Rattle.volume_root.specs.Flag.{IsRefused}
use Rattle.pilot_top.specs.Processing.{IsShortText}
use Rattle.pilot_top.specs.World.{World, Holds, Gives, DiskFailed, SourceFailed, SinkFailed, StaysUnwritten, WritesLast}
use Rattle.pilot_top.specs.declared.last.Cause.TheVariants as cause
use Rattle.pilot_top.specs.declared.status.Status.{Status}
use Rattle.pilot_top.specs.declared.status.Status.TheVariants as status

-- Whether the words mean a command is revealed so: where they mean none, by the line of usage, if there is memory to read them.
pub record Understands (words : List (String Global)) (s : Status) (before after : World) : Type 0 where
  pub usage : s ≡ status.Usage → IsNoCommand words
  pub no_command : IsNoCommand words → (s ≡ status.Usage) ⊎ (s ≡ status.NoMemory)
  pub unknown : ((c : Command) → ¬ Names words c) → s ≡ status.Usage
  pub line : s ≡ status.Usage → WritesLast before after cause.Usage

-- the command is a `replicate`, which works on two disks
abbrev pub AsksForTwo : List (String Global) → Type 0
AsksForTwo words = (frames : ℕ) × Means words (command.Replicate frames)

-- the command is one that reads the source: a `run`, a `processes` or a `replicate`
abbrev pub ReadsText : List (String Global) → Type 0
ReadsText words =
    ((frames : ℕ) × (queue : ℕ) × Means words (command.Run frames queue)) ⊎ ((frames : ℕ) × Means words (command.Processes frames)) ⊎ AsksForTwo words

-- Each status but `Done` and `Usage` has its cause, of a command that works on one disk.
pub record HasReason (words : List (String Global)) (s : Status) (before after : World) : Type 0 where
  pub disk : s ≡ status.DiskFault → DiskFailed before after
  pub stream : s ≡ status.StreamFault → SourceFailed before after ⊎ SinkFailed before after
  -- nothing was written; and there is a line that says why, which for a count of sectors that no volume has names the count
  pub not_opened : s ≡ status.NotOpened → StaysUnwritten before after × (why : RootFault) × WritesLast before after (cause.Root why)
  pub count : ¬ IsNoCommand words → ¬ IsCount before.disk.sectors
      → (s ≡ status.NoMemory) ⊎ ((s ≡ status.NotOpened) × WritesLast before after (cause.Root (fault.BadCount before.disk.sectors)))
  -- only a text that is too long ends so: of calls, which `run` reads alone, or of events, which `processes` reads alone
  pub long : (frames queue : ℕ) (b : List ℕ) → Means words (command.Run frames queue) → Gives before b → s ≡ status.Long → ¬ IsShort (2 ^ 32) b
  pub long_events : (frames : ℕ) (b : List ℕ) → Means words (command.Processes frames) → Gives before b → s ≡ status.Long → ¬ IsShortText b
  pub long_read : s ≡ status.Long → ReadsText words
  -- nothing was written, and the first word is a command
  pub memory : s ≡ status.NoMemory → StaysUnwritten before after × (c : Command) × Names words c
  -- only a `run` or a `processes` ends so, and a `trial` on a disk that does not reveal what it holds
  pub damaged : s ≡ status.Damaged
      → ReadsText words ⊎ ((seed : ℕ) × (calls : ℕ) × (frames : ℕ) × Means words (command.Trial seed calls frames) × ((d : List Sector) → ¬ Holds before d))
  -- only a `convert` ends so: nothing was written, and the line has how many sectors are wanted, and that there are fewer
  pub unfit : s ≡ status.Unfit
      → StaysUnwritten before after × Means words command.Convert × (wanted : ℕ) × (capacity before.disk.sectors < wanted) × WritesLast before after (cause.Unfit wanted (capacity before.disk.sectors))

-- nothing is taken from the source: the command is one that reads none, or it was not begun, or the first volume is refused
abbrev pub TakesNothing : List (String Global) → Status → World → Type 0
TakesNothing words s before =
    ¬ ReadsText words ⊎ (s ≡ status.Usage) ⊎ (s ≡ status.NotOpened) ⊎ (s ≡ status.NoMemory)
    ⊎ ((d : List Sector) × (why : RootFault) × Holds before d × IsRefused d why)
