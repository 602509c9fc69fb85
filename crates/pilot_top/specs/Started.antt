-- Why a command that starts a session ended so, and what it leaves alone where none started.
use Rattle.std.specs.Prelude.{◌≡◌, ◌≢◌, ◌⊎◌, ℕ, List, Option, Some}
use Rattle.labelled_disk.specs.declared.layout.RootFault.{RootFault}
use Rattle.labelled_disk.specs.declared.layout.RootFault.TheVariants as fault
use Rattle.labelled_disk.specs.Calls.{OnlyReads}
use Rattle.labelled_disk.specs.Layout.{IsCount}
use Rattle.labelled_disk.specs.Sectors.{Sector}
use Rattle.labelled_disk.specs.State.{DiskState}
use Rattle.volume_root.specs.Flag.{IsRefused}
use Rattle.pilot_top.specs.Last.{last_line}
use Rattle.pilot_top.specs.World.{World, Gives, DiskFailed, SourceFailed, SinkFailed}
use Rattle.pilot_top.specs.declared.last.Cause.TheVariants as cause
use Rattle.pilot_top.specs.declared.status.Status.{Status}
use Rattle.pilot_top.specs.declared.status.Status.TheVariants as status

-- Each status has its cause. Only a text that does not fit ends as too long, and no session ends as words that mean no command do, or an old
-- volume that is too full.
pub record HasCauses (fits : List ℕ → Type 0) (s : Status) (before after : World) : Type 0 where
  pub disk : s ≡ status.DiskFault → DiskFailed before after
  pub stream : s ≡ status.StreamFault → SourceFailed before after ⊎ SinkFailed before after
  pub long : (b : List ℕ) → Gives before b → s ≡ status.Long → ¬ fits b
  pub no_other : s ≢ status.Usage × s ≢ status.Unfit

-- A volume that can't be opened, as `no_volume` says of what the disk holds and why, is refused, and the line says why; for a count of sectors
-- that no volume has it names the count. Nothing was written then, nor where there was no memory. `puts` says of a line that it was written.
pub record Refuses (no_volume : List Sector → RootFault → Type 0) (s : Status) (old new : DiskState) (puts : List ℕ → Type 0) : Type 0 where
  pub not_opened : (d : List Sector) → old.contents ≡ Some d → s ≡ status.NotOpened → (why : RootFault) × no_volume d why × puts (last_line (cause.Root why))
  pub refused : (d : List Sector) (why : RootFault) → old.contents ≡ Some d → no_volume d why → s ≡ status.NotOpened ⊎ s ≡ status.DiskFault
  pub refused_unwritten : (d : List Sector) (why : RootFault) → old.contents ≡ Some d → no_volume d why → OnlyReads old new
  pub line : s ≡ status.NotOpened → (why : RootFault) × puts (last_line (cause.Root why))
  pub count : ¬ IsCount old.sectors → s ≡ status.NotOpened × puts (last_line (cause.Root (fault.BadCount old.sectors)))
  pub unwritten : s ≡ status.NotOpened → OnlyReads old new
  pub memory : s ≡ status.NoMemory → OnlyReads old new

-- Of a disk with these contents: nothing was taken from the source where the volume can't be opened, or there was no memory; and nothing was
-- put into the sink where there was none. `kept` says that of the source, and `quiet` of the sink.
pub record LeavesStreams (s : Status) (contents : Option (List Sector)) (kept quiet : Type 0) : Type 0 where
  pub source : (s ≡ status.NotOpened) ⊎ (s ≡ status.NoMemory) → kept
  pub refused : (d : List Sector) (why : RootFault) → contents ≡ Some d → IsRefused d why → kept
  pub sink : s ≡ status.NoMemory → quiet
