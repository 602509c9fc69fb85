-- What `scavenge` does, by its status.
use Rattle.std.specs.Prelude.{◌≡◌, ◌⊎◌, ◌++◌, ℕ, List, Some, true}
use Rattle.cut_words.specs.Between.{EachCutFromFirstSync}
use Rattle.labelled_disk.specs.declared.disk.DiskWrite.{DiskWrite}
use Rattle.labelled_disk.specs.declared.layout.RootFault.{RootFault}
use Rattle.labelled_disk.specs.Calls.{RevealsSame}
use Rattle.labelled_disk.specs.CrashState.{crash_state}
use Rattle.labelled_disk.specs.Root.{LabelsRight}
use Rattle.labelled_disk.specs.Sectors.{Sector}
use Rattle.labelled_disk.specs.WriteRuns.{Appended}
use Rattle.volume_root.specs.Format.{PartMade}
use Rattle.scavenger.specs.Orders.{Orders, AreFor, scavenge_writes}
use Rattle.scavenger.specs.Restored.{IsBetween, IsRestored, Survives}
use Rattle.pilot_top.specs.Reporting.{IsReport, restored_text}
use Rattle.pilot_top.specs.Scavenging.{IsNoVolume}
use Rattle.pilot_top.specs.World.{World, Holds, DiskFailed, SinkFailed, StaysUnwritten, Writes, WritesPrefix, WritesLast}
use Rattle.pilot_top.specs.declared.last.Cause.TheVariants as cause
use Rattle.pilot_top.specs.declared.status.Status.{Status}
use Rattle.pilot_top.specs.declared.status.Status.TheVariants as status

-- A `scavenge` ended with this status, and left disk and sink so.
pub record Scavenged (s : Status) (before after : World) : Type 0 where
  -- The files stay, and what was found is revealed.
  pub restored : (s ≡ status.Done) ⊎ (s ≡ status.StreamFault) → (g : List Sector) → Holds before g → (h : List Sector) × Holds after h × IsRestored g h
  pub synced : (s ≡ status.Done) ⊎ (s ≡ status.StreamFault) → after.disk.synced ≡ true
  pub revealed : s ≡ status.Done → (g : List Sector) → Holds before g → Writes before after (restored_text g)
  pub part_of_text : s ≡ status.StreamFault → (g : List Sector) → Holds before g → WritesPrefix before after (restored_text g)
  -- Whatever the disk holds, it is the text of some report.
  pub some_text : s ≡ status.Done → (text : List ℕ) × IsReport text × Writes before after text
  pub some_prefix : s ≡ status.StreamFault → (text : List ℕ) × IsReport text × WritesPrefix before after text
  -- Which writes were made, and what stands after each of them.
  pub by : (s ≡ status.Done) ⊎ (s ≡ status.StreamFault) → (g : List Sector) → Holds before g → (o : Orders) × AreFor g o × Appended (scavenge_writes o) before.disk after.disk
  pub part : s ≡ status.DiskFault → (g : List Sector) → Holds before g
      → RevealsSame before.disk after.disk ⊎ ((o : Orders) × AreFor g o × PartMade (scavenge_writes o) before.disk after.disk)
  pub part_line : s ≡ status.DiskFault → WritesLast before after cause.DiskFault
  pub crash_states : (g : List Sector) (first writes : List DiskWrite) → Holds before g → before.disk.writes ≡ Some first → after.disk.writes ≡ Some (first ++ writes)
      → (k : ℕ) → IsBetween g (crash_state g writes k)
  -- Where the power goes, once its first write is on the medium: the same files, and where the clean flag is 1, a restored volume.
  pub cuts : EachCutFromFirstSync Survives before.disk after.disk
  -- A disk that has no volume; and one that has is restored, where nothing failed.
  pub no_volume : (g : List Sector) → Holds before g → s ≡ status.NotOpened → (why : RootFault) × IsNoVolume g why × WritesLast before after (cause.Root why)
  pub no_volume_refused : (g : List Sector) (why : RootFault) → Holds before g → IsNoVolume g why → s ≡ status.NotOpened ⊎ s ≡ status.DiskFault ⊎ s ≡ status.NoMemory
  pub no_volume_unwritten : (g : List Sector) (why : RootFault) → Holds before g → IsNoVolume g why → StaysUnwritten before after
  pub complete : (g : List Sector) → Holds before g → ((why : RootFault) → ¬ IsNoVolume g why) → ¬ DiskFailed before after → ¬ SinkFailed before after
      → (s ≡ status.Done) ⊎ (s ≡ status.NoMemory)
  pub right_restored : (g : List Sector) → Holds before g → LabelsRight g
      → (s ≡ status.Done) ⊎ (s ≡ status.StreamFault) ⊎ (s ≡ status.DiskFault) ⊎ (s ≡ status.NoMemory)
