-- Which disks are not restored, and what is left where maps were lost.
use Rattle.std.specs.Prelude.{◌≡◌, ◌≢◌, ◌⊎◌, ◌++◌, true, false, ℕ, List, length, slice_get, Option, Some, Result, Err}
use Rattle.std.specs.Io.KnownBytes.{Appends}
use Rattle.cut_words.specs.Between.{EachCutFromFirstSync}
use Rattle.labelled_disk.specs.declared.disk.DiskWrite.{DiskWrite}
use Rattle.labelled_disk.specs.declared.layout.RootFault.{RootFault}
use Rattle.labelled_disk.specs.declared.layout.RootFault.TheVariants as fault
use Rattle.labelled_disk.specs.Calls.{OnlyReads, RevealsSame, Rose}
use Rattle.labelled_disk.specs.CrashState.{crash_state}
use Rattle.labelled_disk.specs.FilesOn.{files_on}
use Rattle.labelled_disk.specs.Layout.{IsCount}
use Rattle.labelled_disk.specs.Sectors.{Sector}
use Rattle.labelled_disk.specs.State.{DiskState}
use Rattle.labelled_disk.specs.WriteRuns.{Appended}
use Rattle.trace_io.specs.Stream.{IsPrefixOf}
use Rattle.volume_root.specs.Format.{PartMade}
use Rattle.volume_root.specs.RootPage.{judged}
use Rattle.volume_root.specs.Sound.{Sound}
use Rattle.scavenger.specs.declared.fault.ScavengeFault.{ScavengeFault}
use Rattle.scavenger.specs.declared.fault.ScavengeFault.TheVariants as why
use Rattle.scavenger.specs.Orders.{Orders, AreFor, scavenge_writes}
use Rattle.scavenger.specs.Restored.{IsBetween, IsRestored, Survives}
use Rattle.pilot_top.specs.Reporting.{IsReport, restored_text}
use Rattle.pilot_top.specs.declared.status.Status.{Status}
use Rattle.pilot_top.specs.declared.status.Status.TheVariants as status

-- the disk has no volume that can be restored, and this is why: as where a volume is opened, but the clean flag is not asked
abbrev pub IsNoVolume : List Sector → RootFault → Type 0
IsNoVolume g why =
    ((¬ IsCount (length g)) × (why ≡ fault.BadCount (length g)))
    ⊎ (IsCount (length g) × (s : Sector) × (slice_get g 0 ≡ Some s) × (judged false (length g) s ≡ Err why))

-- sound, with the files of this disk
pub record HasFilesOf (e h : List Sector) : Type 0 where
  pub sound : Sound h
  pub files : files_on h ≡ files_on e

-- A fault that stopped the restoration: the disk failed, or nothing was written.
pub record FailsToRestore {T : Type 0} (result : Result T ScavengeFault) (old new : DiskState) : Type 0 where
  pub cause : result ≡ Err why.Disk → Rose old.faults new.faults
  pub unwritten : (fault : ScavengeFault) → result ≡ Err fault → fault ≢ why.Disk → OnlyReads old new

-- The volume is restored where the command was done, or the sink alone failed: all its writes were made, or where the disk failed none or some
-- first ones. And what stands after each of them, and where the power goes.
pub record RestoresVolume (s : Status) (old new : DiskState) : Type 0 where
  pub restored : (s ≡ status.Done) ⊎ (s ≡ status.StreamFault) → (g : List Sector) → old.contents ≡ Some g → (h : List Sector) × (new.contents ≡ Some h) × IsRestored g h
  pub synced : (s ≡ status.Done) ⊎ (s ≡ status.StreamFault) → new.synced ≡ true
  pub made : (s ≡ status.Done) ⊎ (s ≡ status.StreamFault) → (g : List Sector) → old.contents ≡ Some g → (o : Orders) × AreFor g o × Appended (scavenge_writes o) old new
  pub part : s ≡ status.DiskFault → (g : List Sector) → old.contents ≡ Some g → RevealsSame old new ⊎ ((o : Orders) × AreFor g o × PartMade (scavenge_writes o) old new)
  pub crash_states : (g : List Sector) (before writes : List DiskWrite) → old.contents ≡ Some g → old.writes ≡ Some before → new.writes ≡ Some (before ++ writes)
      → (k : ℕ) → IsBetween g (crash_state g writes k)
  pub cuts : EachCutFromFirstSync Survives old new

-- What was found is put into the sink on the sink, or a prefix of it where the sink failed: of a disk that reveals its contents what these say, and else the
-- text of some report.
pub record PutsReport (s : Status) (contents : Option (List Sector)) (took now : Option (List ℕ)) : Type 0 where
  pub text : s ≡ status.Done → (g : List Sector) → contents ≡ Some g → Appends took now (restored_text g)
  pub part_of_text : s ≡ status.StreamFault → (g : List Sector) → contents ≡ Some g → (prefix : List ℕ) × IsPrefixOf prefix (restored_text g) × Appends took now prefix
  pub some_text : s ≡ status.Done → (text : List ℕ) × IsReport text × Appends took now text
  pub some_prefix : s ≡ status.StreamFault → (text : List ℕ) × IsReport text × (prefix : List ℕ) × IsPrefixOf prefix text × Appends took now prefix
