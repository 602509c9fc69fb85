-- How volumes are made and restored, and why they are not.
use Rattle.std.specs.Prelude.{◌≡◌, ◌⊎◌, ℕ, ◌≤◌, ◌++◌, true, false, List, length, slice_get, Some, Result, Err, IfOk, IfErr, OnOk}
use Rattle.labelled_disk.specs.declared.disk.Disk.{Ghosts}
use Rattle.labelled_disk.specs.declared.disk.DiskWrite.{DiskWrite}
use Rattle.labelled_disk.specs.declared.layout.RootFault.{RootFault}
use Rattle.labelled_disk.specs.declared.layout.RootFault.TheVariants as fault
use Rattle.labelled_disk.specs.Calls.{OnlyReads, Rose}
use Rattle.labelled_disk.specs.CrashState.{crash_state}
use Rattle.labelled_disk.specs.Layout.{IsCount}
use Rattle.labelled_disk.specs.Sectors.{Sector}
use Rattle.labelled_disk.specs.State.{DiskState}
use Rattle.volume_root.specs.Format.{PartMade, format_writes, formatted}
use Rattle.volume_root.specs.RootPage.{judged}
use Rattle.scavenger.specs.declared.fault.ScavengeFault.{ScavengeFault}
use Rattle.scavenger.specs.declared.fault.ScavengeFault.TheVariants as scavenging
use Rattle.scavenger.specs.declared.report.Report.{Report}
use Rattle.scavenger.specs.Opening.{Accords}
use Rattle.scavenger.specs.Reported.{Reports}
use Rattle.scavenger.specs.Restored.{IsBetween, IsRestored}
use Rattle.embedded.specs.declared.code.Code.{Code}
use Rattle.embedded.specs.declared.code.Code.TheVariants as code
use Rattle.embedded.specs.declared.engine.Engine.{Engine}
use Rattle.embedded.specs.Later.{Later}
use Rattle.embedded.specs.Opened.{restoration_code}
use Rattle.embedded.specs.Taking.{HasFree, Takes, coded}

-- A new volume.

-- a volume of all sectors of a disk is made, on the medium, or none is
pub record Makes (serial counter : ℕ) (disk : DiskState) (answer : Result (Unit {0}) Code) (left : DiskState) : Type 0 where
  pub made : (d : List Sector) → disk.contents ≡ Some d
      → OnOk answer (left.contents ≡ Some (formatted (length d) serial counter))
  pub synced : OnOk answer (left.synced ≡ true)
  pub count : ¬ IsCount disk.sectors → (answer ≡ Err (code.Root (fault.BadCount disk.sectors))) × OnlyReads disk left
  pub failed : IsCount disk.sectors → IfErr answer (λ e. e ≡ code.Root fault.Disk)
  pub part : answer ≡ Err (code.Root fault.Disk) → PartMade (format_writes disk.sectors serial counter) disk left
  pub cause : answer ≡ Err (code.Root fault.Disk) → Rose disk.faults left.faults
  pub later : Later disk left

-- A restoration.

-- the volume of a disk is restored, on the medium, and the report is of it; or it is not, for want of memory, or why its root is refused
pub record Restores {A : Type 0} (disk : DiskState) (outcome : Result (Report A) ScavengeFault) (left : DiskState) : Type 0 where
  pub restored : (g : List Sector) → disk.contents ≡ Some g
      → OnOk outcome ((h : List Sector) × (left.contents ≡ Some h) × IsRestored g h)
  pub report : (g : List Sector) → disk.contents ≡ Some g → IfOk outcome (Reports g)
  pub synced : OnOk outcome (left.synced ≡ true)
  pub crash_states : (g : List Sector) (before writes : List DiskWrite) → disk.contents ≡ Some g → disk.writes ≡ Some before
      → left.writes ≡ Some (before ++ writes) → (k : ℕ) → IsBetween g (crash_state g writes k)
  pub count : ¬ IsCount disk.sectors
      → (outcome ≡ Err scavenging.NoMemory) ⊎ (outcome ≡ Err (scavenging.Root (fault.BadCount disk.sectors)))
  pub bad_count : (n : ℕ) → outcome ≡ Err (scavenging.Root (fault.BadCount n)) → ¬ IsCount disk.sectors × (n ≡ disk.sectors)
  pub accords : IsCount disk.sectors → (g : List Sector) → disk.contents ≡ Some g → (s : Sector) → slice_get g 0 ≡ Some s
      → (outcome ≡ Err scavenging.NoMemory) ⊎ Accords outcome (judged false (length g) s)
  pub refused : (why : RootFault) → outcome ≡ Err (scavenging.Root why) → OnlyReads disk left
  pub unwritten : outcome ≡ Err scavenging.NoMemory → OnlyReads disk left
  pub cause : outcome ≡ Err scavenging.Disk → Rose disk.faults left.faults
  pub later : Later disk left

module _ {D A : Type 0} {G : Ghosts D} where
  -- A volume was to be made. The engine keeps the disk.
  pub record Formats (serial counter : ℕ) (old : Engine D A G) (answer : Result (Unit {0}) Code) (new : Engine D A G) : Type 0 where
    pub argument : (serial ≡ 0) ⊎ (counter ≡ 0) → (answer ≡ Err code.Argument) × (new ≡ old)
    pub makes : 1 ≤ serial → 1 ≤ counter → Takes (λ disk. HasFree (Makes serial counter disk answer) new) old answer new
    pub same_halt : new.halt ≡ old.halt

  -- what a restoration came to, on a disk that the engine keeps
  pub record IsScavenged (disk : DiskState) (answer : Result (Report A) Code) (new : Engine D A G) : Type 0 where
    pub outcome : Result (Report A) ScavengeFault
    pub answered : answer ≡ coded restoration_code outcome
    pub left : HasFree (Restores disk outcome) new

  -- A volume was to be restored.
  pub record Scavenges (old : Engine D A G) (answer : Result (Report A) Code) (new : Engine D A G) : Type 0 where
    pub restores : Takes (λ disk. IsScavenged disk answer new) old answer new
    pub same_halt : new.halt ≡ old.halt
