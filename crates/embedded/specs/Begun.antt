-- What a start of a session comes to.
use Rattle.std.specs.Prelude.{◌≡◌, ◌⊎◌, ℕ, true, List, length, Option, Some, None, Result, Err, IfErr, OnOk}
use Rattle.labelled_disk.specs.declared.disk.Disk.{Ghosts}
use Rattle.labelled_disk.specs.declared.evidence.Halt.{Halt}
use Rattle.labelled_disk.specs.declared.layout.RootFault.{RootFault}
use Rattle.labelled_disk.specs.declared.layout.RootFault.TheVariants as fault
use Rattle.labelled_disk.specs.Calls.{OnlyReads, Rose}
use Rattle.labelled_disk.specs.Layout.{IsCount}
use Rattle.labelled_disk.specs.Root.{LabelsRight}
use Rattle.labelled_disk.specs.Sectors.{Sector}
use Rattle.labelled_disk.specs.State.{DiskState}
use Rattle.flat_machine.specs.Start.{start}
use Rattle.volume_root.specs.Flag.{IsRefused}
use Rattle.volume_root.specs.Sound.{Sound}
use Rattle.pilot_engine.specs.declared.fault.StartFault.{StartFault}
use Rattle.pilot_engine.specs.declared.fault.StartFault.TheVariants.{Root as NoRoot, NoMemory, Halt as Halted}
use Rattle.pilot_engine.specs.Opening.{CostsStart, IsDiskFault, IsEarly, IsOutside, IsRightRefusal, IsSoAtStart, KeepsFiles, SyncsFirst}
use Rattle.fault_core.specs.Core.{state}
use Rattle.embedded.specs.declared.code.Code.{Code}
use Rattle.embedded.specs.declared.code.Code.TheVariants as code
use Rattle.embedded.specs.declared.held.Held.{Held}
use Rattle.embedded.specs.declared.held.Held.TheVariants as held
use Rattle.embedded.specs.declared.engine.Engine.{Engine}
use Rattle.embedded.specs.Engine.{StandsFor, disk_of, is_open}
use Rattle.embedded.specs.Later.{Later}
use Rattle.embedded.specs.Opened.{IsFrames, code_of}
use Rattle.embedded.specs.Taking.{Takes, coded, free_disk}

-- the halt that kept a session from beginning, if one did
abbrev pub halt_of : StartFault → Option Halt
halt_of (NoRoot why) = None
halt_of NoMemory = None
halt_of (Halted why) = Some why

-- Why no session begins on a disk: for its root, where that is one to be refused; and if the volume is sound, for the disk or the
-- memory alone.
pub record Judges (disk : DiskState) (outcome : Result (Unit {0}) StartFault) : Type 0 where
  pub count : ¬ IsCount disk.sectors → outcome ≡ Err (NoRoot (fault.BadCount disk.sectors))
  pub bad_count : (n : ℕ) → outcome ≡ Err (NoRoot (fault.BadCount n)) → ¬ IsCount disk.sectors × (n ≡ disk.sectors)
  pub refused : (d : List Sector) (why : RootFault) → disk.contents ≡ Some d → IsRefused d why
      → (outcome ≡ Err (NoRoot why)) ⊎ (outcome ≡ Err (NoRoot fault.Disk))
  pub judged : (d : List Sector) → disk.contents ≡ Some d → IfErr outcome (IsRightRefusal d)
  pub sound : (d : List Sector) → disk.contents ≡ Some d → Sound d → IfErr outcome IsOutside

-- What a start leaves of a disk, whether or not a session begins.
pub record LeftByStart (disk : DiskState) (outcome : Result (Unit {0}) StartFault) (left : DiskState) : Type 0 where
  pub unwritten : IfErr outcome (λ e. IsEarly e → OnlyReads disk left)
  pub counted : IfErr outcome (λ e. IsDiskFault e → Rose disk.faults left.faults)
  pub evident : IfErr outcome (IsSoAtStart left)
  pub crash_states : (d : List Sector) → disk.contents ≡ Some d → LabelsRight d → KeepsFiles d disk left
  pub synced : OnOk outcome (SyncsFirst disk left)
  pub later : Later disk left
  pub cost : CostsStart disk left

module _ {D A : Type 0} {G : Ghosts D} where
  abbrev pub HasFrames : ℕ → Held D A G → Type 0
  HasFrames frames held.Nothing = ⊥
  HasFrames frames (held.Disk disk) = ⊥
  HasFrames frames (held.Session live) = length (state live.session.core).slots ≡ frames

  -- it has a session of so many frames, which carries out calls, and no halt
  pub record RunsWith (frames : ℕ) (e : Engine D A G) : Type 0 where
    pub running : is_open e ≡ true
    pub all_frames : HasFrames frames e.held
    pub no_halt : e.halt ≡ None

  -- it has the disk without a session, and the halt that kept one from beginning
  pub record HasNone (why : StartFault) (left : DiskState) (e : Engine D A G) : Type 0 where
    pub free : free_disk e ≡ Some left
    pub halt_is : e.halt ≡ halt_of why

  -- A session of so many frames begins on a disk, or none does, and the answer says why.
  pub record Begins (frames : ℕ) (disk : DiskState) (answer : Result (Unit {0}) Code) (new : Engine D A G) : Type 0 where
    pub outcome : Result (Unit {0}) StartFault
    pub answered : answer ≡ coded code_of outcome
    pub left : DiskState
    pub disk_is : disk_of new ≡ Some left
    pub runs : OnOk outcome (RunsWith frames new)
    pub stands : (d : List Sector) → disk.contents ≡ Some d → Sound d → OnOk outcome (StandsFor new (start d))
    pub refuses : IfErr outcome (λ why. HasNone why left new)
    pub judges : Judges disk outcome
    pub leaves : LeftByStart disk outcome left

  -- A session of so many frames was to begin.
  pub record Opens (frames : ℕ) (old : Engine D A G) (answer : Result (Unit {0}) Code) (new : Engine D A G) : Type 0 where
    pub argument : ¬ IsFrames frames → (answer ≡ Err code.Argument) × (new ≡ old)
    pub begins : IsFrames frames → Takes (λ disk. Begins frames disk answer new) old answer new
