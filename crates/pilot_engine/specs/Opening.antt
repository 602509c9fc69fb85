-- How a session starts.
use Rattle.std.specs.Prelude.{◌≡◌, ◌⊎◌, ℕ, ◌+◌, ◌*◌, ◌^◌, ◌<◌, ◌≤◌, false, List, [], ◌∷◌, Some, Result, length, take, IfOk, IfErr, MatchResult}
use Rattle.labelled_disk.specs.declared.disk.Disk.{Ghosts}
use Rattle.labelled_disk.specs.declared.disk.DiskWrite.{DiskWrite}
use Rattle.labelled_disk.specs.declared.evidence.Halt.{Halt}
use Rattle.labelled_disk.specs.declared.evidence.Halt.TheVariants as halt
use Rattle.labelled_disk.specs.declared.layout.Layout.{Layout}
use Rattle.labelled_disk.specs.declared.layout.RootFault.{RootFault}
use Rattle.labelled_disk.specs.declared.layout.RootFault.TheVariants as fault
use Rattle.labelled_disk.specs.Layout.{IsCount, vam}
use Rattle.labelled_disk.specs.CrashState.{crash_state}
use Rattle.labelled_disk.specs.Root.{counter_of, root_page, serial_of, short_at}
use Rattle.labelled_disk.specs.RootLaws.{StaysRight}
use Rattle.labelled_disk.specs.Runs.{growth}
use Rattle.labelled_disk.specs.Sectors.{Sector}
use Rattle.labelled_disk.specs.State.{DiskState}
use Rattle.labelled_disk.specs.WriteRuns.{Appended}
use Rattle.frame_pool.specs.Frames.{Slots, Frame, Has}
use Rattle.file_map.specs.FileMap.{most_records}
use Rattle.flat_machine.specs.Space.{root}
use Rattle.swapper_kernel.specs.Goes.{Went, Wrote, Makes}
use Rattle.swapper_kernel.specs.SyncLaws.{HasSync}
use Rattle.filer_kernel.specs.declared.filer.Filer.{Filer}
use Rattle.filer_kernel.specs.Cached.{runs_of}
use Rattle.filer_kernel.specs.Evidence.{ShowsEvidence}
use Rattle.filer_kernel.specs.View.{FitsLayout, view_of}
use Rattle.file_manager.specs.declared.volume.Volume.{Volume}
use Rattle.file_manager.specs.Creating.{IsMonotone}
use Rattle.session_words.specs.Parts.{TablesMeaning}
use Rattle.session_words.specs.Volume.{volume_page}
use Rattle.volume_root.specs.declared.root.Root.{Root}
use Rattle.volume_root.specs.Flag.{IsRefused}
use Rattle.volume_root.specs.RootPage.{root_write}
use Rattle.running_words.specs.Session.{BeginWith}
use Rattle.pilot_engine.specs.declared.fault.StartFault.{StartFault}
use Rattle.pilot_engine.specs.declared.fault.StartFault.TheVariants.{Root as NoRoot, NoMemory, Halt as Halted}

-- whatever their pages hold, the space tables mean the root alone: so it is before they are begun, and once an end has
-- forgotten the spaces
abbrev pub root_alone : TablesMeaning
root_alone pages = Some (root ∷ [])

-- the root of the volume in use
abbrev pub in_use : Root → Root
in_use root = record root { clean = false }

-- no frame is there
abbrev pub IsBare : Slots → Type 0
IsBare slots = (i : ℕ) (f : Frame) → Has slots i f → ⊥

-- once the first write after these was made, the disk was synced
abbrev pub SyncsFirst : DiskState → DiskState → Type 0
SyncsFirst old new = (writes : List DiskWrite) → old.writes ≡ Some writes → HasSync new (length writes + 1)

-- or no other was made
abbrev pub SyncsFirstOrStops : List DiskWrite → DiskState → DiskState → Type 0
SyncsFirstOrStops made old new = (length made ≤ 1) ⊎ SyncsFirst old new

-- The first of the writes of a start were made: the root of a volume in use, before all others, and labels of the space
-- tables. Page bytes were written where pages of the volume's own have them.
pub record StartsSome (root : Root) (old : DiskState) (before : Slots) (new : DiskState) (after : Slots) : Type 0 where
  pub sectors : List ℕ
  pub few : length sectors ≤ 96
  pub count : ℕ
  pub makes : Makes volume_page (take count (root_write (in_use root) ∷ growth 3 0 0 sectors)) old before new after
  pub first : BeginWith (root_write (in_use root)) makes.wrote.writes
  pub syncs : SyncsFirstOrStops makes.wrote.writes old new

-- Over any contents: the first of the writes of a start were made, with some root, which goes before all others, and in some
-- sectors, each permitted where it is made; and page bytes of the volume's own pages alone.
pub record WroteFirst (old new : DiskState) : Type 0 where
  pub root : Root
  pub sectors : List ℕ
  pub few : length sectors ≤ 96
  pub count : ℕ
  pub went : Went old new
  pub wrote : Wrote volume_page (take count (root_write (in_use root) ∷ growth 3 0 0 sectors)) old [] new
  pub first : BeginWith (root_write (in_use root)) wrote.writes
  pub syncs : SyncsFirstOrStops wrote.writes old new

-- over any contents: the clean flag of the disk is 0
abbrev pub IsUnset : DiskState → Type 0
IsUnset disk = (d : List Sector) → disk.contents ≡ Some d → short_at (root_page d) 10 ≡ 0

-- so it is where the halt shows damage
abbrev pub LeavesOpen : DiskState → Halt → Type 0
LeavesOpen disk halt.Disk = Unit {0}
LeavesOpen disk (halt.Damaged evidence) = IsUnset disk

-- in each crash state of what was written there are the same permanent files, all labels are right, and the root has the same
-- serial and counter; and the clean flag is 0, or the disk is as it was
pub record KeepsFiles (d : List Sector) (old new : DiskState) : Type 0 where
  pub writes : List DiskWrite
  pub appended : Appended writes old new
  pub right : (k : ℕ) → StaysRight false d (crash_state d writes k)
  pub same_serial : (k : ℕ) → serial_of (crash_state d writes k) ≡ serial_of d
  pub same_counter : (k : ℕ) → counter_of (crash_state d writes k) ≡ counter_of d
  pub opened : (k : ℕ) → (crash_state d writes k ≡ d) ⊎ (short_at (root_page (crash_state d writes k)) 10 ≡ 0)

-- so many transfers at most
abbrev pub CostsStart : DiskState → DiskState → Type 0
CostsStart old new = new.transfers ≤ old.transfers + (14394 + 2 * vam old.sectors + 2 * (1 + 51 * most_records old.sectors) + 96 * (8 * vam old.sectors + 100))

-- the disk failed
abbrev pub IsDiskFault : StartFault → Type 0
IsDiskFault (NoRoot why) = why ≡ fault.Disk
IsDiskFault NoMemory = ⊥
IsDiskFault (Halted why) = why ≡ halt.Disk

-- the fault comes from the disk or the memory, and not from the volume
abbrev pub IsOutside : StartFault → Type 0
IsOutside (NoRoot why) = why ≡ fault.Disk
IsOutside NoMemory = Unit {0}
IsOutside (Halted why) = why ≡ halt.Disk

-- the fault came before the first write
abbrev pub IsEarly : StartFault → Type 0
IsEarly (NoRoot why) = Unit {0}
IsEarly NoMemory = Unit {0}
IsEarly (Halted why) = ⊥

-- where the volume was refused, this is why, or the disk failed
abbrev pub IsRightRefusal : List Sector → StartFault → Type 0
IsRightRefusal d (NoRoot why) = (why ≡ fault.Disk) ⊎ IsRefused d why
IsRightRefusal d NoMemory = Unit {0}
IsRightRefusal d (Halted why) = Unit {0}

-- what a session that did not start shows of the disk, as it was left, is so
abbrev pub IsSoAtStart : DiskState → StartFault → Type 0
IsSoAtStart disk (NoRoot why) = Unit {0}
IsSoAtStart disk NoMemory = Unit {0}
IsSoAtStart disk (Halted why) = ShowsEvidence disk why

-- and where that is damage, the volume is left open
abbrev pub LeavesOpenAtStart : DiskState → StartFault → Type 0
LeavesOpenAtStart disk (NoRoot why) = Unit {0}
LeavesOpenAtStart disk NoMemory = Unit {0}
LeavesOpenAtStart disk (Halted why) = LeavesOpen disk why

-- The volume was refused rightly, if at all: one of a count that no volume has, and for that count alone; one that has to be refused, for this
-- reason, unless the disk failed; and for no other reason.
pub record Refuses {S T : Type 0} (disk : DiskState) (result : Result S (StartFault × T)) : Type 0 where
  pub count : ¬ IsCount disk.sectors → MatchResult result (λ _. ⊥) (λ e. e.0 ≡ NoRoot (fault.BadCount disk.sectors))
  pub bad_count : (n : ℕ) → IfErr result (λ e. e.0 ≡ NoRoot (fault.BadCount n) → ¬ IsCount disk.sectors × (n ≡ disk.sectors))
  pub refused : (d : List Sector) (why : RootFault) → disk.contents ≡ Some d → IsRefused d why
      → MatchResult result (λ _. ⊥) (λ e. (e.0 ≡ NoRoot why) ⊎ (e.0 ≡ NoRoot fault.Disk))
  pub judged : (d : List Sector) → disk.contents ≡ Some d → IfErr result (λ e. IsRightRefusal d e.0)

-- The root's numbers fit, and those of the volume in use are not lower.
pub record KeepsNumbers (root : Root) (result : Result Volume Halt) : Type 0 where
  pub serial : root.serial < 2 ^ 32
  pub counter : root.counter < 2 ^ 32
  pub monotone : IfOk result (λ volume. IsMonotone root volume.root)

module _ {D A : Type 0} {G : Ghosts D} where
  -- A filer over a disk of as many sectors as its layout, with no frame over a page, and no run kept.
  pub record IsBlank (filer : Filer D A G) (layout : Layout) : Type 0 where
    pub same_layout : layout ≡ (view_of filer).layout
    pub size : FitsLayout (view_of filer)
    pub bare : IsBare (view_of filer).slots
    pub no_runs : (n : ℕ) → runs_of n filer.runs ≡ []
