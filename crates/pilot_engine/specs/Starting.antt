-- How a session starts, or why none does: over a disk that is handed back then.
use Rattle.std.specs.Prelude.{◌≡◌, ◌≢◌, ◌⊎◌, ℕ, List, Some, Result, length, IfOk, IfErr, MatchResult}
use Rattle.labelled_disk.specs.declared.disk.Disk.{Ghosts}
use Rattle.labelled_disk.specs.declared.disk.DiskWrite.{DiskWrite}
use Rattle.labelled_disk.specs.declared.layout.RootFault.{RootFault}
use Rattle.labelled_disk.specs.declared.layout.RootFault.TheVariants as fault
use Rattle.labelled_disk.specs.Calls.{OnlyReads, Rose}
use Rattle.labelled_disk.specs.Layout.{IsCount, capacity, layout_of}
use Rattle.labelled_disk.specs.Root.{LabelsRight, root_page}
use Rattle.labelled_disk.specs.Sectors.{Sector}
use Rattle.labelled_disk.specs.State.{DiskState}
use Rattle.file_map.specs.FileMap.{Triples}
use Rattle.flat_machine.specs.Machine.{Machine}
use Rattle.flat_machine.specs.Start.{opened}
use Rattle.swapper_kernel.specs.Goes.{IsDirty, Went, no_page}
use Rattle.session_words.specs.Volume.{volume_page}
use Rattle.volume_root.specs.Later.{IsLater}
use Rattle.volume_root.specs.RootPage.{root_in}
use Rattle.file_manager.specs.Creating.{IsMonotone}
use Rattle.file_manager.specs.Reasons.{KeepsOn}
use Rattle.fault_core.specs.Core.{state}
use Rattle.space_calls.specs.Sees.{SeesFiles}
use Rattle.running_words.specs.Bound.{CostsOther}
use Rattle.running_words.specs.Running.{Runs}
use Rattle.pilot_engine.specs.declared.fault.StartFault.{StartFault}
use Rattle.pilot_engine.specs.declared.fault.StartFault.TheVariants.{Root as NoRoot, NoMemory}
use Rattle.pilot_engine.specs.declared.session.Session.{Session}
use Rattle.pilot_engine.specs.Fresh.{BeganVolume, IsFreshFault, WroteOnNew}
use Rattle.pilot_engine.specs.NewCrashStates.{KeepsNew}
use Rattle.pilot_engine.specs.Opening.{CostsStart, IsDiskFault, IsEarly, IsOutside, IsSoAtStart, IsUnset, KeepsFiles, LeavesOpenAtStart, SyncsFirst, WroteFirst}
use Rattle.pilot_engine.specs.Reasons.{FromStart, NeverBlamesFilesAtStart, ShowsReasonAtStart}
use Rattle.pilot_engine.specs.Referring.{TakesCalls}
use Rattle.pilot_engine.specs.Rest.{CostsRest}
use Rattle.pilot_engine.specs.Writing.{BeginMay, Written}

-- What a start spends at most: so much for its steps, and no more than any other call.
pub record SpendsAtStart (old new : DiskState) : Type 0 where
  pub cost : CostsStart old new
  pub bounded : CostsOther old new

-- what comes of a start: a session, or why there is none and the disk
abbrev pub Outcome : (D A : Type 0) → Ghosts D → Type 0
Outcome D A G = Result (Session D A G) (StartFault × D)

module _ {D A : Type 0} {G : Ghosts D} where
  -- so it is of the disk, whether or not a session starts
  abbrev pub OnDisk : (DiskState → Type 0) → Outcome D A G → Type 0
  OnDisk holds result = MatchResult result (λ s. holds (state s.core).disk) (λ e. holds (G.state e.1))

  -- ---- On each start.

  -- The volume starts this machine: the session that starts stands for it, and the disk or the memory is why none does.
  pub record StartsAs (m : Machine) (result : Outcome D A G) : Type 0 where
    pub stands : IfOk result (λ s. Runs s.core s.volume m)
    pub sound : IfErr result (λ e. IsOutside e.0)

  -- The session that starts takes calls, and has so many frames.
  pub record StartsWith (many : ℕ) (result : Outcome D A G) : Type 0 where
    pub takes : IfOk result TakesCalls
    pub frames : IfOk result (λ s. length (state s.core).slots ≡ many)

  -- Why none starts, by causes of this kind: before the first write the disk was only read; a fault of the disk was counted; and what is shown of the
  -- disk that is handed back is so.
  pub record FailsAtStart (why : DiskState → DiskState → StartFault → Type 0) (old : DiskState) (result : Outcome D A G) : Type 0 where
    pub unwritten : IfErr result (λ e. IsEarly e.0 → OnlyReads old (G.state e.1))
    pub counted : IfErr result (λ e. IsDiskFault e.0 → Rose old.faults (G.state e.1).faults)
    pub cause : IfErr result (λ e. why old (G.state e.1) e.0)
    pub evidence_seen : IfErr result (λ e. IsSoAtStart (G.state e.1) e.0)

  -- the clean flag is not set; and where none starts, it is so if the halt shows damage
  abbrev pub LeavesUnset : Outcome D A G → Type 0
  LeavesUnset result = MatchResult result (λ s. IsUnset (state s.core).disk) (λ e. LeavesOpenAtStart (G.state e.1) e.0)

  -- ---- On a volume that was closed.

  -- The file map was in form, and named these triples: the session keeps to what stood there, and sees the space tables with the root alone; or the
  -- halt has its reason in what stood there, and blames no page of a file or of the tables.
  pub record AccountsAtStart (d : List Sector) (named : Triples) (ws : List DiskWrite) (result : Outcome D A G) : Type 0 where
    pub keeps_to : IfOk result (λ s. FromStart d named ws (λ o. KeepsOn o s.core.filer))
    pub reasons : IfErr result (λ e. FromStart d named ws (λ o. ShowsReasonAtStart o (layout_of (length d)) (G.state e.1) e.0))
    pub sees : MatchResult result (λ s. SeesFiles no_page s.core) (λ e. NeverBlamesFilesAtStart e.0)

  -- What was written, whether or not one starts: a root first, which is on the medium before all else, and no page of a client's is dirty; the root's
  -- numbers; and what stands in each crash state.
  pub record WritesAtStart (old : DiskState) (result : Outcome D A G) : Type 0 where
    pub wrote : OnDisk (WroteFirst old) result
    pub synced : IfOk result (λ s. SyncsFirst old (state s.core).disk)
    pub clean : IfOk result (λ s. (id page : ℕ) → IsDirty (state s.core).slots id page → volume_page id page)
    pub left_open : LeavesUnset result
    pub root : (d : List Sector) → old.contents ≡ Some d
        → MatchResult result
        (λ s. IsMonotone (root_in (root_page d)) s.volume.root × Written (BeginMay (root_in (root_page d))) old (state s.core).disk)
        (λ e. Written (BeginMay (root_in (root_page d))) old (G.state e.1))
    pub crash_states : (d : List Sector) → old.contents ≡ Some d → LabelsRight d → OnDisk (KeepsFiles d old) result

  -- ---- Over a root that was read before.

  -- Why none starts then: where there is no memory the disk is the one that was given, and it is for no fault of the root; a fault of the disk was
  -- counted; what is shown of the disk that is handed back is so; and it reveals what it holds, if it did.
  pub record FailsFromRoot (disk : D) (result : Outcome D A G) : Type 0 where
    pub memory : IfErr result (λ e. e.0 ≡ NoMemory → e.1 ≡ disk)
    pub no_root : (why : RootFault) → IfErr result (λ e. e.0 ≢ NoRoot why)
    pub counted : IfErr result (λ e. IsDiskFault e.0 → Rose (G.state disk).faults (G.state e.1).faults)
    pub evidence_seen : IfErr result (λ e. IsSoAtStart (G.state e.1) e.0)
    pub revealed : (d : List Sector) → (G.state disk).contents ≡ Some d
        → IfErr result (λ e. (h : List Sector) × ((G.state e.1).contents ≡ Some h))

  -- The disk is the same, later; its clean flag; and what was spent.
  pub record LeavesFromRoot (old : DiskState) (result : Outcome D A G) : Type 0 where
    pub went : OnDisk (Went old) result
    pub left_open : LeavesUnset result
    pub bounded : OnDisk (CostsRest old) result

  -- ---- On a volume that is made for it.

  -- The session that starts stands for the machine without files, with serial 1 and counter 1; and where a volume has so many sectors, the disk or the
  -- memory is why none does.
  pub record StartsNew (old : DiskState) (result : Outcome D A G) : Type 0 where
    pub stands : IfOk result (λ s. Runs s.core s.volume (opened 1 1 (capacity old.sectors)))
    pub sound : IsCount old.sectors → IfErr result (λ e. IsOutside e.0)

  -- A count of sectors that no volume has is refused, and no other.
  pub record RefusesNew (old : DiskState) (result : Outcome D A G) : Type 0 where
    pub count : ¬ IsCount old.sectors → MatchResult result (λ s. ⊥) (λ e. e.0 ≡ NoRoot (fault.BadCount old.sectors))
    pub refused : IfErr result (λ e. IsFreshFault old.sectors e.0)

  -- What was written, whether or not one starts: the volume or a part of it, and then the first writes of a start; what stands in each crash state of
  -- these; the clean flag; and the disk is the same, later.
  pub record WritesNewVolume (old : DiskState) (result : Outcome D A G) : Type 0 where
    pub wrote : MatchResult result (λ s. WroteOnNew old (state s.core).disk)
        (λ e. BeganVolume old (G.state e.1) ⊎ WroteOnNew old (G.state e.1))
    pub crash_states : (d : List Sector) → old.contents ≡ Some d
        → MatchResult result (λ s. KeepsNew old (state s.core).disk)
        (λ e. BeganVolume old (G.state e.1) ⊎ KeepsNew old (G.state e.1))
    pub left_open : LeavesUnset result
    pub later : OnDisk (IsLater old) result
