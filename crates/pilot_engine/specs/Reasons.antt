-- Why a session that does not start reveals damage, from what the disk had before.
use Rattle.std.specs.Prelude.{◌≡◌, List, [], ◌∷◌, ◌++◌, Some, Result, IfOk, IfErr, MatchResult}
use Rattle.labelled_disk.specs.declared.disk.Disk.{Ghosts}
use Rattle.labelled_disk.specs.declared.disk.DiskWrite.{DiskWrite}
use Rattle.labelled_disk.specs.declared.evidence.Halt.{Halt}
use Rattle.labelled_disk.specs.declared.layout.Layout.{Layout}
use Rattle.labelled_disk.specs.Sectors.{Sector}
use Rattle.labelled_disk.specs.State.{DiskState}
use Rattle.file_map.specs.FileMap.{Triples}
use Rattle.file_map.specs.InSectors.{MapNames}
use Rattle.volume_root.specs.declared.root.Root.{Root}
use Rattle.volume_root.specs.RootPage.{root_write}
use Rattle.file_manager.specs.Reasons.{IsOfFile, InitialState, KeepsOn, ShowsReason, WasBelow, initial_state}
use Rattle.flat_machine.specs.Space.{root}
use Rattle.fault_core.specs.declared.core_over.Core.{Core}
use Rattle.fault_core.specs.Lack.{MissesPage, Sees}
use Rattle.fault_core.specs.NeverBlames.{NeverBlamesTables}
use Rattle.filer_kernel.specs.declared.filer.Filer.{Filer}
use Rattle.filer_kernel.specs.View.{View, view_of}
use Rattle.swapper_kernel.specs.Goes.{no_page}
use Rattle.running_words.specs.Blameless.{NeverBlamesForm}
use Rattle.space_calls.specs.Sees.{SeesFiles}
use Rattle.pilot_engine.specs.declared.fault.StartFault.{StartFault}
use Rattle.pilot_engine.specs.declared.fault.StartFault.TheVariants.{Root as NoRoot, NoMemory, Halt as Halted}
use Rattle.fault_core.specs.Core.{state}

-- The disk has these sectors and reveals which writes were made. Its file map is in form, and names these triples.
pub record IsBegun (d : List Sector) (named : Triples) (ws : List DiskWrite) (disk : DiskState) : Type 0 where
  pub contents : disk.contents ≡ Some d
  pub writes : disk.writes ≡ Some ws
  pub map : MapNames d named

-- A session's first write is a root's: this is so of an initial state with such a write after those that had been made, and with what both
-- maps said before it.
abbrev pub FromStart : List Sector → Triples → List DiskWrite → (InitialState → Type 0) → Type 0
FromStart d named ws holds = (root : Root) × holds (initial_state d named (ws ++ (root_write root ∷ [])))

-- where a halt is why no session started, it has such a reason
abbrev pub ShowsReasonAtStart : InitialState → Layout → DiskState → StartFault → Type 0
ShowsReasonAtStart o layout disk (NoRoot why) = Unit {0}
ShowsReasonAtStart o layout disk NoMemory = Unit {0}
ShowsReasonAtStart o layout disk (Halted why) = ShowsReason o layout disk why

-- the halt is neither that a page of the space tables breaks its form, nor that a page of a file is missing
abbrev pub NeverBlamesFiles : Halt → Type 0
NeverBlamesFiles halt = NeverBlamesForm halt × MissesPage no_page halt

-- so it is where a halt is why no session started
abbrev pub NeverBlamesFilesAtStart : StartFault → Type 0
NeverBlamesFilesAtStart (NoRoot why) = Unit {0}
NeverBlamesFilesAtStart NoMemory = Unit {0}
NeverBlamesFilesAtStart (Halted why) = NeverBlamesFiles why

-- the space tables are revealed, and in form: they have the root alone
abbrev pub SeesRoot : View → Type 0
SeesRoot v = Sees v [] 1 (root ∷ [])

-- The halt is not that a page of the space tables breaks its form; and where it is that a page of a file is missing, it is one of what
-- the file is or was.
abbrev pub IsBlameless : InitialState → DiskState → Halt → Type 0
IsBlameless o disk halt = NeverBlamesForm halt × MissesPage (IsOfFile o disk) halt

-- The halt of an end reveals no page of the space tables, as broken or as missing; and where it is that a page of a file is missing, it is
-- one of what the file is or was.
abbrev pub NeverBlamesEnd : InitialState → DiskState → Halt → Type 0
NeverBlamesEnd o disk halt = NeverBlamesTables halt × MissesPage (IsOfFile o disk) halt

module _ {D A : Type 0} {G : Ghosts D} where
  -- the space tables are revealed, and in form: each page of a file that a window shows is below the end of what the file is or was
  abbrev pub SeesHome : InitialState → Core D A G → Type 0
  SeesHome o core = SeesFiles (WasBelow o (state core).disk) core

  -- A start kept to this initial state, with the tables of the root alone; or its halt has its reason in it, and blames no file.
  pub record AccountsBegun {T : Type 0} (o : InitialState) (old new : Filer D A G) (result : Result T Halt) : Type 0 where
    pub keeps_to : IfOk result (λ _. KeepsOn o new)
    pub reasons : IfErr result (ShowsReason o (view_of old).layout (view_of new).disk)
    pub sees : MatchResult result (λ _. SeesRoot (view_of new)) NeverBlamesFiles
