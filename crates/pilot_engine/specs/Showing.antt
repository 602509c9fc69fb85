-- Which files windows show after a call, and which pages of files a call may make dirty, where the space tables are seen.
use Rattle.std.specs.Prelude.{◌≡◌, ℕ, List, length, Option, Some, None, OnOk, Result}
use Rattle.labelled_disk.specs.declared.disk.Disk.{Ghosts}
use Rattle.labelled_disk.specs.declared.evidence.Halt.{Halt}
use Rattle.flat_machine.specs.declared.call.Call.{Call}
use Rattle.flat_machine.specs.declared.call.Call.TheVariants as call
use Rattle.flat_machine.specs.declared.space.Space.{Space}
use Rattle.swapper_kernel.specs.Goes.{Pages}
use Rattle.session_words.specs.CellLaws.{IsTouchedOrOwn}
use Rattle.session_words.specs.Volume.{volume_page}
use Rattle.file_manager.specs.Creating.{next_id}
use Rattle.file_manager.specs.Reasons.{InitialState, IsNotOlder, KeepsOn}
use Rattle.fault_core.specs.Core.{kept, state}
use Rattle.fault_core.specs.Lack.{Sees}
use Rattle.running_words.specs.Session.{WroteIn}
use Rattle.space_calls.specs.Sees.{StillOnOr, StillSees}
use Rattle.pilot_engine.specs.declared.session.Session.{Session}

-- the file that a call shows in a window: the one that it names, or a new one, which gets this identifier
abbrev pub maps : ℕ → Call → Option ℕ
maps new (call.Map space id page writable) = Some id
maps new (call.MapAnonymous space) = Some new
maps new other = None

-- each page of it
abbrev pub mapped_by : ℕ → Call → List Space → Pages
mapped_by new c spaces file page = maps new c ≡ Some file

-- the pages that a call may make dirty, by the spaces at its start: those that windows show where it stores, and the volume's own
abbrev pub dirties : Call → List Space → Pages
dirties (call.Store address bytes) spaces = IsTouchedOrOwn spaces address (length bytes)
dirties other spaces = volume_page

module _ {D A : Type 0} {G : Ghosts D} where
  -- of the spaces that are seen before the call
  abbrev pub DirtiesShown : Call → Session D A G → Session D A G → Type 0
  DirtiesShown c old new = (ss : List Space) → Sees (state old.core) (kept old.core) old.core.intervals ss
      → WroteIn (dirties c ss) (state old.core).disk (state old.core).slots (state new.core).disk (state new.core).slots

  -- In a session that keeps to an initial state the windows that are seen after a call that goes on show as their last pages some that windows
  -- showed before it, or pages of the file that the call maps.
  abbrev pub ShowsMapped : {T : Type 0} → Call → Session D A G → Session D A G → Result T Halt → Type 0
  ShowsMapped c old new result = (o : InitialState) → KeepsOn o old.core.filer → IsNotOlder o old.volume.root
      → OnOk result (StillOnOr (mapped_by (next_id old.volume.root) c) old.core new.core)

  -- whatever spaces are seen before it are seen after it
  abbrev pub KeepsWindows : {T : Type 0} → Session D A G → Session D A G → Result T Halt → Type 0
  KeepsWindows old new result = (o : InitialState) → KeepsOn o old.core.filer → OnOk result (StillSees old.core new.core)
