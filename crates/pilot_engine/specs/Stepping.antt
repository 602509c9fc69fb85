-- Kinds of calls.
use Rattle.std.specs.Prelude.{◌≡◌, ℕ, ◌/◌, Bool, true, false, not, List, length, Option, Some, None}
use Rattle.labelled_disk.specs.declared.evidence.Halt.{Halt}
use Rattle.frame_pool.specs.Frames.{Slots}
use Rattle.flat_machine.specs.declared.call.Call.{Call}
use Rattle.flat_machine.specs.declared.call.Call.TheVariants as call
use Rattle.flat_machine.specs.declared.space.Space.{Space}
use Rattle.space_tables.specs.declared.shown.Shown.{Shown}
use Rattle.swapper_kernel.specs.Goes.{Pages, no_page}
use Rattle.swap_units.specs.declared.interval.Interval.{Interval}
use Rattle.fault_core.specs.Access.{BreaksFor, last_page}
use Rattle.fault_core.specs.Reach.{ReachHalts, TouchHalts}
use Rattle.fault_core.specs.Lack.{shown_units}
use Rattle.fault_core.specs.Unit.{IsReady}
use Rattle.filer_kernel.specs.View.{View}
use Rattle.space_calls.specs.Halts.{ChangeHalts, MakeSpaceHalts, MapFileHalts, NamedHalts, OnNamedHalts, PlaceHalts, ProtectHalts, RemoveSpaceHalts}
use Rattle.space_calls.specs.Ranges.{BreaksRange, space_units}
use Rattle.space_calls.specs.Unmapping.{ShowsIn}
use Rattle.file_manager.specs.Grounds.{IsNewPage}
use Rattle.pilot_engine.specs.Halting.{MapNewHalts, MarkHalts, NewFileHalts, NextHalts, RemoveHalts, SizeHalts, UnmapHalts}

-- a call on spaces
abbrev pub is_on_spaces : Call → Bool
is_on_spaces (call.MakeSpace parent pages first) = true
is_on_spaces (call.RemoveSpace space) = true
is_on_spaces (call.Place page) = true
is_on_spaces (call.Units space pages) = true
is_on_spaces (call.Map space id page writable) = true
is_on_spaces (call.MapAnonymous space) = true
is_on_spaces (call.Unmap space) = true
is_on_spaces (call.Protect space writable) = true
is_on_spaces (call.Load address count) = true
is_on_spaces (call.Store address bytes) = true
is_on_spaces (call.Activate space) = true
is_on_spaces (call.Deactivate space) = true
is_on_spaces (call.Kill space) = true
is_on_spaces (call.ForceOut space) = true
is_on_spaces other = false

-- a call that waits until what it wrote is on the medium, and writes nothing then
abbrev pub waits : Call → Bool
waits (call.Unmap space) = true
waits (call.Protect space writable) = not writable
waits (call.ForceOut space) = true
waits other = false

-- a call that may bring in pages of clients' files
abbrev pub brings_clients : Call → Bool
brings_clients (call.Load address count) = true
brings_clients (call.Store address bytes) = true
brings_clients (call.Activate space) = true
brings_clients other = false

-- the file that a call frees sectors of, or marks: over labels of it alone the call may write others without their pages
abbrev pub relabels : Call → Option ℕ
relabels (call.Delete id) = Some id
relabels (call.SetSize id pages) = Some id
relabels (call.MakePermanent id) = Some id
relabels (call.MakeImmutable id) = Some id
relabels other = None

-- the file that a call gives another size
abbrev pub resizes : Call → Option ℕ
resizes (call.SetSize id pages) = Some id
resizes other = None

-- calls that mark a file's leader, or free it
abbrev pub writes_leader : Call → Bool
writes_leader (call.Delete id) = true
writes_leader (call.MakePermanent id) = true
writes_leader (call.MakeImmutable id) = true
writes_leader other = false

-- a load or a store whose first page and last page are ready
abbrev pub IsResident : Call → List Interval → Slots → Type 0
IsResident (call.Load address count) kept slots = IsReady kept slots (address / 512) × IsReady kept slots (last_page address count)
IsResident (call.Store address bytes) kept slots = IsReady kept slots (address / 512) × IsReady kept slots (last_page address (length bytes))
IsResident other kept slots = ⊥

-- why a call stops the session: one from the first state to the second, with so many intervals at its start, where a new file
-- would get this identifier. A call that ends the session is no step.
abbrev pub StepHalts : ℕ → Call → ℕ → View → View → Halt → Type 0
StepHalts new (call.Create pages kind) count v w e = NewFileHalts new (IsNewPage pages) v w e
StepHalts new (call.Delete id) count v w e = OnNamedHalts id count (RemoveHalts id) v w e
StepHalts new (call.Attributes id) count v w e = NamedHalts id count v w e
StepHalts new (call.SetSize id pages) count v w e = OnNamedHalts id count (SizeHalts id pages) v w e
StepHalts new (call.MakePermanent id) count v w e = OnNamedHalts id count (MarkHalts id) v w e
StepHalts new (call.MakeImmutable id) count v w e = OnNamedHalts id count (MarkHalts id) v w e
StepHalts new (call.Next id) count v w e = NextHalts count v w e
StepHalts new call.Volume count v w e = ⊥
StepHalts new (call.MakeSpace parent pages first) count v w e = MakeSpaceHalts parent pages first count v w e
StepHalts new (call.RemoveSpace space) count v w e = RemoveSpaceHalts space count v w e
StepHalts new (call.Place page) count v w e = PlaceHalts page count v w e
StepHalts new (call.Units space pages) count v w e = ChangeHalts count v w e
StepHalts new (call.Map space id page writable) count v w e = MapFileHalts space id count v w e
StepHalts new (call.MapAnonymous space) count v w e = MapNewHalts new count v w e
StepHalts new (call.Unmap space) count v w e = UnmapHalts space count v w e
StepHalts new (call.Protect space writable) count v w e = ProtectHalts space writable count v w e
StepHalts new (call.Load address bytes) count v w e = TouchHalts (BreaksFor v count address bytes) v w e
StepHalts new (call.Store address bytes) count v w e = TouchHalts (BreaksFor v count address (length bytes)) v w e
StepHalts new (call.Activate space) count v w e = TouchHalts (BreaksRange v count space) v w e
StepHalts new (call.Deactivate space) count v w e = ReachHalts (BreaksRange v count space) v w e
StepHalts new (call.Kill space) count v w e = ReachHalts (BreaksRange v count space) v w e
StepHalts new (call.ForceOut space) count v w e = ReachHalts (BreaksRange v count space) v w e
StepHalts new other count v w e = ⊥

-- which pages a call may report as missing, by the spaces at its start, but for those of the space tables: those that windows show of the
-- swap units that it touches; those of the file that it frees or marks, or that the window had which it takes away, an anonymous one
abbrev pub missing_page : Call → List Space → Pages
missing_page (call.Load address count) spaces = shown_units spaces address count
missing_page (call.Store address bytes) spaces = shown_units spaces address (length bytes)
missing_page (call.Activate space) spaces = space_units spaces space
missing_page (call.Unmap space) spaces = λ id page. (shown : Shown) × ShowsIn spaces space shown × (shown.anonymous ≡ true) × (id ≡ shown.id)
missing_page (call.Delete file) spaces = λ id page. id ≡ file
missing_page (call.SetSize file pages) spaces = λ id page. id ≡ file
missing_page (call.MakePermanent file) spaces = λ id page. id ≡ file
missing_page (call.MakeImmutable file) spaces = λ id page. id ≡ file
missing_page other spaces = no_page
