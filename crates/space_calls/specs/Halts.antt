-- Why each call on spaces, and a look at a file, stops the session: the halt of a call from one state to another, with so many
-- intervals at its start.
use Rattle.std.specs.Prelude.{◌⊎◌, ℕ, Bool, true, false, Option}
use Rattle.labelled_disk.specs.declared.evidence.Halt.{Halt}
use Rattle.space_tables.specs.Form.{first_in_slot, Breaks, BreaksAt, BreaksFor, BreaksHierarchy, BreaksSlot, MakesTooMany}
use Rattle.space_tables.specs.declared.shown.Shown.{Shown}
use Rattle.space_tables.specs.Shows.{IsShownAt}
use Rattle.file_manager.specs.Finding.{FileHalts}
use Rattle.fault_core.specs.Reach.{Reaches, ReachHalts}
use Rattle.fault_core.specs.Revealed.{BreaksTables}
use Rattle.filer_kernel.specs.View.{View, kept_by}
use Rattle.table_calls.specs.Answers.{TablesBreak, TablesSay}
use Rattle.space_calls.specs.Ranges.{BreaksWindow}

-- a call went before that left a state so, and then the halt is this
abbrev pub After : (View → View → Type 0) → (View → View → Halt → Type 0) → View → View → Halt → Type 0
After leaves P v w e = (u : View) × leaves v u × P u w e

-- ---- The tables alone.

-- a space is made: its parent's path, or the pages from its first one on, break their form; or there would be too many intervals
abbrev pub MakeSpaceHalts : ℕ → ℕ → Option ℕ → ℕ → View → View → Halt → Type 0
MakeSpaceHalts parent pages first count v w e =
    ReachHalts (TablesBreak v (λ b page. BreaksHierarchy b page ⊎ (BreaksAt first count b page ⊎ MakesTooMany count b parent pages first page))) v w e

-- a space is removed
abbrev pub RemoveSpaceHalts : ℕ → ℕ → View → View → Halt → Type 0
RemoveSpaceHalts space count v w e = ReachHalts (TablesBreak v (λ b page. BreaksFor (first_in_slot b space) count b page)) v w e

-- the innermost space of a page is looked up
abbrev pub PlaceHalts : ℕ → ℕ → View → View → Halt → Type 0
PlaceHalts page count v w e = ReachHalts (TablesBreak v (λ b broken. BreaksFor page count b broken)) v w e

-- the tables get another unit size, or another window
abbrev pub ChangeHalts : ℕ → View → View → Halt → Type 0
ChangeHalts count v w e = ReachHalts (TablesBreak v (Breaks count)) v w e

-- the record of a space is looked up
abbrev pub SlotHalts : ℕ → View → View → Halt → Type 0
SlotHalts space v w e = ReachHalts (TablesBreak v (λ b page. BreaksSlot b page space)) v w e

-- whether a space may be mapped is asked
abbrev pub PathHalts : View → View → Halt → Type 0
PathHalts v w e = ReachHalts (TablesBreak v BreaksHierarchy) v w e

-- the window of a space is taken away
abbrev pub TakeWindowHalts : ℕ → ℕ → View → View → Halt → Type 0
TakeWindowHalts space count v w e = ReachHalts (BreaksWindow v count space) v w e

-- ---- A file.

-- a page of the tables breaks its form for the look-up of page 0, or for the search of a window
abbrev pub BreaksSight : View → ℕ → ℕ → Type 0
BreaksSight v count page = BreaksTables v count 0 page ⊎ TablesBreak v BreaksHierarchy page

-- the tables are asked which window shows a file
abbrev pub SightHalts : ℕ → View → View → Halt → Type 0
SightHalts count v w e = ReachHalts (BreaksSight v count) v w e

-- size, type and marks of a file are looked up
abbrev pub LookHalts : ℕ → View → View → Halt → Type 0
LookHalts id v w e = FileHalts v.layout (kept_by v) id v.disk v.slots w.disk e

-- a file that no anonymous window shows is looked up
abbrev pub NamedHalts : ℕ → ℕ → View → View → Halt → Type 0
NamedHalts id count v w e = SightHalts count v w e ⊎ After Reaches (LookHalts id) v w e

-- a file is looked up, and then this is done
abbrev pub OnFileHalts : ℕ → (View → View → Halt → Type 0) → View → View → Halt → Type 0
OnFileHalts id P v w e = LookHalts id v w e ⊎ After Reaches P v w e

-- so it is with one that no anonymous window shows
abbrev pub OnNamedHalts : ℕ → ℕ → (View → View → Halt → Type 0) → View → View → Halt → Type 0
OnNamedHalts id count P v w e = SightHalts count v w e ⊎ After Reaches (OnFileHalts id P) v w e

-- ---- Both.

-- a space shows a file: its record is looked up, the file is, and then the tables change
abbrev pub MapFileHalts : ℕ → ℕ → ℕ → View → View → Halt → Type 0
MapFileHalts space id count v w e = SlotHalts space v w e ⊎ After Reaches (OnNamedHalts id count (ChangeHalts count)) v w e

-- a file is looked up, and then the tables change
abbrev pub WritableHalts : ℕ → ℕ → View → View → Halt → Type 0
WritableHalts id count v w e = OnFileHalts id (ChangeHalts count) v w e

-- so it is with the file that the space shows: the one that its record says, where the tables are revealed
abbrev pub ShownHalts : ℕ → ℕ → View → View → Halt → Type 0
ShownHalts space count v w e = (shown : Shown) × TablesSay v (λ b. IsShownAt b space) shown × After Reaches (WritableHalts shown.id count) v w e

-- a window gets writable, or read-only
abbrev pub ProtectHalts : ℕ → Bool → ℕ → View → View → Halt → Type 0
ProtectHalts space true count v w e = SlotHalts space v w e ⊎ ShownHalts space count v w e
ProtectHalts space false count v w e = TakeWindowHalts space count v w e
