-- Why a call on files stops the session, and one that shows a file which comes and goes with its window: the halt of a call
-- from one state to another, with so many intervals at its start.
use Rattle.std.specs.Prelude.{◌≡◌, ◌⊎◌, ℕ, ◌<◌}
use Rattle.labelled_disk.specs.declared.evidence.Halt.{Halt}
use Rattle.flat_machine.specs.Space.{root_pages}
use Rattle.session_words.specs.Volume.{volume_page}
use Rattle.swapper_kernel.specs.Halts.{Halts}
use Rattle.swapper_kernel.specs.Homes.{no_home}
use Rattle.filer_kernel.specs.Causes.{MapHalts}
use Rattle.file_manager.specs.Causes.{LeaderHalts}
use Rattle.file_manager.specs.Taking.{every_page}
use Rattle.file_manager.specs.Grounds.{AreTables, CreateHalts, CutFileHalts, DeleteHalts, ResizeHalts}
use Rattle.running_words.specs.Session.{WroteIn}
use Rattle.fault_core.specs.Kill.{BreaksWithin}
use Rattle.fault_core.specs.Reach.{Reaches, ReachHalts}
use Rattle.filer_kernel.specs.View.{View, kept_by}
use Rattle.space_calls.specs.Unmapping.{Reshapes}
use Rattle.space_tables.specs.declared.shown.Shown.{Shown}
use Rattle.space_tables.specs.Shows.{IsShownAt}
use Rattle.table_calls.specs.Answers.{TablesSay}
use Rattle.space_calls.specs.Halts.{After, ChangeHalts, OnFileHalts, PathHalts, SightHalts, TakeWindowHalts}

-- ---- What is done to a file.

-- it is made, with the pages that are wanted
abbrev pub NewFileHalts : ℕ → (ℕ → Type 0) → View → View → Halt → Type 0
NewFileHalts id wanted v w e = CreateHalts v.layout id wanted v.disk v.slots w.disk w.slots e

-- it is removed
abbrev pub RemoveHalts : ℕ → View → View → Halt → Type 0
RemoveHalts id v w e = DeleteHalts v.layout (kept_by v) id v.disk v.slots w.disk e

-- it gets so many pages
abbrev pub SizeHalts : ℕ → ℕ → View → View → Halt → Type 0
SizeHalts id pages v w e = ResizeHalts v.layout (kept_by v) id pages v.disk v.slots w.disk w.slots e

-- it gets a mark
abbrev pub MarkHalts : ℕ → View → View → Halt → Type 0
MarkHalts id v w e = LeaderHalts v.layout (kept_by v) id v.disk v.slots w.disk e

-- ---- The files in order.

-- the file map is searched for the next one, and then the tables are asked whether it may be named
abbrev pub TurnHalts : ℕ → View → View → Halt → Type 0
TurnHalts count v w e = MapHalts v.layout v.disk v.slots w.disk e ⊎ After Reaches (SightHalts count) v w e

-- so it is with one of the next ones
abbrev pub NextHalts : ℕ → View → View → Halt → Type 0
NextHalts count v w e = After Reaches (TurnHalts count) v w e

-- ---- A file that comes and goes with its window.

-- labels were written, and no page but those of the volume's own became dirty
abbrev pub Made : View → View → Type 0
Made v w = WroteIn volume_page v.disk v.slots w.disk w.slots × (w.layout ≡ v.layout)

-- the path of a space is looked up, the file is made, and then the tables change
abbrev pub MapNewHalts : ℕ → ℕ → View → View → Halt → Type 0
MapNewHalts id count v w e = PathHalts v w e ⊎ After Reaches (λ u x e. NewFileHalts id every_page u x e ⊎ After Made (ChangeHalts count) u x e) v w e

-- the window of a space is taken away, and then the file that it showed is removed, if it came with it
abbrev pub UnmapHalts : ℕ → ℕ → View → View → Halt → Type 0
UnmapHalts space count v w e =
    TakeWindowHalts space count v w e ⊎ ((shown : Shown) × TablesSay v (λ b. IsShownAt b space) shown × After Reshapes (OnFileHalts shown.id (RemoveHalts shown.id)) v w e)

-- ---- The session's end.

-- a next file is searched for, and one is looked up, and removed
abbrev pub ClearHalts : View → View → Halt → Type 0
ClearHalts v w e = MapHalts v.layout v.disk v.slots w.disk e ⊎ After Reaches (λ u x e. (id : ℕ) × OnFileHalts id (RemoveHalts id) u x e) v w e

-- the frames of all pages of the root are given up
abbrev pub EvictHalts : ℕ → View → View → Halt → Type 0
EvictHalts count v w e = ReachHalts (BreaksWithin v count 0 root_pages) v w e

-- the pages of the space tables are freed
abbrev pub FreeTablesHalts : View → View → Halt → Type 0
FreeTablesHalts v w e = CutFileHalts (AreTables v.slots) v.layout (kept_by v) 3 0 (λ page. page < 96) v.disk v.slots w.disk e

-- files are removed, and then those pages are freed
abbrev pub EmptyHalts : View → View → Halt → Type 0
EmptyHalts v w e = ClearHalts v w e ⊎ FreeTablesHalts v w e

-- dirty frames are written out
abbrev pub WriteHalts : View → View → Halt → Type 0
WriteHalts v w e = Halts no_home v.disk v.slots w.disk e

-- the frames of all pages of the root are given up; then one of these is done
abbrev pub EndHalts : ℕ → View → View → Halt → Type 0
EndHalts count v w e = EvictHalts count v w e ⊎ After Made (λ u x e. ClearHalts u x e ⊎ (FreeTablesHalts u x e ⊎ WriteHalts u x e)) v w e
