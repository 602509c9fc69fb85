-- Which page a call on spaces reports as missing: one of the space tables, of the file that goes with a window, or of what windows show.
use Rattle.std.proofs.Common.{◌≡◌, ◌⊎◌, inl, inr, ℕ, true, false, List, Option, sym, subst}
use Rattle.std.specs.Prelude.{Bool}
use Rattle.labelled_disk.specs.declared.evidence.Halt.{Halt}
use Rattle.labelled_disk.specs.declared.evidence.Halt.TheVariants as halt
use Rattle.flat_machine.specs.declared.call.Call.TheVariants as call
use Rattle.flat_machine.specs.declared.space.Space.{Space}
use Rattle.space_tables.specs.declared.shown.Shown.{Shown}
use Rattle.space_tables.specs.Form.{first_in_slot, Breaks, BreaksAt, BreaksFor, BreaksHierarchy, BreaksSlot, MakesTooMany}
use Rattle.swapper_kernel.specs.Goes.{Pages}
use Rattle.fault_core.specs.Lack.{MissesPage}
use Rattle.fault_core.specs.Reach.{Reaches, ReachHalts}
use Rattle.fault_core.specs.ReachLaws.{reach_misses}
use Rattle.filer_kernel.specs.View.{View}
use Rattle.fault_core.proofs.LackLemmas.{misses_wider}
use Rattle.table_calls.specs.Answers.{TablesBreak}
use Rattle.space_calls.specs.Halts.{After, ChangeHalts, MakeSpaceHalts, MapFileHalts, OnFileHalts, OnNamedHalts, PathHalts, PlaceHalts, ProtectHalts, RemoveSpaceHalts, ShownHalts, SightHalts, SlotHalts, TakeWindowHalts, WritableHalts}
use Rattle.space_calls.specs.Ranges.{BreaksRange, BreaksWindow}
use Rattle.space_calls.specs.Unmapping.{ShowsIn}
use Rattle.file_manager.specs.Taking.{every_page}
use Rattle.pilot_engine.specs.Halting.{MapNewHalts, NextHalts, RemoveHalts, TurnHalts}
use Rattle.pilot_engine.specs.Stepping.{missing_page}
use Rattle.pilot_engine.proofs.LackLemmas.{Misses, after_misses, either_misses, new_misses, on_file_misses, on_named_misses, pages_of, remove_misses, search_misses, sight_misses}

-- a fault of the disk reveals none
pub fault_misses : (pages : Pages) (e : Halt) → e ≡ halt.Disk → MissesPage pages e
fault_misses pages e is = subst (MissesPage pages) (sym is) tt

-- ---- Pages of the tables alone are looked for.

pub reached_misses : (breaks : View → ℕ → Type 0) (pages : Pages) → Misses (λ v w e. ReachHalts (breaks v) v w e) pages
reached_misses breaks pages v w e h = reach_misses (breaks v) v w pages e h

pub make_space_misses : (parent size : ℕ) (first : Option ℕ) (count : ℕ) (pages : Pages) → Misses (MakeSpaceHalts parent size first count) pages
make_space_misses parent size first count pages = reached_misses (λ v. TablesBreak v (λ b page. BreaksHierarchy b page ⊎ (BreaksAt first count b page ⊎ MakesTooMany count b parent size first page))) pages

pub remove_space_misses : (space count : ℕ) (pages : Pages) → Misses (RemoveSpaceHalts space count) pages
remove_space_misses space count pages = reached_misses (λ v. TablesBreak v (λ b page. BreaksFor (first_in_slot b space) count b page)) pages

pub place_misses : (page count : ℕ) (pages : Pages) → Misses (PlaceHalts page count) pages
place_misses page count pages = reached_misses (λ v. TablesBreak v (λ b broken. BreaksFor page count b broken)) pages

pub change_misses : (count : ℕ) (pages : Pages) → Misses (ChangeHalts count) pages
change_misses count pages = reached_misses (λ v. TablesBreak v (Breaks count)) pages

slot_misses : (space : ℕ) (pages : Pages) → Misses (SlotHalts space) pages
slot_misses space pages = reached_misses (λ v. TablesBreak v (λ b page. BreaksSlot b page space)) pages

pub path_misses : (pages : Pages) → Misses PathHalts pages
path_misses pages = reached_misses (λ v. TablesBreak v BreaksHierarchy) pages

pub take_window_misses : (space count : ℕ) (pages : Pages) → Misses (TakeWindowHalts space count) pages
take_window_misses space count pages = reached_misses (λ v. BreaksWindow v count space) pages

pub range_misses : (space count : ℕ) (pages : Pages) → Misses (λ v w e. ReachHalts (BreaksRange v count space) v w e) pages
range_misses space count pages = reached_misses (λ v. BreaksRange v count space) pages

-- ---- A file is looked up as well.

pub map_file_misses : (space id count : ℕ) (pages : Pages) → Misses (MapFileHalts space id count) pages
map_file_misses space id count pages =
    either_misses (SlotHalts space) (After Reaches (OnNamedHalts id count (ChangeHalts count))) pages (slot_misses space pages)
    (after_misses Reaches (OnNamedHalts id count (ChangeHalts count)) pages (on_named_misses id count (ChangeHalts count) pages (change_misses count pages)))

shown_misses : (space count : ℕ) (pages : Pages) → Misses (ShownHalts space count) pages
shown_misses space count pages v w e (shown, says, halts) = after_misses Reaches (WritableHalts shown.id count) pages (on_file_misses shown.id (ChangeHalts count) pages (change_misses count pages)) v w e halts

pub protect_misses : (space : ℕ) (writable : Bool) (count : ℕ) (pages : Pages) → Misses (ProtectHalts space writable count) pages
protect_misses space true count pages = either_misses (SlotHalts space) (ShownHalts space count) pages (slot_misses space pages) (shown_misses space count pages)
protect_misses space false count pages = take_window_misses space count pages

-- ---- The files in order.

pub next_misses : (count : ℕ) (pages : Pages) → Misses (NextHalts count) pages
next_misses count pages = after_misses Reaches (TurnHalts count) pages turn
  where
    turn : Misses (TurnHalts count) pages
    turn v w e (inl search) = search_misses pages v.layout v.disk v.slots w.disk e search
    turn v w e (inr sight) = after_misses Reaches (SightHalts count) pages (sight_misses pages count) v w e sight

-- ---- A file comes and goes with its window.

pub map_new_misses : (id count : ℕ) (pages : Pages) → Misses (MapNewHalts id count) pages
map_new_misses id count pages v w e (inl path) = path_misses pages v w e path
map_new_misses id count pages v w e (inr (u, reaches, inl made)) = new_misses pages id every_page u w e made
map_new_misses id count pages v w e (inr (u, reaches, inr (x, left, change))) = change_misses count pages x w e change

-- the file that an anonymous window showed is removed
pub unmap_misses : (ss : List Space) (space : ℕ) (shown : Shown) → ShowsIn ss space shown → shown.anonymous ≡ true → (v w : View) (e : Halt) → OnFileHalts shown.id (RemoveHalts shown.id) v w e → MissesPage (missing_page (call.Unmap space) ss) e
unmap_misses ss space shown there hidden v w e halts =
    misses_wider (pages_of shown.id) (missing_page (call.Unmap space) ss) (λ id page same. (shown, there, hidden, same)) e
    (on_file_misses shown.id (RemoveHalts shown.id) (pages_of shown.id) (remove_misses shown.id) v w e halts)
