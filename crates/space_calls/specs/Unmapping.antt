-- What the taking of a window leaves.
use Rattle.std.specs.Prelude.{◌≡◌, ℕ, List, [], Some, None, Result, Ok, Err}
use Rattle.labelled_disk.specs.Sectors.{Sector}
use Rattle.file_map.specs.declared.run.Run.{Run}
use Rattle.file_map.specs.FileMap.{Triples}
use Rattle.swapper_kernel.specs.Homes.{Brings}
use Rattle.swapper_kernel.specs.Stands.{Stands}
use Rattle.swapper_kernel.specs.Differs.{Differs}
use Rattle.swapper_kernel.specs.Goes.{Goes}
use Rattle.filer_kernel.specs.Causes.{IsGiven}
use Rattle.filer_kernel.specs.Tables.{in_tables, table_pages}
use Rattle.filer_kernel.specs.Triples.{MapIs, AreOf, IsOneOf}
use Rattle.fault_core.specs.Reach.{BringsOwn, IsReached}
use Rattle.filer_kernel.specs.View.{View, kept_by}
use Rattle.flat_machine.specs.declared.call.Refusal.{Refusal}
use Rattle.flat_machine.specs.declared.space.Space.{Space}
use Rattle.flat_machine.specs.Machine.{Machine}
use Rattle.flat_machine.specs.Next.{set_window, without_window_of}
use Rattle.flat_machine.specs.Space.{space_at}
use Rattle.space_tables.specs.declared.shown.Shown.{Shown}
use Rattle.space_tables.specs.Shows.{window_of}

-- Pages of the space tables were found, brought in and changed: each frame's home was there before or was found so, and none
-- is of a client's file that was not there. Only pages of the space tables and of the file map may have become dirty, and the
-- bytes of the space tables alone may differ.
-- Runs that are kept were kept before or were read from the map, and are the map's afterwards where they were before.
pub record Reshapes (v w : View) : Type 0 where
  pub goes : Goes (Differs (in_tables v.layout)) table_pages [] v.disk v.slots w.disk w.slots
  pub brings : Brings (IsReached v) v.slots w.slots
  pub came : BringsOwn v.slots w.slots
  pub layout : w.layout ≡ v.layout
  pub given : (r : Run) → IsOneOf r (kept_by w) → IsGiven v.layout v.disk v.slots (kept_by v) r
  pub runs_are : (m : List Sector) (named : Triples) → Stands v.disk v.slots m → MapIs v.layout named m → AreOf named (kept_by v) → AreOf named (kept_by w)

-- the machine without the window of that space, whose pages are no longer unforced; its file is still there
abbrev pub without_window : ℕ → Space → Machine → Machine
without_window handle s m = record m { spaces = set_window handle None m.spaces; unforced = without_window_of s m.unforced }

-- the space showed this, and now it is so of the machine without that window
abbrev pub IsTaken : Machine → ℕ → (Machine → Type 0) → Shown → Type 0
IsTaken m handle stands shown = (s : Space) × (space_at m.spaces handle ≡ Some s) × (s.window ≡ Some (window_of shown)) × stands (without_window handle s m)

-- where nothing was taken, this is so
abbrev pub IsRefused : {A : Type 0} → Type 0 → Result A Refusal → Type 0
IsRefused P (Ok answer) = Unit {0}
IsRefused P (Err word) = P

-- where something was, this is so
abbrev pub IsGivenUp : {A : Type 0} → Type 0 → Result A Refusal → Type 0
IsGivenUp P (Ok answer) = P
IsGivenUp P (Err word) = Unit {0}

-- the space shows this
abbrev pub ShowsIn : List Space → ℕ → Shown → Type 0
ShowsIn spaces handle shown = (s : Space) × (space_at spaces handle ≡ Some s) × (s.window ≡ Some (window_of shown))

-- the space shows this, from its first page on, and has so many pages
abbrev pub IsWindowIn : List Space → ℕ → Shown × ℕ × ℕ → Type 0
IsWindowIn spaces handle found = (s : Space) × (space_at spaces handle ≡ Some s) × (s.window ≡ Some (window_of found.0)) × (found.1 ≡ s.first) × (found.2 ≡ s.pages)
