-- Cores that see the space tables: they are revealed, and in form.
use Rattle.std.specs.Prelude.{◌≡◌, ◌⊎◌, ◌==◌, ◌&&◌, ◌+◌, ◌-◌, ℕ, true, List, IfSome}
use Rattle.std.specs.List.{AllByRecursion, list_any}
use Rattle.labelled_disk.specs.declared.disk.Disk.{Ghosts}
use Rattle.flat_machine.specs.declared.space.Space.{Space}
use Rattle.flat_machine.specs.declared.space.Window.{Window}
use Rattle.flat_machine.specs.Space.{has_window}
use Rattle.swapper_kernel.specs.Goes.{Pages}
use Rattle.fault_core.specs.declared.core_over.Core.{Core}
use Rattle.fault_core.specs.Core.{kept, state}
use Rattle.fault_core.specs.Lack.{Sees}

-- the last page of a file that the window of a space shows
abbrev pub last_shown : Space → Window → ℕ
last_shown s w = w.first + (s.pages - 1)

-- the last page that each window shows is one of these
abbrev pub AreOn : Pages → List Space → Type 0
AreOn pages spaces = AllByRecursion (λ s. IfSome s.window (λ w. pages w.file (last_shown s w))) spaces

-- some window shows this page of a file as its last
abbrev pub IsShown : List Space → Pages
IsShown spaces id page = list_any (λ s. has_window (λ w. (w.file == id) && (last_shown s w == page)) s) spaces ≡ true

module _ {D A : Type 0} {G : Ghosts D} where
  -- the tables are revealed, and those of some spaces
  abbrev pub SeesOn : Core D A G → Type 0
  SeesOn core = (ss : List Space) × Sees (state core) (kept core) core.intervals ss

  -- those of some spaces, and the last pages that their windows show are among these
  abbrev pub SeesFiles : Pages → Core D A G → Type 0
  SeesFiles pages core = (ss : List Space) × (Sees (state core) (kept core) core.intervals ss × AreOn pages ss)

  -- those of whatever spaces they were, they still are
  abbrev pub StillSees : Core D A G → Core D A G → Type 0
  StillSees old new = (ss : List Space) → Sees (state old) (kept old) old.intervals ss → Sees (state new) (kept new) new.intervals ss

  -- they are those of some spaces, and the last pages that their windows show are some that windows showed
  abbrev pub StillOn : Core D A G → Core D A G → Type 0
  StillOn old new = (ss : List Space) → Sees (state old) (kept old) old.intervals ss → SeesFiles (IsShown ss) new

  -- or some of these
  abbrev pub StillOnOr : (List Space → Pages) → Core D A G → Core D A G → Type 0
  StillOnOr pages old new = (ss : List Space) → Sees (state old) (kept old) old.intervals ss → SeesFiles (λ id page. IsShown ss id page ⊎ pages ss id page) new
