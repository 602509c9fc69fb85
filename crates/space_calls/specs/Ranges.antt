-- Why a call on the range of a space may fail for the space tables.
use Rattle.std.specs.Prelude.{◌≡◌, ◌⊎◌, ◌+◌, ℕ, List, Some}
use Rattle.flat_machine.specs.declared.space.Space.{Space}
use Rattle.flat_machine.specs.Space.{space_at}
use Rattle.swapper_kernel.specs.Goes.{Pages}
use Rattle.space_tables.specs.Form.{Breaks, BreaksSlot}
use Rattle.space_tables.specs.Shows.{IsRunAt}
use Rattle.fault_core.specs.Kill.{BreaksWithin}
use Rattle.fault_core.specs.Lack.{range_units}
use Rattle.filer_kernel.specs.View.{View}
use Rattle.table_calls.specs.Answers.{TablesBreak, TablesSay}

-- A page of them breaks its form for the look-up of a page of the space's range. Where the tables are revealed, that range is the one
-- that the record of the space says.
pub record BreaksInSpace (v : View) (count space page : ℕ) : Type 0 where
  pub first : ℕ
  pub pages : ℕ
  pub read : TablesSay v (λ b. IsRunAt b space) (first, pages)
  pub within : BreaksWithin v count first (first + pages) page

-- a page of them breaks its form for the record of the space, or for the look-up of a page of its range
abbrev pub BreaksRange : View → ℕ → ℕ → ℕ → Type 0
BreaksRange v count space page = TablesBreak v (λ b broken. BreaksSlot b broken space) page ⊎ BreaksInSpace v count space page

-- so, or a page of them breaks its form for anything that the tables are asked
abbrev pub BreaksWindow : View → ℕ → ℕ → ℕ → Type 0
BreaksWindow v count space page = BreaksRange v count space page ⊎ TablesBreak v (Breaks count) page

-- a page of them breaks its form for the look-up of a page from one on up to another, or for anything that the tables are asked
abbrev pub BreaksPart : View → ℕ → ℕ → ℕ → ℕ → Type 0
BreaksPart v count first to page = BreaksWithin v count first to page ⊎ TablesBreak v (Breaks count) page

-- what the windows show of the swap units of the pages of the space
abbrev pub space_units : List Space → ℕ → Pages
space_units spaces space i p = (s : Space) × ((space_at spaces space ≡ Some s) × range_units spaces s.first (s.first + s.pages) i p)
