-- A machine that differs from another by one temporary file.
use Rattle.std.specs.Prelude.{◌≡◌, ◌≢◌, ℕ, filter, None}
use Rattle.flat_machine.specs.File.{file_at}
use Rattle.flat_machine.specs.Machine.{Machine}
use Rattle.flat_machine.specs.Settled.{is_unforced, settled}

-- it has the permanent files of m, and of each file but this one the same pages are unforced
pub record IsBeside (m : Machine) (id : ℕ) (n : Machine) : Type 0 where
  pub files : filter (λ f. f.permanent) n.files ≡ filter (λ f. f.permanent) m.files
  pub unforced : (g page : ℕ) → g ≢ id → is_unforced n.unforced g page ≡ is_unforced m.unforced g page

-- a stop leaves of it what it leaves of m, where m has no such file
abbrev pub SettledBeside : Type 0
SettledBeside = (m n : Machine) (id : ℕ) → file_at m.files id ≡ None → IsBeside m id n → settled n ≡ settled m
