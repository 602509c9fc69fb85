-- What a reference of some bytes comes to, by the projection.
use Rattle.std.specs.Prelude.{◌≡◌, ℕ, ◌+◌, ◌-◌, ◌/◌, Bool, true, if◌then◌else◌, List, Option, Some, None, is_none, find, slice_get}
use Rattle.flat_machine.specs.declared.space.Space.{Space}
use Rattle.flat_machine.specs.Space.{mapped_at}
use Rattle.flat_machine.specs.At.{pages_of}
use Rattle.flat_machine.specs.Refusal.{is_read_only}
use Rattle.swap_units.specs.declared.interval.Interval.{Interval}
use Rattle.swap_units.specs.Mode as mode
use Rattle.swap_units.specs.Unit.{Holds}
use Rattle.fault_core.specs.declared.reference.Access.{Access}
use Rattle.fault_core.specs.declared.reference.Access.TheVariants as access
use Rattle.fault_core.specs.declared.reference.Reference.{Reference}
use Rattle.fault_core.specs.declared.reference.Reference.TheVariants as reference
use Rattle.fault_core.specs.Kept.{IsFormed}
use Rattle.fault_core.specs.Revealed.{BreaksTables}
use Rattle.filer_kernel.specs.View.{View}

-- the first page that no window shows, else the first one that is read-only
abbrev pub refused_by : Option ℕ → Option ℕ → Access
refused_by (Some page) other = access.NoMap page
refused_by None (Some page) = access.ReadOnly page
refused_by None None = access.Done

-- what a reference to so many bytes comes to: a load, or a store, that writes
abbrev pub access_of : List Space → Bool → ℕ → ℕ → Access
access_of spaces writes address count =
    refused_by (find (λ p. is_none (mapped_at spaces p)) (pages_of address count)) (if writes then find (is_read_only spaces) (pages_of address count) else None)

-- what is known of it where its pages were described
abbrev pub outcome : Reference → Access
outcome (reference.Shown first last) = access.Done
outcome (reference.NoMap page) = access.NoMap page
outcome (reference.ReadOnly page) = access.ReadOnly page

-- where all pages are shown, this holds of the intervals of the first and of the last one
abbrev pub IfShown : (Interval → Interval → Type 0) → Reference → Type 0
IfShown P (reference.Shown first last) = P first last
IfShown P (reference.NoMap page) = Unit {0}
IfShown P (reference.ReadOnly page) = Unit {0}

-- the last page of a reference
abbrev pub last_page : ℕ → ℕ → ℕ
last_page address count = (address + count - 1) / 512

-- an interval in form, which shows the page
pub record Shows (x : Interval) (page : ℕ) : Type 0 where
  pub formed : IsFormed x
  pub holds : Holds x page
  pub mapped : mode.is_mapped x.mode ≡ true

-- the interval's pages may be loaded only
abbrev pub is_load_only : Interval → Bool
is_load_only x = mode.is_read_only x.mode

-- a page of the tables breaks its form for the look-up of a page of the reference
pub record BreaksFor (v : View) (count address bytes page : ℕ) : Type 0 where
  pub k : ℕ
  pub asked : ℕ
  pub touched : slice_get (pages_of address bytes) k ≡ Some asked
  pub breaks : BreaksTables v count asked page
