-- The intervals that are kept.
use Rattle.std.specs.Prelude.{◌≡◌, ℕ, ◌+◌, ◌^◌, ◌<◌, ◌≤◌, true, List, Some, find, slice_get}
use Rattle.std.proofs.Math.Nat.{ℕ_set}
use Rattle.std.specs.Coded.{le_prop}
use Rattle.flat_machine.specs.Space.{root_pages}
use Rattle.swap_units.specs.declared.interval.Interval.{Interval}
use Rattle.swap_units.specs.Mode.{is_mapped}
use Rattle.swap_units.specs.Unit.{Holds, has_page}

-- the interval is one of these
abbrev pub IsKept : List Interval → Interval → Type 0
IsKept kept x = (k : ℕ) × (slice_get kept k ≡ Some x)

-- it lies in the root, begins in its innermost space, has a unit size, and what it shows may be shown
pub record IsFormed (x : Interval) : Type 0 where
  pub some_pages : 1 ≤ x.pages
  pub in_root : x.first + x.pages ≤ root_pages
  pub starts : x.start ≤ x.first
  pub unit_fits : (1 ≤ x.unit) × (x.unit ≤ 16)
  pub shows : is_mapped x.mode ≡ true → (16 ≤ x.id) × (x.page + x.pages ≤ 2 ^ 32)

-- each is so
abbrev pub AreFormed : List Interval → Type 0
AreFormed kept = (k : ℕ) (x : Interval) → slice_get kept k ≡ Some x → IsFormed x

formed_once : (x : Interval) → IsProp (IsFormed x)
formed_once x = hlevel (le_prop, ℕ_set)

pub are_formed_once : (kept : List Interval) → IsProp (AreFormed kept)
are_formed_once kept = hlevel formed_once

-- no two different ones share a page
abbrev pub AreApart : List Interval → Type 0
AreApart kept = (x y : Interval) (page : ℕ) → IsKept kept x → IsKept kept y → Holds x page → Holds y page → x ≡ y

-- each page from the one up to the other is one of an interval that is kept: no table is asked for it
abbrev pub AreFound : List Interval → ℕ → ℕ → Type 0
AreFound kept from to = (page : ℕ) → from ≤ page → page < to → (x : Interval) × (find (has_page page) kept ≡ Some x)
