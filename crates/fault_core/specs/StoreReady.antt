-- Bytes that are stored to pages in a row that are ready.
use Rattle.std.specs.Prelude.{◌≡◌, ℕ, ◌+◌, ◌≤◌, List, [], ◌∷◌, length, take}
use Rattle.std.specs.List.{concat}
use Rattle.swap_units.specs.declared.interval.Interval.{Interval}
use Rattle.fault_core.specs.Ready.{IsChanged}
use Rattle.filer_kernel.specs.View.{View}

-- one store after the other, in ascending addresses from this one on: each is of some bytes of one page, which is at hand
abbrev pub AreChanged : List Interval → ℕ → List (List ℕ) → View → View → Type 0
AreChanged kept address [] v w = w ≡ v
AreChanged kept address (piece ∷ rest) v w =
    (u : View) × (1 ≤ length piece) × IsChanged kept address piece v u × AreChanged kept (address + length piece) rest u w

-- the first of these bytes, so many, were stored so
pub record AreStoredAtHand (kept : List Interval) (address count : ℕ) (bytes : List ℕ) (v w : View) : Type 0 where
  pub pieces : List (List ℕ)
  pub whole : concat pieces ≡ take count bytes
  pub changed : AreChanged kept address pieces v w
