-- Calls in a row, each tried or carried out.
use Rattle.std.specs.Prelude.{◌≡◌, List, [], ◌∷◌, ◌++◌}
use Rattle.flat_machine.specs.declared.call.Call.{Call}

-- a call is tried; or it is carried out, with all that it needs
pub data Carried : Type 0 where
  Tries : Call → Carried
  Steps : Call → Carried

-- these calls led from one state to the other, one after the other
abbrev pub LedInARow : {S : Type 0} → (S → Carried → S → Type 0) → S → List Carried → S → Type 0
LedInARow led old [] new = new ≡ old
LedInARow {S} led old (call ∷ calls) new = (mid : S) × led old call mid × LedInARow led mid calls new

-- some first ones of these calls did
abbrev pub LedByFirst : {S : Type 0} → (S → Carried → S → Type 0) → S → List Carried → S → Type 0
LedByFirst led old calls new = (done : List Carried) × ((rest : List Carried) × (calls ≡ done ++ rest)) × LedInARow led old done new
