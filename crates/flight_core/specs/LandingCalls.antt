-- The calls of a flight that lands.
use Rattle.std.specs.Prelude.{List, [], ◌∷◌, map}
use Rattle.flight_core.specs.declared.pending.Pending.{Pending}
use Rattle.flight_core.specs.Carrying.{Carried, Tries, Steps}
use Rattle.flight_core.specs.Crowd.{by_client}

-- the references of those who wait are tried
abbrev pub tries_of : List Pending → List Carried
tries_of ps = map (λ p. Tries p.call) ps

-- the owner's reference is carried out, and then those of the others are tried
abbrev pub landing_calls : List Pending → List Carried
landing_calls [] = []
landing_calls (owner ∷ joined) = Steps owner.call ∷ tries_of (by_client joined)
