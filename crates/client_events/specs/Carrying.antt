-- The calls that were tried or carried out for lines.
use Rattle.std.specs.Prelude.{◌≡◌, ℕ, List, [], ◌∷◌, ◌++◌, Option, Some}
use Rattle.flight_core.specs.Carrying.{Carried, Tries, LedInARow}
use Rattle.flight_core.specs.Crowd.{of_flight}
use Rattle.flight_core.specs.LandingCalls.{landing_calls}
use Rattle.flight_core.specs.Pending.{AreInOrder}
use Rattle.flight_core.specs.declared.pending.Pending.{Pending}
use Rattle.flight_core.specs.declared.flights.Flights.{Flights}
use Rattle.flight_core.specs.declared.stepped.Stepped.{Ghosts}
use Rattle.trace_io.specs.EventGrammar.{Ask, Done}
use Rattle.client_events.specs.Answers.{Item}
use Rattle.client_events.specs.Ending.{Ended}
use Rattle.client_events.specs.declared.ending.Ending.{Ending}

-- these calls are some first ones of those
abbrev pub AreFirst : List Carried → List Carried → Type 0
AreFirst calls all = (rest : List Carried) × (all ≡ calls ++ rest)

-- The calls may be carried out for the line: that of a client that asks is tried, and where a flight lands its owner's reference is
-- carried out, and then those of the others are tried; but those after a halt are not. Of another line there is none.
abbrev pub MayCarry : Item → List Carried → Type 0
MayCarry (Some (Ask client call)) calls = AreFirst calls (Tries call ∷ [])
MayCarry (Some (Done flight)) calls = (begun : ℕ) × (ps : List Pending) × AreInOrder begun ps × AreFirst calls (landing_calls (of_flight ps flight))
MayCarry item calls = calls ≡ []

-- the same of lines in a row
abbrev pub MayCarryEach : List Item → List Carried → Type 0
MayCarryEach [] calls = calls ≡ []
MayCarryEach (item ∷ items) calls = (now : List Carried) × (rest : List Carried) × (calls ≡ now ++ rest) × MayCarry item now × MayCarryEach items rest

module _ {S : Type 0} {G : Ghosts S} where
  -- calls that may be carried out for the line led from what was stepped to what is stepped now
  abbrev pub CarriesOut : Flights S G → Flights S G → Item → Type 0
  CarriesOut old new item = (calls : List Carried) × MayCarry item calls × LedInARow G.led old.stepped calls new.stepped

  -- the same of lines in a row
  abbrev pub CarriesOutEach : Flights S G → Flights S G → List Item → Type 0
  CarriesOutEach old new items = (calls : List Carried) × MayCarryEach items calls × LedInARow G.led old.stepped calls new.stepped

  -- Calls that may be carried out for some lines led from what was stepped to what is stepped now; where source and sink reveal
  -- their bytes, these are the lines that were taken, the one that halted among them.
  pub record CarriesOutLines (old new : Flights S G) (how : Ending) (left_old left_new took_old took_new : Option (List ℕ)) : Type 0 where
    pub items : List Item
    pub carries : CarriesOutEach old new items
    pub ended : (b t : List ℕ) → left_old ≡ Some b → took_old ≡ Some t → Ended how b left_new t took_new (λ taken os. taken ≡ items) (λ why taken item os. taken ++ item ∷ [] ≡ items)
