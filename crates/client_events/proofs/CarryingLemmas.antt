-- The calls that were carried out for lines.
use Rattle.std.proofs.Common.{List, [], ◌∷◌, ◌++◌, refl, sym, ◌∙◌, ap, subst, append_assoc, append-nil}
use Rattle.flight_core.specs.Carrying.{Carried, LedInARow}
use Rattle.flight_core.specs.declared.flights.Flights.{Flights}
use Rattle.flight_core.specs.declared.stepped.Stepped.{Ghosts}
use Rattle.client_events.specs.Answers.{Item}
use Rattle.client_events.specs.Carrying.{MayCarry, MayCarryEach, CarriesOut, CarriesOutEach}

in_a_row_then : {S : Type 0} (led : S → Carried → S → Type 0) (old mid new : S) (calls more : List Carried) → LedInARow led old calls mid → LedInARow led mid more new → LedInARow led old (calls ++ more) new
in_a_row_then led old mid new [] more first next = subst (λ s. LedInARow led s more new) first next
in_a_row_then led old mid new (call ∷ calls) more first next = (first.0, first.1, in_a_row_then led first.0 mid new calls more first.2 next)

each_more : (items : List Item) (calls : List Carried) (item : Item) (more : List Carried) → MayCarryEach items calls → MayCarry item more → MayCarryEach (items ++ item ∷ []) (calls ++ more)
each_more [] calls item more none one = (more, [], ap (λ (xs : List Carried). xs ++ more) none ∙ sym (append-nil more), one, refl)
each_more (x ∷ items) calls item more each one =
    (each.0, each.1 ++ more, ap (λ (xs : List Carried). xs ++ more) each.2 ∙ append_assoc each.0 each.1 more, each.3, each_more items each.1 item more each.4 one)

module _ {S : Type 0} {G : Ghosts S} where
  pub carries_none : (s : Flights S G) → CarriesOutEach s s []
  carries_none s = ([], refl, refl)

  -- one line more
  pub carries_more : (old mid new : Flights S G) (items : List Item) (item : Item) → CarriesOutEach old mid items → CarriesOut mid new item → CarriesOutEach old new (items ++ item ∷ [])
  carries_more old mid new items item each one =
      (each.0 ++ one.0, each_more items each.0 item one.0 each.1 one.1, in_a_row_then G.led old.stepped mid.stepped new.stepped each.0 one.0 each.2 one.2)
