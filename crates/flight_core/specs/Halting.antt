-- How a call of clients ends.
use Rattle.std.specs.Prelude.{◌≡◌, Result, IfErr, OnOk}
use Rattle.labelled_disk.specs.declared.evidence.Halt.{Halt}
use Rattle.labelled_disk.specs.declared.evidence.Halt.TheVariants as why
use Rattle.flat_machine.specs.Machine.{Machine}
use Rattle.flight_core.specs.declared.flights.Flights.{Flights}
use Rattle.flight_core.specs.declared.stepped.Stepped.{Ghosts}

-- A halt is accounted for, and is `Disk` where a machine was stood for. Where there is none, what is stepped goes on, and what is
-- accounted for from then on is so from before.
pub record Ends {S A : Type 0} {G : Ghosts S} (old new : Flights S G) (result : Result A Halt) : Type 0 where
  pub sound : (m : Machine) → G.stands old.stepped m → IfErr result (λ e. e ≡ why.Disk)
  pub cause : IfErr result (λ e. G.accounted old.stepped new.stepped e)
  pub later : (s : S) (e : Halt) → OnOk result (G.accounted new.stepped s e → G.accounted old.stepped s e)
  pub goes_on : OnOk result (G.runs new.stepped)
