-- The crowd that is kept.
use Rattle.std.specs.Prelude.{◌≡◌, ◌≢◌, ◌↔◌, ℕ, ◌+◌, ◌≤◌, true, List, Option, Some, None, option_map}
use Rattle.flat_machine.specs.declared.call.Call.{Call}
use Rattle.flat_machine.specs.Machine.{Machine}
use Rattle.flat_machine.specs.Next.{next}
use Rattle.flat_machine.specs.Refusal.{refusal}
use Rattle.flat_machine.specs.References.{is_reference}
use Rattle.flight_core.specs.declared.pending.Pending.{Pending}
use Rattle.flight_core.specs.declared.answers.Revealed.{Revealed}
use Rattle.flight_core.specs.declared.answers.Revealed.TheVariants as revealed
use Rattle.flight_core.specs.declared.flights.Flights.{Flights}
use Rattle.flight_core.specs.declared.stepped.Stepped.{Ghosts}
use Rattle.flight_core.specs.Pending.{times}
use Rattle.flight_core.specs.Crowd.{Crowd, entry_of}
use Rattle.flight_core.specs.Tried.{ArePresent, IsFirstAway}

-- the crowd that is kept, where this machine is stood for
abbrev pub crowd_of : {S : Type 0} {G : Ghosts S} → Machine → Flights S G → Crowd
crowd_of m f = record { machine = m; begun = f.begun; waiting = f.waiting.items }

-- the flight that the client waits for, and the page
abbrev pub flight_of : List Pending → ℕ → Option ℕ
flight_of ps client = option_map (λ p. p.flight) (entry_of ps client)

abbrev pub page_of : List Pending → ℕ → Option ℕ
page_of ps client = option_map (λ p. p.page) (entry_of ps client)

-- what is kept now is a crowd of which this holds, and what stands now stands for its machine
abbrev pub LeadsTo : (Machine → Crowd) → (Machine → Type 0) → (Crowd → Type 0) → Type 0
LeadsTo now stands P = (n : Machine) × P (now n) × stands n

-- it is revealed that nothing was done exactly where there is a cause, and then nothing has changed
pub record IsIdle (idle cause same : Type 0) : Type 0 where
  pub where_caused : idle ↔ cause
  pub unchanged : idle → same

-- the machine after a client was revealed so
abbrev pub after_revealed : Machine → Call → Revealed → Machine
after_revealed m call (revealed.Answered r) = next m call
after_revealed m call (revealed.Waits flight) = m
after_revealed m call revealed.Busy = m

-- A client that did not wait does so now exactly where its reference is not refused and one of its pages is not resident; it waits
-- for the first such page.
abbrev pub WaitsRightly : Machine → Call → (Machine → ℕ → Type 0) → Option ℕ → Revealed → Type 0
WaitsRightly m call resident waits (revealed.Answered r) =
    is_reference call ≡ true → refusal m call ≡ None → ArePresent (resident (next m call)) call
WaitsRightly m call resident waits (revealed.Waits flight) =
    (is_reference call ≡ true) × (refusal m call ≡ None) × ((page : ℕ) × (waits ≡ Some page) × IsFirstAway (resident m) call page)
WaitsRightly m call resident waits revealed.Busy = Unit {0}

-- at most one flight more has begun, and each other client waits as often as before
pub record NeverBlames (client : ℕ) (begun : ℕ) (ps : List Pending) (begun_now : ℕ) (ps_now : List Pending) : Type 0 where
  pub few : begun_now ≤ begun + 1
  pub others : (k : ℕ) → k ≢ client → times ps_now k ≡ times ps k
