-- A machine with several clients, some of whom wait for a page.
use Rattle.std.specs.Prelude.{◌≡◌, ◌⊎◌, ℕ, ◌+◌, ◌==◌, true, not, List, [], ◌∷◌, ◌++◌, find, filter, flat_map, Option, Some, None, Contains}
use Rattle.std.specs.List.{range_with_len}
use Rattle.std.specs.Option.{option_map_or}
use Rattle.flat_machine.specs.declared.call.Call.{Call}
use Rattle.flat_machine.specs.declared.call.Reply.{Reply}
use Rattle.flat_machine.specs.Machine.{Machine}
use Rattle.flat_machine.specs.Allows.{Allows}
use Rattle.flat_machine.specs.Next.{next}
use Rattle.flat_machine.specs.Refusal.{refusal}
use Rattle.flat_machine.specs.References.{is_reference, touched}
use Rattle.flight_core.specs.declared.pending.Pending.{Pending}
use Rattle.flight_core.specs.declared.answers.Answer.{Answer}
use Rattle.flight_core.specs.declared.answers.Revealed.{Revealed}
use Rattle.flight_core.specs.declared.answers.Revealed.TheVariants as revealed
use Rattle.flight_core.specs.declared.answers.Landed.{Landed}
use Rattle.flight_core.specs.declared.answers.Landed.TheVariants as landed

-- the machine, how many flights have begun, and who waits, the earliest first
pub record Crowd : Type 0 where
  pub machine : Machine
  pub begun : ℕ
  pub waiting : List Pending

-- nobody waits, and no flight has begun
abbrev pub alone : Machine → Crowd
alone m = record { machine = m; begun = 0; waiting = [] }

-- with what the client waits
abbrev pub entry_of : List Pending → ℕ → Option Pending
entry_of ps client = find (λ p. p.client == client) ps

-- who waits for the page first
abbrev pub entry_for : List Pending → ℕ → Option Pending
entry_for ps page = find (λ p. p.page == page) ps

-- the flight of those who wait for the page, or the next one
abbrev pub flight_for : ℕ → List Pending → ℕ → ℕ
flight_for begun ps page = option_map_or (λ p. p.flight) (entry_for ps page) (begun + 1)

-- how many have begun once someone waits for the page
abbrev pub begun_for : ℕ → List Pending → ℕ → ℕ
begun_for begun ps page = option_map_or (λ p. begun) (entry_for ps page) (begun + 1)

-- who waits, once the client waits for the page too
abbrev pub with_waiting : ℕ → List Pending → ℕ → Call → ℕ → List Pending
with_waiting begun ps client call page =
    ps ++ (record { client = client; call = call; page = page; flight = flight_for begun ps page }) ∷ []

-- the crowd where one more waits for a page
abbrev pub waits_for : Crowd → ℕ → Call → ℕ → Crowd
waits_for c client call page = record {
  machine = c.machine;
  begun = begun_for c.begun c.waiting page;
  waiting = with_waiting c.begun c.waiting client call page;
}

-- the crowd where a call was carried out
abbrev pub carries : Crowd → Call → Crowd
carries c call = record { machine = next c.machine call; begun = c.begun; waiting = c.waiting }

-- the call is a load or a store that the machine does not refuse, and touches the page
pub record MayWait (m : Machine) (call : Call) (page : ℕ) : Type 0 where
  pub reference : is_reference call ≡ true
  pub unrefused : refusal m call ≡ None
  pub touches : Contains (touched call) page

-- A client that does not wait is revealed a reply that the machine allows, or waits for a page of its reference.
abbrev pub Gets : Crowd → ℕ → Call → Revealed → Crowd → Type 0
Gets c client call (revealed.Answered r) new = Allows c.machine call r × (new ≡ carries c call)
Gets c client call (revealed.Waits flight) new =
    (page : ℕ) × MayWait c.machine call page × (flight ≡ flight_for c.begun c.waiting page) × (new ≡ waits_for c client call page)
Gets c client call revealed.Busy new = ⊥

-- A client asks: one that waits is revealed so, and nothing changes.
abbrev pub Asks : Crowd → ℕ → Call → Revealed → Crowd → Type 0
Asks c client call revealed.Busy new = ((p : Pending) × (entry_of c.waiting client ≡ Some p)) × (new ≡ c)
Asks c client call (revealed.Answered r) new = (entry_of c.waiting client ≡ None) × Gets c client call (revealed.Answered r) new
Asks c client call (revealed.Waits flight) new = (entry_of c.waiting client ≡ None) × Gets c client call (revealed.Waits flight) new

-- those who wait for the flight, and the others
abbrev pub of_flight : List Pending → ℕ → List Pending
of_flight ps flight = filter (λ p. p.flight == flight) ps

abbrev pub of_others : List Pending → ℕ → List Pending
of_others ps flight = filter (λ p. not (p.flight == flight)) ps

-- those of one client
abbrev pub of_client : List Pending → ℕ → List Pending
of_client ps client = filter (λ p. p.client == client) ps

-- in ascending clients
abbrev pub by_client : List Pending → List Pending
by_client ps = flat_map (of_client ps) (range_with_len 1 16)

-- Each of these clients, in turn, has an allowed reply of the machine then, or waits for a page of its reference.
abbrev pub TriesEach : Crowd → List Pending → List Answer → Crowd → Type 0
TriesEach c [] answers new = (answers ≡ []) × (new ≡ c)
TriesEach c (p ∷ ps) answers new =
    ((r : Reply) × (rest : List Answer) × (answers ≡ (record { client = p.client; reply = r }) ∷ rest)
    × Allows c.machine p.call r × TriesEach (carries c p.call) ps rest new)
    ⊎ ((page : ℕ) × MayWait c.machine p.call page × TriesEach (waits_for c p.client p.call page) ps answers new)

-- A flight lands: its owner, who waits first, has an allowed reply, and then each other one is tried.
pub record Lands (c : Crowd) (flight : ℕ) (answers : List Answer) (new : Crowd) : Type 0 where
  pub owner : Pending
  pub joined : List Pending
  pub of_it : of_flight c.waiting flight ≡ owner ∷ joined
  pub reply : Reply
  pub rest : List Answer
  pub answers_are : answers ≡ (record { client = owner.client; reply = reply }) ∷ rest
  pub allowed : Allows c.machine owner.call reply
  pub tries : TriesEach (record { machine = next c.machine owner.call; begun = c.begun; waiting = of_others c.waiting flight })
      (by_client joined) rest new

-- A flight is done: nobody waits for it, and nothing changes; or it lands.
abbrev pub Completes : Crowd → ℕ → Landed → Crowd → Type 0
Completes c flight landed.NoFlight new = (of_flight c.waiting flight ≡ []) × (new ≡ c)
Completes c flight (landed.Answered answers) new = Lands c flight answers.items new
