-- Who waits, as it is kept.
use Rattle.std.specs.Prelude.{◌≡◌, ◌↔◌, ◌==◌, ℕ, ◌≤◌, true, List, length, count_by}
use Rattle.std.specs.List.{All}
use Rattle.flat_machine.specs.declared.call.Call.{Call}
use Rattle.flat_machine.specs.declared.call.Call.TheVariants as call
use Rattle.flat_machine.specs.References.{is_reference}
use Rattle.flight_core.specs.declared.pending.Pending.{Pending}

-- the number of a client
abbrev pub IsClient : ℕ → Type 0
IsClient client = (1 ≤ client) × (client ≤ 16)

-- how many bytes a reference moves
abbrev pub bytes_of : Call → ℕ
bytes_of (call.Load address count) = count
bytes_of (call.Store address bytes) = length bytes
bytes_of other = 1

-- a call that may wait: a load or a store in form
pub record IsKept (c : Call) : Type 0 where
  pub reference : is_reference c ≡ true
  pub some : 1 ≤ bytes_of c
  pub few : bytes_of c ≤ 64

-- one that waits: a client with such a call, in a flight that has begun
pub record IsPending (begun : ℕ) (p : Pending) : Type 0 where
  pub client : IsClient p.client
  pub kept : IsKept p.call
  pub flight : (1 ≤ p.flight) × (p.flight ≤ begun)

-- how often the client waits
abbrev pub times : List Pending → ℕ → ℕ
times ps client = count_by (λ p. p.client == client) ps

-- each client waits once at most, and those who wait for one page, and they alone, are in one flight
pub record AreInOrder (begun : ℕ) (ps : List Pending) : Type 0 where
  pub each : All (IsPending begun) ps
  pub once : (client : ℕ) → times ps client ≤ 1
  pub one_flight : All (λ p. All (λ q. (p.page ≡ q.page) ↔ (p.flight ≡ q.flight)) ps) ps
