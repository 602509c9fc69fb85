-- What comes of a call that brings in no page of a client.
use Rattle.std.specs.Prelude.{◌≡◌, ◌⊎◌, ℕ, ◌+◌, ◌<◌, ◌≤◌, true, slice_get, Some, None}
use Rattle.flat_machine.specs.declared.call.Call.{Call}
use Rattle.flat_machine.specs.declared.call.Call.TheVariants as call
use Rattle.flat_machine.specs.declared.call.Reply.{Reply}
use Rattle.flat_machine.specs.Machine.{Machine}
use Rattle.flat_machine.specs.declared.space.Space.{Space}
use Rattle.flat_machine.specs.Space.{space_at}
use Rattle.flat_machine.specs.Allows.{Allows}
use Rattle.flat_machine.specs.Next.{next}
use Rattle.flat_machine.specs.Refusal.{refusal}
use Rattle.flat_machine.specs.References.{is_reference, touched}
use Rattle.flight_core.specs.declared.stepped.Tried.{Tried}
use Rattle.flight_core.specs.declared.stepped.Tried.TheVariants as tried

-- the machine allows the reply, and what stands now stands for the next
pub record IsAnswered (m : Machine) (c : Call) (r : Reply) (stands : Machine → Type 0) : Type 0 where
  pub allowed : Allows m c r
  pub next : stands (next m c)

-- each page that the call touches is resident
abbrev pub ArePresent : (ℕ → Type 0) → Call → Type 0
ArePresent resident c = (k page : ℕ) → slice_get (touched c) k ≡ Some page → resident page

-- this is the first page that the call touches which is not
pub record IsFirstAway (resident : ℕ → Type 0) (c : Call) (page : ℕ) : Type 0 where
  pub k : ℕ
  pub touches : slice_get (touched c) k ≡ Some page
  pub away : ¬ resident page
  pub before : (j earlier : ℕ) → j < k → slice_get (touched c) j ≡ Some earlier → resident earlier

-- A reply is allowed, and where it is none to a refused reference, all pages of that are resident. A page is absent only where
-- a reference is not refused, and then it is the first one that is not resident, and the machine is the same.
abbrev pub IsTried : Machine → Call → Tried → (Machine → Type 0) → (Machine → ℕ → Type 0) → Type 0
IsTried m c (tried.Reply r) stands resident =
    IsAnswered m c r stands × (is_reference c ≡ true → refusal m c ≡ None → ArePresent (resident (next m c)) c)
IsTried m c (tried.Absent page) stands resident =
    (is_reference c ≡ true) × (refusal m c ≡ None) × stands m × IsFirstAway (resident m) c page

-- a page is absent only for a load or a store
abbrev pub MayBeTried : Call → Tried → Type 0
MayBeTried c (tried.Reply r) = Unit {0}
MayBeTried c (tried.Absent page) = is_reference c ≡ true

-- the machine after that
abbrev pub after_tried : Machine → Call → Tried → Machine
after_tried m c (tried.Reply r) = next m c
after_tried m c (tried.Absent page) = m

-- the page is one of a space that the call maps
abbrev pub IsMapped : Machine → Call → ℕ → Type 0
IsMapped m (call.Map space id first writable) page =
    (refusal m (call.Map space id first writable) ≡ None)
    × ((s : Space) × (space_at m.spaces space ≡ Some s) × (s.first ≤ page) × (page < s.first + s.pages))
IsMapped m c page = ⊥

-- each page that is resident now was so before, or is one of a space that was mapped
abbrev pub ComesBy : Machine → Call → (ℕ → Type 0) → (ℕ → Type 0) → Type 0
ComesBy m c before after = (page : ℕ) → after page → before page ⊎ IsMapped m c page
