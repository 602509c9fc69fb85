-- Bytes that are loaded and stored in a row, from an address on.
use Rattle.std.specs.Prelude.{◌≡◌, ◌⊎◌, ◌+◌, ◌-◌, ◌%◌, ◌<◌, ◌≤◌, ℕ, List, [], ◌∷◌, length, take, slice_get, slice_range}
use Rattle.std.specs.Prelude.{Some, None, MatchOption}
use Rattle.std.specs.List.{AllByRecursion, concat}
use Rattle.labelled_disk.specs.declared.disk.Disk.{Ghosts}
use Rattle.labelled_disk.specs.declared.evidence.Halt.TheVariants as halt
use Rattle.flat_machine.specs.declared.call.Call.{Call}
use Rattle.flat_machine.specs.declared.call.Call.TheVariants.{Load, Store}
use Rattle.flat_machine.specs.declared.call.Refusal.{Refusal}
use Rattle.flat_machine.specs.Machine.{Machine}
use Rattle.flat_machine.specs.At.{cell_at}
use Rattle.flat_machine.specs.Next.{next}
use Rattle.flat_machine.specs.Refusal.{refusal}
pub use Rattle.pilot_engine.specs.StoreReady.{Lead}
use Rattle.embedded.specs.declared.code.Code.{Code}
use Rattle.embedded.specs.declared.code.Code.TheVariants as code
use Rattle.embedded.specs.declared.engine.Engine.{Engine}
use Rattle.embedded.specs.Engine.{StandsFor}

-- the byte is what the machine has at the address, or any byte where that is any
abbrev pub IsAt : Machine → ℕ → ℕ → Type 0
IsAt m address b = MatchOption (cell_at m address) (b < 256) (λ c. b ≡ c)

-- the first bytes, so many, are what the machine has from the address on
abbrev pub AreAt : Machine → ℕ → ℕ → List ℕ → Type 0
AreAt m address count bytes = (k b : ℕ) → k < count → slice_get bytes k ≡ Some b → IsAt m (address + k) b

-- Why a reference of many bytes stops.

-- of so many bytes, the first ones from an address on that lie on its page
pub record IsPiece (at rest n : ℕ) : Type 0 where
  pub some : 1 ≤ n
  pub within : n ≤ rest
  pub on_page : at % 512 + n ≤ 512

-- the code is the word with which the machine refuses the call
abbrev pub IsRefused : Machine → Call → Code → Type 0
IsRefused m call e = (why : Refusal) × (refusal m call ≡ Some why) × (e ≡ code.Refused why)

-- a load of so many bytes stops at an address: the disk failed, or the machine refuses the piece there
abbrev pub StopsLoad : Machine → ℕ → ℕ → Code → Type 0
StopsLoad m at rest e = (e ≡ code.Halted halt.Disk) ⊎ ((n : ℕ) × IsPiece at rest n × IsRefused m (Load at n) e)

-- and a store of these bytes, but for the first ones
abbrev pub StopsStore : Machine → ℕ → List ℕ → ℕ → Code → Type 0
StopsStore m at bytes done e =
    (e ≡ code.Halted halt.Disk)
    ⊎ ((n : ℕ) × IsPiece at (length bytes - done) n × IsRefused m (Store at (slice_range bytes done (done + n))) e)

-- a store stops after its first bytes, so many: by stores in a row they lead to a machine at which it stops
pub record StopsAfter (m : Machine) (address done : ℕ) (bytes : List ℕ) (e : Code) : Type 0 where
  pub pieces : List (List ℕ)
  pub whole : concat pieces ≡ take done bytes
  pub after : Machine
  pub lead : Lead m address pieces after
  pub stops : StopsStore after (address + done) bytes done e

module _ {D A : Type 0} {G : Ghosts D} where
  -- a store was not refused, and the session stands for the machine after it
  abbrev pub StoredPiece : Machine → ℕ → List ℕ → Engine D A G → Type 0
  StoredPiece m address bytes e = (refusal m (Store address bytes) ≡ None) × StandsFor e (next m (Store address bytes))

  -- The first bytes, so many, were stored, by stores in a row of some bytes each, and the session stands for the machine
  -- after them.
  pub record Stored (m : Machine) (address done : ℕ) (bytes : List ℕ) (e : Engine D A G) : Type 0 where
    pub pieces : List (List ℕ)
    pub some : AllByRecursion (λ piece. 1 ≤ length piece) pieces
    pub whole : concat pieces ≡ take done bytes
    pub after : Machine
    pub lead : Lead m address pieces after
    pub stands : StandsFor e after
