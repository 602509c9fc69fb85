-- Bytes that are loaded and stored by an engine, as its `load` and its `store` say.
use Rattle.std.specs.Prelude.{◌≡◌, ◌⊎◌, ◌+◌, ◌-◌, ◌%◌, ◌<◌, ◌≤◌, ◌^◌, ℕ, List, length, slice_get, Result, Err, IfErr, OnOk}
use Rattle.labelled_disk.specs.declared.disk.Disk.{Ghosts}
use Rattle.labelled_disk.specs.declared.evidence.Halt.{Halt}
use Rattle.labelled_disk.specs.declared.evidence.Halt.TheVariants as halt
use Rattle.flat_machine.specs.Machine.{Machine}
use Rattle.session_words.specs.StandsFor.{RevealsSettled}
use Rattle.embedded.specs.declared.code.Code.{Code}
use Rattle.embedded.specs.declared.code.Code.TheVariants as code
use Rattle.embedded.specs.declared.engine.Engine.{Engine}
use Rattle.embedded.specs.Called.{HasStopped}
use Rattle.embedded.specs.Engine.{IsClosed, StandsFor}
use Rattle.embedded.specs.References.{AreAt, StopsAfter, StopsLoad, Stored}
use Rattle.embedded.specs.Spending.{HasFailed, SpendsOn}
use Rattle.embedded.specs.Stops.{Leaves, RevealsPart}

module _ {D A : Type 0} {G : Ghosts D} where
  -- what is so of a load and of a store of so many bytes, over any engine
  pub record Moves (address count done : ℕ) (old : Engine D A G) (answer : Result (Unit {0}) Code) (new : Engine D A G) : Type 0 where
    pub part : done ≤ count
    pub whole : OnOk answer (done ≡ count)
    pub closed : IsClosed old → 1 ≤ count → (done ≡ 0) × (answer ≡ Err code.Closed) × (new ≡ old)
    pub stopped : (why : Halt) → answer ≡ Err (code.Halted why) → HasStopped why new
    pub cause : answer ≡ Err (code.Halted halt.Disk) → HasFailed old new
    pub spends : SpendsOn (address % 512 + count) old new

  -- bytes from an address on were loaded, so many of the first, into the place of others
  pub record Loads (address : ℕ) (before after : List ℕ) (done : ℕ) (old : Engine D A G) (answer : Result (Unit {0}) Code) (new : Engine D A G) : Type 0 where
    pub loaded : (m : Machine) → StandsFor old m → AreAt m address done after
    pub still : (m : Machine) → StandsFor old m → StandsFor new m ⊎ (answer ≡ Err (code.Halted halt.Disk))
    pub rest : (k : ℕ) → done ≤ k → slice_get after k ≡ slice_get before k
    pub stops : (m : Machine) → StandsFor old m → address + done < 2 ^ 32
        → IfErr answer (StopsLoad m (address + done) (length before - done))
    pub leaves : (m : Machine) → StandsFor old m → Leaves (λ d. RevealsSettled d m) old new
    pub moves : Moves address (length before) done old answer new

  -- bytes were stored from an address on, so many of the first
  pub record Stores (address : ℕ) (bytes : List ℕ) (done : ℕ) (old : Engine D A G) (answer : Result (Unit {0}) Code) (new : Engine D A G) : Type 0 where
    pub stored : (m : Machine) → StandsFor old m → Stored m address done bytes new ⊎ (answer ≡ Err (code.Halted halt.Disk))
    pub stops : (m : Machine) → StandsFor old m → address + done < 2 ^ 32 → IfErr answer (StopsAfter m address done bytes)
    pub leaves : (m : Machine) → StandsFor old m → Leaves (RevealsPart m address bytes) old new
    pub moves : Moves address (length bytes) done old answer new
