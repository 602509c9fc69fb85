-- Bytes that a session stores to pages in a row that are ready.
use Rattle.std.specs.Prelude.{◌≡◌, ◌+◌, ◌≤◌, ℕ, List, [], ◌∷◌, length, take, None}
use Rattle.std.specs.List.{AllByRecursion, concat}
use Rattle.labelled_disk.specs.declared.disk.Disk.{Ghosts}
use Rattle.flat_machine.specs.declared.call.Call.TheVariants as call
use Rattle.flat_machine.specs.Machine.{Machine}
use Rattle.flat_machine.specs.Next.{next}
use Rattle.flat_machine.specs.Refusal.{refusal}
use Rattle.session_words.specs.StandsFor.{RevealsSettled}
use Rattle.fault_core.specs.Core.{state}
use Rattle.running_words.specs.Running.{Runs}
use Rattle.running_words.specs.Session.{WroteIn}
use Rattle.running_words.specs.Stages.{client_or_own}
use Rattle.pilot_engine.specs.declared.session.Session.{Session}
use Rattle.pilot_engine.specs.Calls.{Stays}
use Rattle.pilot_engine.specs.Closing.{Throughout}
use Rattle.pilot_engine.specs.Referring.{TakesCalls}

-- stores in a row, in ascending addresses from this one on, lead from one machine to another, and none is refused
abbrev pub Lead : Machine → ℕ → List (List ℕ) → Machine → Type 0
Lead m address [] n = n ≡ m
Lead m address (bytes ∷ rest) n =
    (refusal m (call.Store address bytes) ≡ None)
    × Lead (next m (call.Store address bytes)) (address + length bytes) rest n

module _ {D A : Type 0} {G : Ghosts D} where
  -- Of a session that stood for a machine: it stands for one to which stores in a row of the first bytes, so many, lead, each
  -- of some of them. Each crash state of what was written has the settled files of the machine before.
  pub record StoresAtHand (m : Machine) (address count : ℕ) (bytes : List ℕ) (old new : Session D A G)
      : Type 0 where
    pub pieces : List (List ℕ)
    pub some : AllByRecursion (λ piece. 1 ≤ length piece) pieces
    pub whole : concat pieces ≡ take count bytes
    pub after : Machine
    pub lead : Lead m address pieces after
    pub runs : Runs new.core new.volume after
    pub settled : Throughout (λ d. RevealsSettled d m) (state old.core).disk (state new.core).disk

  -- Of every session, over any contents: the disk is as it was, no page but those of clients' files and of the volume's own
  -- became dirty, and the session takes calls as before.
  pub record StaysAtHand (old new : Session D A G) : Type 0 where
    pub disk : (state new.core).disk ≡ (state old.core).disk
    pub wrote : WroteIn client_or_own (state old.core).disk (state old.core).slots
        (state new.core).disk (state new.core).slots
    pub stays : Stays old new
    pub same_volume : new.volume ≡ old.volume
    pub taken : TakesCalls new
