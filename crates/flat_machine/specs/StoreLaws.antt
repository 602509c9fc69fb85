-- What a store gives to a load.
use Rattle.std.specs.Prelude.{◌≡◌, ℕ, List, length, map, None}
use Rattle.flat_machine.specs.declared.call.Call.TheVariants.{Store, Load}
use Rattle.flat_machine.specs.declared.call.Reply.{Reply}
use Rattle.flat_machine.specs.declared.call.Reply.TheVariants as reply
use Rattle.flat_machine.specs.File.{byte}
use Rattle.flat_machine.specs.Form.{IsTyped, IsInForm}
use Rattle.flat_machine.specs.Machine.{Machine}
use Rattle.flat_machine.specs.IsMachine.{IsMachine}
use Rattle.flat_machine.specs.At.{cells_at}
use Rattle.flat_machine.specs.Refusal.{refusal}
use Rattle.flat_machine.specs.Next.{next}
use Rattle.flat_machine.specs.Allows.{Allows}

-- after a store that is not refused, its addresses show its bytes
abbrev pub StoredIsShown : Type 0
StoredIsShown = (m : Machine) (address : ℕ) (bytes : List ℕ) → IsMachine m → IsTyped (Store address bytes) → IsInForm (Store address bytes)
    → refusal m (Store address bytes) ≡ None → cells_at (next m (Store address bytes)) address (length bytes) ≡ map byte bytes

-- a load of these addresses after it replies them, and nothing else is allowed
abbrev pub StoredIsLoaded : Type 0
StoredIsLoaded = (m : Machine) (address : ℕ) (bytes : List ℕ) (r : Reply) → IsMachine m → IsTyped (Store address bytes) → IsInForm (Store address bytes)
    → refusal m (Store address bytes) ≡ None → Allows (next m (Store address bytes)) (Load address (length bytes)) r → r ≡ reply.Bytes bytes
