-- Calls that go to bytes, and the pages that they touch.
use Rattle.std.specs.Prelude.{◌≡◌, ℕ, Bool, true, false, List, [], length, None, IsSome}
use Rattle.std.specs.List.{AllByRecursion}
use Rattle.flat_machine.specs.declared.call.Call.{Call}
use Rattle.flat_machine.specs.declared.call.Call.TheVariants.{Load, Store}
use Rattle.flat_machine.specs.Machine.{Machine}
use Rattle.flat_machine.specs.At.{shown_at, pages_of}
use Rattle.flat_machine.specs.Refusal.{refusal}

-- a load or a store
abbrev pub is_reference : Call → Bool
is_reference (Load address count) = true
is_reference (Store address bytes) = true
is_reference call = false

-- the pages of the virtual memory that the call touches, in order
abbrev pub touched : Call → List ℕ
touched (Load address count) = pages_of address count
touched (Store address bytes) = pages_of address (length bytes)
touched call = []

-- where a call is not refused, a window shows each page that it touches
abbrev pub TouchedAreShown : Type 0
TouchedAreShown = (m : Machine) (call : Call) → refusal m call ≡ None → AllByRecursion (λ page. IsSome (shown_at m.spaces page)) (touched call)
