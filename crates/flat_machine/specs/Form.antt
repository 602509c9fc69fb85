-- Calls in form.
use Rattle.std.specs.Prelude.{◌≤◌, ◌<◌, length}
pub use Rattle.flat_machine.specs.Bytes.{AreBytes}
use Rattle.flat_machine.specs.declared.call.Call.{Call}
use Rattle.flat_machine.specs.declared.call.Call.TheVariants as call

-- a load or a store has 1 to 64 bytes
abbrev pub IsInForm : Call → Type 0
IsInForm (call.Load address count) = (1 ≤ count) × (count ≤ 64)
IsInForm (call.Store address bytes) = (1 ≤ length bytes) × (length bytes ≤ 64)
IsInForm c = Unit {0}

-- the type of a new file has 16 bits, and the bytes of a store are bytes
abbrev pub IsTyped : Call → Type 0
IsTyped (call.Create pages kind) = kind < 65536
IsTyped (call.Store address bytes) = AreBytes bytes
IsTyped c = Unit {0}
