-- What the frames show after a call.
use Rattle.std.specs.Prelude.{◌≡◌, ℕ, ◌+◌, List, length, Some}
use Rattle.frame_pool.specs.Frames.{Slots}
use Rattle.flat_machine.specs.declared.call.Call.{Call}
use Rattle.flat_machine.specs.declared.call.Call.TheVariants as call
use Rattle.flat_machine.specs.declared.space.Space.{Space}
use Rattle.flat_machine.specs.Space.{space_at}
use Rattle.swap_units.specs.declared.interval.Interval.{Interval}
use Rattle.fault_core.specs.Access.{last_page}
use Rattle.fault_core.specs.Activate.{IsActive}
use Rattle.fault_core.specs.Kill.{AreWritableSo, is_absent}
use Rattle.fault_core.specs.Range.{AreClean, AreGone}
use Rattle.fault_core.specs.Unit.{IsReady}

-- so it is of the pages of the space, from its first one up to its end
abbrev pub OfPages : (ℕ → ℕ → Type 0) → List Space → ℕ → Type 0
OfPages P spaces handle = (s : Space) → space_at spaces handle ≡ Some s → P s.first (s.first + s.pages)

-- advice was taken, and the last page of a reference is there with its whole swap unit
abbrev pub IsAdvised : List Space → Call → List Interval → Slots → Type 0
IsAdvised spaces (call.Activate space) kept slots = OfPages (IsActive spaces kept slots) spaces space
IsAdvised spaces (call.Deactivate space) kept slots = OfPages (AreGone spaces slots) spaces space
IsAdvised spaces (call.Kill space) kept slots = OfPages (AreWritableSo (is_absent slots) spaces) spaces space
IsAdvised spaces (call.ForceOut space) kept slots = OfPages (AreClean spaces slots) spaces space
IsAdvised spaces (call.Load address count) kept slots = IsReady kept slots (last_page address count)
IsAdvised spaces (call.Store address bytes) kept slots = IsReady kept slots (last_page address (length bytes))
IsAdvised spaces other kept slots = Unit {0}
