-- What may be done with the pages of an interval, and the byte of a record that says it.
use Rattle.std.specs.Prelude.{ℕ, Bool, true, false, not, ◌||◌, ◌==◌, nat_lt, if◌then◌else◌, Option, Some, None}
use Rattle.swap_units.specs.declared.mode.Mode.{Mode}
use Rattle.swap_units.specs.declared.mode.Mode.TheVariants.{Unmapped, Mapped}

-- a window shows the pages
abbrev pub is_mapped : Mode → Bool
is_mapped Unmapped = false
is_mapped (Mapped writable anonymous) = true

-- it does, and they may be stored to
abbrev pub is_writable : Mode → Bool
is_writable Unmapped = false
is_writable (Mapped writable anonymous) = writable

-- it does, and they may be loaded only
abbrev pub is_read_only : Mode → Bool
is_read_only Unmapped = false
is_read_only (Mapped writable anonymous) = not writable

-- the byte of a mode: 0 unmapped, 1 read-only, 2 writable, 3 anonymous and read-only, 4 anonymous and writable
abbrev pub code_of : Mode → ℕ
code_of Unmapped = 0
code_of (Mapped writable anonymous) = if anonymous then (if writable then 4 else 3) else (if writable then 2 else 1)

-- the mode of a byte, if it is that of one
abbrev pub mode_in : ℕ → Option Mode
mode_in code = if nat_lt 4 code then None else (if code == 0 then Some Unmapped else Some (Mapped (code == 2 || code == 4) (nat_lt 2 code)))
