-- The calls of a trial: each by three values.
use Rattle.std.specs.Prelude.{ℕ, ◌+◌, ◌*◌, ◌%◌, nat_lt, ◌==◌, if◌then◌else◌, List, map}
use Rattle.std.specs.List.{range_with_len}
use Rattle.flat_machine.specs.declared.call.Call.{Call}
use Rattle.flat_machine.specs.declared.call.Call.TheVariants.{Units, Load, Store, Activate, Deactivate, ForceOut}
use Rattle.trace_maker.specs.Drawn.{value}

-- one of the first four spaces that a client makes
abbrev pub space_by : ℕ → ℕ
space_by w = 1 + w % 4

-- an address of the first 64 pages
abbrev pub address_by : ℕ → ℕ
address_by w = w % 32768

-- how many bytes: 1 to 64
abbrev pub count_by : ℕ → ℕ
count_by u = 1 + u % 64

-- so many bytes that rise by one, from that of the value on; 0 stands after 255
abbrev pub bytes_by : ℕ → List ℕ
bytes_by u = map (λ n. n % 256) (range_with_len u (count_by u))

-- a call on a whole space
abbrev pub advice_by : ℕ → ℕ → Call
advice_by u space = if u % 3 == 0 then Activate space else (if u % 3 == 1 then Deactivate space else ForceOut space)

-- The table: in three of eight cases a load, in three a store, in one a call on a whole space, and in one another unit size.
abbrev pub call_by : ℕ → ℕ → ℕ → Call
call_by v w u =
    if nat_lt (v % 8) 3 then Load (address_by w) (count_by u)
    else (if nat_lt (v % 8) 6 then Store (address_by w) (bytes_by u)
    else (if v % 8 == 6 then advice_by u (space_by w)
    else Units (space_by w) (1 + u % 16)))

-- the call of this index, by the values 3 * index, 3 * index + 1 and 3 * index + 2
abbrev pub call_of : ℕ → ℕ → Call
call_of seed index = call_by (value seed (3 * index)) (value seed (3 * index + 1)) (value seed (3 * index + 2))
