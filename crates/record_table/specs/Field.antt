-- Big-endian fields of records, by width and offset.
use Rattle.std.specs.Prelude.{ℕ, ◌+◌, List, ◌++◌, take, drop}
use Rattle.byteorder.specs.Endian.{big_number, big_bytes}

-- the number in the n bytes at an offset
abbrev pub field : ℕ → ℕ → List ℕ → ℕ
field n at record_bytes = big_number n (drop at record_bytes)

-- the record with the lowest n bytes of x at an offset
abbrev pub with_field : ℕ → ℕ → ℕ → List ℕ → List ℕ
with_field n at x record_bytes = take at record_bytes ++ (big_bytes n x ++ drop (at + n) record_bytes)
