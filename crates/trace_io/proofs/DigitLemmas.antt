-- The bytes that some hex digits say.
use Rattle.std.proofs.Common.{◌≡◌, ℕ, ◌+◌, ◌*◌, ◌%◌, ◌<◌, ◌≤◌, true, List, length, Some, Result, Ok, Err, refl, ap, arith}
use Rattle.std.specs.Prelude.{nat_lt, nat_le, ◌&&◌}
use Rattle.std.specs.List.{AllPass}
use Rattle.std.specs.Result.{result_ok}
use Rattle.hex.specs.Hex.{decode_of, pair_value, hex_digit_value, is_hex_digit, digit_or_error, value_at}
use Rattle.hex.proofs.HexLemmas.{decode_of-ok}
use Rattle.trace_io.specs.Grammar.{bytes_of}
use Rattle.trace_io.proofs.LongLines.{cond_some}

ok_of : {A E : Type 0} (r : Result A E) (x : A) → result_ok r ≡ Some x → r ≡ Ok x
ok_of (Ok y) x e = cc
ok_of (Err why) x e = absurd (cc)

-- which words say bytes
pub bytes_of-some : (word bytes : List ℕ) → bytes_of word ≡ Some bytes → (0 < length word) × (length word ≤ 128) × (length word % 2 ≡ 0) × AllPass is_hex_digit word
unfolding bytes_of
bytes_of-some word bytes e =
    let got = cond_some (nat_lt 0 (length word) && nat_le (length word) 128) _ bytes e in
    let ok = decode_of-ok word bytes (ok_of (decode_of word) bytes got.1) in
    (grind arith, grind arith, ok.0, ok.1)

pub value_of_pair : (high low i h l : ℕ) → hex_digit_value high ≡ Some h → hex_digit_value low ≡ Some l → pair_value high low i ≡ Ok (h * 16 + l)
value_of_pair high low i h l first second =
    let a : value_at high i ≡ Ok h = ap (digit_or_error high i) first in
    let b : value_at low (i + 1) ≡ Ok l = ap (digit_or_error low (i + 1)) second in
    rw (a, b) refl

pub bytes_of-decoded : (s bytes : List ℕ) → 0 < length s → length s ≤ 128 → decode_of s ≡ Ok bytes → Some bytes ≡ bytes_of s
unfolding bytes_of
bytes_of-decoded s bytes some short ok =
    let fits : (nat_lt 0 (length s) && nat_le (length s) 128) ≡ true = grind arith in
    rw (fits, ok) refl
