-- Each field of a call is read back from its word.
use Rattle.std.proofs.Common.{◌≡◌, ◌⊎◌, inl, inr, ℕ, zero, suc, ◌*◌, ◌/◌, ◌%◌, ◌^◌, ◌<◌, ◌≤◌, Bool, true, false, List, [], ◌∷◌, length, get_or, Some, refl, ap, arith, nat_lt, nat_le}
use Rattle.std.specs.Prelude.{codes}
use Rattle.std.specs.List.{AllPass, list_all}
use Rattle.std.specs.Char.{is_ascii_digit}
use Rattle.std.specs.Int.{IsInRange, byte_at, bytes_high_first, to_be_bytes, w64}
use Rattle.std.specs.Str.Parse.{digits_value}
use Rattle.std.specs.Fmt.{decimal}
use Rattle.std.proofs.lemmas.Bool.{cases_lt}
use Rattle.std.proofs.lemmas.List.{get_or_default}
use Rattle.std.proofs.lemmas.List.Sums.{AllPass-from_list_all, list_all-from_AllPass}
use Rattle.std.proofs.lemmas.Str.Parse.{numerals_by_value, tells_by_index}
use Rattle.std.proofs.lemmas.Fmt.{digits_decimal, decimal_is_IsNumeral, decimal_digit, first_decimal}
use Rattle.std.proofs.lemmas.Nat.{from_be_bytes-to_be_bytes_8}
use Rattle.hex.specs.Hex.{encode_with, encode_lower, lower_digits, IsBytes}
use Rattle.hex.proofs.HexLemmas.{decode_of-encode_lower, decode_sized-encode_lower, length-encode_with}
use Rattle.flat_machine.specs.Text.{id_text}
use Rattle.trace_io.specs.Grammar.{is_plain, value_of, number_of, id_of, bytes_of, count_of, type_of, mode_of}
use Rattle.trace_io.specs.CallText.{mode_text}

-- no space and no line feed is in the word
abbrev pub IsWord : List ℕ → Type 0
IsWord word = AllPass (nat_lt 32) word

pub word_of : (word : List ℕ) → list_all (nat_lt 32) word ≡ true → IsWord word
word_of word all = AllPass-from_list_all (nat_lt 32) word all

decimal_digits : (n : ℕ) → n < 2 ^ 32 → (i : ℕ) → i < length (decimal n) → IsInRange 48 57 (get_or (decimal n) i 0)
decimal_digits n small = digits_decimal (numerals_by_value _ tells_by_index) n (omega arith)

pub decimal-word : (n : ℕ) → n < 2 ^ 32 → IsWord (decimal n)
decimal-word n small k d l =
    let digit = decimal_digits n small k l in
    rw (get_or_default (decimal n) k d 0 l) (grind arith)

decimal-digits : (n : ℕ) → n < 2 ^ 32 → list_all is_ascii_digit (decimal n) ≡ true
decimal-digits n small =
    list_all-from_AllPass is_ascii_digit (decimal n) (λ k d l. let digit = decimal_digits n small k l in rw (get_or_default (decimal n) k d 0 l) (grind arith))

plain_of : (word : List ℕ) → 0 < length word → (length word ≡ 1) ⊎ (48 < get_or word 0 0) → list_all is_ascii_digit word ≡ true → is_plain word ≡ true
plain_of word some (inl one) digits = grind arith
plain_of word some (inr first) digits = grind arith

decimal-plain : (n : ℕ) → n < 2 ^ 32 → is_plain (decimal n) ≡ true
decimal-plain n small =
    let numeral = decimal_is_IsNumeral n (omega arith) in
    plain_of (decimal n) numeral.0.0
    (elim (cases_lt 0 n) [
      | inl above ↦ inr (first_decimal n above (omega arith))
      | inr none ↦ let is : n ≡ 0 = omega arith in inl (rw is (ap length (decimal_digit 0 (omega arith))))
    ]) (decimal-digits n small)

pub number_of-decimal : (n : ℕ) → n < 2 ^ 32 → number_of (decimal n) ≡ Some n
unfolding number_of value_of
number_of-decimal n small =
    let same : digits_value 10 (decimal n) ≡ n = (decimal_is_IsNumeral n (omega arith)).1 in
    let below : nat_lt n (2 ^ 32) ≡ true = grind arith in
    rw (decimal-plain n small, same, below) refl

pub type_of-decimal : (n : ℕ) → n < 2 ^ 16 → type_of (decimal n) ≡ Some n
unfolding type_of
type_of-decimal n small =
    let below : nat_lt n 65536 ≡ true = grind arith in
    rw (number_of-decimal n (omega arith), below) refl

pub count_of-decimal : (n : ℕ) → 1 ≤ n → n ≤ 64 → count_of (decimal n) ≡ Some n
unfolding count_of
count_of-decimal n low high =
    let least : nat_le 1 n ≡ true = grind arith in
    let most : nat_le n 64 ≡ true = grind arith in
    rw (number_of-decimal n (omega arith), least, most) refl

low_eight : (m : ℕ) → m % 256 < 256
low_eight m = omega arith

byte_small : (k n : ℕ) → byte_at k n < 256
byte_small zero n = low_eight n
byte_small (suc k) n = low_eight (n / 256 ^ suc k)

high_bytes : (k n i : ℕ) → get_or (bytes_high_first k n) i 0 < 256
high_bytes zero n i = omega arith
high_bytes (suc k) n zero = byte_small k n
high_bytes (suc k) n (suc i) = high_bytes k n i

id_bytes : (id : ℕ) → IsBytes (to_be_bytes w64 id)
id_bytes id i = high_bytes 8 id i

pub id_of-text : (id : ℕ) → id < 2 ^ 64 → id_of (id_text id) ≡ Some id
unfolding id_of
id_of-text id small =
    rw (decode_sized-encode_lower (to_be_bytes w64 id) 8 refl (id_bytes id)) (ap Some (from_be_bytes-to_be_bytes_8 id small))

pub bytes_of-text : (bytes : List ℕ) → 1 ≤ length bytes → length bytes ≤ 64 → IsBytes bytes → bytes_of (encode_lower bytes) ≡ Some bytes
unfolding bytes_of
bytes_of-text bytes low high are =
    let twice : length (encode_lower bytes) ≡ 2 * length bytes = length-encode_with lower_digits bytes in
    let least : nat_lt 0 (length (encode_lower bytes)) ≡ true = grind arith in
    let most : nat_le (length (encode_lower bytes)) 128 ≡ true = grind arith in
    rw (least, most, decode_of-encode_lower bytes are) refl

pub mode_of-text : (writable : Bool) → mode_of (mode_text writable) ≡ Some writable
unfolding mode_of
mode_of-text true = refl
mode_of-text false = refl

pub mode-word : (writable : Bool) → IsWord (mode_text writable)
mode-word true = word_of (codes "rw") refl
mode-word false = word_of (codes "ro") refl

digit-word : (n : ℕ) → n < 16 → nat_lt 32 (get_or lower_digits n 0) ≡ true
digit-word n small = AllPass-from_list_all (nat_lt 32) lower_digits refl n 0 small

IsBytes-rest : (b : ℕ) (bytes : List ℕ) → IsBytes (b ∷ bytes) → IsBytes bytes
IsBytes-rest b bytes are i = are (suc i)

hex-passes : (bytes : List ℕ) → IsBytes bytes → list_all (nat_lt 32) (encode_lower bytes) ≡ true
unfolding encode_with
hex-passes [] are = refl
hex-passes (b ∷ bytes) are =
    let small : b < 256 = are 0 in
    rw (digit-word (b / 16) (omega arith), digit-word (b % 16) (omega arith)) (hex-passes bytes (IsBytes-rest b bytes are))

pub hex-word : (bytes : List ℕ) → IsBytes bytes → IsWord (encode_lower bytes)
hex-word bytes are = word_of (encode_lower bytes) (hex-passes bytes are)

pub id-word : (id : ℕ) → IsWord (id_text id)
id-word id = hex-word (to_be_bytes w64 id) (id_bytes id)
