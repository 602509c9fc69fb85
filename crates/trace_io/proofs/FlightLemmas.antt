-- A number of up to 64 bits, by its digits.
use Rattle.std.proofs.Common.{◌≡◌, ℕ, ◌^◌, ◌<◌, ◌≤◌, true, false, nat_lt, List, length, get_or, take, Option, Some, None, refl, sym, ap, ◌∙◌, arith, inl, inr}
use Rattle.std.specs.Prelude.{if◌then◌else◌}
use Rattle.std.specs.List.{list_all}
use Rattle.std.specs.Char.{is_ascii_digit}
use Rattle.std.specs.Str.Parse.{digits_value}
use Rattle.std.proofs.lemmas.List.{take_all}
use Rattle.std.proofs.lemmas.List.Sums.{AllPass-from_list_all}
use Rattle.std.proofs.lemmas.Str.Parse.{digits_value-take-le}
use Rattle.trace_io.specs.EventGrammar.{wide_value_of}
use Rattle.trace_io.proofs.LongLines.{cases_bool}

-- the number of a word of digits alone
abbrev wide_digits_of : List ℕ → Option ℕ
wide_digits_of word = if list_all is_ascii_digit word then wide_value_of word else None

too_large : (word : List ℕ) (i : ℕ) → 2 ^ 64 ≤ digits_value 10 (take i word) → wide_value_of word ≡ None
unfolding wide_value_of
too_large word i big =
    let le : 2 ^ 64 ≤ digits_value 10 word = omega (arith, digits_value-take-le 10 word i (omega arith)) in
    grind arith

-- a prefix that is too large already
pub wide_large : (word : List ℕ) (i : ℕ) → 2 ^ 64 ≤ digits_value 10 (take i word) → None ≡ wide_digits_of word
wide_large word i big =
    elim (cases_bool (list_all is_ascii_digit word)) [
      | inl all ↦ rw (all, too_large word i big) refl
      | inr other ↦ rw other refl
    ]

-- a byte that is no digit
pub wide_other : (word : List ℕ) (i : ℕ) → i < length word → is_ascii_digit (get_or word i 0) ≡ false → None ≡ wide_digits_of word
wide_other word i l no_digit =
    elim (cases_bool (list_all is_ascii_digit word)) [
      | inl all ↦ let digit : is_ascii_digit (get_or word i 0) ≡ true = AllPass-from_list_all is_ascii_digit word all i 0 l in absurd (cc (digit, no_digit))
      | inr other ↦ rw other refl
    ]

fits : (word : List ℕ) (n : ℕ) → n ≡ digits_value 10 word → n < 2 ^ 64 → Some n ≡ wide_value_of word
unfolding wide_value_of
fits word n is small =
    let below : nat_lt (digits_value 10 word) (2 ^ 64) ≡ true = grind arith in
    rw below (ap Some is)

-- all bytes, once they were looked at
pub wide_small : (word : List ℕ) (n i : ℕ) → length word ≤ i → n ≡ digits_value 10 (take i word) → n < 2 ^ 64 → list_all is_ascii_digit (take i word) ≡ true → Some n ≡ wide_digits_of word
wide_small word n i past is small all =
    let whole = take_all i word past in
    let digits : list_all is_ascii_digit word ≡ true = ap (list_all is_ascii_digit) (sym whole) ∙ all in
    rw digits (fits word n (is ∙ ap (digits_value 10) whole) small)
