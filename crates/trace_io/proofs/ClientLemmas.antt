-- A client of one digit or of two, and the words after it.
use Rattle.std.proofs.Common.{◌≡◌, ◌≢◌, ℕ, zero, suc, ◌+◌, ◌-◌, ◌<◌, ◌≤◌, List, [], ◌∷◌, length, get_or, take, drop, Option, Some, refl, sym, ap, ◌∙◌, arith}
use Rattle.trace_io.specs.Grammar.{both, number_of, value_of, words_of}
use Rattle.trace_io.specs.EventGrammar.{client_of, unending_of, client_and_call}
use Rattle.trace_io.proofs.Cuts.{split_index}
use Rattle.trace_io.proofs.EventLemmas.{client_and_call_last}

one_digit : (k : ℕ) → k < 9 → client_of ((49 + k) ∷ []) ≡ Some (1 + k)
unfolding client_of number_of value_of
one_digit zero few = refl
one_digit (suc zero) few = refl
one_digit (suc (suc zero)) few = refl
one_digit (suc (suc (suc zero))) few = refl
one_digit (suc (suc (suc (suc zero)))) few = refl
one_digit (suc (suc (suc (suc (suc zero))))) few = refl
one_digit (suc (suc (suc (suc (suc (suc zero)))))) few = refl
one_digit (suc (suc (suc (suc (suc (suc (suc zero))))))) few = refl
one_digit (suc (suc (suc (suc (suc (suc (suc (suc zero)))))))) few = refl
one_digit (suc (suc (suc (suc (suc (suc (suc (suc (suc k))))))))) few = absurd (omega (arith, few))

two_digits : (k : ℕ) → k < 7 → client_of (49 ∷ (48 + k) ∷ []) ≡ Some (10 + k)
unfolding client_of number_of value_of
two_digits zero few = refl
two_digits (suc zero) few = refl
two_digits (suc (suc zero)) few = refl
two_digits (suc (suc (suc zero))) few = refl
two_digits (suc (suc (suc (suc zero)))) few = refl
two_digits (suc (suc (suc (suc (suc zero))))) few = refl
two_digits (suc (suc (suc (suc (suc (suc zero)))))) few = refl
two_digits (suc (suc (suc (suc (suc (suc (suc k))))))) few = absurd (omega (arith, few))

take_one : (xs : List ℕ) → 0 < length xs → take 1 xs ≡ get_or xs 0 0 ∷ []
take_one [] some = absurd (omega (arith, some))
take_one (x ∷ xs) some = refl

take_two : (xs : List ℕ) → 1 < length xs → take 2 xs ≡ get_or xs 0 0 ∷ get_or xs 1 0 ∷ []
take_two [] some = absurd (omega (arith, some))
take_two (x ∷ []) some = absurd (omega (arith, some))
take_two (x ∷ y ∷ xs) some = refl

-- what stands from a place on
abbrev pub rest_from : ℕ → List ℕ → List ℕ
rest_from at text = take (length text - at) (drop at text)

asks : (text : List ℕ) (at client : ℕ) → at < length text → ((k : ℕ) → k < at → get_or text k 0 ≢ 32) → get_or text at 0 ≡ 32 → client_of (take at text) ≡ Some client
    → client_and_call (words_of text) ≡ both (Some client) (unending_of (words_of (rest_from (at + 1) text)))
asks text place client long before here is =
    let rest = rest_from (place + 1) text in
    ap client_and_call (split_index 32 text place long before here) ∙ sym (client_and_call_last (take place text) rest) ∙ ap (λ (c : Option ℕ). both c (unending_of (words_of rest))) is

-- a client of one digit
pub asks_one : (text : List ℕ) → 1 < length text → get_or text 1 0 ≡ 32 → 49 ≤ get_or text 0 0 → get_or text 0 0 ≤ 57
    → client_and_call (words_of text) ≡ both (Some (get_or text 0 0 - 48)) (unending_of (words_of (rest_from 2 text)))
asks_one text long here low high =
    let digit = get_or text 0 0 in
    let first : take 1 text ≡ digit ∷ [] = take_one text (omega (arith, long)) in
    let value : 49 + (digit - 49) ≡ digit = omega (arith, low) in
    let number : 1 + (digit - 49) ≡ digit - 48 = omega (arith, low) in
    let client : client_of (take 1 text) ≡ Some (digit - 48) =
    ap client_of first ∙ ap (λ (d : ℕ). client_of (d ∷ [])) (sym value) ∙ one_digit (digit - 49) (omega (arith, high)) ∙ ap (λ (n : ℕ). Some n) number in
    asks text 1 (digit - 48) long (before text low) here client
  where
    before : (xs : List ℕ) → 49 ≤ get_or xs 0 0 → (k : ℕ) → k < 1 → get_or xs k 0 ≢ 32
    before xs low zero few = λ same. omega (arith, same, low)
    before xs low (suc k) few = absurd (omega (arith, few))

-- a client of two
pub asks_two : (text : List ℕ) → 2 < length text → get_or text 2 0 ≡ 32 → get_or text 0 0 ≡ 49 → 48 ≤ get_or text 1 0 → get_or text 1 0 ≤ 54
    → client_and_call (words_of text) ≡ both (Some (10 + (get_or text 1 0 - 48))) (unending_of (words_of (rest_from 3 text)))
asks_two text long here ten low high =
    let digit = get_or text 1 0 in
    let first : take 2 text ≡ get_or text 0 0 ∷ digit ∷ [] = take_two text (omega (arith, long)) in
    let value : 48 + (digit - 48) ≡ digit = omega (arith, low) in
    let client : client_of (take 2 text) ≡ Some (10 + (digit - 48)) =
    ap client_of first ∙ ap (λ (d : ℕ). client_of (d ∷ digit ∷ [])) ten ∙ ap (λ (d : ℕ). client_of (49 ∷ d ∷ [])) (sym value) ∙ two_digits (digit - 48) (omega (arith, high)) in
    asks text 2 (10 + (digit - 48)) long (before text ten low) here client
  where
    before : (xs : List ℕ) → get_or xs 0 0 ≡ 49 → 48 ≤ get_or xs 1 0 → (k : ℕ) → k < 2 → get_or xs k 0 ≢ 32
    before xs ten low zero few = λ same. omega (arith, same, ten)
    before xs ten low (suc zero) few = λ same. omega (arith, same, low)
    before xs ten low (suc (suc k)) few = absurd (omega (arith, few))
