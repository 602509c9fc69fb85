-- Numbers of one decimal digit and of two.
use Rattle.std.proofs.Common.{◌≡◌, ℕ, ◌+◌, ◌/◌, ◌%◌, ◌<◌, ◌≤◌, List, [], ◌∷◌, ◌++◌, ◌∙◌, sym, ap, arith, append_assoc}
use Rattle.std.specs.Fmt.{decimal}
use Rattle.std.proofs.lemmas.Fmt.{decimal_digit, decimal_step}

pub decimal_one : (n : ℕ) → n < 10 → decimal n ≡ (48 + n) ∷ []
decimal_one n few = decimal_digit n few

pub decimal_two : (n : ℕ) → 10 ≤ n → n < 100 → decimal n ≡ (48 + n / 10) ∷ (48 + n % 10) ∷ []
decimal_two n some few = decimal_step n some (omega arith) ∙ ap (λ (ds : List ℕ). ds ++ (48 + n % 10) ∷ []) (decimal_digit (n / 10) (omega arith))

-- a digit and a space after some bytes
pub one_and_space : (xs : List ℕ) (n : ℕ) → n < 10 → xs ++ (48 + n) ∷ 32 ∷ [] ≡ xs ++ decimal n ++ 32 ∷ []
one_and_space xs n few = sym (append_assoc xs ((48 + n) ∷ []) (32 ∷ [])) ∙ ap (λ (ds : List ℕ). xs ++ ds ++ 32 ∷ []) (sym (decimal_digit n few))
