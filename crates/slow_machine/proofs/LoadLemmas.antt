-- The bytes of a load, one more.
use Rattle.std.proofs.Common.{◌≡◌, List, Option, ℕ, zero, suc, ◌+◌, [], ◌∷◌, ◌++◌, refl, ◌∙◌, ap, arith, add-one}
use Rattle.std.specs.Prelude.{unwrap_or}
use Rattle.flat_machine.specs.Machine.{Machine}
use Rattle.flat_machine.specs.At.{cell_at}
use Rattle.flat_machine.specs.Allows.{plain_bytes}

pub plain_more : (m : Machine) (a k : ℕ) → plain_bytes m a (k + 1) ≡ plain_bytes m a k ++ unwrap_or (cell_at m (a + k)) 0 ∷ []
plain_more m a k = rw add-one (more a k)
  where
    more : (b j : ℕ) → plain_bytes m b (suc j) ≡ plain_bytes m b j ++ unwrap_or (cell_at m (b + j)) 0 ∷ []
    more b zero = let e : b + 0 ≡ b = omega arith in rw e refl
    more b (suc j) =
        let e : b + 1 + j ≡ b + suc j = omega arith in
        ap (λ l. unwrap_or (cell_at m b) 0 ∷ l) (more (b + 1) j ∙ ap (λ n. plain_bytes m (b + 1) j ++ unwrap_or (cell_at m n) 0 ∷ []) e)

-- one byte more is loaded
pub loaded_more : (m : Machine) (a k b j : ℕ) (bytes new : List ℕ) (cell : Option ℕ) (byte : ℕ)
    → bytes ≡ plain_bytes m a k → b ≡ a → j ≡ k → cell ≡ cell_at m (b + j) → byte ≡ unwrap_or cell 0 → new ≡ bytes ++ byte ∷ []
    → new ≡ plain_bytes m a (k + 1)
loaded_more m a k b j bytes new cell byte so_far is_a is_k shown told more =
    rw (more, told, shown, is_a, is_k, so_far, plain_more m a k) refl
