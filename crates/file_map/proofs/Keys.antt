-- Keys are in the order of pairs of identifier and page, which is that of one number.
use Rattle.std.proofs.Common.{◌≡◌, inl, inr, ℕ, zero, suc, ◌+◌, ◌*◌, ◌%◌, ◌<◌, ◌≤◌, ◌^◌, Bool, true, false, List, [], ◌∷◌, ◌++◌, refl, sym, ◌∙◌, ap, arith}
use Rattle.std.proofs.lemmas.Bool.{cases_lt, cases_eq}
use Rattle.std.proofs.lemmas.Nat.{mod_below, mul-le}
use Rattle.std.proofs.Math.Nat.{pow-suc}
use Rattle.std.proofs.Math.Nat.{mod-eq_of_lt}
use Rattle.byteorder.specs.Numbers.{big_from-bytes, big_from-cons}
use Rattle.std.specs.Ordering.{nat_cmp, is_le}
use Rattle.std.specs.Cmp.{nat_cmp_is}
use Rattle.std.specs.Cmp.Lexicographic.{slice_cmp}
use Rattle.std.specs.declared.cmp.Ordering.{Ordering}
use Rattle.std.specs.declared.cmp.Ordering.TheVariants.{Less, Equal, Greater}
use Rattle.std.specs.Int.{bytes_high_first, byte_at}
use Rattle.flat_mem.specs.Order.{at_most}
use Rattle.file_map.specs.Run.{key_bytes}

-- the number of a page of a file among all pages of all files
abbrev pub rank : ℕ → ℕ → ℕ
rank id page = id * 2 ^ 32 + page

less_first : (a b : ℕ) (xs ys : List ℕ) → a < b → slice_cmp nat_cmp (a ∷ xs) (b ∷ ys) ≡ Less
less_first a b xs ys h = rw (← nat_cmp_is a b Less h) refl

same_first : (a b : ℕ) (xs ys : List ℕ) → a ≡ b → slice_cmp nat_cmp (a ∷ xs) (b ∷ ys) ≡ slice_cmp nat_cmp xs ys
same_first a b xs ys h = rw (← nat_cmp_is a b Equal h) refl

more_first : (a b : ℕ) (xs ys : List ℕ) → b < a → slice_cmp nat_cmp (a ∷ xs) (b ∷ ys) ≡ Greater
more_first a b xs ys h = rw (← nat_cmp_is a b Greater h) refl

-- how lists with these first bytes compare, the bytes of two numbers, the highest first
pub record IsCompared (x y : ℕ) (both rest : Ordering) : Type 0 where
  pub less : x < y → both ≡ Less
  pub same : x ≡ y → both ≡ rest
  pub more : y < x → both ≡ Greater

split_byte : (n x : ℕ) → x % 256 ^ suc n ≡ byte_at n x * 256 ^ n + x % 256 ^ n
split_byte n x =
    sym (big_from-bytes (suc n) x []) ∙ ap (λ (r : ℕ). byte_at n x * 256 ^ n + r) (big_from-cons 0 n (byte_at n x) (bytes_high_first n x ++ []) ∙ big_from-bytes n x [])

some_power : (n : ℕ) → 0 < 256 ^ n
some_power zero = omega arith
some_power (suc n) = let h = some_power n in let p = pow-suc 256 n in omega (arith, h, p)

-- a byte more before
compared_more : (a b c x y n m : ℕ) (xs ys : List ℕ) (rest : Ordering) → n ≡ a * c + x → m ≡ b * c + y → x < c → y < c
    → IsCompared x y (slice_cmp nat_cmp xs ys) rest → IsCompared n m (slice_cmp nat_cmp (a ∷ xs) (b ∷ ys)) rest
compared_more a b c x y n m xs ys rest n_is m_is x_below y_below inner = elim (cases_lt a b) [
  | inl low ↦
      let far : (a + 1) * c ≤ b * c = mul-le (a + 1) c b c (omega (arith, low)) (omega arith) in
      let before : n < m = omega (arith, far, n_is, m_is, x_below) in
      record {
        less = λ _. less_first a b xs ys low;
        same = λ is. absurd (omega (arith, is, before));
        more = λ is. absurd (omega (arith, is, before));
      }
  | inr not ↦ elim (cases_eq a b) [
    | inl here ↦
        let both : a * c ≡ b * c = ap (λ (t : ℕ). t * c) here in
        record {
          less = λ is. same_first a b xs ys here ∙ inner.less (omega (arith, both, n_is, m_is, is));
          same = λ is. same_first a b xs ys here ∙ inner.same (omega (arith, both, n_is, m_is, is));
          more = λ is. same_first a b xs ys here ∙ inner.more (omega (arith, both, n_is, m_is, is));
        }
    | inr other ↦
        let high : b < a = omega (arith, not, other) in
        let far : (b + 1) * c ≤ a * c = mul-le (b + 1) c a c (omega (arith, high)) (omega arith) in
        let after : m < n = omega (arith, far, n_is, m_is, y_below) in
        record {
          less = λ is. absurd (omega (arith, is, after));
          same = λ is. absurd (omega (arith, is, after));
          more = λ _. more_first a b xs ys high;
        }
  ]
]

pub compared : (n x y : ℕ) (xs ys : List ℕ) → IsCompared (x % 256 ^ n) (y % 256 ^ n) (slice_cmp nat_cmp (bytes_high_first n x ++ xs) (bytes_high_first n y ++ ys)) (slice_cmp nat_cmp xs ys)
compared zero x y xs ys = record { less = λ h. absurd (omega (arith, h)); same = λ _. refl; more = λ h. absurd (omega (arith, h)) }
compared (suc n) x y xs ys =
    compared_more (byte_at n x) (byte_at n y) (256 ^ n) (x % 256 ^ n) (y % 256 ^ n) _ _ (bytes_high_first n x ++ xs) (bytes_high_first n y ++ ys) _ (split_byte n x) (split_byte n y) (mod_below x (256 ^ n) (some_power n)) (mod_below y (256 ^ n) (some_power n))
    (compared n x y xs ys)

-- one key is at most another exactly where its rank is
pub record AreOrdered (x y : ℕ) (test : Bool) : Type 0 where
  pub low : x ≤ y → test ≡ true
  pub high : y < x → test ≡ false

-- two parts, each below its base, compare as one number
both_parts : (i p j q base : ℕ) (both second : Ordering) → p < base → q < base → IsCompared i j both second → IsCompared p q second Equal → AreOrdered (i * base + p) (j * base + q) (is_le both)
both_parts i p j q base both second p_below q_below first then_second = elim (cases_lt i j) [
  | inl low ↦
      let far : (i + 1) * base ≤ j * base = mul-le (i + 1) base j base (omega (arith, low)) (omega arith) in
      record { low = λ _. ap is_le (first.less low); high = λ h. absurd (omega (arith, h, far, p_below)) }
  | inr not ↦ elim (cases_eq i j) [
    | inl here ↦
        let both_is : i * base ≡ j * base = ap (λ (t : ℕ). t * base) here in
        record {
          low = λ h. elim (cases_lt p q) [
            | inl less ↦ ap is_le (first.same here ∙ then_second.less less)
            | inr more ↦
                let is : p ≡ q = omega (arith, h, both_is, more) in
                ap is_le (first.same here ∙ then_second.same is)
          ];
          high = λ h. let less : q < p = omega (arith, h, both_is) in ap is_le (first.same here ∙ then_second.more less);
        }
    | inr other ↦
        let high : j < i = omega (arith, not, other) in
        let far : (j + 1) * base ≤ i * base = mul-le (j + 1) base i base (omega (arith, high)) (omega arith) in
        record { low = λ h. absurd (omega (arith, h, far, q_below)); high = λ _. ap is_le (first.more high) }
  ]
]

pub keys_ordered : (i p j q : ℕ) → i < 2 ^ 64 → p < 2 ^ 32 → j < 2 ^ 64 → q < 2 ^ 32 → AreOrdered (rank i p) (rank j q) (at_most (key_bytes i p) (key_bytes j q))
unfolding at_most key_bytes
keys_ordered i p j q i_fits p_fits j_fits q_fits =
    let first : IsCompared (i % 256 ^ 8) (j % 256 ^ 8) _ _ = compared 8 i j (bytes_high_first 4 p) (bytes_high_first 4 q) in
    let second : IsCompared (p % 256 ^ 4) (q % 256 ^ 4) _ _ = compared 4 p q [] [] in
    let i_is : i % 256 ^ 8 ≡ i = mod-eq_of_lt i_fits in
    let j_is : j % 256 ^ 8 ≡ j = mod-eq_of_lt j_fits in
    let p_is : p % 256 ^ 4 ≡ p = mod-eq_of_lt p_fits in
    let q_is : q % 256 ^ 4 ≡ q = mod-eq_of_lt q_fits in
    both_parts i p j q (2 ^ 32) _ _ p_fits q_fits (rw (i_is, j_is) at first) (rw (p_is, q_is) at second)
