-- The 64 sectors of eight bytes in a row.
use Rattle.std.proofs.Common.{◌≡◌, ℕ, zero, suc, ◌+◌, ◌-◌, ◌/◌, ◌%◌, ◌^◌, ◌<◌, ◌≤◌, true, false, List, [], ◌∷◌, get_or, arith, ◌∙◌, ap}
use Rattle.std.specs.Int.{w64, from_be_bytes}
use Rattle.alloc_map.specs.Bits.{AreAll, free_in}
use Rattle.alloc_map.proofs.BitLemmas.{byte_of_ones, byte_of_zeros, count_more, free_in_free}

-- the number that eight bytes make, the first of them the highest
abbrev pub word : List ℕ → ℕ → ℕ
word b i = from_be_bytes w64 (get_or b i 0 ∷ get_or b (i + 1) 0 ∷ get_or b (i + 2) 0 ∷ get_or b (i + 3) 0 ∷ get_or b (i + 4) 0 ∷ get_or b (i + 5) 0 ∷ get_or b (i + 6) 0 ∷ get_or b (i + 7) 0 ∷ [])

-- which of eight bytes it is
eighth : (b : List ℕ) (i x : ℕ) → get_or b i 0 ≡ x → get_or b (i + 1) 0 ≡ x → get_or b (i + 2) 0 ≡ x → get_or b (i + 3) 0 ≡ x → get_or b (i + 4) 0 ≡ x → get_or b (i + 5) 0 ≡ x → get_or b (i + 6) 0 ≡ x → get_or b (i + 7) 0 ≡ x
    → (k : ℕ) → k < 8 → get_or b (i + k) 0 ≡ x
eighth b i x a0 a1 a2 a3 a4 a5 a6 a7 zero below = let same : i + 0 ≡ i = omega arith in ap (λ (n : ℕ). get_or b n 0) same ∙ a0
eighth b i x a0 a1 a2 a3 a4 a5 a6 a7 (suc zero) below = a1
eighth b i x a0 a1 a2 a3 a4 a5 a6 a7 (suc (suc zero)) below = a2
eighth b i x a0 a1 a2 a3 a4 a5 a6 a7 (suc (suc (suc zero))) below = a3
eighth b i x a0 a1 a2 a3 a4 a5 a6 a7 (suc (suc (suc (suc zero)))) below = a4
eighth b i x a0 a1 a2 a3 a4 a5 a6 a7 (suc (suc (suc (suc (suc zero))))) below = a5
eighth b i x a0 a1 a2 a3 a4 a5 a6 a7 (suc (suc (suc (suc (suc (suc zero)))))) below = a6
eighth b i x a0 a1 a2 a3 a4 a5 a6 a7 (suc (suc (suc (suc (suc (suc (suc zero))))))) below = a7
eighth b i x a0 a1 a2 a3 a4 a5 a6 a7 (suc (suc (suc (suc (suc (suc (suc (suc k)))))))) below = absurd (omega (arith, below))

module _ (b : List ℕ) (i : ℕ) (small : (k : ℕ) → get_or b k 0 < 256) where
  ones : word b i ≡ 2 ^ 64 - 1 → (k : ℕ) → k < 8 → get_or b (i + k) 0 ≡ 255
  ones is =
      let s0 = small i in
      let s1 = small (i + 1) in
      let s2 = small (i + 2) in
      let s3 = small (i + 3) in
      let s4 = small (i + 4) in
      let s5 = small (i + 5) in
      let s6 = small (i + 6) in
      let s7 = small (i + 7) in
      eighth b i 255 (omega (arith, is, s0, s1, s2, s3, s4, s5, s6, s7)) (omega (arith, is, s0, s1, s2, s3, s4, s5, s6, s7)) (omega (arith, is, s0, s1, s2, s3, s4, s5, s6, s7)) (omega (arith, is, s0, s1, s2, s3, s4, s5, s6, s7))
      (omega (arith, is, s0, s1, s2, s3, s4, s5, s6, s7)) (omega (arith, is, s0, s1, s2, s3, s4, s5, s6, s7)) (omega (arith, is, s0, s1, s2, s3, s4, s5, s6, s7)) (omega (arith, is, s0, s1, s2, s3, s4, s5, s6, s7))

  zeros : word b i ≡ 0 → (k : ℕ) → k < 8 → get_or b (i + k) 0 ≡ 0
  zeros is = eighth b i 0 (omega (arith, is)) (omega (arith, is)) (omega (arith, is)) (omega (arith, is)) (omega (arith, is)) (omega (arith, is)) (omega (arith, is)) (omega (arith, is))

  -- the sectors of a word that has all bits, or none
  pub word_used : (sector : ℕ) → i ≡ sector / 8 → sector % 64 ≡ 0 → word b i ≡ 2 ^ 64 - 1 → AreAll true b sector (sector + 64)
  word_used sector from whole is s above below =
      let k = s / 8 - i in
      let here : s / 8 ≡ i + k = omega (arith, from, whole, above, below) in
      byte_of_ones b (i + k) s (ones is k (omega (arith, from, whole, above, below))) here

  pub word_free : (sector : ℕ) → i ≡ sector / 8 → sector % 64 ≡ 0 → word b i ≡ 0 → AreAll false b sector (sector + 64)
  word_free sector from whole is s above below =
      let k = s / 8 - i in
      let here : s / 8 ≡ i + k = omega (arith, from, whole, above, below) in
      byte_of_zeros b (i + k) s (zeros is k (omega (arith, from, whole, above, below))) here

-- a count that goes on over free sectors
pub count_frees : (b : List ℕ) (from at : ℕ) → from ≤ at → AreAll false b at (at + 64) → free_in b from (at + 64 - from) ≡ free_in b from (at - from) + 64
count_frees b from at low all =
    let many : (at + 64) - at ≡ 64 = omega arith in
    count_more b from at (at + 64) low (omega arith) ∙ ap (λ x. free_in b from (at - from) + free_in b at x) many ∙ ap (λ x. free_in b from (at - from) + x) (free_in_free b at 64 all)
