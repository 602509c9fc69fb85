-- The allocation map of the volume with three files.
use Rattle.std.proofs.Common.{◌≡◌, ℕ, zero, suc, ◌+◌, ◌-◌, ◌/◌, ◌%◌, ◌<◌, ◌≤◌, Bool, true, false, not, ◌&&◌, ◌||◌, List, [], ◌∷◌, ◌++◌, length, get_or, replicate, Some, refl, sym, ◌∙◌, ap, subst, arith, eqb, ltb}
use Rattle.std.specs.Prelude.{slice_get}
use Rattle.std.specs.Int.{bit_at}
use Rattle.std.proofs.lemmas.Bool.{and_parts, lt-ltb, le-ltb}
use Rattle.std.proofs.lemmas.List.{append-nil}
use Rattle.std.proofs.lemmas.Nat.Bits.{bit_at-zero}
use Rattle.std.proofs.lemmas.Option.{same_Some, none-some, slice_get-get_or}
use Rattle.labelled_disk.specs.Label.{is_free}
use Rattle.labelled_disk.specs.Sectors.{Sector, zero_sector}
use Rattle.alloc_map.specs.Bits.{is_used}
use Rattle.volume_root.specs.Sound.{HasBits, map_bytes}
use Rattle.volume_root.specs.ThreeFiles.{page_of, bits, three_files}
use Rattle.volume_root.proofs.ThreeFilesTriples.{size, begins}

-- the page of the map
abbrev map_page : List ℕ
map_page = bits ++ replicate 494 0

map_is : map_bytes three_files ≡ map_page
unfolding three_files page_of
map_is = append-nil map_page

-- the sector is one of root and maps, or its label isn't free
abbrev is_taken : ℕ → Sector → Bool
is_taken i s = ltb i 36 || not (is_free s.0)

alike : Bool → Bool → Bool
alike true b = b
alike false b = not b

same_from_alike : (a b : Bool) → alike a b ≡ true → a ≡ b
unfolding alike
same_from_alike true b is = sym is
same_from_alike false true is = is
same_from_alike false false is = refl

-- sectors in a row, the first of them in place i, have their bits
have_bits : ℕ → List Sector → Bool
have_bits i [] = true
have_bits i (s ∷ rest) = alike (is_used map_page i) (is_taken i s) && have_bits (i + 1) rest

bit_of : (i : ℕ) (xs : List Sector) → have_bits i xs ≡ true → (j : ℕ) (s : Sector) → slice_get xs j ≡ Some s → is_used map_page (i + j) ≡ is_taken (i + j) s
unfolding have_bits
bit_of i [] have j s here = absurd (none-some s here)
bit_of i (x ∷ xs) have zero s here =
    let parts = and_parts (alike (is_used map_page i) (is_taken i x)) (have_bits (i + 1) xs) have in
    let place : i ≡ i + 0 = omega arith in
    subst (λ (k : ℕ). is_used map_page k ≡ is_taken k s) place (same_from_alike (is_used map_page i) (is_taken i x) parts.0 ∙ ap (is_taken i) (same_Some x s here))
bit_of i (x ∷ xs) have (suc j) s here =
    let parts = and_parts (alike (is_used map_page i) (is_taken i x)) (have_bits (i + 1) xs) have in
    let place : i + 1 + j ≡ i + suc j = omega arith in
    subst (λ (k : ℕ). is_used map_page k ≡ is_taken k s) place (bit_of (i + 1) xs parts.1 j s here)

all_have : have_bits 0 three_files ≡ true
unfolding three_files have_bits alike is_used
all_have = refl

bit_here : (i : ℕ) (s : Sector) → slice_get three_files i ≡ Some s → is_used map_page i ≡ is_taken i s
bit_here i s here = let place : 0 + i ≡ i = omega arith in subst (λ (k : ℕ). is_used map_page k ≡ is_taken k s) place (bit_of 0 three_files all_have i s here)

-- after the bytes that are written out are zeros
zeros_after : (bytes : List ℕ) (n k : ℕ) → length bytes ≤ k → get_or (bytes ++ replicate n 0) k 0 ≡ 0
zeros_after [] zero k past = refl
zeros_after [] (suc n) zero past = refl
zeros_after [] (suc n) (suc k) past = zeros_after [] n k (omega arith)
zeros_after (b ∷ bytes) n zero past = absurd (omega (arith, past))
zeros_after (b ∷ bytes) n (suc k) past = zeros_after bytes n k (omega (arith, past))

free_past : (i : ℕ) → 256 ≤ i → is_used map_page i ≡ false
unfolding is_used
free_past i past = ap (λ (x : ℕ). eqb (bit_at x (7 - i % 8)) 1) (zeros_after bits 494 (i / 8) (omega (arith, past))) ∙ ap (λ (x : ℕ). eqb x 1) (bit_at-zero (7 - i % 8))

pub has_bits : HasBits three_files
has_bits = record {
  low = λ i below.
      let few : i < 36 = subst (λ (n : ℕ). i < n) begins below in
      ap (λ (b : List ℕ). is_used b i) map_is ∙ bit_here i _ (slice_get-get_or three_files i zero_sector (omega (arith, few, size)))
      ∙ ap (λ (b : Bool). b || not (is_free (get_or three_files i zero_sector).0)) (lt-ltb i 36 few);
  by_label = λ i s has.
      let high : 36 ≤ i = subst (λ (n : ℕ). n ≤ i) begins has.is_data in
      ap (λ (b : List ℕ). is_used b i) map_is ∙ bit_here i s has.here ∙ ap (λ (b : Bool). b || not (is_free s.0)) (le-ltb i 36 high);
  past = λ i past. ap (λ (b : List ℕ). is_used b i) map_is ∙ free_past i (omega (arith, past, size));
}
