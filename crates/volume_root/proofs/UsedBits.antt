-- The bits of an allocation map on which the first sectors are used.
use Rattle.std.proofs.Common.{◌≡◌, ℕ, zero, suc, ◌+◌, ◌-◌, ◌*◌, ◌/◌, ◌%◌, ◌^◌, ◌<◌, ◌≤◌, Bool, true, false, List, [], ◌∷◌, ◌++◌, map, refl, sym, ◌∙◌, ap, arith, eqb, ltb, min}
use Rattle.std.specs.Prelude.{slice_index}
use Rattle.std.specs.List.{flat_map, range_with_len}
use Rattle.std.proofs.lemmas.Bool.{lt-ltb, le-ltb, ltb-true, ltb-false}
use Rattle.std.proofs.lemmas.Grind.{flat_map-append}
use Rattle.std.proofs.lemmas.List.{append-nil, get_or_past}
use Rattle.std.proofs.lemmas.List.FromFn.{length-map-range_with_len, get_or-map-range_with_len, map-range_with_len_more}
use Rattle.labelled_disk.specs.Sectors.{Sector}
use Rattle.alloc_map.specs.Bits.{is_used}
use Rattle.volume_root.specs.Format.{high_bits, used_byte, used_page}

-- a bit of the byte whose first bits are set
abbrev HasBit : ℕ → ℕ → Type 0
HasBit c r = eqb (high_bits c / 2 ^ (7 - r) % 2) 1 ≡ ltb r c

each_bit : (c : ℕ) → HasBit c 0 → HasBit c 1 → HasBit c 2 → HasBit c 3 → HasBit c 4 → HasBit c 5 → HasBit c 6 → HasBit c 7 → (r : ℕ) → r < 8 → HasBit c r
each_bit c a0 a1 a2 a3 a4 a5 a6 a7 zero below = a0
each_bit c a0 a1 a2 a3 a4 a5 a6 a7 (suc zero) below = a1
each_bit c a0 a1 a2 a3 a4 a5 a6 a7 (suc (suc zero)) below = a2
each_bit c a0 a1 a2 a3 a4 a5 a6 a7 (suc (suc (suc zero))) below = a3
each_bit c a0 a1 a2 a3 a4 a5 a6 a7 (suc (suc (suc (suc zero)))) below = a4
each_bit c a0 a1 a2 a3 a4 a5 a6 a7 (suc (suc (suc (suc (suc zero))))) below = a5
each_bit c a0 a1 a2 a3 a4 a5 a6 a7 (suc (suc (suc (suc (suc (suc zero)))))) below = a6
each_bit c a0 a1 a2 a3 a4 a5 a6 a7 (suc (suc (suc (suc (suc (suc (suc zero))))))) below = a7
each_bit c a0 a1 a2 a3 a4 a5 a6 a7 (suc (suc (suc (suc (suc (suc (suc (suc r)))))))) below = absurd (omega (arith, below))

bits_of : (c : ℕ) → c ≤ 8 → (r : ℕ) → r < 8 → HasBit c r
bits_of zero most = each_bit 0 refl refl refl refl refl refl refl refl
bits_of (suc zero) most = each_bit 1 refl refl refl refl refl refl refl refl
bits_of (suc (suc zero)) most = each_bit 2 refl refl refl refl refl refl refl refl
bits_of (suc (suc (suc zero))) most = each_bit 3 refl refl refl refl refl refl refl refl
bits_of (suc (suc (suc (suc zero)))) most = each_bit 4 refl refl refl refl refl refl refl refl
bits_of (suc (suc (suc (suc (suc zero))))) most = each_bit 5 refl refl refl refl refl refl refl refl
bits_of (suc (suc (suc (suc (suc (suc zero)))))) most = each_bit 6 refl refl refl refl refl refl refl refl
bits_of (suc (suc (suc (suc (suc (suc (suc zero))))))) most = each_bit 7 refl refl refl refl refl refl refl refl
bits_of (suc (suc (suc (suc (suc (suc (suc (suc zero)))))))) most = each_bit 8 refl refl refl refl refl refl refl refl
bits_of (suc (suc (suc (suc (suc (suc (suc (suc (suc c))))))))) most = absurd (omega (arith, most))

-- bytes that are those of a map have its bits
module _ (used : ℕ) (bytes : List ℕ) (same : (k : ℕ) → slice_index bytes k ≡ used_byte used k) where
  is_bit : (i : ℕ) → is_used bytes i ≡ ltb (i % 8) (min 8 (used - 8 * (i / 8)))
  unfolding is_used
  is_bit i = ap (λ (b : ℕ). eqb (b / 2 ^ (7 - i % 8) % 2) 1) (same (i / 8)) ∙ bits_of (min 8 (used - 8 * (i / 8))) (omega arith) (i % 8) (omega arith)

  pub is_below : (i : ℕ) → i < used → is_used bytes i ≡ true
  is_below i below = is_bit i ∙ lt-ltb (i % 8) (min 8 (used - 8 * (i / 8))) (omega (arith, below))

  pub is_past : (i : ℕ) → used ≤ i → is_used bytes i ≡ false
  is_past i over = is_bit i ∙ le-ltb (i % 8) (min 8 (used - 8 * (i / 8))) (omega (arith, over))

joined : (f : ℕ → ℕ) (a m n : ℕ) → map f (range_with_len a m) ++ map f (range_with_len (a + m) n) ≡ map f (range_with_len a (m + n))
joined f a zero n =
    let e : a + 0 ≡ a = omega arith in
    let z : 0 + n ≡ n = omega arith in
    ap (λ (b : ℕ). map f (range_with_len b n)) e ∙ ap (λ (k : ℕ). map f (range_with_len a k)) (sym z)
joined f a (suc m) n =
    let e : a + suc m ≡ a + 1 + m = omega arith in
    let z : suc m + n ≡ suc (m + n) = omega arith in
    ap (λ (b : ℕ). f a ∷ (map f (range_with_len (a + 1) m) ++ map f (range_with_len b n))) e
    ∙ ap (λ (l : List ℕ). f a ∷ l) (joined f (a + 1) m n)
    ∙ ap (λ (k : ℕ). map f (range_with_len a k)) (sym z)

-- pages of a map in a row are its bytes
module _ (used : ℕ) (sector : ℕ → Sector) where
  pub pages_joined : (n : ℕ) → ((k : ℕ) → k < n → (sector k).1 ≡ used_page used k)
      → flat_map (λ (s : Sector). s.1) (map sector (range_with_len 0 n)) ≡ map (used_byte used) (range_with_len 0 (512 * n))
  unfolding used_page
  pages_joined zero each = let e : 512 * 0 ≡ 0 = omega arith in ap (λ (k : ℕ). map (used_byte used) (range_with_len 0 k)) (sym e)
  pages_joined (suc n) each =
      let on : suc n ≡ n + 1 = omega arith in
      let size : 512 * n + 512 ≡ 512 * suc n = omega arith in
      let z : 0 + 512 * n ≡ 512 * n = omega arith in
      ap (λ (k : ℕ). flat_map (λ (s : Sector). s.1) (map sector (range_with_len 0 k))) on
      ∙ ap (flat_map (λ (s : Sector). s.1)) (map-range_with_len_more sector 0 n n (omega arith))
      ∙ flat_map-append (λ (s : Sector). s.1) (map sector (range_with_len 0 n)) (sector n ∷ [])
      ∙ ap (λ (l : List ℕ). l ++ ((sector n).1 ++ [])) (pages_joined n (λ k below. each k (omega (arith, below))))
      ∙ ap (λ (l : List ℕ). map (used_byte used) (range_with_len 0 (512 * n)) ++ l) (append-nil (sector n).1 ∙ each n (omega arith))
      ∙ ap (λ (b : ℕ). map (used_byte used) (range_with_len 0 (512 * n)) ++ map (used_byte used) (range_with_len b 512)) (sym z)
      ∙ joined (used_byte used) 0 (512 * n) 512
      ∙ ap (λ (k : ℕ). map (used_byte used) (range_with_len 0 k)) size

-- a byte of the map, also after its end where all used sectors are in it
pub byte_of : (used n k : ℕ) → used ≤ 8 * n → slice_index (map (used_byte used) (range_with_len 0 n)) k ≡ used_byte used k
byte_of used n k few = either (ltb k n) refl
  where
    nothing : used - 8 * k ≡ 0 → used_byte used k ≡ 0
    nothing e = ap (λ (x : ℕ). high_bits (min 8 x)) e

    either : (t : Bool) → ltb k n ≡ t → slice_index (map (used_byte used) (range_with_len 0 n)) k ≡ used_byte used k
    either true e = get_or-map-range_with_len (used_byte used) 0 n k k 0 (ltb-true k n e) (omega arith)
    either false e =
        let over : n ≤ k = ltb-false k n e in
        get_or_past (map (used_byte used) (range_with_len 0 n)) k 0 (omega (arith, over, length-map-range_with_len (used_byte used) 0 n))
        ∙ sym (nothing (omega (arith, over, few)))
