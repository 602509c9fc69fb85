-- Numbers in a page, by its units.
use Rattle.std.proofs.Common.{◌≡◌, ℕ, zero, suc, ◌+◌, ◌*◌, ◌^◌, ◌<◌, ◌≤◌, List, take, drop, refl, sym, ◌∙◌, ap, subst, arith, get_or}
use Rattle.std.specs.Prelude.{slice_range}
use Rattle.std.proofs.lemmas.List.{get_or-take, get_or-drop, take-take}
use Rattle.byteorder.specs.Endian.{big_from, big_number}
use Rattle.cut_words.specs.Cut.{unit}

pub same_byte : (u a : ℕ) (xs ys : List ℕ) → a < 16 → unit u xs ≡ unit u ys → get_or xs (16 * u + a) 0 ≡ get_or ys (16 * u + a) 0
same_byte u a xs ys low same = sym (byte xs) ∙ ap (λ (l : List ℕ). get_or l a 0) same ∙ byte ys
  where
    byte : (zs : List ℕ) → get_or (unit u zs) a 0 ≡ get_or zs (16 * u + a) 0
    byte zs = get_or-take 16 (drop (16 * u) zs) a 0 low ∙ get_or-drop (16 * u) zs a 0

pub big_same : (i n k : ℕ) (xs ys : List ℕ) → ((m : ℕ) → i ≤ m → m < i + n → get_or xs (k + m) 0 ≡ get_or ys (k + m) 0) → big_from i n (drop k xs) ≡ big_from i n (drop k ys)
big_same i zero k xs ys same = refl
big_same i (suc n) k xs ys same =
    let first : get_or (drop k xs) i 0 ≡ get_or (drop k ys) i 0 = get_or-drop k xs i 0 ∙ same i (omega arith) (omega arith) ∙ sym (get_or-drop k ys i 0) in
    let rest = big_same (suc i) n k xs ys (λ m low high. same m (omega (arith, low)) (omega (arith, high))) in
    ap (λ (b : ℕ). b * 256 ^ n + big_from (suc i) n (drop k xs)) first ∙ ap (λ (b : ℕ). get_or (drop k ys) i 0 * 256 ^ n + b) rest

pub number_same : (u a n : ℕ) (xs ys : List ℕ) → a + n ≤ 16 → unit u xs ≡ unit u ys → big_number n (drop (16 * u + a) xs) ≡ big_number n (drop (16 * u + a) ys)
number_same u a n xs ys fits same = big_same 0 n (16 * u + a) xs ys byte
  where
    byte : (m : ℕ) → 0 ≤ m → m < 0 + n → get_or xs (16 * u + a + m) 0 ≡ get_or ys (16 * u + a + m) 0
    byte m low high =
        let z : 16 * u + (a + m) ≡ 16 * u + a + m = omega arith in
        subst (λ (k : ℕ). get_or xs k 0 ≡ get_or ys k 0) z (same_byte u (a + m) xs ys (omega (arith, fits, high)) same)

pub prefix_same : (xs ys : List ℕ) → unit 0 xs ≡ unit 0 ys → slice_range xs 0 8 ≡ slice_range ys 0 8
prefix_same xs ys same = sym (take-take 8 16 xs (omega arith)) ∙ ap (λ (l : List ℕ). take 8 l) same ∙ take-take 8 16 ys (omega arith)
