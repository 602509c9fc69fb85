-- Keys that are compared by the numbers in their first bytes.
use Rattle.std.proofs.Common.{◌≡◌, ◌≢◌, inl, inr, ℕ, zero, suc, ◌+◌, ◌-◌, ◌*◌, ◌<◌, ◌≤◌, ◌^◌, List, [], ◌∷◌, length, take, drop, slice_index, nat_lt, nat_le, refl, sym, ◌∙◌, ap, arith}
use Rattle.std.proofs.lemmas.Bool.{cases_lt, cases_eq, lt-ltb, le-ltb, le-leb, lt-leb}
use Rattle.std.proofs.lemmas.List.{length-drop}
use Rattle.std.proofs.lemmas.Nat.{mul-le}
use Rattle.std.proofs.Math.Seq.{take-length, drop-length}
use Rattle.byteorder.specs.Endian.{big_from}
use Rattle.byteorder.specs.Numbers.{big_from-cons, big_from-lt}
use Rattle.std.specs.Ordering.{nat_cmp, is_le}
use Rattle.std.specs.Cmp.{nat_cmp_is}
use Rattle.std.specs.Cmp.Lexicographic.{slice_cmp}
use Rattle.flat_mem.specs.Memory.{part}
use Rattle.std.specs.declared.cmp.Ordering.{Ordering}
use Rattle.std.specs.declared.cmp.Ordering.TheVariants.{Less, Equal, Greater}

less_first : (a b : ℕ) (xs ys : List ℕ) → a < b → slice_cmp nat_cmp (a ∷ xs) (b ∷ ys) ≡ Less
less_first a b xs ys h = rw (← nat_cmp_is a b Less h) refl

same_first : (a b : ℕ) (xs ys : List ℕ) → a ≡ b → slice_cmp nat_cmp (a ∷ xs) (b ∷ ys) ≡ slice_cmp nat_cmp xs ys
same_first a b xs ys h = rw (← nat_cmp_is a b Equal h) refl

more_first : (a b : ℕ) (xs ys : List ℕ) → b < a → slice_cmp nat_cmp (a ∷ xs) (b ∷ ys) ≡ Greater
more_first a b xs ys h = rw (← nat_cmp_is a b Greater h) refl

-- how lists compare that have two numbers in their first bytes, and what is after these
record IsCompared (x y : ℕ) (both rest : Ordering) : Type 0 where
  less : x < y → both ≡ Less
  same : x ≡ y → both ≡ rest
  more : y < x → both ≡ Greater

-- a byte more before
compared_more : (a b c x y n m : ℕ) (xs ys : List ℕ) (rest : Ordering) → n ≡ a * c + x → m ≡ b * c + y → x < c → y < c
    → IsCompared x y (slice_cmp nat_cmp xs ys) rest → IsCompared n m (slice_cmp nat_cmp (a ∷ xs) (b ∷ ys)) rest
compared_more a b c x y n m xs ys rest n_is m_is x_below y_below inner = elim (cases_lt a b) [
  | inl low ↦
      let far : (a + 1) * c ≤ b * c = mul-le (a + 1) c b c (omega (arith, low)) (omega arith) in
      let before : n < m = omega (arith, far, n_is, m_is, x_below) in
      record {
        less = λ _. less_first a b xs ys low;
        same = λ is. absurd (omega (arith, is, before));
        more = λ is. absurd (omega (arith, is, before));
      }
  | inr not ↦ elim (cases_eq a b) [
    | inl here ↦
        let both : a * c ≡ b * c = ap (λ (t : ℕ). t * c) here in
        record {
          less = λ is. same_first a b xs ys here ∙ inner.less (omega (arith, both, n_is, m_is, is));
          same = λ is. same_first a b xs ys here ∙ inner.same (omega (arith, both, n_is, m_is, is));
          more = λ is. same_first a b xs ys here ∙ inner.more (omega (arith, both, n_is, m_is, is));
        }
    | inr other ↦
        let high : b < a = omega (arith, not, other) in
        let far : (b + 1) * c ≤ a * c = mul-le (b + 1) c a c (omega (arith, high)) (omega arith) in
        let after : m < n = omega (arith, far, n_is, m_is, y_below) in
        record {
          less = λ is. absurd (omega (arith, is, after));
          same = λ is. absurd (omega (arith, is, after));
          more = λ _. more_first a b xs ys high;
        }
  ]
]

-- what is below 256 at each place of a list is so in its rest
rest_fits : (x : ℕ) (xs : List ℕ) → ((k : ℕ) → slice_index (x ∷ xs) k < 256) → (k : ℕ) → slice_index xs k < 256
rest_fits x xs fits k = fits (suc k)

compared : (n : ℕ) (xs ys : List ℕ) → n ≤ length xs → n ≤ length ys → ((k : ℕ) → slice_index xs k < 256) → ((k : ℕ) → slice_index ys k < 256)
    → IsCompared (big_from 0 n xs) (big_from 0 n ys) (slice_cmp nat_cmp xs ys) (slice_cmp nat_cmp (drop n xs) (drop n ys))
compared zero xs ys _ _ _ _ = record { less = λ h. absurd (omega (arith, h)); same = λ _. refl; more = λ h. absurd (omega (arith, h)) }
compared (suc n) [] ys long _ _ _ = absurd (omega (arith, long))
compared (suc n) (x ∷ xs) [] _ long _ _ = absurd (omega (arith, long))
compared (suc n) (x ∷ xs) (y ∷ ys) long also fits fit =
    compared_more x y (256 ^ n) (big_from 0 n xs) (big_from 0 n ys) _ _ xs ys _
    (ap (λ (r : ℕ). x * 256 ^ n + r) (big_from-cons 0 n x xs)) (ap (λ (r : ℕ). y * 256 ^ n + r) (big_from-cons 0 n y ys))
    (big_from-lt 0 n xs (rest_fits x xs fits)) (big_from-lt 0 n ys (rest_fits y ys fit))
    (compared n xs ys (omega (arith, long)) (omega (arith, also)) (rest_fits x xs fits) (rest_fits y ys fit))

-- the first eight bytes as numbers, which differ
pub other_numbers : (xs ys : List ℕ) (x y : ℕ) → 8 ≤ length xs → 8 ≤ length ys → ((k : ℕ) → slice_index xs k < 256) → ((k : ℕ) → slice_index ys k < 256)
    → x ≡ big_from 0 8 xs → y ≡ big_from 0 8 ys → x ≢ y → nat_lt x y ≡ is_le (slice_cmp nat_cmp xs ys)
other_numbers xs ys x y long also fits fit x_is y_is apart =
    let both = compared 8 xs ys long also fits fit in
    elim (cases_lt x y) [
      | inl low ↦ lt-ltb x y low ∙ sym (ap is_le (both.less (omega (arith, low, x_is, y_is))))
      | inr not ↦ elim (cases_eq x y) [
        | inl is ↦ absurd (apart is)
        | inr more ↦ le-ltb x y not ∙ sym (ap is_le (both.more (omega (arith, not, more, x_is, y_is))))
      ]
    ]

-- what is left of a list behind its first eight
rest_of : (xs : List ℕ) → take (length xs - 8) (drop 8 xs) ≡ drop 8 xs
rest_of xs = ap (λ (n : ℕ). take n (drop 8 xs)) (sym (length-drop 8 xs)) ∙ take-length (drop 8 xs)

-- which are the same
pub same_numbers : (xs ys : List ℕ) (x y : ℕ) → 8 ≤ length xs → 8 ≤ length ys → ((k : ℕ) → slice_index xs k < 256) → ((k : ℕ) → slice_index ys k < 256)
    → x ≡ big_from 0 8 xs → y ≡ big_from 0 8 ys → x ≡ y
    → is_le (slice_cmp nat_cmp (take (length xs - 8) (drop 8 xs)) (take (length ys - 8) (drop 8 ys))) ≡ is_le (slice_cmp nat_cmp xs ys)
same_numbers xs ys x y long also fits fit x_is y_is same =
    rw (rest_of xs, rest_of ys) (sym (ap is_le ((compared 8 xs ys long also fits fit).same (sym x_is ∙ same ∙ y_is))))

-- a list whose numbers are bytes
abbrev AreBytes : List ℕ → Type 0
AreBytes xs = (k : ℕ) → slice_index xs k < 256

bytes_drop : (n : ℕ) (xs : List ℕ) → AreBytes xs → AreBytes (drop n xs)
bytes_drop zero xs fits k = fits k
bytes_drop (suc n) [] fits k = fits k
bytes_drop (suc n) (x ∷ xs) fits k = bytes_drop n xs (rest_fits x xs fits) k

bytes_take : (n : ℕ) (xs : List ℕ) → AreBytes xs → AreBytes (take n xs)
bytes_take zero xs fits k = omega arith
bytes_take (suc n) [] fits k = fits k
bytes_take (suc n) (x ∷ xs) fits zero = fits 0
bytes_take (suc n) (x ∷ xs) fits (suc k) = bytes_take n xs (rest_fits x xs fits) k

-- so is each part of it
pub part_fits : (xs : List ℕ) (at len : ℕ) → ((k : ℕ) → slice_index xs k < 256) → (k : ℕ) → slice_index (part xs at len) k < 256
part_fits xs at len fits = bytes_take len (drop at xs) (bytes_drop at xs fits)

-- what comes after the first four of four bytes
none_left : (xs : List ℕ) → length xs ≡ 4 → drop 4 xs ≡ []
none_left xs four = ap (λ (n : ℕ). drop n xs) (sym four) ∙ drop-length xs

-- four bytes as numbers
pub four_numbers : (xs ys : List ℕ) (x y : ℕ) → length xs ≡ 4 → length ys ≡ 4 → ((k : ℕ) → slice_index xs k < 256) → ((k : ℕ) → slice_index ys k < 256)
    → x ≡ big_from 0 4 xs → y ≡ big_from 0 4 ys → nat_le x y ≡ is_le (slice_cmp nat_cmp xs ys)
four_numbers xs ys x y four also fits fit x_is y_is =
    let both = compared 4 xs ys (omega (arith, four)) (omega (arith, also)) fits fit in
    let ends : slice_cmp nat_cmp (drop 4 xs) (drop 4 ys) ≡ Equal = rw (none_left xs four, none_left ys also) refl in
    elim (cases_lt y x) [
      | inl high ↦ lt-leb x y high ∙ sym (ap is_le (both.more (omega (arith, high, x_is, y_is))))
      | inr not ↦ elim (cases_eq x y) [
        | inl is ↦ le-leb x y not ∙ sym (ap is_le (both.same (sym x_is ∙ is ∙ y_is) ∙ ends))
        | inr other ↦ le-leb x y not ∙ sym (ap is_le (both.less (omega (arith, not, other, x_is, y_is))))
      ]
    ]
