-- Bits of a list of bytes, one at a time.
use Rattle.std.proofs.Common.{◌≡◌, ◌≢◌, inl, inr, ℕ, zero, suc, ◌+◌, ◌-◌, ◌/◌, ◌%◌, ◌<◌, ◌≤◌, Bool, true, false, not, cond, eqb, List, length, get_or, set, arith, refl, sym, ◌∙◌, ap, length-set, get_or-set_same, get_or-set_other, eq-eqb}
use Rattle.std.proofs.lemmas.Bool.{cases_lt, cases_eq}
use Rattle.std.proofs.lemmas.Nat.Bits.{bit_at_ones, bit_at-zero}
use Rattle.std.proofs.lemmas.List.Sums.{sum_by-cons}
use Rattle.std.specs.List.{range_with_len}
use Rattle.std.specs.Int.{bit_at}
use Rattle.alloc_map.specs.Bits.{is_used, AreAll, free_in, IsMarked}

-- ---- bytes all of whose sectors are alike

pub byte_of_ones : (b : List ℕ) (i s : ℕ) → get_or b i 0 ≡ 255 → s / 8 ≡ i → is_used b s ≡ true
unfolding is_used
byte_of_ones b i s full here =
    ap (λ x. eqb (bit_at (get_or b x 0) (7 - s % 8)) 1) here ∙ ap (λ x. eqb (bit_at x (7 - s % 8)) 1) full ∙ eq-eqb _ 1 (bit_at_ones 8 (7 - s % 8) (omega arith))

pub byte_of_zeros : (b : List ℕ) (i s : ℕ) → get_or b i 0 ≡ 0 → s / 8 ≡ i → is_used b s ≡ false
unfolding is_used
byte_of_zeros b i s none here =
    ap (λ x. eqb (bit_at (get_or b x 0) (7 - s % 8)) 1) here ∙ ap (λ x. eqb (bit_at x (7 - s % 8)) 1) none ∙ ap (λ x. eqb x 1) (bit_at-zero (7 - s % 8))

-- ---- runs of sectors that are alike

pub all_more : (u : Bool) (b : List ℕ) (from mid end : ℕ) → AreAll u b from mid → AreAll u b mid end → AreAll u b from end
all_more u b from mid end first then s above below = elim (cases_lt s mid) [
  | inl early ↦ first s above early
  | inr late ↦ then s (omega arith) below
]

pub all_one : (u : Bool) (b : List ℕ) (at : ℕ) → is_used b at ≡ u → AreAll u b at (at + 1)
all_one u b at is s above below = let same : s ≡ at = omega arith in rw same is

-- to the end of a byte all of whose sectors are alike
pub all_to_next : (u : Bool) (b : List ℕ) (from at : ℕ) → AreAll u b from at → ((s : ℕ) → s / 8 ≡ at / 8 → is_used b s ≡ u) → AreAll u b from (at - at % 8 + 8)
all_to_next u b from at first byte = all_more u b from at (at - at % 8 + 8) first (λ s above below. byte s (omega (arith, above, below)))

-- ---- counts

bit : List ℕ → ℕ → ℕ
bit b s = cond (not (is_used b s)) 1 0

free_in-zero : (b : List ℕ) (from : ℕ) → free_in b from 0 ≡ 0
unfolding free_in
free_in-zero b from = refl

-- the first sector, and those after it
free_in-suc : (b : List ℕ) (from n : ℕ) → free_in b from (suc n) ≡ bit b from + free_in b (from + 1) n
unfolding free_in bit
free_in-suc b from n = sum_by-cons (λ s. cond (not (is_used b s)) 1 0) from (range_with_len (from + 1) n)

bit_used : (b : List ℕ) (s : ℕ) → is_used b s ≡ true → bit b s ≡ 0
unfolding bit
bit_used b s used = ap (λ x. cond (not x) 1 0) used

bit_free : (b : List ℕ) (s : ℕ) → is_used b s ≡ false → bit b s ≡ 1
unfolding bit
bit_free b s free = ap (λ x. cond (not x) 1 0) free

bit_same : (b c : List ℕ) (s t : ℕ) → is_used b s ≡ is_used c t → bit b s ≡ bit c t
unfolding bit
bit_same b c s t same = ap (λ x. cond (not x) 1 0) same

cond-le : (t : Bool) → cond t 1 0 ≤ 1
cond-le true = omega arith
cond-le false = omega arith

bit-le : (b : List ℕ) (s : ℕ) → bit b s ≤ 1
unfolding bit
bit-le b s = cond-le (not (is_used b s))

pub free_in-add : (b : List ℕ) (from m n : ℕ) → free_in b from (m + n) ≡ free_in b from m + free_in b (from + m) n
free_in-add b from zero n =
    let all : 0 + n ≡ n = omega arith in
    let here : from ≡ from + 0 = omega arith in
    let same : free_in b from n ≡ free_in b (from + 0) n = ap (λ x. free_in b x n) here in
    ap (free_in b from) all ∙ (omega (arith, same, free_in-zero b from))
free_in-add b from (suc m) n =
    let all : suc m + n ≡ suc (m + n) = omega arith in
    let place : (from + 1) + m ≡ from + suc m = omega arith in
    let rest = free_in-add b (from + 1) m n in
    let moved : free_in b ((from + 1) + m) n ≡ free_in b (from + suc m) n = ap (λ x. free_in b x n) place in
    ap (free_in b from) all ∙ (omega (arith, free_in-suc b from (m + n), rest, moved, free_in-suc b from m))

pub free_in_used : (b : List ℕ) (from n : ℕ) → AreAll true b from (from + n) → free_in b from n ≡ 0
free_in_used b from zero all = free_in-zero b from
free_in_used b from (suc n) all =
    let first = bit_used b from (all from (omega arith) (omega arith)) in
    let rest = free_in_used b (from + 1) n (λ s above below. all s (omega (arith, above)) (omega (arith, below))) in
    omega (arith, free_in-suc b from n, first, rest)

pub free_in_free : (b : List ℕ) (from n : ℕ) → AreAll false b from (from + n) → free_in b from n ≡ n
free_in_free b from zero all = free_in-zero b from
free_in_free b from (suc n) all =
    let first = bit_free b from (all from (omega arith) (omega arith)) in
    let rest = free_in_free b (from + 1) n (λ s above below. all s (omega (arith, above)) (omega (arith, below))) in
    omega (arith, free_in-suc b from n, first, rest)

pub free_in_one : (b : List ℕ) (at : ℕ) → is_used b at ≡ false → free_in b at 1 ≡ 1
free_in_one b at free = omega (arith, free_in-suc b at 0, bit_free b at free, free_in-zero b (at + 1))

pub free_in_le : (b : List ℕ) (from n : ℕ) → free_in b from n ≤ n
free_in_le b from zero = omega (arith, free_in-zero b from)
free_in_le b from (suc n) = omega (arith, free_in-suc b from n, bit-le b from, free_in_le b (from + 1) n)

pub free_in_same : (b c : List ℕ) (f g n : ℕ) → ((k : ℕ) → k < n → is_used b (f + k) ≡ is_used c (g + k)) → free_in b f n ≡ free_in c g n
free_in_same b c f g zero same = free_in-zero b f ∙ sym (free_in-zero c g)
free_in_same b c f g (suc n) same =
    let here : f ≡ f + 0 = omega arith in
    let there : g + 0 ≡ g = omega arith in
    let first = bit_same b c f g (ap (is_used b) here ∙ same 0 (omega arith) ∙ ap (is_used c) there) in
    let next : (k : ℕ) → k < n → is_used b ((f + 1) + k) ≡ is_used c ((g + 1) + k) = λ k below.
    let one : (f + 1) + k ≡ f + suc k = omega arith in
    let other : g + suc k ≡ (g + 1) + k = omega arith in
    ap (is_used b) one ∙ same (suc k) (omega (arith, below)) ∙ ap (is_used c) other in
    omega (arith, free_in-suc b f n, free_in-suc c g n, first, free_in_same b c (f + 1) (g + 1) n next)

-- a count that goes on
pub count_more : (b : List ℕ) (from at next : ℕ) → from ≤ at → at ≤ next → free_in b from (next - from) ≡ free_in b from (at - from) + free_in b at (next - at)
count_more b from at next low high =
    let whole : next - from ≡ (at - from) + (next - at) = omega (arith, low, high) in
    let place : from + (at - from) ≡ at = omega (arith, low) in
    ap (free_in b from) whole ∙ free_in-add b from (at - from) (next - at) ∙ ap (λ x. free_in b from (at - from) + free_in b x (next - at)) place

pub count_skips : (b : List ℕ) (from at next : ℕ) → from ≤ at → at ≤ next → AreAll true b at next → free_in b from (next - from) ≡ free_in b from (at - from)
count_skips b from at next low high all =
    count_more b from at next low high
    ∙ ap (λ x. free_in b from (at - from) + x) (free_in_used b at (next - at) (λ s above below. all s above (omega (arith, below, high)))) ∙ (omega arith)

pub count_one : (b : List ℕ) (from at : ℕ) → from ≤ at → is_used b at ≡ false → free_in b from (at + 1 - from) ≡ free_in b from (at - from) + 1
count_one b from at low free =
    let one : (at + 1) - at ≡ 1 = omega arith in
    count_more b from at (at + 1) low (omega arith)
    ∙ ap (λ x. free_in b from (at - from) + free_in b at x) one ∙ ap (λ x. free_in b from (at - from) + x) (free_in_one b at free)

pub count_none : (b : List ℕ) (from : ℕ) → free_in b from (from - from) ≡ 0
count_none b from = let none : from - from ≡ 0 = omega arith in ap (free_in b from) none ∙ (free_in_used b from 0 (λ s above below. absurd (omega (arith, above, below))))

-- ---- marks

pub marked_one : (u : Bool) (old : List ℕ) (s v : ℕ) → s / 8 < length old → eqb (bit_at v (7 - s % 8)) 1 ≡ u
    → ((i : ℕ) → i < 8 → i ≢ 7 - s % 8 → bit_at v i ≡ bit_at (get_or old (s / 8) 0) i) → IsMarked u old (set old (s / 8) v) s (s + 1)
unfolding is_used
marked_one u old s v inside here apart = record {
  same_length = length-set old (s / 8) v;
  marked = λ t above below. let same : t ≡ s = omega arith in rw same (ap (λ x. eqb (bit_at x (7 - s % 8)) 1) (get_or-set_same old (s / 8) v 0 inside) ∙ here);
  others = λ t out.
      let other : t ≢ s = elim out [ inl low ↦ λ e. omega (arith, low, e) | inr high ↦ λ e. omega (arith, high, e) ] in
      elim (cases_eq (t / 8) (s / 8)) [
        | inl byte ↦
            let bit : 7 - t % 8 ≢ 7 - s % 8 = λ e. other (omega (arith, e, byte)) in
            ap (λ x. eqb (bit_at (get_or (set old (s / 8) v) x 0) (7 - t % 8)) 1) byte
            ∙ ap (λ x. eqb (bit_at x (7 - t % 8)) 1) (get_or-set_same old (s / 8) v 0 inside)
            ∙ ap (λ x. eqb x 1) (apart (7 - t % 8) (omega arith) bit)
            ∙ ap (λ x. eqb (bit_at (get_or old x 0) (7 - t % 8)) 1) (sym byte)
        | inr byte ↦ ap (λ x. eqb (bit_at x (7 - t % 8)) 1) (get_or-set_other old (s / 8) (t / 8) v 0 byte)
      ];
}

pub marked_none : (u : Bool) (b : List ℕ) (at : ℕ) → IsMarked u b b at at
marked_none u b at = record { same_length = refl; marked = λ s above below. absurd (omega (arith, above, below)); others = λ s out. refl }

pub marked_more : (u : Bool) (a b c : List ℕ) (from mid end : ℕ) → from ≤ mid → mid ≤ end → IsMarked u a b from mid → IsMarked u b c mid end → IsMarked u a c from end
marked_more u a b c from mid end low high first then = record {
  same_length = then.same_length ∙ first.same_length;
  marked = λ s above below. elim (cases_lt s mid) [
    | inl early ↦ then.others s (inl early) ∙ first.marked s above early
    | inr late ↦ then.marked s (omega arith) below
  ];
  others = λ s out. elim out [
    | inl before ↦ then.others s (inl (omega (arith, before, low))) ∙ first.others s (inl before)
    | inr after ↦ then.others s (inr after) ∙ first.others s (inr (omega (arith, after, high)))
  ];
}
