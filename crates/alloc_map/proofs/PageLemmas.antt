-- The sectors of a page of the map, in the page and in the whole.
use Rattle.std.proofs.Common.{◌≡◌, ◌⊎◌, inl, inr, ℕ, ◌+◌, ◌-◌, ◌*◌, ◌/◌, ◌%◌, ◌<◌, ◌≤◌, Bool, eqb, List, length, get_or, drop, arith, sym, ◌∙◌, ap}
use Rattle.std.proofs.lemmas.Bool.{cases_lt}
use Rattle.std.proofs.lemmas.List.{get_or-take, get_or-drop, places}
use Rattle.std.specs.Int.{bit_at}
use Rattle.flat_mem.specs.Memory.{part, overwritten}
use Rattle.flat_mem.specs.Parts.{length-overwritten, length-part}
use Rattle.alloc_map.specs.Bits.{is_used, AreAll, free_in, IsMarked}
use Rattle.alloc_map.proofs.BitLemmas.{free_in_same}

-- a sector of the page, and the same of the whole
pub used_in_part : (b : List ℕ) (n k s : ℕ) → k < 4096 → s ≡ 4096 * n + k → is_used (part b (512 * n) 512) k ≡ is_used b s
unfolding is_used
used_in_part b n k s below place =
    let byte : 512 * n + k / 8 ≡ s / 8 = omega arith in
    let bit : k % 8 ≡ s % 8 = omega arith in
    ap (λ x. eqb (bit_at x (7 - k % 8)) 1) (get_or-take 512 (drop (512 * n) b) (k / 8) 0 (omega arith) ∙ get_or-drop (512 * n) b (k / 8) 0)
    ∙ ap (λ x. eqb (bit_at (get_or b x 0) (7 - k % 8)) 1) byte ∙ ap (λ x. eqb (bit_at (get_or b (s / 8) 0) (7 - x)) 1) bit

module _ (b page : List ℕ) (at : ℕ) (read : page ≡ part b (512 * (at / 4096)) 512) where
  -- sector k of the page of the sector `at`
  pub used_in_page : (k s : ℕ) → k < 4096 → s ≡ 4096 * (at / 4096) + k → is_used page k ≡ is_used b s
  used_in_page k s below place = ap (λ x. is_used x k) read ∙ used_in_part b (at / 4096) k s below place

  pub all_in_page : (u : Bool) (f : ℕ) → f ≤ 4096 → AreAll u page (at % 4096) f → AreAll u b at (at + (f - at % 4096))
  all_in_page u f fits all s above below =
      let k : ℕ = s - 4096 * (at / 4096) in
      let low : at % 4096 ≤ k = omega arith in
      let high : k < f = omega (arith, above, below) in
      sym (used_in_page k s (omega (arith, high, fits)) (omega (arith, above))) ∙ all k low high

  pub found_in_page : (u : Bool) (f : ℕ) → at % 4096 ≤ f → f < 4096 → is_used page f ≡ u → is_used b (at + (f - at % 4096)) ≡ u
  found_in_page u f low fits is = sym (used_in_page f (at + (f - at % 4096)) fits (omega arith)) ∙ is

  pub free_in_page : (n : ℕ) → at % 4096 + n ≤ 4096 → free_in page (at % 4096) n ≡ free_in b at n
  free_in_page n fits = free_in_same page b (at % 4096) at n (λ k below. used_in_page (at % 4096 + k) (at + k) (omega (arith, fits, below)) (omega arith))

get_or-overwritten_prefix : (b piece : List ℕ) (at i : ℕ) → at + length piece ≤ length b → i < at → get_or (overwritten b at piece) i 0 ≡ get_or b i 0
get_or-overwritten_prefix b piece at i fits prefix = grind (arith, places)

get_or-overwritten_after : (b piece : List ℕ) (at i : ℕ) → at + length piece ≤ length b → at + length piece ≤ i → get_or (overwritten b at piece) i 0 ≡ get_or b i 0
get_or-overwritten_after b piece at i fits after = grind (arith, places)

-- ---- bytes of a page that are read, marked and written back

get_or-part : (b : List ℕ) (from len i : ℕ) → i < len → get_or (part b from len) i 0 ≡ get_or b (from + i) 0
get_or-part b from len i below = get_or-take len (drop from b) i 0 below ∙ get_or-drop from b i 0

get_or-overwritten_piece : (b piece : List ℕ) (at i : ℕ) → at + length piece ≤ length b → at ≤ i → i < at + length piece → get_or (overwritten b at piece) i 0 ≡ get_or piece (i - at) 0
get_or-overwritten_piece b piece at i fits above below = grind (arith, places)

-- sectors whose bytes are the same
used_by_byte : (b c : List ℕ) (s k : ℕ) → get_or b (s / 8) 0 ≡ get_or c (k / 8) 0 → s % 8 ≡ k % 8 → is_used b s ≡ is_used c k
unfolding is_used
used_by_byte b c s k byte bit = ap (λ x. eqb (bit_at x (7 - s % 8)) 1) byte ∙ ap (λ x. eqb (bit_at (get_or c (k / 8) 0) (7 - x)) 1) bit

-- the sector k of page n, whose byte is one of those from `first` up to `last`
module _ (b page : List ℕ) (n first last : ℕ) (read : part page first (last - first) ≡ part b (512 * n + first) (last - first)) where
  used_as_read : (k : ℕ) → first ≤ k / 8 → k / 8 < last → is_used page k ≡ is_used b (4096 * n + k)
  used_as_read k low high =
      let i : ℕ = k / 8 - first in
      let below : i < last - first = omega (arith, low, high) in
      let here : first + i ≡ k / 8 = omega (arith, low) in
      let there : 512 * n + first + i ≡ (4096 * n + k) / 8 = omega (arith, low) in
      used_by_byte page b k (4096 * n + k)
      (ap (λ x. get_or page x 0) (sym here) ∙ sym (get_or-part page first (last - first) i below) ∙ ap (λ x. get_or x i 0) read
      ∙ get_or-part b (512 * n + first) (last - first) i below ∙ ap (λ x. get_or b x 0) there)
      (omega arith)

module _ (b new : List ℕ) (n first last : ℕ) (fits : 512 * n + 512 ≤ length b) (long : length new ≡ 512) (order : first ≤ last) (most : last ≤ 512) where
  abbrev written : List ℕ
  written = overwritten b (512 * n + first) (part new first (last - first))

  piece_long : length (part new first (last - first)) ≡ last - first
  piece_long = length-part new first (last - first) (omega (arith, long, order, most))

  used_as_written : (k : ℕ) → first ≤ k / 8 → k / 8 < last → is_used written (4096 * n + k) ≡ is_used new k
  used_as_written k low high =
      let i : ℕ = k / 8 - first in
      let below : i < last - first = omega (arith, low, high) in
      let here : first + i ≡ k / 8 = omega (arith, low) in
      let byte : (4096 * n + k) / 8 ≡ 512 * n + first + i = omega (arith, low) in
      used_by_byte written new (4096 * n + k) k
      (ap (λ x. get_or written x 0) byte
      ∙ get_or-overwritten_piece b (part new first (last - first)) (512 * n + first) (512 * n + first + i) (omega (arith, piece_long, fits, order, most)) (omega arith) (omega (arith, piece_long, below))
      ∙ ap (λ x. get_or (part new first (last - first)) x 0) (omega arith) ∙ get_or-part new first (last - first) i below ∙ ap (λ x. get_or new x 0) here)
      (omega arith)

  used_before : (s : ℕ) → s / 8 < 512 * n + first → is_used written s ≡ is_used b s
  used_before s low = used_by_byte written b s s (get_or-overwritten_prefix b (part new first (last - first)) (512 * n + first) (s / 8) (omega (arith, piece_long, fits, order, most)) low) (omega arith)

  used_after : (s : ℕ) → 512 * n + last ≤ s / 8 → is_used written s ≡ is_used b s
  used_after s high = used_by_byte written b s s (get_or-overwritten_after b (part new first (last - first)) (512 * n + first) (s / 8) (omega (arith, piece_long, fits, order, most)) (omega (arith, piece_long, high, order))) (omega arith)

-- marks in bytes of a page that are written back
pub marked_in_bytes : (u : Bool) (b page new : List ℕ) (n at stop from end first last : ℕ) → at ≡ 4096 * n + from → stop ≡ 4096 * n + end → from < end → end ≤ 4096
    → first ≡ from / 8 → last ≡ (end - 1) / 8 + 1
    → part page first (last - first) ≡ part b (512 * n + first) (last - first) → 512 * n + 512 ≤ length b → length new ≡ 512
    → IsMarked u page new from end → IsMarked u b (overwritten b (512 * n + first) (part new first (last - first))) at stop
marked_in_bytes u b page new n at stop from end first last starts stops some inside begins ends read fits long marks =
    let order : first ≤ last = omega (arith, begins, ends, some) in
    let most : last ≤ 512 = omega (arith, ends, inside) in
    let piece_fits : 512 * n + first + length (part new first (last - first)) ≤ length b = omega (arith, piece_long b new n first last fits long order most, fits, order, most) in
    record {
      same_length = length-overwritten b (part new first (last - first)) (512 * n + first) piece_fits;
      marked = λ s above below.
          let k : ℕ = s - 4096 * n in
          let place : s ≡ 4096 * n + k = omega (arith, starts, above) in
          let low : first ≤ k / 8 = omega (arith, starts, begins, above) in
          let high : k / 8 < last = omega (arith, starts, stops, ends, above, below) in
          ap (is_used _) place ∙ used_as_written b new n first last fits long order most k low high
          ∙ marks.marked k (omega (arith, starts, above)) (omega (arith, starts, stops, above, below));
      others = λ s out. elim (cases_lt (s / 8) (512 * n + first)) [
        | inl before ↦ used_before b new n first last fits long order most s before
        | inr above ↦ elim (cases_lt (s / 8) (512 * n + last)) [
          | inr after ↦ used_after b new n first last fits long order most s after
          | inl below ↦
              let k : ℕ = s - 4096 * n in
              let place : s ≡ 4096 * n + k = omega (arith, above) in
              let low : first ≤ k / 8 = omega (arith, above) in
              let high : k / 8 < last = omega (arith, above, below) in
              let apart : (k < from) ⊎ (end ≤ k) = elim out [
                | inl less ↦ inl (omega (arith, starts, less, above))
                | inr more ↦ inr (omega (arith, stops, more))
              ] in
              ap (is_used _) place ∙ used_as_written b new n first last fits long order most k low high ∙ marks.others k apart
              ∙ used_as_read b page n first last read k low high ∙ ap (is_used b) (sym place)
        ]
      ];
    }
