-- What a written page leaves of the entries.
use Rattle.std.proofs.Common.{inl, inr, ◌≡◌, ◌⊎◌, ℕ, ◌+◌, ◌-◌, ◌*◌, ◌/◌, ◌%◌, ◌<◌, ◌≤◌, List, length, arith, sym, ◌∙◌, ap}
use Rattle.std.proofs.lemmas.Bool.{cases_lt}
use Rattle.std.proofs.lemmas.Nat.{mul-le, div-add-mod', mod_below}
use Rattle.flat_mem.specs.Memory.{part, overwritten}
use Rattle.flat_mem.specs.Parts.{part-part, part-overwritten_below, part-overwritten_above, part-overwritten_same}
use Rattle.record_table.specs.Table.{place, per_page, entry}
use Rattle.record_table.specs.Pages.{IsPushed, IsPulled}
use Rattle.record_table.specs.Moves.{first_place_after, MovesUp, MovesDown}
use Rattle.record_table.proofs.Places.{place_in_page, per_page_some, ends_in_page, below_from_product}

module _ (e : ℕ) (some : 1 ≤ e) (most : e ≤ 64) where
  page_some : 0 < per_page e
  page_some = per_page_some e some most

  slots_fit : (j : ℕ) → j < per_page e → e * j + e ≤ 512
  slots_fit j below = omega (arith, mul-le e (j + 1) e (per_page e) (omega arith) (omega (arith, below)), div-add-mod' 512 e)

  -- an entry by its page and slot
  in_slot : (b : List ℕ) (q i : ℕ) → q * per_page e ≤ i → i < (q + 1) * per_page e → entry e b i ≡ part (part b (512 * q) 512) (e * (i - q * per_page e)) e
  in_slot b q i from below =
      let at : i ≡ q * per_page e + (i - q * per_page e) = omega (arith, from) in
      let inside : i - q * per_page e < per_page e = omega (arith, from, below) in
      ap (entry e b) at ∙ ap (λ (x : ℕ). part b x e) (place_in_page e q (i - q * per_page e) inside)
      ∙ sym (part-part b (512 * q) 512 (e * (i - q * per_page e)) e (slots_fit (i - q * per_page e) inside))

  -- entries of other pages stay
  in_other_page : (b page : List ℕ) (q i : ℕ) → length page ≡ 512 → 512 * q + 512 ≤ length b → (i < q * per_page e) ⊎ ((q + 1) * per_page e ≤ i) → entry e (overwritten b (512 * q) page) i ≡ entry e b i
  unfolding place
  in_other_page b page q i long fits (inl before) =
      let row : i / per_page e < q = below_from_product (i / per_page e) q (per_page e) (omega (arith, div-add-mod' i (per_page e), before)) in
      part-overwritten_below b page (512 * q) _ e (omega (arith, row, ends_in_page e i page_some)) (omega (arith, long, fits))
  in_other_page b page q i long fits (inr after) =
      let row : q + 1 < i / per_page e + 1 = below_from_product (q + 1) (i / per_page e + 1) (per_page e) (omega (arith, div-add-mod' i (per_page e), mod_below i (per_page e) page_some, after)) in
      part-overwritten_above b page (512 * q) _ e (omega (arith, long, row)) (omega (arith, long, fits))

  module _ (b page piece taken : List ℕ) (at : ℕ) (reveals : List ℕ → Type 0) (long : length page ≡ 512) (fits : 512 * (at / per_page e) + 512 ≤ length b)
      (revealed : reveals (overwritten b (512 * (at / per_page e)) page)) where
    abbrev now : List ℕ
    now = overwritten b (512 * (at / per_page e)) page

    abbrev first : ℕ
    first = at / per_page e * per_page e

    split : at ≡ first + at % per_page e
    split = omega (arith, div-add-mod' at (per_page e))

    inside : at % per_page e < per_page e
    inside = mod_below at (per_page e) page_some

    written : (i : ℕ) → first ≤ i → i < first_place_after e at → entry e now i ≡ part page (e * (i - first)) e
    written i from below =
        in_slot now (at / per_page e) i from below ∙ ap (λ (x : List ℕ). part x (e * (i - first)) e) (part-overwritten_same b page (512 * (at / per_page e)) 512 long (omega (arith, long, fits)))

    -- an entry whose slot stays
    stays : (i : ℕ) → first ≤ i → i < first_place_after e at → part page (e * (i - first)) e ≡ part (part b (512 * (at / per_page e)) 512) (e * (i - first)) e → entry e now i ≡ entry e b i
    stays i from below same = written i from below ∙ same ∙ sym (in_slot b (at / per_page e) i from below)

    others : ((j : ℕ) → j < at % per_page e → part page (e * j) e ≡ part (part b (512 * (at / per_page e)) 512) (e * j) e) → (i : ℕ) → (i < at) ⊎ (first_place_after e at ≤ i) → entry e now i ≡ entry e b i
    others below i (inr after) = in_other_page b page (at / per_page e) i long fits (inr after)
    others below i (inl before) = elim (cases_lt i first) [
      | inl prefix ↦ in_other_page b page (at / per_page e) i long fits (inl prefix)
      | inr from ↦ stays i from (omega (arith, before, split, inside)) (below (i - first) (omega (arith, before, split, from)))
    ]

    pub moves_up : IsPushed e (at % per_page e) (part b (512 * (at / per_page e)) 512) page piece taken → MovesUp e reveals b at piece taken
    moves_up pushed = record {
      now = now;
      revealed = revealed;
      others = others pushed.below;
      here =
          let slot : at - first ≡ at % per_page e = omega (arith, split) in
          written at (omega (arith, split)) (omega (arith, split, inside)) ∙ ap (λ (j : ℕ). part page (e * j) e) slot ∙ pushed.here;
      moved = λ i from more.
          let slot : (i + 1) - first ≡ (i - first) + 1 = omega (arith, from, split) in
          written (i + 1) (omega (arith, from, split)) more ∙ ap (λ (j : ℕ). part page (e * j) e) slot
          ∙ pushed.above (i - first) (omega (arith, from, split)) (omega (arith, from, split, more))
          ∙ sym (in_slot b (at / per_page e) i (omega (arith, from, split)) (omega (arith, more)));
      out = λ i last.
          pushed.out (i - first) (omega (arith, last, page_some)) ∙ sym (in_slot b (at / per_page e) i (omega (arith, last, page_some)) (omega (arith, last)));
    }

    pub moves_down : IsPulled e (at % per_page e) (part b (512 * (at / per_page e)) 512) page piece taken → MovesDown e reveals b at piece taken
    moves_down pulled = record {
      now = now;
      revealed = revealed;
      others = others pulled.below;
      moved = λ i from more.
          let slot : (i + 1) - first ≡ (i - first) + 1 = omega (arith, from, split) in
          written i (omega (arith, from, split)) (omega (arith, more))
          ∙ pulled.moved (i - first) (omega (arith, from, split)) (omega (arith, from, split, more))
          ∙ sym (in_slot b (at / per_page e) (i + 1) (omega (arith, from, split)) more ∙ ap (λ (j : ℕ). part (part b (512 * (at / per_page e)) 512) (e * j) e) slot);
      last = λ i is_last.
          written i (omega (arith, is_last, page_some)) (omega (arith, is_last)) ∙ pulled.last (i - first) (omega (arith, is_last, page_some));
      out =
          let slot : at - first ≡ at % per_page e = omega (arith, split) in
          pulled.out ∙ sym (in_slot b (at / per_page e) at (omega (arith, split)) (omega (arith, split, inside)) ∙ ap (λ (j : ℕ). part (part b (512 * (at / per_page e)) 512) (e * j) e) slot);
    }

-- the page of an entry within the capacity lies in the memory
pub page_fits : (p i size : ℕ) → 0 < p → i < size / 512 * p → 512 * (i / p) + 512 ≤ size
page_fits p i size some below =
    let row : i / p < size / 512 = below_from_product (i / p) (size / 512) p (omega (arith, div-add-mod' i p, below)) in
    omega (arith, row)
