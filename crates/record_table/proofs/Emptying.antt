-- Entries that are moved down page by page, from the end of the table to the place of the one that is taken out.
use Rattle.std.proofs.Common.{inl, inr, ◌≡◌, ◌⊎◌, ℕ, ◌+◌, ◌-◌, ◌*◌, ◌/◌, ◌%◌, ◌<◌, ◌≤◌, max, List, [], length, remove, arith, refl, sym, ◌∙◌, ap}
use Rattle.std.proofs.lemmas.Bool.{cases_lt}
use Rattle.std.proofs.lemmas.Nat.{div-add-mod', mod_below, div-mul-add}
use Rattle.std.proofs.lemmas.Grind.{div_ceil_times}
use Rattle.std.proofs.lemmas.List.FromFn.{fill_by_all}
use Rattle.std.proofs.lemmas.List.Edits.{length-remove, get_or-remove_below, get_or-remove_above}
use Rattle.flat_mem.specs.Order.{entry_at}
use Rattle.record_table.specs.Table.{per_page, pages_of, entry, entries, RevealsEntries}
use Rattle.record_table.specs.Moves.{first_place_after, MovesDown}
use Rattle.record_table.proofs.Places.{per_page_some, length-entries, entry_of, below_from_product}

-- the memory reveals bytes whose entries from the end on are those of the list of n - 1 entries. The others are the old ones, and the one at the end is carried
pub record IsEmptying (e : ℕ) (reveals : List ℕ → Type 0) (b : List ℕ) (xs : List (List ℕ)) (n end : ℕ) (carried : List ℕ) : Type 0 where
  pub now : List ℕ
  pub revealed : reveals now
  pub below : (i : ℕ) → i < end → entry e now i ≡ entry e b i
  pub done : (i : ℕ) → end ≤ i → i + 1 < n → entry e now i ≡ entry_at xs i
  pub carries : end < n → carried ≡ entry e b end

-- ---- rows

-- the end of a table, of what is left of a page, or of a page
abbrev pub IsEnd : ℕ → ℕ → ℕ → ℕ → Type 0
IsEnd e at n end = (at < end) → (end ≡ n) ⊎ ((s : ℕ) × (end ≡ s * per_page e))

-- the row that ends at or after the end, and the place in it from which its entries are moved
pub record IsRow (e at n end from : ℕ) : Type 0 where
  pub before : from < end
  pub at_least : at ≤ from
  pub reaches : end ≤ first_place_after e from
  pub even : end < n → first_place_after e from ≡ end
  pub pages : pages_of e end ≡ from / per_page e + 1
  pub row : (from ≡ at) ⊎ (from ≡ from / per_page e * per_page e)

module _ (e : ℕ) (some : 1 ≤ e) (most : e ≤ 64) where
  abbrev p : ℕ
  p = per_page e

  p_some : 0 < p
  p_some = per_page_some e some most

  row_of : (q i : ℕ) → q * p ≤ i → i < (q + 1) * p → i / p ≡ q
  row_of q i from below =
      let at : i ≡ q * p + (i - q * p) = omega (arith, from) in
      let inside : i - q * p < p = omega (arith, from, below) in
      ap (λ (x : ℕ). x / p) at ∙ div-mul-add q p (i - q * p) inside

  pages_to : (q end : ℕ) → q * p < end → end ≤ (q + 1) * p → pages_of e end ≡ q + 1
  pages_to q end more less =
      let times = div_ceil_times end p p_some in
      let above : q < pages_of e end = below_from_product q (pages_of e end) p (omega (arith, more, times.0)) in
      let below : pages_of e end < q + 2 = below_from_product (pages_of e end) (q + 2) p (omega (arith, less, times.1)) in
      omega (arith, above, below)

  pub is_row : (at n end last from : ℕ) → at < end → last ≡ end - 1 → from ≡ max at (last - last % p) → IsEnd e at n end → IsRow e at n end from
  is_row at n end last from more last_is from_is ends = record {
    before = omega (arith, from_is, last_is, more);
    at_least = omega (arith, from_is);
    reaches = rw row (omega (arith, split, inside, last_is, more));
    even = λ less. elim (ends more) [
      | inl whole ↦ absurd (omega (arith, whole, less))
      | inr (s, is) ↦
          let above : last / p < s = below_from_product (last / p) s p (omega (arith, split, is, last_is, more)) in
          let below : s < last / p + 2 = below_from_product s (last / p + 2) p (omega (arith, split, inside, is, last_is, more)) in
          let same : last / p + 1 ≡ s = omega (arith, above, below) in
          rw (row, same) (sym is)
    ];
    pages = rw row (pages_to (last / p) end (omega (arith, split, last_is, more)) (omega (arith, split, inside, last_is, more)));
    row = elim (cases_lt at (last / p * p)) [
      | inl early ↦
          let even : from ≡ last / p * p = omega (arith, from_is, split, early) in
          inr (rw row even)
      | inr late ↦ inl (omega (arith, from_is, split, late))
    ];
  }
    where
      split : last ≡ last / p * p + last % p
      split = omega (arith, div-add-mod' last p)

      inside : last % p < p
      inside = mod_below last p p_some

      row : from / p ≡ last / p
      row = row_of (last / p) from (omega (arith, from_is, split)) (omega (arith, from_is, split, inside, last_is, more))

-- ---- costs

-- a page more is read and written, and one less is left
pub one_less : (q r cost spent after start : ℕ) → after ≤ spent + 2 * cost → spent + 2 * (q + 1) * cost ≤ start + 2 * r * cost → after + 2 * q * cost ≤ start + 2 * r * cost
one_less q r cost spent after start paid had = omega (arith, paid, had)

-- ---- entries

module _ (e : ℕ) (b : List ℕ) (at n : ℕ) (within : at < n) where
  abbrev xs : List (List ℕ)
  xs = remove (entries e b n) at

  inside : at < length (entries e b n)
  inside = omega (arith, length-entries e b n, within)

  xs_below : (i : ℕ) → i < at → entry_at xs i ≡ entry e b i
  xs_below i before = get_or-remove_below (entries e b n) at [] i before inside ∙ entry_of e b n i (omega (arith, before, within))

  xs_above : (i : ℕ) → at ≤ i → i + 1 < n → entry_at xs i ≡ entry e b (i + 1)
  xs_above i from below = get_or-remove_above (entries e b n) at [] i from inside ∙ entry_of e b n (i + 1) below

  pub empty_start : (reveals : List ℕ → Type 0) (carried : List ℕ) → reveals b → IsEmptying e reveals b (remove (entries e b n) at) n n carried
  empty_start reveals carried revealed = record {
    now = b;
    revealed = revealed;
    below = λ i _. refl;
    done = λ i past less. absurd (omega (arith, past, less));
    carries = λ less. absurd (omega (arith, less));
  }

  pub empty_more : (reveals reveals_now : List ℕ → Type 0) (end from : ℕ) (carried taken : List ℕ) → IsRow e at n end from → (was : IsEmptying e reveals b (remove (entries e b n) at) n end carried)
      → MovesDown e reveals_now was.now from carried taken → IsEmptying e reveals_now b (remove (entries e b n) at) n from taken
  empty_more reveals reveals_now end from carried taken row was moved = record {
    now = moved.now;
    revealed = moved.revealed;
    below = λ i before. moved.others i (inl before) ∙ was.below i (omega (arith, before, row.before));
    done = λ i past less. elim (cases_lt (i + 1) end) [
      | inl inner ↦ moved.moved i past (omega (arith, inner, row.reaches)) ∙ was.below (i + 1) inner ∙ sym (xs_above i (omega (arith, past, row.at_least)) less)
      | inr not ↦
          let short : end < n = omega (arith, not, less) in
          let even = row.even short in
          elim (cases_lt i end) [
            | inl here ↦
                let last : i + 1 ≡ end = omega (arith, not, here) in
                moved.last i (last ∙ sym even) ∙ was.carries short ∙ ap (entry e b) (sym last) ∙ sym (xs_above i (omega (arith, past, row.at_least)) less)
            | inr after ↦ moved.others i (inr (omega (arith, even, after))) ∙ was.done i after less
          ]
    ];
    carries = λ _. moved.out ∙ was.below from row.before;
  }

  pub empty_end : (reveals : List ℕ → Type 0) (end : ℕ) (carried : List ℕ) → end ≡ at → IsEmptying e reveals b (remove (entries e b n) at) n end carried → RevealsEntries e reveals (n - 1) (remove (entries e b n) at)
  empty_end reveals end carried is was = record {
    bytes = was.now;
    revealed = was.revealed;
    are = sym (fill_by_all (entry e was.now) xs (n - 1) [] (omega (arith, length-remove (entries e b n) at inside, length-entries e b n))
        (λ k less. elim (cases_lt k at) [
          | inl before ↦ xs_below k before ∙ sym (was.below k (omega (arith, before, is)))
          | inr past ↦ sym (was.done k (omega (arith, past, is)) (omega (arith, less)))
        ]));
  }

-- ---- what is left to pay for

module _ (e : ℕ) (some : 1 ≤ e) (most : e ≤ 64) where
  pages_even : (q : ℕ) → pages_of e (q * per_page e) ≡ q
  pages_even q =
      let times = div_ceil_times (q * per_page e) (per_page e) (per_page_some e some most) in
      let above : q < pages_of e (q * per_page e) + 1 = below_from_product q (pages_of e (q * per_page e) + 1) (per_page e) (omega (arith, times.0, per_page_some e some most)) in
      let below : pages_of e (q * per_page e) < q + 1 = below_from_product (pages_of e (q * per_page e)) (q + 1) (per_page e) (omega (arith, times.1)) in
      omega (arith, above, below)

  -- after the place of the one that is taken out, whole pages are left
  pub even_end : (at n end from : ℕ) → IsRow e at n end from → IsEnd e at n from
  even_end at n end from row more = elim row.row [
    | inl is ↦ absurd (omega (arith, is, more))
    | inr even ↦ inr (from / per_page e, even)
  ]

  pub left_after : (at n end from cost spent after start : ℕ) → IsRow e at n end from → after ≤ spent + 2 * cost → spent + 2 * pages_of e end * cost ≤ start + 2 * pages_of e n * cost
      → at < from → after + 2 * pages_of e from * cost ≤ start + 2 * pages_of e n * cost
  left_after at n end from cost spent after start row paid had more = elim row.row [
    | inl is ↦ absurd (omega (arith, is, more))
    | inr even ↦
        let pages : pages_of e from ≡ from / per_page e = ap (pages_of e) even ∙ pages_even (from / per_page e) in
        rw pages (one_less (from / per_page e) (pages_of e n) cost spent after start paid (rw row.pages at had))
  ]

-- what was paid for is within the bound
pub within_left : (m r cost after start : ℕ) → after + m * cost ≤ start + r * cost → after ≤ start + r * cost
within_left m r cost after start had = omega (arith, had)
