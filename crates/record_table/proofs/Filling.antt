-- Entries that are moved up page by page, from the place of the new one on.
use Rattle.std.proofs.Common.{inl, inr, ◌≡◌, ℕ, ◌+◌, ◌-◌, ◌*◌, ◌/◌, ◌%◌, ◌<◌, ◌≤◌, List, [], length, insert, arith, refl, sym, ◌∙◌, ap}
use Rattle.std.proofs.lemmas.Bool.{cases_lt, cases_eq}
use Rattle.std.proofs.lemmas.Nat.{mul-le, div-add-mod', mod_below, div-mul-add}
use Rattle.std.proofs.lemmas.Grind.{div_ceil_times}
use Rattle.std.proofs.lemmas.List.FromFn.{fill_by_all}
use Rattle.std.proofs.lemmas.List.Edits.{length-insert, get_or-insert_below, get_or-insert_at, get_or-insert_above}
use Rattle.flat_mem.specs.Order.{entry_at}
use Rattle.record_table.specs.Table.{per_page, capacity_of, pages_of, entry, entries, RevealsEntries}
use Rattle.record_table.specs.Moves.{first_place_after, MovesUp}
use Rattle.record_table.proofs.Places.{per_page_some, length-entries, entry_of, below_from_product}

-- the memory reveals bytes whose first entries, up to the place, are those of the list of n + 1 entries. The others are the old ones, and the next of the list is carried
pub record IsFilling (e : ℕ) (reveals : List ℕ → Type 0) (b : List ℕ) (xs : List (List ℕ)) (n place : ℕ) (carried : List ℕ) : Type 0 where
  pub now : List ℕ
  pub revealed : reveals now
  pub below : (i : ℕ) → i < place → i ≤ n → entry e now i ≡ entry_at xs i
  pub rest : (i : ℕ) → place ≤ i → entry e now i ≡ entry e b i
  pub carries : place ≤ n → carried ≡ entry_at xs place

-- ---- rows

module _ (e : ℕ) (some : 1 ≤ e) (most : e ≤ 64) where
  abbrev p : ℕ
  p = per_page e

  p_some : 0 < p
  p_some = per_page_some e some most

  pub after_place : (i : ℕ) → i < first_place_after e i
  after_place i = omega (arith, div-add-mod' i p, mod_below i p p_some)

  pub next_is : (i : ℕ) → (i - i % p) + p ≡ first_place_after e i
  next_is i = omega (arith, div-add-mod' i p)

  pub next_row : (i : ℕ) → first_place_after e i / p ≡ i / p + 1
  next_row i =
      let even : first_place_after e i ≡ first_place_after e i + 0 = omega arith in
      ap (λ (x : ℕ). x / p) even ∙ div-mul-add (i / p + 1) p 0 p_some

  -- the row of a place is one of those that hold the entries up to it
  pub row_below : (i n : ℕ) → i < n → i / p < pages_of e n
  row_below i n less = below_from_product (i / p) (pages_of e n) p (omega (arith, div-add-mod' i p, (div_ceil_times n p p_some).0, less))

  pub capacity_small : (size : ℕ) → capacity_of e size ≤ size
  capacity_small size = omega (arith, mul-le (size / 512) p (size / 512) 512 (omega arith) (omega (arith, mul-le 1 p e p some (omega arith), div-add-mod' 512 e)), div-add-mod' size 512)

  pub per_page_most : p ≤ 512
  per_page_most = omega (arith, mul-le 1 p e p some (omega arith), div-add-mod' 512 e)

-- ---- costs

-- a page more is read and written
pub one_more : (q cost spent after start : ℕ) → after ≤ spent + 2 * cost → spent ≤ start + 2 * q * cost → after ≤ start + 2 * (q + 1) * cost
one_more q cost spent after start paid had = omega (arith, paid, had)

pub at_most_rows : (q r cost after start : ℕ) → q ≤ r → after ≤ start + 2 * q * cost → after ≤ start + 2 * r * cost
at_most_rows q r cost after start le had = omega (arith, mul-le (2 * q) cost (2 * r) cost (omega (arith, le)) (omega arith), had)

-- ---- entries

module _ (e : ℕ) (some : 1 ≤ e) (most : e ≤ 64) (b : List ℕ) (at n : ℕ) (within : at ≤ n) (new : List ℕ) where
  abbrev xs : List (List ℕ)
  xs = insert (entries e b n) at new

  inside : at ≤ length (entries e b n)
  inside = omega (arith, length-entries e b n, within)

  xs_below : (i : ℕ) → i < at → entry_at xs i ≡ entry e b i
  xs_below i before = get_or-insert_below (entries e b n) at new [] i before inside ∙ entry_of e b n i (omega (arith, before, within))

  xs_here : entry_at xs at ≡ new
  xs_here = get_or-insert_at (entries e b n) at new [] inside

  xs_above : (i : ℕ) → at ≤ i → i < n → entry_at xs (i + 1) ≡ entry e b i
  xs_above i from below = get_or-insert_above (entries e b n) at new [] i from inside ∙ entry_of e b n i below

  pub fill_start : (reveals : List ℕ → Type 0) → reveals b → IsFilling e reveals b (insert (entries e b n) at new) n at new
  fill_start reveals revealed = record {
    now = b;
    revealed = revealed;
    below = λ i before _. sym (xs_below i before);
    rest = λ i _. refl;
    carries = λ _. sym xs_here;
  }

  pub fill_more : (reveals reveals_now : List ℕ → Type 0) (place : ℕ) (carried taken : List ℕ) → at ≤ place → place ≤ n → (was : IsFilling e reveals b (insert (entries e b n) at new) n place carried)
      → MovesUp e reveals_now was.now place carried taken → IsFilling e reveals_now b (insert (entries e b n) at new) n (first_place_after e place) taken
  fill_more reveals reveals_now place carried taken from inside_count was moved = record {
    now = moved.now;
    revealed = moved.revealed;
    below = λ i less in_list. elim (cases_lt i place) [
      | inl before ↦ moved.others i (inl before) ∙ was.below i before in_list
      | inr not ↦ elim (cases_eq i place) [
        | inl here ↦ ap (entry e moved.now) here ∙ moved.here ∙ was.carries inside_count ∙ ap (entry_at xs) (sym here)
        | inr other ↦
            let next : i ≡ (i - 1) + 1 = omega (arith, not, other) in
            ap (entry e moved.now) next ∙ moved.moved (i - 1) (omega (arith, not, other)) (omega (arith, less, not, other)) ∙ was.rest (i - 1) (omega (arith, not, other))
            ∙ sym (ap (entry_at xs) next ∙ xs_above (i - 1) (omega (arith, from, not, other)) (omega (arith, in_list, not, other)))
      ]
    ];
    rest = λ i past. moved.others i (inr past) ∙ was.rest i (omega (arith, past, after_place e some most place));
    carries = λ more.
        let next : first_place_after e place ≡ (first_place_after e place - 1) + 1 = omega (arith, after_place e some most place) in
        moved.out (first_place_after e place - 1) (sym next) ∙ was.rest (first_place_after e place - 1) (omega (arith, after_place e some most place))
        ∙ sym (ap (entry_at xs) next ∙ xs_above (first_place_after e place - 1) (omega (arith, from, after_place e some most place)) (omega (arith, more, after_place e some most place)));
  }

  pub fill_end : (reveals : List ℕ → Type 0) (place : ℕ) (carried : List ℕ) → n < place → IsFilling e reveals b (insert (entries e b n) at new) n place carried → RevealsEntries e reveals (n + 1) (insert (entries e b n) at new)
  fill_end reveals place carried past was = record {
    bytes = was.now;
    revealed = was.revealed;
    are = sym (fill_by_all (entry e was.now) xs (n + 1) [] (length-insert (entries e b n) at new inside ∙ ap (λ (k : ℕ). k + 1) (length-entries e b n))
        (λ k less. sym (was.below k (omega (arith, less, past)) (omega (arith, less)))));
  }
