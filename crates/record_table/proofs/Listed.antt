-- The list of a table that its memory reveals.
use Rattle.std.proofs.Common.{inl, inr, ◌≡◌, ◌≢◌, ℕ, ◌+◌, ◌*◌, ◌<◌, ◌≤◌, List, [], length, get_or, take, set, insert, remove, arith, sym, ◌∙◌, ap}
use Rattle.std.proofs.lemmas.Bool.{cases_lt, cases_eq}
use Rattle.std.proofs.lemmas.List.{length-set, get_or-set_same, get_or-set_other}
use Rattle.std.proofs.lemmas.List.FromFn.{fill_by_all}
use Rattle.flat_mem.specs.Memory.{overwritten}
use Rattle.flat_mem.specs.Parts.{part-overwritten_below, part-overwritten_above, part-overwritten_same}
use Rattle.flat_mem.specs.Order.{entry_at, IsInKeyOrder, IsAfter}
use Rattle.flat_mem.specs.OrderLaws.{ascending-insert, ascending-set, ascending-remove}
use Rattle.record_table.specs.Table.{place, capacity_of, entry, entries, RevealsEntries}
use Rattle.record_table.specs.Edits.{IsInserted, IsReplaced, IsRemoved}
use Rattle.record_table.proofs.Places.{place_fits, place_after, length-entries, entry_of}

-- ---- what is revealed of one entry

pub revealed_count : (e : ℕ) (reveals : List ℕ → Type 0) (n : ℕ) (xs : List (List ℕ)) → RevealsEntries e reveals n xs → length xs ≡ n
revealed_count e reveals n xs h = ap length (sym h.are) ∙ length-entries e h.bytes n

pub revealed_entry : (e : ℕ) (reveals : List ℕ → Type 0) (n : ℕ) (xs : List (List ℕ)) (h : RevealsEntries e reveals n xs) (i : ℕ) → i < n → entry_at xs i ≡ entry e h.bytes i
revealed_entry e reveals n xs h i below = ap (λ (ys : List (List ℕ)). entry_at ys i) (sym h.are) ∙ entry_of e h.bytes n i below

-- ---- costs

-- a search and then the moves
pub both_costs : (t pages cost start mid end : ℕ) → mid ≤ start + (1 + t) * cost → end ≤ mid + 2 * pages * cost → end ≤ start + (1 + t + 2 * pages) * cost
both_costs t pages cost start mid end search moves = omega (arith, search, moves)

-- ---- one entry written over another

module _ (e : ℕ) (some : 1 ≤ e) (most : e ≤ 64) (b piece : List ℕ) (long : length piece ≡ e) (i : ℕ) (inside : i < capacity_of e (length b)) where
  fits : place e i + length piece ≤ length b
  fits = omega (arith, place_fits e i some most (length b) inside, long)

  entry_written : entry e (overwritten b (place e i) piece) i ≡ piece
  entry_written = part-overwritten_same b piece (place e i) e long fits

  entry_other : (j : ℕ) → j ≢ i → entry e (overwritten b (place e i) piece) j ≡ entry e b j
  entry_other j other = elim (cases_lt j i) [
    | inl before ↦ part-overwritten_below b piece (place e i) (place e j) e (place_after e j i some most before) fits
    | inr not ↦ part-overwritten_above b piece (place e i) (place e j) e (omega (arith, place_after e i j some most (omega arith), long)) fits
  ]

  pub entries_written : (n : ℕ) → i < n → entries e (overwritten b (place e i) piece) n ≡ set (entries e b n) i piece
  entries_written n below =
      sym (fill_by_all (entry e (overwritten b (place e i) piece)) (set (entries e b n) i piece) n [] (length-set (entries e b n) i piece ∙ length-entries e b n) each)
    where
      each : (k : ℕ) → k < n → get_or (set (entries e b n) i piece) k [] ≡ entry e (overwritten b (place e i) piece) k
      each k less = elim (cases_eq k i) [
        | inl here ↦
            ap (λ (j : ℕ). get_or (set (entries e b n) i piece) j []) here ∙ get_or-set_same (entries e b n) i piece [] (omega (arith, length-entries e b n, below))
            ∙ sym (ap (entry e (overwritten b (place e i) piece)) here ∙ entry_written)
        | inr other ↦ get_or-set_other (entries e b n) i k piece [] other ∙ entry_of e b n k less ∙ sym (entry_other k other)
      ]

-- ---- edits

pub is_inserted : (k : ℕ) (lists : List (List ℕ) → Type 0) (xs : List (List ℕ)) (new : List ℕ) (at : ℕ) → at ≤ length xs → lists (insert xs at new) → (IsInKeyOrder k xs → IsAfter k xs (take k new) at) → IsInserted k lists xs new
is_inserted k lists xs new at within listed after = record {
  at = at;
  within = within;
  listed = listed;
  after = after;
  ascending = λ ascending. ascending-insert k xs ascending at new within (after ascending);
}

pub is_replaced : (k : ℕ) (lists : List (List ℕ) → Type 0) (xs : List (List ℕ)) (at : ℕ) (new : List ℕ) → at < length xs → lists (set xs at new) → IsReplaced k lists xs at new
is_replaced k lists xs at new within listed = record {
  listed = listed;
  ascending = λ same ascending. ascending-set k xs ascending at new within same;
}

pub is_removed : (k : ℕ) (lists : List (List ℕ) → Type 0) (xs : List (List ℕ)) (at : ℕ) → at < length xs → lists (remove xs at) → IsRemoved k lists xs at
is_removed k lists xs at within listed = record {
  listed = listed;
  ascending = λ ascending. ascending-remove k xs ascending at within;
}
