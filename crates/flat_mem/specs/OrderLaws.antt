-- Laws of lists of entries in ascending order of their keys.
use Rattle.std.proofs.Common.{◌≡◌, inl, inr, ℕ, ◌+◌, ◌-◌, ◌<◌, ◌≤◌, Bool, true, false, List, [], length, take, set, insert, remove, arith, sym, ◌∙◌, ap, refl}
use Rattle.std.proofs.lemmas.Bool.{cases_lt, cases_eq, false≢true}
use Rattle.std.proofs.lemmas.Cmp.{upto, tied_itself, nat_list_cmp_total}
use Rattle.std.proofs.lemmas.List.{length-set, get_or-set_same, get_or-set_other}
use Rattle.std.proofs.lemmas.List.Edits.{length-insert, get_or-insert_below, get_or-insert_at, get_or-insert_above, length-remove, get_or-remove_below, get_or-remove_above}
use Rattle.std.specs.Ordering.{is_le, is_gt, ordering_reverse}
use Rattle.std.specs.declared.cmp.Ordering.{Ordering}
use Rattle.std.specs.declared.cmp.Ordering.TheVariants.{Less, Equal, Greater}
use Rattle.flat_mem.specs.Order.{entry_at, key_at, at_most, IsInKeyOrder, IsLastAtMost, NoneAtMost, IsAfter}

-- ---- keys

not_gt : (o : Ordering) → is_le o ≡ true → is_gt o ≡ false
not_gt Less h = refl
not_gt Equal h = refl
not_gt Greater h = absurd (false≢true h)

is_le_back : (o : Ordering) → is_gt o ≡ false → is_le o ≡ true
is_le_back Less h = refl
is_le_back Equal h = refl
is_le_back Greater h = absurd (false≢true (sym h))

reversed : (o : Ordering) → is_le o ≡ false → is_le (ordering_reverse o) ≡ true
reversed Less h = absurd (false≢true (sym h))
reversed Equal h = refl
reversed Greater h = refl

pub false_from : (t : Bool) → (t ≡ true → ⊥) → t ≡ false
false_from true h = absurd (h refl)
false_from false h = refl

pub at_most_through : (x y z : List ℕ) → at_most x y ≡ true → at_most y z ≡ true → at_most x z ≡ true
unfolding at_most
at_most_through x y z h k = is_le_back _ (upto nat_list_cmp_total x y z (not_gt _ h) (not_gt _ k))

pub at_most_itself : (x : List ℕ) → at_most x x ≡ true
unfolding at_most
at_most_itself x = ap is_le (tied_itself nat_list_cmp_total x)

pub at_most_other : (x y : List ℕ) → at_most x y ≡ false → at_most y x ≡ true
unfolding at_most
at_most_other x y h = ap is_le (nat_list_cmp_total.antisymm y x) ∙ reversed _ h

-- what is at most x is not at most y, where x is above y
pub above_through : (x y z : List ℕ) → at_most x y ≡ false → at_most x z ≡ true → at_most z y ≡ false
above_through x y z above le = false_from _ (λ holds. false≢true (sym above ∙ at_most_through x z y le holds))

-- ---- searches

module _ (k : ℕ) (xs : List (List ℕ)) (key : List ℕ) where
  -- where the entry after i is above, so are all after it
  pub last_at_most : (i : ℕ) → i < length xs → at_most (key_at k xs i) key ≡ true → (i + 1 < length xs → at_most (key_at k xs (i + 1)) key ≡ false) → IsInKeyOrder k xs → IsLastAtMost k xs key i
  last_at_most i below here next ascending = record {
    below = below;
    holds = here;
    above = λ j more inside. above_through (key_at k xs (i + 1)) key (key_at k xs j) (next (omega arith)) (ascending (i + 1) j (omega arith) inside);
  }

  -- where the first entry is above, so are all
  pub none_at_most : (0 < length xs → at_most (key_at k xs 0) key ≡ false) → IsInKeyOrder k xs → NoneAtMost k xs key
  none_at_most first ascending = λ j inside. above_through (key_at k xs 0) key (key_at k xs j) (first (omega arith)) (ascending 0 j (omega arith) inside)

  -- after the last entry that is not above is where an entry with the key goes
  pub after_last : (i : ℕ) → IsInKeyOrder k xs → IsLastAtMost k xs key i → IsAfter k xs key (i + 1)
  after_last i ascending last = record {
    below = λ j before. at_most_through _ (key_at k xs i) key (ascending j i (omega arith) last.below) last.holds;
    above = λ j past below. last.above j (omega arith) below;
  }

  -- where all entries are above, it goes before them
  pub after_none : NoneAtMost k xs key → IsAfter k xs key 0
  after_none none = record { below = λ j before. absurd (omega (arith, before)); above = λ j past below. none j below }

-- ---- edits

module _ (k : ℕ) (xs : List (List ℕ)) (ascending : IsInKeyOrder k xs) where
  -- an entry that is put after the last whose key is at most its own keeps the order
  pub ascending-insert : (at : ℕ) (new : List ℕ) → at ≤ length xs → IsAfter k xs (take k new) at → IsInKeyOrder k (insert xs at new)
  ascending-insert at new within after i j order inside = elim (cases_lt j at) [
    | inl early ↦
        rw (get_or-insert_below xs at new [] i (omega (arith, order, early)) within, get_or-insert_below xs at new [] j early within) (ascending i j order (omega (arith, early, within)))
    | inr not ↦ elim (cases_eq j at) [
      | inl here ↦ elim (cases_eq i at) [
        | inl also ↦ rw (here, also) (at_most_itself _)
        | inr other ↦
            rw (here, get_or-insert_below xs at new [] i (omega (arith, order, here, other)) within, get_or-insert_at xs at new [] within) (after.below i (omega (arith, order, here, other)))
      ]
      | inr late ↦
          let next : j ≡ (j - 1) + 1 = omega (arith, late, not) in
          let below : j - 1 < length xs = omega (arith, late, not, inside, length-insert xs at new within) in
          let past : at ≤ j - 1 = omega (arith, late, not) in
          let moved : entry_at (insert xs at new) j ≡ entry_at xs (j - 1) = ap (entry_at (insert xs at new)) next ∙ get_or-insert_above xs at new [] (j - 1) past within in
          elim (cases_lt i at) [
            | inl prefix ↦ rw (moved, get_or-insert_below xs at new [] i prefix within) (ascending i (j - 1) (omega (arith, prefix, past)) below)
            | inr from_at ↦ elim (cases_eq i at) [
              | inl same ↦ rw (moved, same, get_or-insert_at xs at new [] within) (at_most_other _ _ (after.above (j - 1) past below))
              | inr both ↦
                  let before : i ≡ (i - 1) + 1 = omega (arith, both, from_at) in
                  let also : entry_at (insert xs at new) i ≡ entry_at xs (i - 1) = ap (entry_at (insert xs at new)) before ∙ get_or-insert_above xs at new [] (i - 1) (omega (arith, both, from_at)) within in
                  rw (moved, also) (ascending (i - 1) (j - 1) (omega (arith, order)) below)
            ]
          ]
    ]
  ]

  -- an entry of the same key in the place of another keeps it
  pub ascending-set : (at : ℕ) (new : List ℕ) → at < length xs → take k new ≡ key_at k xs at → IsInKeyOrder k (set xs at new)
  ascending-set at new within same i j order inside =
      rw (same_key i (omega (arith, order, inside, length-set xs at new)), same_key j (omega (arith, inside, length-set xs at new))) (ascending i j order (omega (arith, inside, length-set xs at new)))
    where
      same_key : (m : ℕ) → m < length xs → key_at k (set xs at new) m ≡ key_at k xs m
      same_key m below = elim (cases_eq m at) [
        | inl here ↦ rw here (ap (take k) (get_or-set_same xs at new [] within) ∙ same)
        | inr other ↦ ap (take k) (get_or-set_other xs at m new [] other)
      ]

  -- and so does taking an entry out
  pub ascending-remove : (at : ℕ) → at < length xs → IsInKeyOrder k (remove xs at)
  ascending-remove at within i j order inside = elim (cases_lt j at) [
    | inl early ↦
        rw (get_or-remove_below xs at [] i (omega (arith, order, early)) within, get_or-remove_below xs at [] j early within) (ascending i j order (omega (arith, early, within)))
    | inr late ↦
        let below : j + 1 < length xs = omega (arith, inside, length-remove xs at within) in
        elim (cases_lt i at) [
          | inl prefix ↦ rw (get_or-remove_above xs at [] j late within, get_or-remove_below xs at [] i prefix within) (ascending i (j + 1) (omega (arith, order)) below)
          | inr both ↦ rw (get_or-remove_above xs at [] j late within, get_or-remove_above xs at [] i both within) (ascending (i + 1) (j + 1) (omega (arith, order)) below)
        ]
  ]
