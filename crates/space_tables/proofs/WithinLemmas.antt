-- Where the intervals of a space stand, and what they name.
use Rattle.std.proofs.Common.{◌≡◌, ◌⊎◌, inl, inr, ℕ, ◌+◌, ◌-◌, ◌<◌, ◌≤◌, Bool, true, false, List, Some, refl, arith}
use Rattle.std.specs.Prelude.{slice_get, nat_le}
use Rattle.std.proofs.lemmas.Bool.{cases_lt, and_parts}
use Rattle.std.proofs.lemmas.Bool.Decides.{nat_tests}
use Rattle.flat_machine.specs.declared.space.Space.{Space}
use Rattle.flat_machine.specs.Space.{root_pages, end}
use Rattle.projection_laws.specs.Sight.{Interval, AreIntervals, end_of}
use Rattle.projection_laws.specs.Stored.{HoldsAt}
use Rattle.projection_laws.specs.Laws.{FirstsRise}
use Rattle.projection_laws.proofs.Finds.{firsts_are_ascending}
use Rattle.space_tables.specs.declared.change.Change.{Change}
use Rattle.space_tables.specs.Change.{touches, changed, LiesInside}
use Rattle.space_tables.specs.Form.{space_in_form}
use Rattle.space_tables.specs.Handles.{AreWithin}
use Rattle.space_tables.proofs.Changed.{untouched}

-- the intervals between those of a space's first and last page
pub are_within : (ss : List Space) (xs : List Interval) (s : Space) (i j : ℕ) → AreIntervals ss xs → 1 ≤ s.pages → HoldsAt xs i s.first → HoldsAt xs j (s.first + (s.pages - 1)) → AreWithin xs s (i, j + 1)
are_within ss xs s i j are some low high = record { all = λ k x e before after. (first k x e after (cases_lt k i), last k x e before (cases_lt j k)) }
  where
    rise : FirstsRise xs
    rise = firsts_are_ascending ss xs are

    first : (k : ℕ) (x : Interval) → slice_get xs k ≡ Some x → s.first < end_of x → (k < i) ⊎ (i ≤ k) → i ≤ k
    first k x e after (inl early) = let r = rise.rises k i x low.0 early e low.1 in absurd (omega (arith, r, after, low.2))
    first k x e after (inr late) = late

    last : (k : ℕ) (x : Interval) → slice_get xs k ≡ Some x → x.first < end s → (j < k) ⊎ (k ≤ j) → k < j + 1
    last k x e before (inl late) = let r = rise.rises j k high.0 x late high.1 e in absurd (omega (arith, r, before, high.3, some))
    last k x e before (inr early) = omega (arith, early)

-- the first interval of a space isn't after the last
pub in_order : (ss : List Space) (xs : List Interval) (s : Space) (i j : ℕ) → AreIntervals ss xs → 1 ≤ s.pages → HoldsAt xs i s.first → HoldsAt xs j (s.first + (s.pages - 1)) → i ≤ j
in_order ss xs s i j are some low high =
    let w = are_within ss xs s i j are some low high in
    let rise = firsts_are_ascending ss xs are in
    by rise (cases_lt j i)
  where
    by : FirstsRise xs → (j < i) ⊎ (i ≤ j) → i ≤ j
    by rise (inl late) = let r = rise.rises j i high.0 low.0 late high.1 low.1 in absurd (omega (arith, r, low.2, high.3, some))
    by rise (inr early) = early

-- a space in form has pages of the root
pub has_pages : (s : Space) → space_in_form s ≡ true → (1 ≤ s.pages) × (s.first + s.pages ≤ root_pages)
has_pages s form =
    let a = (and_parts _ _ (and_parts _ _ (and_parts _ _ form).0).0).0 in
    let p = and_parts (nat_le 1 s.pages) (nat_le (s.first + s.pages) root_pages) a in
    let low = p.0 in let high = p.1 in (grind (arith, nat_tests, low), grind (arith, nat_tests, high))

-- the code's end: the first is not after the last
pub within_both : (ss : List Space) (xs : List Interval) (s : Space) (i j last : ℕ) → AreIntervals ss xs → 1 ≤ s.pages → HoldsAt xs i s.first → HoldsAt xs j (s.first + (s.pages - 1))
    → (i ≤ j → last ≡ j) → AreWithin xs s (i, last + 1)
within_both ss xs s i j last are some low high is =
    let same = is (in_order ss xs s i j are some low high) in
    rw same (are_within ss xs s i j are some low high)

-- ---- changes inside a space

module _ (change : Change) (ss : List Space) (xs : List Interval) (s : Space) (at : ℕ × ℕ) (are : AreIntervals ss xs) (inside : LiesInside change s xs) (within : AreWithin xs s at) where
  stays : (k : ℕ) (x : Interval) → slice_get xs k ≡ Some x → ((at.0 ≤ k) × (k < at.1) → ⊥) → changed change x ≡ x
  stays k x e apart = by (touches change x) refl
    where
      by : (b : Bool) → touches change x ≡ b → changed change x ≡ x
      by true t =
          let low = inside k x e t in
          let pages = (firsts_are_ascending ss xs are).filled k x e in
          absurd (apart (within.all k x e low.1 (omega (arith, low.0, pages))))
      by false t = untouched change x t

  -- the intervals before those of the space stay
  pub stays_before : (k : ℕ) (x : Interval) → k < at.0 → slice_get xs k ≡ Some x → changed change x ≡ x
  stays_before k x below e = stays k x e (λ r. let low = r.0 in omega (arith, below, low))

  -- and those after them
  pub stays_after : (n : ℕ) → at.1 ≤ n → (k : ℕ) (x : Interval) → n ≤ k → slice_get xs k ≡ Some x → changed change x ≡ x
  stays_after n late k x above e = stays k x e (λ r. let high = r.1 in omega (arith, late, above, high))
