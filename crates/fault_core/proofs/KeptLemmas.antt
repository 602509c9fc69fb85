-- Intervals that are kept, and the one that is looked up among them.
use Rattle.std.proofs.Common.{◌≡◌, ◌⊎◌, inl, inr, ℕ, zero, suc, ◌+◌, ◌<◌, ◌≤◌, Bool, true, false, List, [], ◌∷◌, ◌++◌, length, drop, Some, Option, Result, Ok, Err, refl, sym, ◌∙◌, ap, subst, arith}
use Rattle.std.specs.Prelude.{slice_get, find, None, if◌then◌else◌}
use Rattle.std.proofs.lemmas.Bool.Decides.{nat_tests}
use Rattle.std.proofs.lemmas.Bool.{cases_lt}
use Rattle.std.proofs.lemmas.Option.{same_Some, none-some}
use Rattle.labelled_disk.specs.declared.evidence.Halt.{Halt}
use Rattle.frame_pool.specs.Frames.{Slots}
use Rattle.swap_units.specs.declared.interval.Interval.{Interval}
use Rattle.swap_units.specs.Unit.{Holds, has_page}
use Rattle.fault_core.specs.Kept.{IsKept, IsFormed, AreFormed, AreApart}
use Rattle.fault_core.specs.Unit.{IsReady}

-- what is found is one of the list, and passes
pub find_is : {X : Type 0} (p : X → Bool) (xs : List X) (x : X) → find p xs ≡ Some x → (k : ℕ) × (slice_get xs k ≡ Some x) × (p x ≡ true)
find_is p [] x is = absurd (none-some x is)
find_is {X = X} p (y ∷ ys) x is = by (p y) refl (λ e. find_is p ys x e)
  where
    by : (b : Bool) → p y ≡ b → (find p ys ≡ Some x → (k : ℕ) × (slice_get ys k ≡ Some x) × (p x ≡ true)) → (k : ℕ) × (slice_get (y ∷ ys) k ≡ Some x) × (p x ≡ true)
    by true e rest = let same : y ≡ x = same_Some y x (sym (ap (λ (b : Bool). if b then Some y else find p ys) e) ∙ is) in (zero, ap (λ (z : X). Some z) same, ap p (sym same) ∙ e)
    by false e rest = let found = rest (sym (ap (λ (b : Bool). if b then Some y else find p ys) e) ∙ is) in (suc found.0, found.1, found.2)

-- one of the list that passes is found, or one before it is
pub find_some : {X : Type 0} (p : X → Bool) (xs : List X) (k : ℕ) (x : X) → slice_get xs k ≡ Some x → p x ≡ true → (y : X) × (find p xs ≡ Some y)
find_some p [] k x here passes = absurd (none-some x here)
find_some {X = X} p (y ∷ ys) zero x here passes = (y, ap (λ (b : Bool). if b then Some y else find p ys) (ap p (same_Some y x here) ∙ passes))
find_some {X = X} p (y ∷ ys) (suc k) x here passes = by (p y) refl (find_some p ys k x here passes)
  where
    by : (b : Bool) → p y ≡ b → (z : X) × (find p ys ≡ Some z) → (z : X) × (find p (y ∷ ys) ≡ Some z)
    by true e rest = (y, ap (λ (b : Bool). if b then Some y else find p ys) e)
    by false e rest = (rest.0, ap (λ (b : Bool). if b then Some y else find p ys) e ∙ rest.1)

-- an element of two lists in a row
pub get_append : {X : Type 0} (xs ys : List X) (k : ℕ) (x : X) → slice_get (xs ++ ys) k ≡ Some x
    → ((k < length xs) × (slice_get xs k ≡ Some x)) ⊎ ((j : ℕ) × (k ≡ length xs + j) × (slice_get ys j ≡ Some x))
get_append [] ys k x is = inr (k, let z : k ≡ 0 + k = omega arith in z, is)
get_append (y ∷ xs) ys zero x is = inl (omega arith, is)
get_append (y ∷ xs) ys (suc k) x is = elim (get_append xs ys k x is) [
  | inl (below, here) ↦ inl (omega arith, here)
  | inr (j, past, here) ↦ inr (j, let z : suc k ≡ suc (length xs) + j = omega arith in z, here)
]

pub holds_of : (x : Interval) (page : ℕ) → has_page page x ≡ true → Holds x page
holds_of x page is = (grind (arith, nat_tests, is), grind (arith, nat_tests, is))

pub has_of : (x : Interval) (page : ℕ) → Holds x page → has_page page x ≡ true
has_of x page h = let from = h.0 in let below = h.1 in grind (arith, nat_tests, from, below)

get_dropped : {X : Type 0} (xs : List X) (k : ℕ) → slice_get (drop 1 xs) k ≡ slice_get xs (suc k)
get_dropped [] k = refl
get_dropped (x ∷ xs) k = refl

one_of : (x y : Interval) (j : ℕ) → slice_get (x ∷ []) j ≡ Some y → x ≡ y
one_of x y zero is = same_Some x y is
one_of x y (suc j) is = absurd (none-some y is)

last_of : {X : Type 0} (xs : List X) (x : X) → slice_get (xs ++ x ∷ []) (length xs) ≡ Some x
last_of [] x = refl
last_of (y ∷ ys) x = last_of ys x

module _ (old new : List Interval) (x : Interval) (room : length old < 16 → new ≡ old ++ x ∷ []) (full : length old ≡ 16 → new ≡ drop 1 old ++ x ∷ []) (few : length old ≤ 16) where
  -- the interval is one that was kept
  pub kept_new : IsKept new x
  kept_new = elim (cases) [
    | inl less ↦ (length old, ap (λ (l : List Interval). slice_get l (length old)) (room less) ∙ last_of old x)
    | inr all ↦ (length (drop 1 old), ap (λ (l : List Interval). slice_get l (length (drop 1 old))) (full all) ∙ last_of (drop 1 old) x)
  ]
    where
      cases : (length old < 16) ⊎ (length old ≡ 16)
      cases = elim (cases_lt (length old) 16) [ inl less ↦ inl less | inr from ↦ inr (omega (arith, from, few)) ]

  -- each one now was kept, or is it
  pub kept_before : (y : Interval) → IsKept new y → IsKept old y ⊎ (x ≡ y)
  kept_before y (k, at) = elim (cases_lt (length old) 16) [
    | inl less ↦ elim (get_append old (x ∷ []) k y (ap (λ (l : List Interval). slice_get l k) (sym (room less)) ∙ at)) [
      | inl (_, here) ↦ inl (k, here)
      | inr (j, _, here) ↦ inr (one_of x y j here)
    ]
    | inr from ↦ elim (get_append (drop 1 old) (x ∷ []) k y (ap (λ (l : List Interval). slice_get l k) (sym (full (omega (arith, from, few)))) ∙ at)) [
      | inl (_, here) ↦ inl (suc k, sym (get_dropped old k) ∙ here)
      | inr (j, _, here) ↦ inr (one_of x y j here)
    ]
  ]

  pub formed_more : AreFormed old → IsFormed x → AreFormed new
  formed_more each own k y at = elim (kept_before y (k, at)) [ inl was ↦ each was.0 y was.1 | inr same ↦ subst IsFormed same own ]

-- where a page is ready, and no two kept intervals share a page, its interval is the one that is looked up
pub ready_found : (kept : List Interval) (slots : Slots) (page : ℕ) (r : IsReady kept slots page) → AreApart kept → find (has_page page) kept ≡ Some r.interval
ready_found kept slots page r apart =
    let found = find_some (has_page page) kept r.is_kept.0 r.interval r.is_kept.1 (has_of r.interval page r.holds) in
    let is = find_is (has_page page) kept found.0 found.1 in
    found.1 ∙ ap (λ (x : Interval). Some x) (apart found.0 r.interval page (is.0, is.1) r.is_kept (holds_of found.0 page is.2) r.holds)

-- what was looked up is kept, in form, and has the page
pub record Looked (list : List Interval) (page : ℕ) (x : Interval) : Type 0 where
  pub kept : IsKept list x
  pub formed : IsFormed x
  pub holds : Holds x page

pub looked : (kept : List Interval) (page : ℕ) (x : Interval) → AreFormed kept → find (has_page page) kept ≡ Some x → Looked kept page x
looked kept page x each found =
    let is = find_is (has_page page) kept x found in
    record { kept = (is.0, is.1); formed = each is.0 x is.1; holds = holds_of x page is.2 }

answer_of : Result (Option Interval) Halt → Option Interval
answer_of (Ok o) = o
answer_of (Err e) = None

-- two answers are one
pub same_answer : (r : Result (Option Interval) Halt) (a b : Interval) (o : Option Interval) → r ≡ Ok (Some a) → r ≡ Ok o → o ≡ Some b → a ≡ b
unfolding answer_of
same_answer r a b o first last is = same_Some a b (ap answer_of (sym first ∙ last) ∙ is)
