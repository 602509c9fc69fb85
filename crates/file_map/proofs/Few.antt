-- Runs that begin in different sectors are at most as many as these sectors.
use Rattle.std.proofs.Common.{◌≡◌, ◌≢◌, ◌⊎◌, inl, inr, ℕ, zero, suc, ◌+◌, ◌-◌, ◌<◌, ◌≤◌, Bool, true, false, not, cond, ◌&&◌, ◌==◌, List, [], ◌∷◌, length, map, refl, sym, ◌∙◌, ap, subst, arith}
use Rattle.std.proofs.lemmas.Bool.{cases_eq, eqb-true, eq-eqb}
use Rattle.std.proofs.lemmas.List.{length-map}
use Rattle.std.proofs.lemmas.List.Sums.{sum_by-cons}
use Rattle.std.specs.List.{range_with_len, count_by}
use Rattle.labelled_disk.specs.Layout.{first_data}
use Rattle.file_map.specs.declared.run.Run.{Run}
use Rattle.file_map.specs.Run.{holds, sector_at, run_bytes}
use Rattle.file_map.specs.FileMap.{AreNamed, Triples, run_at}
use Rattle.file_map.specs.Laws.{AreFew}
use Rattle.file_map.proofs.Runs.{and_both, first_held}
use Rattle.file_map.proofs.Searches.{names_at}

-- x is in the list
abbrev IsIn : ℕ → List ℕ → Type 0
IsIn x [] = ⊥
IsIn x (y ∷ ys) = (x ≡ y) ⊎ IsIn x ys

in_range : (n a x : ℕ) → a ≤ x → x < a + n → IsIn x (range_with_len a n)
in_range zero a x low high = omega (arith, low, high)
in_range (suc n) a x low high = elim (cases_eq x a) [
  | inl here ↦ inl here
  | inr other ↦ inr (in_range n (a + 1) x (omega (arith, low, other)) (omega (arith, high)))
]

abbrev one : Bool → ℕ
one b = cond b 1 0

-- the test without x
abbrev but : (ℕ → Bool) → ℕ → ℕ → Bool
but used x s = used s && not (s == x)

one_less : (b c : Bool) → one (b && c) ≤ one b
one_less true true = omega arith
one_less true false = omega arith
one_less false c = omega arith

count_more : (p : ℕ → Bool) (y : ℕ) (ys : List ℕ) → count_by p (y ∷ ys) ≡ one (p y) + count_by p ys
count_more p y ys = sum_by-cons (λ x. one (p x)) y ys

count_less : (used : ℕ → Bool) (x : ℕ) (ys : List ℕ) → count_by (but used x) ys ≤ count_by used ys
count_less used x [] = omega arith
count_less used x (y ∷ ys) = let rest = count_less used x ys in let here = one_less (used y) (not (y == x)) in omega (arith, rest, here, count_more (but used x) y ys, count_more used y ys)

-- a test that lets x pass counts one more than that without x
count_one_less : (used : ℕ → Bool) (x : ℕ) (ys : List ℕ) → used x ≡ true → IsIn x ys → count_by (but used x) ys + 1 ≤ count_by used ys
count_one_less used x [] passes at = absurd at
count_one_less used x (y ∷ ys) passes (inl here) =
    let rest = count_less used x ys in
    let out : but used x y ≡ false = without (used y) (y == x) (eq-eqb y x (sym here)) in
    let now : one (but used x y) ≡ 0 = ap one out in
    let was : one (used y) ≡ 1 = ap one (ap used (sym here) ∙ passes) in
    omega (arith, rest, now, was, count_more (but used x) y ys, count_more used y ys)
  where
    without : (a b : Bool) → b ≡ true → (a && not b) ≡ false
    without true true h = refl
    without true false h = sym h
    without false b h = refl
count_one_less used x (y ∷ ys) passes (inr at) =
    let rest = count_one_less used x ys passes at in
    let here = one_less (used y) (not (y == x)) in
    omega (arith, rest, here, count_more (but used x) y ys, count_more used y ys)

-- so many runs, each with a sector of its own in the list
few : (runs : List Run) (used : ℕ → Bool) (ys : List ℕ) → ((j : ℕ) → j < length runs → (used (run_at runs j).sector ≡ true) × IsIn (run_at runs j).sector ys)
    → ((j k : ℕ) → j < k → k < length runs → (run_at runs j).sector ≢ (run_at runs k).sector) → length runs ≤ count_by used ys
few [] used ys each apart = omega arith
few (r ∷ rs) used ys each apart =
    let first = each 0 (omega arith) in
    let less = count_one_less used r.sector ys first.0 first.1 in
    let rest = few rs (but used r.sector) ys
    (λ j below.
    let at = each (suc j) (omega (arith, below)) in
    let other : (run_at rs j).sector ≢ r.sector = λ same. apart 0 (suc j) (omega arith) (omega (arith, below)) (sym same) in
    (and_both (used (run_at rs j).sector) _ at.0 (unequal (run_at rs j).sector r.sector other), at.1))
    (λ j k order below. apart (suc j) (suc k) (omega (arith, order)) (omega (arith, below))) in
    omega (arith, less, rest)
  where
    unequal : (a b : ℕ) → a ≢ b → not (a == b) ≡ true
    unequal a b h = off (a == b) (λ is. h (eqb-true a b is))
      where
        off : (t : Bool) → (t ≡ true → ⊥) → not t ≡ true
        off true k = absurd (k refl)
        off false k = refl

pub are_few : (n : ℕ) (lists : List (List ℕ) → Type 0) (named : Triples) (map_is : AreNamed n lists named) (count : ℕ) → count ≡ length (map run_bytes map_is.runs) → AreFew n named count
are_few n lists named map_is count count_is used once among =
    let all = few runs used (range_with_len (first_data n) (n - first_data n))
    (λ j below.
    let form = map_is.form.each j below in
    (among _ _ _ (begins j below), in_range (n - first_data n) (first_data n) (run_at runs j).sector form.from_data (omega (arith, form.from_data, form.inside, form.some))))
    (λ j k order below same.
    let at_k = begins k below in
    let at_j = begins j (omega (arith, order, below)) in
    let both = once (run_at runs j).id (run_at runs j).first (run_at runs k).id (run_at runs k).first (run_at runs k).sector (subst (λ (s : ℕ). named (run_at runs j).id (run_at runs j).first s ≡ true) same at_j) at_k in
    let k_held = first_held n (run_at runs k) (map_is.form.each k below) in
    let j_held = first_held n (run_at runs j) (map_is.form.each j (omega (arith, order, below))) in
    let k_also : holds (run_at runs k) (run_at runs j).id (run_at runs j).first ≡ true = (λ i. holds (run_at runs k) (both.0 i) (both.1 i)) ∙ k_held in
    let index = map_is.form.once j k _ _ (omega (arith, order, below)) below j_held k_also in
    omega (arith, index, order)) in
    omega (arith, all, count_is, length-map runs run_bytes)
  where
    runs : List Run
    runs = map_is.runs

    begins : (j : ℕ) → j < length map_is.runs → named (run_at map_is.runs j).id (run_at map_is.runs j).first (run_at map_is.runs j).sector ≡ true
    begins j below =
        let form = map_is.form.each j below in
        let at : sector_at (run_at map_is.runs j) (run_at map_is.runs j).first ≡ (run_at map_is.runs j).sector = omega arith in
        subst (λ (s : ℕ). named (run_at map_is.runs j).id (run_at map_is.runs j).first s ≡ true) at (map_is.are _ _ _ ∙ names_at map_is.runs j _ _ below (first_held n _ form))
