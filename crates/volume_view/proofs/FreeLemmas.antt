-- The list of free pages, and marks of pages that were met.
use Rattle.std.proofs.Common.{◌≡◌, ◌≢◌, inl, inr, ℕ, zero, suc, ◌+◌, ◌<◌, ◌≤◌, List, [], ◌∷◌, ◌++◌, length, Some, refl, sym, ◌∙◌, ap, subst, arith, length-append}
use Rattle.std.specs.Prelude.{slice_get}
use Rattle.std.proofs.lemmas.List.Sums.{sum_by-cons}
use Rattle.std.proofs.lemmas.Option.{same_Some, none-some}
use Rattle.page_tree.specs.Page.{page_at, kind_of, next_in}
use Rattle.page_tree.specs.Tree.{one_at, frees, IsChain}
use Rattle.volume_view.specs.Form.{AreInside, IsFreeList}
use Rattle.volume_view.proofs.WalkLemmas.{frees_append}
use Rattle.volume_view.proofs.FormedLemmas.{mark, unmarked}
use Rattle.volume_view.proofs.ListLemmas.{in_pushed}

pub frees_cons : (q p : ℕ) (ps : List ℕ) → frees q (p ∷ ps) ≡ one_at p q + frees q ps
frees_cons q p ps = sum_by-cons (λ (m : ℕ). one_at m q) p ps

pub frees_one : (q p : ℕ) → frees q (p ∷ []) ≡ one_at p q
frees_one q p = let one = frees_cons q p [] in omega (arith, one)

-- a page of the list is used
pub in_list : (ps : List ℕ) (k q : ℕ) → slice_get ps k ≡ Some q → 1 ≤ frees q ps
in_list [] k q at = absurd (none-some q at)
in_list (p ∷ ps) zero q at = let one = mark p q (same_Some p q at) in omega (arith, one, frees_cons q p ps)
in_list (p ∷ ps) (suc k) q at = let more = in_list ps k q at in omega (arith, more, frees_cons q p ps)

-- there is one such list alone
pub chain_same : (b : List ℕ) (first : ℕ) (xs ys : List ℕ) → IsChain b first xs → IsChain b first ys → frees 0 xs ≡ 0 → frees 0 ys ≡ 0 → xs ≡ ys
chain_same b first [] [] x y x_none y_none = refl
chain_same b first [] (p ∷ ps) x y x_none y_none = let one = mark p 0 (sym y.0 ∙ x) in absurd (omega (arith, one, frees_cons 0 p ps, y_none))
chain_same b first (p ∷ ps) [] x y x_none y_none = let one = mark p 0 (sym x.0 ∙ y) in absurd (omega (arith, one, frees_cons 0 p ps, x_none))
chain_same b first (p ∷ ps) (q ∷ qs) x y x_none y_none =
    let same : p ≡ q = sym x.0 ∙ y.0 in
    let after : IsChain b (next_in (page_at b p)) qs = subst (λ (m : ℕ). IsChain b (next_in (page_at b m)) qs) (sym same) y.2 in
    ap (λ m. m ∷ ps) same ∙ ap (λ l. q ∷ l) (chain_same b (next_in (page_at b p)) ps qs x.2 after (omega (arith, x_none, frees_cons 0 p ps)) (omega (arith, y_none, frees_cons 0 q qs)))

-- without the header
pub inside_some : (pages : ℕ) (ps : List ℕ) → AreInside pages ps → frees 0 ps ≡ 0
inside_some pages [] inside = refl
inside_some pages (p ∷ ps) inside =
    let first = inside 0 p refl in
    let one = unmarked p 0 (λ same. omega (arith, same, first.0)) in
    omega (arith, one, frees_cons 0 p ps, inside_some pages ps (λ k q at. inside (suc k) q at))

-- so far a list of free pages was followed to this page
pub record IsFollowed (b : List ℕ) (pages first at : ℕ) (met : List ℕ) : Type 0 where
  pub inside : AreInside pages met
  pub after : (tail : List ℕ) → IsChain b at tail → IsChain b first (met ++ tail)
  pub ahead : (free : List ℕ) → IsChain b first free → frees 0 free ≡ 0 → (tail : List ℕ) × (free ≡ met ++ tail) × IsChain b at tail

pub followed_none : (b : List ℕ) (pages first : ℕ) → IsFollowed b pages first first []
followed_none b pages first = record {
  inside = λ k q at. absurd (none-some q at);
  after = λ tail chain. chain;
  ahead = λ free chain some. (free, refl, chain);
}

append_one : (met tail : List ℕ) (p : ℕ) → (met ++ p ∷ []) ++ tail ≡ met ++ p ∷ tail
append_one [] tail p = refl
append_one (m ∷ met) tail p = ap (λ l. m ∷ l) (append_one met tail p)

-- the tail of a list without the header has none
tail_some : (met tail : List ℕ) → frees 0 (met ++ tail) ≡ 0 → frees 0 tail ≡ 0
tail_some met tail none = let sum = frees_append 0 met tail in omega (arith, none, sum)

-- what stands at a page that is not 0
pub record IsNextFree (b : List ℕ) (at : ℕ) (tail : List ℕ) : Type 0 where
  pub after : List ℕ
  pub is : tail ≡ at ∷ after
  pub kind : kind_of (page_at b at) ≡ 0
  pub chain : IsChain b (next_in (page_at b at)) after

pub next_there : (b : List ℕ) (at : ℕ) (tail : List ℕ) → at ≢ 0 → IsChain b at tail → IsNextFree b at tail
next_there b at [] some chain = absurd (some chain)
next_there b at (p ∷ ps) some chain = record {
  after = ps;
  is = ap (λ m. m ∷ ps) (sym chain.0);
  kind = ap (λ m. kind_of (page_at b m)) chain.0 ∙ chain.1;
  chain = subst (λ m. IsChain b (next_in (page_at b m)) ps) (sym chain.0) chain.2;
}

pub followed_more : (b : List ℕ) (pages first at next : ℕ) (met : List ℕ) → IsFollowed b pages first at met → at ≢ 0 → at < pages → kind_of (page_at b at) ≡ 0 → next ≡ next_in (page_at b at) → IsFollowed b pages first next (met ++ at ∷ [])
followed_more b pages first at next met is some within kind next_is = record {
  inside = λ k q there. elim (in_pushed met at k q there) [
    | inl old ↦ is.inside k q old
    | inr last ↦ (omega (arith, last, some), omega (arith, last, within))
  ];
  after = λ tail chain. subst (IsChain b first) (sym (append_one met tail at)) (is.after (at ∷ tail) (refl, kind, subst (λ m. IsChain b m tail) next_is chain));
  ahead = λ free chain none.
      let so_far = is.ahead free chain none in
      let more = next_there b at so_far.0 some so_far.2 in
      (more.after, so_far.1 ∙ ap (λ l. met ++ l) more.is ∙ sym (append_one met more.after at), subst (λ m. IsChain b m more.after) (sym next_is) more.chain);
}

append_nil : (xs : List ℕ) → xs ++ [] ≡ xs
append_nil [] = refl
append_nil (x ∷ xs) = ap (λ l. x ∷ l) (append_nil xs)

-- at its end
pub followed_end : (b : List ℕ) (pages first at : ℕ) (met : List ℕ) → IsFollowed b pages first at met → at ≡ 0 → IsFreeList b pages first met
followed_end b pages first at met is end = record {
  chain = subst (IsChain b first) (append_nil met) (is.after [] end);
  inside = is.inside;
}

-- another page ahead that is no free page of so many
pub followed_broken : (b : List ℕ) (pages first at : ℕ) (met free : List ℕ) → IsFollowed b pages first at met → at ≢ 0 → (at < pages → kind_of (page_at b at) ≢ 0) → IsFreeList b pages first free → ⊥
followed_broken b pages first at met free is some broken list =
    let so_far = is.ahead free list.chain (inside_some pages free list.inside) in
    let more = next_there b at so_far.0 some so_far.2 in
    let there : free ≡ met ++ at ∷ more.after = so_far.1 ∙ ap (λ l. met ++ l) more.is in
    let here = list.inside (length met) at (ap (λ l. slice_get l (length met)) there ∙ at_length met more.after at) in
    broken here.1 more.kind
  where
    at_length : (xs ys : List ℕ) (x : ℕ) → slice_get (xs ++ x ∷ ys) (length xs) ≡ Some x
    at_length [] ys x = refl
    at_length (z ∷ xs) ys x = at_length xs ys x

-- more pages ahead than there may be
pub followed_long : (b : List ℕ) (pages first at : ℕ) (met free : List ℕ) → IsFollowed b pages first at met → at ≢ 0 → IsFreeList b pages first free → length met < length free
followed_long b pages first at met free is some list =
    let so_far = is.ahead free list.chain (inside_some pages free list.inside) in
    let more = next_there b at so_far.0 some so_far.2 in
    let long = ap length (so_far.1 ∙ ap (λ l. met ++ l) more.is) ∙ length-append met (at ∷ more.after) in
    omega (arith, long)
