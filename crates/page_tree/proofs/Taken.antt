-- A page that is taken.
use Rattle.std.proofs.Common.{◌≡◌, ◌≢◌, inl, inr, ℕ, ◌+◌, ◌<◌, List, [], ◌∷◌, arith, refl, sym, ◌∙◌, ap, subst}
use Rattle.page_tree.specs.Page.{page_at, kind_of, next_in}
use Rattle.page_tree.specs.Tree.{IsChain}
use Rattle.page_tree.specs.Open.{IsTaken, CanTake}
use Rattle.page_tree.proofs.Once.{frees_cons, mark}

-- where the list is empty
pub taken_fresh : (b free : List ℕ) (first top pages page : ℕ) → CanTake b free first top pages → first ≡ 0 → page ≡ top + 1 → IsTaken b free top first page page × (top + 1 < pages)
taken_fresh b [] first top pages page can none is = (record { rest = []; chain = none; from = inr (refl, refl, is, is) }, can.room refl)
taken_fresh b (p ∷ ps) first top pages page can none is =
    let inside = can.inside p (omega (arith, frees_cons p p ps, mark p p refl)) in
    absurd (omega (arith, inside.0, none, can.chain.0))

-- where it is not
pub taken_listed : (b free : List ℕ) (first top pages next : ℕ) → CanTake b free first top pages → first ≢ 0 → next ≡ next_in (page_at b first)
    → (first < pages) × (kind_of (page_at b first) ≡ 0) × IsTaken b free top next top first
taken_listed b [] first top pages next can some is = absurd (some can.chain)
taken_listed b (p ∷ ps) first top pages next can some is =
    let inside = can.inside p (omega (arith, frees_cons p p ps, mark p p refl)) in
    let here : first ≡ p = can.chain.0 in
    let follows : IsChain b next ps = subst (λ (m : ℕ). IsChain b m ps) (sym (is ∙ ap (λ (m : ℕ). next_in (page_at b m)) here)) can.chain.2 in (
      omega (arith, inside.1, here),
      ap (λ (m : ℕ). kind_of (page_at b m)) here ∙ can.chain.1,
      record { rest = ps; chain = follows; from = inl (ap (λ (m : ℕ). m ∷ ps) (sym here), refl) },
    )

-- the page that follows it lies in the memory
pub taken_next : (b free : List ℕ) (first top pages next : ℕ) → CanTake b free first top pages → first ≢ 0 → next ≡ next_in (page_at b first) → next < pages
taken_next b [] first top pages next can some is = absurd (some can.chain)
taken_next b (p ∷ []) first top pages next can some is =
    let inside = can.inside p (omega (arith, frees_cons p p [], mark p p refl)) in
    omega (arith, inside.1, is ∙ ap (λ (m : ℕ). next_in (page_at b m)) can.chain.0 ∙ can.chain.2)
taken_next b (p ∷ q ∷ qs) first top pages next can some is =
    let inside = can.inside q (omega (arith, frees_cons q p (q ∷ qs), frees_cons q q qs, mark q q refl)) in
    omega (arith, inside.1, is ∙ ap (λ (m : ℕ). next_in (page_at b m)) can.chain.0 ∙ can.chain.2.0)
