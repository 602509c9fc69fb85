-- A walk from leaf to leaf passes each leaf of the tree, in their order.
use Rattle.std.proofs.Common.{◌≡◌, inl, inr, ℕ, zero, suc, ◌+◌, ◌-◌, ◌<◌, ◌≤◌, List, [], ◌∷◌, ◌++◌, length, get_or, arith, refl, sym, ◌∙◌, ap, subst, length-append}
use Rattle.std.proofs.lemmas.List.{append-nil, append_assoc}
use Rattle.page_tree.specs.Page.{page_at, filled, link_at}
use Rattle.page_tree.specs.Leaves.{gathered, leaves_below, leaves_of}
use Rattle.std.proofs.lemmas.Bool.{cases_eq}
use Rattle.page_tree.specs.Broken.{Meets}
use Rattle.page_tree.specs.Met.{IsMetPath}
use Rattle.page_tree.specs.Walked.{page_on, IsThread, IsLedDown, leaves_ahead, IsLastBelow, IsWalked}
use Rattle.page_tree.proofs.Threads.{on_other}

-- where the path has last children only, its leaf is the last below each of its pages
pub last_ahead : (k : ℕ) (b : List ℕ) (levels root : ℕ) (pages index : List ℕ) (at : ℕ) → IsThread k b levels 1 root pages index at → (d : ℕ) → suc d ≤ levels → IsLastBelow b pages index (suc (suc d))
    → leaves_below k b d (page_on pages 1 at (suc d)) ≡ leaves_ahead k b pages index d ++ at ∷ []
last_ahead k b levels root pages index at thread zero most last = refl
last_ahead k b levels root pages index at thread (suc d) most last =
    let is : page_on pages 1 at (suc (suc d)) ≡ get_or pages (suc (suc d)) 0 = on_other pages 1 at (suc (suc d)) (omega arith) in
    let chosen : filled (page_at b (get_or pages (suc (suc d)) 0)) ≡ get_or index (suc (suc d)) 0 = sym (last (suc (suc d)) (omega arith) (omega arith)) in
    let below : leaves_below k b d (link_at k (page_at b (get_or pages (suc (suc d)) 0)) (get_or index (suc (suc d)) 0)) ≡ leaves_ahead k b pages index d ++ at ∷ [] =
    ap (leaves_below k b d) (sym (thread.linked (suc d) (omega arith) (omega (arith, most)))) ∙ last_ahead k b levels root pages index at thread d (omega (arith, most)) (λ (l : ℕ) (more : 1 < l) (less : l < suc (suc d)). last l more (omega (arith, less))) in
    ap (leaves_below k b (suc d)) is
    ∙ ap (λ (n : ℕ). gathered (λ i. leaves_below k b d (link_at k (page_at b (get_or pages (suc (suc d)) 0)) i)) (suc n)) chosen
    ∙ ap (λ (xs : List ℕ). gathered (λ i. leaves_below k b d (link_at k (page_at b (get_or pages (suc (suc d)) 0)) i)) (get_or index (suc (suc d)) 0) ++ xs) below
    ∙ sym (append_assoc (gathered (λ i. leaves_below k b d (link_at k (page_at b (get_or pages (suc (suc d)) 0)) i)) (get_or index (suc (suc d)) 0)) (leaves_ahead k b pages index d) (at ∷ []))

-- below first children no leaf stands before
pub none_ahead : (k : ℕ) (b pages index : List ℕ) (d : ℕ) → ((l : ℕ) → 1 < l → l < suc (suc d) → get_or index l 0 ≡ 0) → leaves_ahead k b pages index d ≡ []
none_ahead k b pages index zero first = refl
none_ahead k b pages index (suc d) first =
    ap (λ (n : ℕ). gathered (λ i. leaves_below k b d (link_at k (page_at b (get_or pages (suc (suc d)) 0)) i)) n ++ leaves_ahead k b pages index d) (first (suc (suc d)) (omega arith) (omega arith))
    ∙ none_ahead k b pages index d (λ (l : ℕ) (more : 1 < l) (less : l < suc (suc d)). first l more (omega (arith, less)))

-- the path turns at level e + 2
module _ (k : ℕ) (b : List ℕ) (levels root : ℕ) (pages index pages' index' : List ℕ) (at e : ℕ) (thread : IsThread k b levels 1 root pages index at) (most : suc (suc e) ≤ levels) (last : IsLastBelow b pages index (suc (suc e)))
    (led : IsLedDown (suc (suc e)) (get_or pages (suc (suc e)) 0) (get_or index (suc (suc e)) 0 + 1) pages index pages' index') where
  abbrev ahead_of : List ℕ → ℕ → ℕ → ℕ → List ℕ
  ahead_of xs d page n = gathered (λ i. leaves_below k b d (link_at k (page_at b page) i)) n ++ xs

  turned_ahead : leaves_ahead k b pages' index' (suc e) ≡ leaves_ahead k b pages index (suc e) ++ at ∷ []
  turned_ahead =
      let here : get_or index' (suc (suc e)) 0 ≡ suc (get_or index (suc (suc e)) 0) = led.here_index (omega arith) ∙ omega arith in
      let below : leaves_below k b e (link_at k (page_at b (get_or pages (suc (suc e)) 0)) (get_or index (suc (suc e)) 0)) ≡ leaves_ahead k b pages index e ++ at ∷ [] =
      ap (leaves_below k b e) (sym (thread.linked (suc e) (omega arith) (omega (arith, most)))) ∙ last_ahead k b levels root pages index at thread e (omega (arith, most)) last in
      ap (λ (p : ℕ). ahead_of (leaves_ahead k b pages' index' e) e p (get_or index' (suc (suc e)) 0)) (led.here_page (omega arith))
      ∙ ap (ahead_of (leaves_ahead k b pages' index' e) e (get_or pages (suc (suc e)) 0)) here
      ∙ ap (λ (xs : List ℕ). ahead_of xs e (get_or pages (suc (suc e)) 0) (suc (get_or index (suc (suc e)) 0))) (none_ahead k b pages' index' e led.first)
      ∙ append-nil (gathered (λ i. leaves_below k b e (link_at k (page_at b (get_or pages (suc (suc e)) 0)) i)) (suc (get_or index (suc (suc e)) 0)))
      ∙ ap (λ (xs : List ℕ). gathered (λ i. leaves_below k b e (link_at k (page_at b (get_or pages (suc (suc e)) 0)) i)) (get_or index (suc (suc e)) 0) ++ xs) below
      ∙ sym (append_assoc (gathered (λ i. leaves_below k b e (link_at k (page_at b (get_or pages (suc (suc e)) 0)) i)) (get_or index (suc (suc e)) 0)) (leaves_ahead k b pages index e) (at ∷ []))

  above_ahead : (d : ℕ) → suc e ≤ d → leaves_ahead k b pages' index' d ≡ leaves_ahead k b pages index d ++ at ∷ []
  above_ahead zero from = absurd (omega (arith, from))
  above_ahead (suc d) from = elim (cases_eq d e) [
    | inl same ↦ subst (λ (n : ℕ). leaves_ahead k b pages' index' (suc n) ≡ leaves_ahead k b pages index (suc n) ++ at ∷ []) (sym same) turned_ahead
    | inr other ↦
        ap (λ (p : ℕ). ahead_of (leaves_ahead k b pages' index' d) d p (get_or index' (suc (suc d)) 0)) (led.above_pages (suc (suc d)) (omega (arith, from, other)))
        ∙ ap (ahead_of (leaves_ahead k b pages' index' d) d (get_or pages (suc (suc d)) 0)) (led.above_index (suc (suc d)) (omega (arith, from, other)))
        ∙ ap (λ (xs : List ℕ). ahead_of xs d (get_or pages (suc (suc d)) 0) (get_or index (suc (suc d)) 0)) (above_ahead d (omega (arith, from, other)))
        ∙ sym (append_assoc (gathered (λ i. leaves_below k b d (link_at k (page_at b (get_or pages (suc (suc d)) 0)) i)) (get_or index (suc (suc d)) 0)) (leaves_ahead k b pages index d) (at ∷ []))
  ]

  pub walked_ahead : leaves_ahead k b pages' index' (levels - 1) ≡ leaves_ahead k b pages index (levels - 1) ++ at ∷ []
  walked_ahead = above_ahead (levels - 1) (omega (arith, most))

-- where it turns at no level, all leaves are passed but its own
pub all_walked : (k : ℕ) (b : List ℕ) (levels root : ℕ) (pages index : List ℕ) (at : ℕ) (passed : List ℕ) → 1 ≤ levels → IsWalked k b levels root pages index at passed → IsLastBelow b pages index (levels + 1) → leaves_of k b levels root ≡ passed ++ at ∷ []
all_walked k b zero root pages index at passed some walked last = absurd (omega (arith, some))
all_walked k b (suc d) root pages index at passed some walked last =
    let same : suc d - 1 ≡ d = omega arith in
    ap (leaves_below k b d) (sym walked.thread.top)
    ∙ last_ahead k b (suc d) root pages index at walked.thread d (omega arith) (λ (l : ℕ) (more : 1 < l) (less : l < suc (suc d)). last l more (omega (arith, less)))
    ∙ ap (λ (n : ℕ). leaves_ahead k b pages index n ++ at ∷ []) (sym same) ∙ ap (λ (xs : List ℕ). xs ++ at ∷ []) walked.ahead

pub walked_on : (k : ℕ) (b : List ℕ) (levels root : ℕ) (pages index pages' index' : List ℕ) (at next level : ℕ) (passed : List ℕ) → 2 ≤ level → level ≤ levels → IsWalked k b levels root pages index at passed → IsLastBelow b pages index level
    → IsLedDown level (get_or pages level 0) (get_or index level 0 + 1) pages index pages' index' → Meets k b 1 next → IsMetPath k b levels 1 root pages' index' → IsThread k b levels 1 root pages' index' next → IsWalked k b levels root pages' index' next (passed ++ at ∷ [])
walked_on k b levels root pages index pages' index' at next zero passed two most walked last led met path thread = absurd (omega (arith, two))
walked_on k b levels root pages index pages' index' at next (suc zero) passed two most walked last led met path thread = absurd (omega (arith, two))
walked_on k b levels root pages index pages' index' at next (suc (suc e)) passed two most walked last led met path thread = record {
  met = met;
  path = path;
  thread = thread;
  ahead = walked_ahead k b levels root pages index pages' index' at e walked.thread most last led ∙ ap (λ (xs : List ℕ). xs ++ at ∷ []) walked.ahead;
}

-- at the first leaf
pub walked_first : (k : ℕ) (b : List ℕ) (levels root at0 : ℕ) (pages index pages' index' : List ℕ) (at : ℕ) → 1 ≤ levels → IsLedDown levels at0 0 pages index pages' index' → Meets k b 1 at → IsMetPath k b levels 1 root pages' index' → IsThread k b levels 1 root pages' index' at
    → IsWalked k b levels root pages' index' at []
walked_first k b levels root at0 pages index pages' index' at some led met path thread = record {
  met = met;
  path = path;
  thread = thread;
  ahead = none_ahead k b pages' index' (levels - 1) first;
}
  where
    first : (l : ℕ) → 1 < l → l < suc (suc (levels - 1)) → get_or index' l 0 ≡ 0
    first l more less = elim (cases_eq l levels) [
      | inl same ↦ ap (λ (i : ℕ). get_or index' i 0) same ∙ led.here_index (omega (arith, more, same))
      | inr other ↦ led.first l more (omega (arith, less, other, some))
    ]

gathered_grows : (f : ℕ → List ℕ) (n m : ℕ) → n ≤ m → length (gathered f n) ≤ length (gathered f m)
gathered_grows f n zero few = let none : n ≡ 0 = omega (arith, few) in omega (arith, ap (λ (i : ℕ). length (gathered f i)) none)
gathered_grows f n (suc m) few = elim (cases_eq n (suc m)) [
  | inl same ↦ omega (arith, ap (λ (i : ℕ). length (gathered f i)) same)
  | inr other ↦ omega (arith, gathered_grows f n m (omega (arith, few, other)), length-append (gathered f m) (f m))
]

-- the leaves before a path are fewer than all
fewer_ahead : (k : ℕ) (b : List ℕ) (levels root : ℕ) (pages index : List ℕ) (at : ℕ) → IsThread k b levels 1 root pages index at → IsMetPath k b levels 1 root pages index → (d : ℕ) → suc d ≤ levels
    → length (leaves_ahead k b pages index d) < length (leaves_below k b d (page_on pages 1 at (suc d)))
fewer_ahead k b levels root pages index at thread path zero most = omega arith
fewer_ahead k b levels root pages index at thread path (suc d) most =
    let lower = fewer_ahead k b levels root pages index at thread path d (omega (arith, most)) in
    let is : page_on pages 1 at (suc (suc d)) ≡ get_or pages (suc (suc d)) 0 = on_other pages 1 at (suc (suc d)) (omega arith) in
    let chosen = path.chosen (suc (suc d)) (omega arith) most in
    let below = ap (λ (p : ℕ). length (leaves_below k b d p)) (thread.linked (suc d) (omega arith) (omega (arith, most))) in
    let grows = gathered_grows (λ i. leaves_below k b d (link_at k (page_at b (get_or pages (suc (suc d)) 0)) i)) (suc (get_or index (suc (suc d)) 0)) (suc (filled (page_at b (get_or pages (suc (suc d)) 0)))) (omega (arith, chosen)) in
    omega (
      arith,
      lower,
      below,
      grows,
      length-append (gathered (λ i. leaves_below k b d (link_at k (page_at b (get_or pages (suc (suc d)) 0)) i)) (get_or index (suc (suc d)) 0)) (leaves_below k b d (link_at k (page_at b (get_or pages (suc (suc d)) 0)) (get_or index (suc (suc d)) 0))),
      length-append (gathered (λ i. leaves_below k b d (link_at k (page_at b (get_or pages (suc (suc d)) 0)) i)) (get_or index (suc (suc d)) 0)) (leaves_ahead k b pages index d),
      ap (λ (p : ℕ). length (leaves_below k b (suc d) p)) is,
    )

pub fewer_passed : (k : ℕ) (b : List ℕ) (levels root : ℕ) (pages index : List ℕ) (at : ℕ) (passed : List ℕ) → 1 ≤ levels → IsWalked k b levels root pages index at passed → length passed < length (leaves_of k b levels root)
fewer_passed k b zero root pages index at passed some walked = absurd (omega (arith, some))
fewer_passed k b (suc d) root pages index at passed some walked =
    let same : suc d - 1 ≡ d = omega arith in
    omega (
      arith,
      fewer_ahead k b (suc d) root pages index at walked.thread walked.path d (omega arith),
      ap (λ (p : ℕ). length (leaves_below k b d p)) walked.thread.top,
      ap (λ (n : ℕ). length (leaves_ahead k b pages index n)) same,
      ap length walked.ahead,
    )
