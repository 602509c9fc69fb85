-- One step of a removal: the page is enough, its first key is another, it is joined with a neighbour, or items are shifted.
use Rattle.std.proofs.Common.{◌≡◌, ◌≢◌, inl, inr, ℕ, zero, suc, ◌+◌, ◌<◌, ◌≤◌, List, [], ◌∷◌, ◌++◌, length, get_or, arith, refl, sym, ◌∙◌, ap}
use Rattle.std.proofs.lemmas.Bool.{cases_eq}
use Rattle.page_tree.specs.Keys.{Item}
use Rattle.page_tree.specs.Page.{page_at, kind_of, next_in, IsPageOf, IsEnough}
use Rattle.page_tree.specs.Tree.{Node, node_at, before, head_of}
use Rattle.page_tree.specs.Change.{splice, splice_two, with_level}
use Rattle.page_tree.specs.Path.{IsPath}
use Rattle.page_tree.specs.Open.{IsOpen}
use Rattle.page_tree.specs.Climb.{IsClosed}
use Rattle.page_tree.specs.Due.{swapped, IsDue}
use Rattle.page_tree.specs.Rebalance.{IsRebalance}
use Rattle.page_tree.proofs.Splice.{KeepsHead}
use Rattle.page_tree.proofs.Once.{level_same, level_other}
use Rattle.page_tree.proofs.Changed.{length-splice}
use Rattle.page_tree.proofs.OpenLaws.{open_put}
use Rattle.page_tree.proofs.Due.{put_due, rename_due, merge_due, merge_renamed, borrow_due, borrow_renamed}
use Rattle.page_tree.proofs.PairOpen.{open_merge, open_borrow}
use Rattle.page_tree.proofs.ClimbLaws.{path_above}

pub splice_here : (ns : List Node) (p : ℕ) (n : Node) (mid : List Node) → p < length ns → node_at (splice ns p (n ∷ mid)) p ≡ n
splice_here [] p n mid below = absurd (omega arith)
splice_here (m ∷ ns) zero n mid below = refl
splice_here (m ∷ ns) (suc p) n mid below = splice_here ns p n mid (omega arith)

-- the path above a level that is changed
pub path_kept : (nodes : ℕ → List Node) (levels at : ℕ) (ns : List Node) (paths index : List ℕ) (home : ℕ) (place : ℕ → ℕ) → IsPath nodes levels at paths index home place → at < levels
    → IsPath (with_level nodes at ns) levels (at + 1) paths index (get_or paths (at + 1) 0) place
path_kept nodes levels at ns paths index home place path under = record {
  top = above.top;
  inside = λ m from m_most. omega (arith, above.inside m from m_most, ap length (same_above m (omega (arith, from))));
  page = λ m from m_most. above.page m from m_most ∙ sym (ap (λ (xs : List Node). (node_at xs (place m)).page) (same_above m (omega (arith, from))));
  chosen = λ m from m_most. omega (arith, above.chosen m from m_most, ap (λ (xs : List Node). length (node_at xs (place m)).items) (same_above m (omega (arith, from))));
  below = λ m i next_m from m_most. omega (arith, above.below m i next_m from m_most, ap (λ (xs : List Node). before xs (place m)) (same_above m (omega (arith, from))));
  here = above.here ∙ sym (ap (λ (xs : List Node). (node_at xs (place (at + 1))).page) (same_above (at + 1) (omega arith)));
}
  where
    above : IsPath nodes levels (at + 1) paths index (get_or paths (at + 1) 0) place
    above = path_above nodes levels at (at + 1) paths index home place path refl (omega (arith, under))

    same_above : (m : ℕ) → at < m → with_level nodes at ns m ≡ nodes m
    same_above m from = level_other nodes at ns m (omega (arith, from))

module _ (e k pages : ℕ) (b : List ℕ) (records : List (List ℕ)) (levels at : ℕ) (paths index : List ℕ) (home slot less : ℕ) (its : List Item) (root first top : ℕ)
    (rebalance : IsRebalance e k pages b records levels at paths index home slot less its root first top) (some : 1 ≤ at) (most : at ≤ levels) (c : List ℕ) where
  abbrev pub rebalance_next : at < levels → (ns : List Node) (free : List ℕ) (now pos' slot' less' : ℕ) (its' : List Item) → IsOpen e k c levels (with_level rebalance.nodes at ns) free now top
      → IsDue k records levels (with_level rebalance.nodes at ns) (at + 1) pos' less' its' → pos' ≡ before (rebalance.nodes (at + 1)) (rebalance.place (at + 1)) + slot'
      → IsRebalance e k pages c records levels (at + 1) paths index (get_or paths (at + 1) 0) slot' less' its' root now top
  rebalance_next under ns free now pos' slot' less' its' opened due is = record {
    nodes = with_level rebalance.nodes at ns;
    free = free;
    place = rebalance.place;
    pos = pos';
    opened = opened;
    due = due;
    path = path_kept rebalance.nodes levels at ns paths index home rebalance.place rebalance.path under;
    pos_is = is ∙ sym (ap (λ (xs : List Node). before xs (rebalance.place (at + 1)) + slot') (level_other rebalance.nodes at ns (at + 1) (omega arith)));
    order = rebalance.order;
    one = ap length (level_other rebalance.nodes at ns levels (omega (arith, under))) ∙ rebalance.one;
    root_is = rebalance.root_is ∙ sym (ap (λ (xs : List Node). (node_at xs 0).page) (level_other rebalance.nodes at ns levels (omega (arith, under))));
    top_below = rebalance.top_below;
  }

  -- two neighbours, one of them on the path
  module _ (p j slot' : ℕ) (below : p + 1 < length (rebalance.nodes at)) (place : rebalance.pos ≡ before (rebalance.nodes at) p + j) (inside : j + less ≤ length ((node_at (rebalance.nodes at) p).items ++ (node_at (rebalance.nodes at) (suc p)).items))
      (under : at < levels) (listed : suc p ≡ before (rebalance.nodes (at + 1)) (rebalance.place (at + 1)) + slot')
      (others : (q : ℕ) → 1 ≤ q → q ≢ (node_at (rebalance.nodes at) p).page → q ≢ (node_at (rebalance.nodes at) (suc p)).page → page_at c q ≡ page_at b q) where
    pub rebalance_merge : (n : Node) → KeepsHead (rebalance.nodes at) p n → n.items ≡ swapped ((node_at (rebalance.nodes at) p).items ++ (node_at (rebalance.nodes at) (suc p)).items) j less its
        → IsPageOf e k at (page_at c n.page) n.items → IsEnough e k at (length n.items)
        → kind_of (page_at c (node_at (rebalance.nodes at) (suc p)).page) ≡ 0 → next_in (page_at c (node_at (rebalance.nodes at) (suc p)).page) ≡ first
        → IsRebalance e k pages c records levels (at + 1) paths index (get_or paths (at + 1) 0) slot' 1 [] root (node_at (rebalance.nodes at) (suc p)).page top
    rebalance_merge n keeps is page enough kind next =
        rebalance_next under (splice_two (rebalance.nodes at) p (n ∷ [])) ((node_at (rebalance.nodes at) (suc p)).page ∷ rebalance.free) (node_at (rebalance.nodes at) (suc p)).page (suc p) slot' 1 []
        (open_merge e k b levels rebalance.nodes rebalance.free first top rebalance.opened at p some most below c others n keeps.0 page (λ (h : at < levels). enough) kind next)
        (merge_due k records levels rebalance.nodes at rebalance.pos less its rebalance.due some p j place below inside n is keeps)
        listed

    pub rebalance_borrow : (l r : Node) → KeepsHead (rebalance.nodes at) p l → r.page ≡ (node_at (rebalance.nodes at) (suc p)).page
        → l.items ++ r.items ≡ swapped ((node_at (rebalance.nodes at) p).items ++ (node_at (rebalance.nodes at) (suc p)).items) j less its
        → IsPageOf e k at (page_at c l.page) l.items → IsPageOf e k at (page_at c r.page) r.items → IsEnough e k at (length l.items) → IsEnough e k at (length r.items)
        → IsRebalance e k pages c records levels (at + 1) paths index (get_or paths (at + 1) 0) slot' 1 (head_of r ∷ []) root first top
    rebalance_borrow l r keeps same is l_page r_page l_enough r_enough =
        rebalance_next under (splice_two (rebalance.nodes at) p (l ∷ r ∷ [])) rebalance.free first (suc p) slot' 1 (head_of r ∷ [])
        (open_borrow e k b levels rebalance.nodes rebalance.free first top rebalance.opened at p some most below c others l r keeps.0 same l_page r_page (λ (h : at < levels). l_enough) (λ (h : at < levels). r_enough))
        (borrow_due k records levels rebalance.nodes at rebalance.pos less its rebalance.due some p j place below inside l r is keeps)
        listed

    -- the first key of the two is another as well
    module _ (after : 0 < p) (slot'' : ℕ) (listed' : p ≡ before (rebalance.nodes (at + 1)) (rebalance.place (at + 1)) + slot'') where
      pub rebalance_merge_renamed : (n : Node) → n.page ≡ (node_at (rebalance.nodes at) p).page → n.items ≡ swapped ((node_at (rebalance.nodes at) p).items ++ (node_at (rebalance.nodes at) (suc p)).items) j less its
          → IsPageOf e k at (page_at c n.page) n.items → IsEnough e k at (length n.items)
          → kind_of (page_at c (node_at (rebalance.nodes at) (suc p)).page) ≡ 0 → next_in (page_at c (node_at (rebalance.nodes at) (suc p)).page) ≡ first
          → IsRebalance e k pages c records levels (at + 1) paths index (get_or paths (at + 1) 0) slot'' 2 (head_of n ∷ []) root (node_at (rebalance.nodes at) (suc p)).page top
      rebalance_merge_renamed n same is page enough kind next =
          rebalance_next under (splice_two (rebalance.nodes at) p (n ∷ [])) ((node_at (rebalance.nodes at) (suc p)).page ∷ rebalance.free) (node_at (rebalance.nodes at) (suc p)).page p slot'' 2 (head_of n ∷ [])
          (open_merge e k b levels rebalance.nodes rebalance.free first top rebalance.opened at p some most below c others n same page (λ (h : at < levels). enough) kind next)
          (merge_renamed k records levels rebalance.nodes at rebalance.pos less its rebalance.due some p j place below inside n is after)
          listed'

      pub rebalance_borrow_renamed : (l r : Node) → l.page ≡ (node_at (rebalance.nodes at) p).page → r.page ≡ (node_at (rebalance.nodes at) (suc p)).page
          → l.items ++ r.items ≡ swapped ((node_at (rebalance.nodes at) p).items ++ (node_at (rebalance.nodes at) (suc p)).items) j less its
          → IsPageOf e k at (page_at c l.page) l.items → IsPageOf e k at (page_at c r.page) r.items → IsEnough e k at (length l.items) → IsEnough e k at (length r.items)
          → IsRebalance e k pages c records levels (at + 1) paths index (get_or paths (at + 1) 0) slot'' 2 (head_of l ∷ head_of r ∷ []) root first top
      rebalance_borrow_renamed l r one two is l_page r_page l_enough r_enough =
          rebalance_next under (splice_two (rebalance.nodes at) p (l ∷ r ∷ [])) rebalance.free first p slot'' 2 (head_of l ∷ head_of r ∷ [])
          (open_borrow e k b levels rebalance.nodes rebalance.free first top rebalance.opened at p some most below c others l r one two l_page r_page (λ (h : at < levels). l_enough) (λ (h : at < levels). r_enough))
          (borrow_renamed k records levels rebalance.nodes at rebalance.pos less its rebalance.due some p j place below inside l r is after)
          listed'

  -- the page of the path alone
  module _ (inside : slot + less ≤ length (node_at (rebalance.nodes at) (rebalance.place at)).items) (n : Node) (same : n.page ≡ (node_at (rebalance.nodes at) (rebalance.place at)).page)
      (is : n.items ≡ swapped (node_at (rebalance.nodes at) (rebalance.place at)).items slot less its)
      (page : IsPageOf e k at (page_at c n.page) n.items) (enough : at < levels → IsEnough e k at (length n.items))
      (others : (q : ℕ) → 1 ≤ q → q ≢ (node_at (rebalance.nodes at) (rebalance.place at)).page → page_at c q ≡ page_at b q) where
    pub below_one : rebalance.place at < length (rebalance.nodes at)
    below_one = rebalance.path.inside at (omega arith) most

    abbrev pub rebalance_rename : (slot' : ℕ) → at < levels → 0 < rebalance.place at → rebalance.place at ≡ before (rebalance.nodes (at + 1)) (rebalance.place (at + 1)) + slot'
        → IsRebalance e k pages c records levels (at + 1) paths index (get_or paths (at + 1) 0) slot' 1 (head_of n ∷ []) root first top
    rebalance_rename slot' under after listed =
        rebalance_next under (splice (rebalance.nodes at) (rebalance.place at) (n ∷ [])) rebalance.free first (rebalance.place at) slot' 1 (head_of n ∷ [])
        (open_put e k b levels rebalance.nodes rebalance.free first top rebalance.opened at (rebalance.place at) some most below_one c n same page enough others)
        (rename_due k records levels rebalance.nodes at rebalance.pos less its rebalance.due some (rebalance.place at) slot rebalance.pos_is below_one inside n is after)
        listed

    abbrev pub rebalance_put : KeepsHead (rebalance.nodes at) (rebalance.place at) n → IsClosed e k pages c records levels root first top
    rebalance_put keeps = record {
      nodes = with_level rebalance.nodes at (splice (rebalance.nodes at) (rebalance.place at) (n ∷ []));
      free = rebalance.free;
      opened = open_put e k b levels rebalance.nodes rebalance.free first top rebalance.opened at (rebalance.place at) some most below_one c n same page enough others;
      listed = put_due k records levels rebalance.nodes at rebalance.pos less its rebalance.due some (rebalance.place at) slot rebalance.pos_is below_one inside n is keeps;
      order = rebalance.order;
      one = elim (cases_eq levels at) [
        | inl top_at ↦
            omega (arith, ap length (level_same rebalance.nodes at (splice (rebalance.nodes at) (rebalance.place at) (n ∷ [])) levels top_at), length-splice (rebalance.nodes at) (rebalance.place at) (n ∷ []) below_one, rebalance.one, ap (λ (l : ℕ). length (rebalance.nodes l)) top_at)
        | inr other ↦ ap length (level_other rebalance.nodes at (splice (rebalance.nodes at) (rebalance.place at) (n ∷ [])) levels other) ∙ rebalance.one
      ];
      root_is = elim (cases_eq levels at) [
        | inl top_at ↦
            let none : rebalance.place at ≡ 0 = ap rebalance.place (sym top_at) ∙ rebalance.path.top in
            rebalance.root_is ∙ ap (λ (l : ℕ). (node_at (rebalance.nodes l) 0).page) top_at ∙ ap (λ (i : ℕ). (node_at (rebalance.nodes at) i).page) (sym none)
            ∙ sym same
            ∙ sym (ap (λ (m : Node). m.page) (splice_here (rebalance.nodes at) (rebalance.place at) n [] below_one))
            ∙ ap (λ (i : ℕ). (node_at (splice (rebalance.nodes at) (rebalance.place at) (n ∷ [])) i).page) none
            ∙ sym (ap (λ (ns : List Node). (node_at ns 0).page) (level_same rebalance.nodes at (splice (rebalance.nodes at) (rebalance.place at) (n ∷ [])) levels top_at))
        | inr other ↦ rebalance.root_is ∙ sym (ap (λ (ns : List Node). (node_at ns 0).page) (level_other rebalance.nodes at (splice (rebalance.nodes at) (rebalance.place at) (n ∷ [])) levels other))
      ];
      top_below = rebalance.top_below;
    }
