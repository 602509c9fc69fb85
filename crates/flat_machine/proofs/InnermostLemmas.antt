-- Each page of the root has one innermost space.
use Rattle.std.proofs.Common.{◌≡◌, ◌≢◌, ◌⊎◌, inl, inr, ℕ, zero, suc, ◌+◌, ◌<◌, ◌≤◌, Bool, true, false, not, ◌&&◌, List, [], ◌∷◌, Option, Some, None, refl, sym, ◌∙◌, ap, subst, arith}
use Rattle.std.specs.Prelude.{nat_le, nat_lt, ◌==◌}
use Rattle.std.specs.List.{list_any}
use Rattle.std.specs.Option.{option_map_or}
use Rattle.std.proofs.lemmas.Bool.{eqb-true, eqb-false, and_parts, leb-true, ltb-true, true≢false, false≢true, not-true}
use Rattle.std.proofs.lemmas.Bool.Decides.{nat_tests}
use Rattle.flat_machine.specs.Space.{Space, root, root_pages, end, holds, overlap, is_child_of, innermost}
use Rattle.flat_machine.specs.Machine.{IsSpace, ancestor}
use Rattle.flat_machine.specs.Laws.{IsAtOrAbove}
use Rattle.flat_machine.specs.SpaceLaws.{IsInnermost, InnermostIsOne}
use Rattle.flat_machine.proofs.Lists.{In, all_in, any_in, in_any, find_in, not_found, not_any, any_not, looked_up, look_up}
use Rattle.flat_machine.proofs.SpaceLemmas.{AreSpaces}
use Rattle.flat_machine.proofs.SpaceEdits.{child_by}
use Rattle.flat_machine.proofs.PathLemmas.{ChildOnTheWay, covers, on_the_way, shares_path}

pub hold_parts : (s : Space) (p : ℕ) → holds s p ≡ true → (s.first ≤ p) × (p < end s)
hold_parts s p e = let parts = and_parts (nat_le s.first p) (nat_lt p (end s)) e in (leb-true s.first p parts.0, ltb-true p (end s) parts.1)

pub holds_by : (s : Space) (p : ℕ) → s.first ≤ p → p < end s → holds s p ≡ true
holds_by s p l m = both s.first p (end s) l m
  where
    both : (a b c : ℕ) → a ≤ b → b < c → nat_le a b && nat_lt b c ≡ true
    both a b c l m = grind (arith, nat_tests)

-- two that hold one page share it
pub both_hold : (s t : Space) (p : ℕ) → holds s p ≡ true → holds t p ≡ true → overlap s t ≡ true
both_hold s t p e f =
    let a = hold_parts s p e in let b = hold_parts t p f in
    both s.first (end t) t.first (end s) (omega (arith, a.0, b.1)) (omega (arith, b.0, a.1))
  where
    both : (a b c d : ℕ) → a < b → c < d → nat_lt a b && nat_lt c d ≡ true
    both a b c d l k = grind (arith, nat_tests)

-- the space holds the page, and none of its children does
pub record IsInner (ss : List Space) (p : ℕ) (s : Space) : Type 0 where
  pub there : In s ss
  pub holds_it : holds s p ≡ true
  pub no_child : (t : Space) → In t ss → is_child_of s.handle t ≡ true → holds t p ≡ true → ⊥

abbrev pub child_there : List Space → ℕ → Space → Space → Bool
child_there ss p s t = is_child_of s.handle t && holds t p

pub inner_found : (ss : List Space) (p : ℕ) (s : Space) → innermost ss p ≡ Some s → IsInner ss p s
inner_found ss p s e =
    let r = find_in (λ t. holds t p && not (list_any (child_there ss p t) ss)) ss s e in
    let parts = and_parts (holds s p) (not (list_any (child_there ss p s) ss)) r.1 in record {
      there = r.0;
      holds_it = parts.0;
      no_child = λ t i c k. true≢false (sym (both (is_child_of s.handle t) (holds t p) c k) ∙ not_any (child_there ss p s) ss (not-true (list_any (child_there ss p s) ss) parts.1) t i);
    }
  where
    both : (a b : Bool) → a ≡ true → b ≡ true → a && b ≡ true
    both true b e f = f
    both false b e f = absurd (false≢true e)

and_true : (a b : Bool) → a ≡ true → b ≡ true → a && b ≡ true
and_true true b e f = f
and_true false b e f = absurd (false≢true e)

module _ (ss : List Space) (h : AreSpaces ss) where
  pub root_there : In root ss
  root_there = (looked_up (λ s. s.handle) ss 0 root h.has_root).0

  pub one_inner : (p : ℕ) (s t : Space) → IsInner ss p s → IsInner ss p t → s ≡ t
  one_inner p s t is it = by (shares_path ss h s t is.there it.there (both_hold s t p is.holds_it it.holds_it))
    where
      below : (s t : Space) → IsInner ss p s → IsInner ss p t → (t ≡ s) ⊎ ChildOnTheWay ss h s t → s ≡ t
      below s t is it (inl q) = sym q
      below s t is it (inr c) =
          let at = hold_parts t p it.holds_it in
          let over = covers ss h c.above.0 c.child t c.there it.there c.above.1 in
          absurd (is.no_child c.child c.there (child_by s.handle c.child c.not_root c.parent) (holds_by c.child p (omega (arith, at.0, over.first)) (omega (arith, at.1, over.last))))

      by : IsAtOrAbove ss s t ⊎ IsAtOrAbove ss t s → s ≡ t
      by (inl a) = below s t is it (on_the_way ss h a.0 s t is.there it.there a.1)
      by (inr a) = sym (below t s it is (on_the_way ss h a.0 t s it.there is.there a.1))

  pub found_inner : (p : ℕ) (s : Space) → IsInner ss p s → innermost ss p ≡ Some s
  found_inner p s is = either (innermost ss p) refl
    where
      passes : (holds s p && not (list_any (child_there ss p s) ss)) ≡ true
      passes = and_true (holds s p) (not (list_any (child_there ss p s) ss)) is.holds_it (ap not (any_not (child_there ss p s) ss (λ t i. none t i (child_there ss p s t) refl)))
        where
          none : (t : Space) → In t ss → (b : Bool) → (is_child_of s.handle t && holds t p) ≡ b → (is_child_of s.handle t && holds t p) ≡ false
          none t i false e = e
          none t i true e = let parts = and_parts (is_child_of s.handle t) (holds t p) e in absurd (is.no_child t i parts.0 parts.1)

      either : (o : Option Space) → innermost ss p ≡ o → innermost ss p ≡ Some s
      either None e = absurd (true≢false (sym passes ∙ not_found (λ t. holds t p && not (list_any (child_there ss p t) ss)) ss e s is.there))
      either (Some t) e = e ∙ ap Some (one_inner p t s (inner_found ss p t e) is)

-- so many steps up lead to the root, and fewer do not
record IsDeep (ss : List Space) (s : Space) (k : ℕ) : Type 0 where
  root_at : ancestor ss k s.handle ≡ 0
  sooner : (j : ℕ) → j < k → ancestor ss j s.handle ≢ 0

-- one number is enough for all
all_bounded : (P : Space → ℕ → Type 0) (xs : List Space) → ((s : Space) → In s xs → (n : ℕ) × P s n) → (most : ℕ) × ((s : Space) → In s xs → (n : ℕ) × (n ≤ most) × P s n)
all_bounded P [] f = (0, λ s i. absurd i)
all_bounded P (x ∷ xs) f = add (f x (inl refl)) (all_bounded P xs (λ s i. f s (inr i)))
  where
    add : (n : ℕ) × P x n → (most : ℕ) × ((s : Space) → In s xs → (n : ℕ) × (n ≤ most) × P s n) → (most : ℕ) × ((s : Space) → In s (x ∷ xs) → (n : ℕ) × (n ≤ most) × P s n)
    add (n, p) (m, g) = (n + m, at)
      where
        wider : (s : Space) → (k : ℕ) × (k ≤ m) × P s k → (k : ℕ) × (k ≤ n + m) × P s k
        wider s r = (r.0, omega (arith, r.1), r.2)

        at : (s : Space) → (x ≡ s) ⊎ In s xs → (k : ℕ) × (k ≤ n + m) × P s k
        at s (inl e) = (n, omega arith, subst (λ (t : Space). P t n) e p)
        at s (inr i) = wider s (g s i)

module _ (ss : List Space) (h : AreSpaces ss) (p : ℕ) where
  step : (k : ℕ) (s : Space) → In s ss → ancestor ss (suc k) s.handle ≡ ancestor ss k s.parent
  step k s i = ap (λ (o : Option Space). ancestor ss k (option_map_or (λ t. t.parent) o 0)) (look_up (λ t. t.handle) ss h.rise s i s.handle refl)

  deeper : (s t : Space) (k : ℕ) → In t ss → is_child_of s.handle t ≡ true → IsDeep ss s k → IsDeep ss t (suc k)
  deeper s t k i c d =
      let parts = and_parts (not (t.handle == 0)) (t.parent == s.handle) c in
      let up : t.parent ≡ s.handle = eqb-true t.parent s.handle parts.1 in
      record {
        root_at = step k t i ∙ ap (λ (n : ℕ). ancestor ss k n) up ∙ d.root_at;
        sooner = λ j l. early j l (eqb-false t.handle 0 (not-true (t.handle == 0) parts.0)) up;
      }
    where
      early : (j : ℕ) → j < suc k → t.handle ≢ 0 → t.parent ≡ s.handle → ancestor ss j t.handle ≢ 0
      early zero l n up e = n e
      early (suc j) l n up e = d.sooner j (omega (arith, l)) (sym (step j t i ∙ ap (λ (m : ℕ). ancestor ss j m) up) ∙ e)

  descend : (most : ℕ) → ((s : Space) → In s ss → (n : ℕ) × (n ≤ most) × (ancestor ss n s.handle ≡ 0)) → (fuel k : ℕ) (s : Space) → In s ss → holds s p ≡ true → IsDeep ss s k → most < fuel + k
      → (t : Space) × IsInner ss p t
  descend most bound zero k s i e d l =
      let r = bound s i in absurd (d.sooner r.0 (omega (arith, r.1, l)) r.2)
  descend most bound (suc fuel) k s i e d l = either (list_any (λ t. is_child_of s.handle t && holds t p) ss) refl (λ t j f g. descend most bound fuel (suc k) t j f g (omega (arith, l)))
    where
      either : (b : Bool) → list_any (λ t. is_child_of s.handle t && holds t p) ss ≡ b → ((t : Space) → In t ss → holds t p ≡ true → IsDeep ss t (suc k) → (u : Space) × IsInner ss p u)
          → (t : Space) × IsInner ss p t
      either true q next =
          let r = any_in (λ t. is_child_of s.handle t && holds t p) ss q in
          let parts = and_parts (is_child_of s.handle r.0) (holds r.0 p) r.2 in
          next r.0 r.1 parts.1 (deeper s r.0 k r.1 parts.0 d)
      either false q next = (s, record { there = i; holds_it = e; no_child = λ t j c f. none t j c f })
        where
          both : (a b : Bool) → a ≡ true → b ≡ true → (a && b) ≡ true
          both true b x y = y
          both false b x y = absurd (true≢false (sym x))

          none : (t : Space) → In t ss → is_child_of s.handle t ≡ true → holds t p ≡ true → ⊥
          none t j c f = true≢false (sym (in_any (λ t. is_child_of s.handle t && holds t p) ss t j (both (is_child_of s.handle t) (holds t p) c f)) ∙ q)

  inner_there : p < root_pages → (t : Space) × IsInner ss p t
  inner_there l =
      let b = all_bounded (λ s n. ancestor ss n s.handle ≡ 0) ss (λ s i. (all_in (IsSpace ss) ss h.whole s i).leads_to_root) in
      descend b.0 b.1 (suc b.0) 0 root (root_there ss h) (holds_by root p (omega arith) (omega (arith, l))) (record { root_at = refl; sooner = λ j m. absurd (omega arith) }) (omega arith)

  -- the same, by look-up
  revealed : (s : Space) → IsInner ss p s → IsInnermost ss p s
  revealed s is = record {
    there = look_up (λ t. t.handle) ss h.rise s is.there s.handle refl;
    holds_it = is.holds_it;
    no_child = λ t at child. none t (holds t p) refl (looked_up (λ r. r.handle) ss t.handle t at).0 child;
  }
    where
      none : (t : Space) (b : Bool) → holds t p ≡ b → In t ss → is_child_of s.handle t ≡ true → holds t p ≡ false
      none t false e i child = e
      none t true e i child = absurd (is.no_child t i child e)

  untold : (s : Space) → IsInnermost ss p s → IsInner ss p s
  untold s is = record {
    there = (looked_up (λ r. r.handle) ss s.handle s is.there).0;
    holds_it = is.holds_it;
    no_child = λ t i child k. true≢false (sym k ∙ is.no_child t (look_up (λ r. r.handle) ss h.rise t i t.handle refl) child);
  }

pub innermost_is_one : InnermostIsOne
innermost_is_one ss page h l =
    let r = inner_there ss h page l in
    (r.0, found_inner ss h page r.0 r.1, revealed ss h page r.0 r.1, λ t is. one_inner ss h page t r.0 (untold ss h page t is) r.1)
