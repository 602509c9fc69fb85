-- Two spaces share a page exactly where one is the other or above it.
use Rattle.std.proofs.Common.{◌≡◌, ◌≢◌, ◌⊎◌, inl, inr, ℕ, zero, suc, ◌<◌, ◌≤◌, Bool, true, ◌&&◌, List, Option, refl, sym, ◌∙◌, ap, subst, arith}
use Rattle.std.specs.Prelude.{nat_lt}
use Rattle.std.specs.Option.{option_map_or}
use Rattle.std.proofs.lemmas.Bool.{true≢false, and_parts, ltb-true, cases_eq}
use Rattle.std.proofs.lemmas.Bool.Decides.{nat_tests}
use Rattle.flat_machine.specs.Space.{Space, root, end, overlap, is_child_of}
use Rattle.flat_machine.specs.Machine.{IsSpace, ancestor, are_siblings}
use Rattle.flat_machine.specs.Laws.{IsAtOrAbove, SharingIsOnePath}
use Rattle.flat_machine.proofs.Lists.{In, all_in, looked_up, look_up, one_key}
use Rattle.flat_machine.proofs.SpaceLemmas.{AreSpaces, two_at, parent_at}
use Rattle.flat_machine.proofs.SpaceEdits.{overlap_swap, child_by}
use Rattle.flat_machine.proofs.Keep.{spaces_of}

-- the pages of the second are all in the first
pub record Covers (s t : Space) : Type 0 where
  pub first : s.first ≤ t.first
  pub last : end t ≤ end s

wider : (s t c : Space) → Covers c t → overlap s t ≡ true → overlap s c ≡ true
wider s t c in_c e =
    let parts = and_parts (nat_lt s.first (end t)) (nat_lt t.first (end s)) e in
    both s.first (end c) c.first (end s)
    (omega (arith, ltb-true s.first (end t) parts.0, in_c.last)) (omega (arith, ltb-true t.first (end s) parts.1, in_c.first))
  where
    both : (a b c d : ℕ) → a < b → c < d → nat_lt a b && nat_lt c d ≡ true
    both a b c d l k = grind (arith, nat_tests)

module _ (ss : List Space) (h : AreSpaces ss) where
  -- a step up
  up : (k : ℕ) (s : Space) → In s ss → ancestor ss (suc k) s.handle ≡ ancestor ss k s.parent
  up k s i = ap (λ (o : Option Space). ancestor ss k (option_map_or (λ t. t.parent) o 0)) (look_up (λ t. t.handle) ss h.rise s i s.handle refl)

  same : (s t : Space) → In s ss → In t ss → s.handle ≡ t.handle → s ≡ t
  same s t i j e = one_key (λ r. r.handle) ss h.rise s t i j e

  covers_self : (s t : Space) → s ≡ t → Covers s t
  covers_self s t e = subst (λ (r : Space). Covers s r) e (record { first = omega arith; last = omega arith })

  -- what is above covers what is below
  pub covers : (k : ℕ) (s t : Space) → In s ss → In t ss → ancestor ss k t.handle ≡ s.handle → Covers s t
  covers zero s t i j e = covers_self s t (same s t i j (sym e))
  covers (suc k) s t i j e =
      let p = parent_at ss t (all_in (IsSpace ss) ss h.whole t j) in
      let high = covers k s p.0 i p.1.there (ap (λ (n : ℕ). ancestor ss k n) p.1.parent ∙ sym (up k t j) ∙ e) in
      record { first = omega (arith, high.first, p.1.first); last = omega (arith, high.last, p.1.last) }

  pub above_shares : (s t : Space) → In s ss → In t ss → IsAtOrAbove ss s t → overlap s t ≡ true
  above_shares s t i j a =
      let c = covers a.0 s t i j a.1 in
      let some = (all_in (IsSpace ss) ss h.whole t j).not_empty in
      both s.first (end t) t.first (end s) (omega (arith, c.first, some)) (omega (arith, c.last, some))
    where
      both : (a b c d : ℕ) → a < b → c < d → nat_lt a b && nat_lt c d ≡ true
      both a b c d l k = grind (arith, nat_tests)

  -- below a space, on the way to another, stands one of its children, or the other is the space itself
  pub record ChildOnTheWay (p t : Space) : Type 0 where
    pub child : Space
    pub there : In child ss
    pub not_root : child.handle ≢ 0
    pub parent : child.parent ≡ p.handle
    pub above : IsAtOrAbove ss child t

  pub on_the_way : (k : ℕ) (p t : Space) → In p ss → In t ss → ancestor ss k t.handle ≡ p.handle → (t ≡ p) ⊎ ChildOnTheWay p t
  on_the_way zero p t i j e = inl (same t p j i e)
  on_the_way (suc k) p t i j e =
      let q = parent_at ss t (all_in (IsSpace ss) ss h.whole t j) in
      step q.0 q.1.there q.1.parent (cases_eq t.handle 0)
      (on_the_way k p q.0 i q.1.there (ap (λ (n : ℕ). ancestor ss k n) q.1.parent ∙ sym (up k t j) ∙ e))
    where
      step : (q : Space) → In q ss → q.handle ≡ t.parent → (t.handle ≡ 0) ⊎ (t.handle ≢ 0) → (q ≡ p) ⊎ ChildOnTheWay p q → (t ≡ p) ⊎ ChildOnTheWay p t
      step q l e (inl z) (inl is) =
          let r = looked_up (λ s. s.handle) ss 0 root h.has_root in
          let t_root : t ≡ root = same t root j r.0 z in
          let q_root : q ≡ root = same q root l r.0 (e ∙ ap (λ (s : Space). s.parent) t_root) in
          inl (t_root ∙ sym q_root ∙ is)
      step q l e (inr n) (inl is) = inr (record { child = t; there = j; not_root = n; parent = sym e ∙ ap (λ (s : Space). s.handle) is; above = (0, refl) })
      step q l e z (inr c) = inr (record {
        child = c.child;
        there = c.there;
        not_root = c.not_root;
        parent = c.parent;
        above = (suc c.above.0, up c.above.0 t j ∙ ap (λ (n : ℕ). ancestor ss c.above.0 n) (sym e) ∙ c.above.1);
      })

  one_path : (a b : ℕ) (s t : Space) → In s ss → In t ss → ancestor ss a s.handle ≡ 0 → ancestor ss b t.handle ≡ 0 → overlap s t ≡ true
      → IsAtOrAbove ss s t ⊎ IsAtOrAbove ss t s
  one_path zero b s t i j e f o = inl (b, f ∙ sym e)
  one_path (suc a) b s t i j e f o =
      let p = parent_at ss s (all_in (IsSpace ss) ss h.whole s i) in
      let shares : overlap p.0 t ≡ true = overlap_swap p.0 t ∙ wider t s p.0 (record { first = p.1.first; last = p.1.last }) (overlap_swap t s ∙ o) in
      by p.0 p.1.there p.1.parent (cases_eq s.handle 0)
      (one_path a b p.0 t p.1.there j (ap (λ (n : ℕ). ancestor ss a n) p.1.parent ∙ sym (up a s i) ∙ e) f shares)
    where
      below : (p : Space) → p.handle ≡ s.parent → s.handle ≢ 0 → (t ≡ p) ⊎ ChildOnTheWay p t → IsAtOrAbove ss s t ⊎ IsAtOrAbove ss t s
      below p q n (inl is) = inr (1, up 0 s i ∙ sym q ∙ ap (λ (r : Space). r.handle) (sym is))
      below p q n (inr c) = sibling (cases_eq c.child.handle s.handle)
        where
          apart : c.child.handle ≢ s.handle → are_siblings s c.child ≡ true
          apart d =
              let mine : is_child_of s.parent s ≡ true = child_by s.parent s n refl in
              let its : is_child_of s.parent c.child ≡ true = child_by s.parent c.child c.not_root (c.parent ∙ q) in
              ap (λ (x : Bool). x && is_child_of s.parent c.child) mine ∙ its

          sibling : (c.child.handle ≡ s.handle) ⊎ (c.child.handle ≢ s.handle) → IsAtOrAbove ss s t ⊎ IsAtOrAbove ss t s
          sibling (inl is) = inl (c.above.0, c.above.1 ∙ is)
          sibling (inr d) =
              let covered = covers c.above.0 c.child t c.there j c.above.1 in
              absurd (true≢false (sym (wider s t c.child covered o) ∙ two_at _ ss h.apart s c.child i c.there (λ x. d (sym x)) (apart d)))

      by : (p : Space) → In p ss → p.handle ≡ s.parent → (s.handle ≡ 0) ⊎ (s.handle ≢ 0) → IsAtOrAbove ss p t ⊎ IsAtOrAbove ss t p → IsAtOrAbove ss s t ⊎ IsAtOrAbove ss t s
      by p l q (inl z) k = inl (b, f ∙ sym z)
      by p l q (inr n) (inl k) = below p q n (on_the_way k.0 p t l j k.1)
      by p l q (inr n) (inr k) = inr (suc k.0, up k.0 s i ∙ ap (λ (x : ℕ). ancestor ss k.0 x) (sym q) ∙ k.1)

  pub shares_path : (s t : Space) → In s ss → In t ss → overlap s t ≡ true → IsAtOrAbove ss s t ⊎ IsAtOrAbove ss t s
  shares_path s t i j o =
      let a = (all_in (IsSpace ss) ss h.whole s i).leads_to_root in
      let b = (all_in (IsSpace ss) ss h.whole t j).leads_to_root in
      one_path a.0 b.0 s t i j a.1 b.1 o

pub sharing_is_one_path : SharingIsOnePath
sharing_is_one_path m h s t is it =
    let spaces = spaces_of m h in
    let i = (looked_up (λ r. r.handle) m.spaces s.handle s is).0 in
    let j = (looked_up (λ r. r.handle) m.spaces t.handle t it).0 in
    (shares_path m.spaces spaces s t i j, either spaces i j)
  where
    either : AreSpaces m.spaces → In s m.spaces → In t m.spaces → IsAtOrAbove m.spaces s t ⊎ IsAtOrAbove m.spaces t s → overlap s t ≡ true
    either spaces i j (inl a) = above_shares m.spaces spaces s t i j a
    either spaces i j (inr a) = overlap_swap s t ∙ above_shares m.spaces spaces t s j i a
