-- A space is made, or removed.
use Rattle.std.proofs.Common.{◌≡◌, ◌≢◌, ◌⊎◌, inl, inr, ℕ, suc, ◌≤◌, Bool, true, false, not, ◌&&◌, cond, List, [], ◌∷◌, map, Option, Some, None, refl, sym, ◌∙◌, ap, subst, eqb}
use Rattle.std.specs.Prelude.{nat_lt, is_some, ◌==◌}
use Rattle.std.specs.Option.{option_map_or}
use Rattle.std.specs.List.{list_any}
use Rattle.std.proofs.lemmas.Bool.{eqb-true, eqb-false, eq-eqb, ne_eqb, true≢false, not-true, and_parts}
use Rattle.flat_machine.specs.Space.{Space, Window, root, end, overlap, is_child_of, is_mapped, has_window}
use Rattle.flat_machine.specs.Machine.{IsAscending, IsSpace, ancestor, are_siblings, shares_anonymous}
use Rattle.flat_machine.specs.Next.{is_unused, put_space, without_space}
use Rattle.flat_machine.proofs.Lists.{In, all_in, in_all, in_filter, filter_in, not_any, one_key, looked_up, look_up, ascending_filter}
use Rattle.flat_machine.proofs.HandleLemmas.{put_rises}
use Rattle.flat_machine.specs.Spaces.{AreAlone}
use Rattle.flat_machine.proofs.SpaceLemmas.{AreSpaces, IsIn, IsHandle, two_at, two_by, parent_at, parent_by, parent_of, parent_is, same_ancestors}

pub in_put : (x : Space) (ss : List Space) (y : Space) → In y (put_space x ss) → (x ≡ y) ⊎ In y ss
in_put x [] y (inl e) = inl e
in_put x [] y (inr i) = absurd i
in_put x (s ∷ ss) y i = either (nat_lt x.handle s.handle) i (in_put x ss y)
  where
    either : (b : Bool) → In y (cond b (x ∷ s ∷ ss) (s ∷ put_space x ss)) → (In y (put_space x ss) → (x ≡ y) ⊎ In y ss) → (x ≡ y) ⊎ ((s ≡ y) ⊎ In y ss)
    either true i f = i
    either false (inl e) f = inr (inl e)
    either false (inr i) f = late (f i)
      where
        late : (x ≡ y) ⊎ In y ss → (x ≡ y) ⊎ ((s ≡ y) ⊎ In y ss)
        late (inl e) = inl e
        late (inr j) = inr (inr j)

pub put_in : (x : Space) (ss : List Space) (y : Space) → In y ss → In y (put_space x ss)
put_in x [] y i = absurd i
put_in x (s ∷ ss) y i = either (nat_lt x.handle s.handle) i (put_in x ss y)
  where
    either : (b : Bool) → (s ≡ y) ⊎ In y ss → (In y ss → In y (put_space x ss)) → In y (cond b (x ∷ s ∷ ss) (s ∷ put_space x ss))
    either true i f = inr i
    either false (inl e) f = inl e
    either false (inr i) f = inr (f i)

pub put_there : (x : Space) (ss : List Space) → In x (put_space x ss)
put_there x [] = inl refl
put_there x (s ∷ ss) = either (nat_lt x.handle s.handle) (put_there x ss)
  where
    either : (b : Bool) → In x (put_space x ss) → In x (cond b (x ∷ s ∷ ss) (s ∷ put_space x ss))
    either true i = inl refl
    either false i = inr i

pub other_handles : (ss : List Space) (h : ℕ) → is_unused ss h ≡ true → (s : Space) → In s ss → s.handle ≢ h
other_handles ss h u s i = eqb-false s.handle h (not_any (λ t. t.handle == h) ss (not-true (list_any (λ t. t.handle == h) ss) u) s i)

pub and_swap : (a b : Bool) → a && b ≡ b && a
and_swap true true = refl
and_swap true false = refl
and_swap false true = refl
and_swap false false = refl

and_false : (a : Bool) → a && false ≡ false
and_false true = refl
and_false false = refl

pub overlap_swap : (s t : Space) → overlap s t ≡ overlap t s
overlap_swap s t = and_swap (nat_lt s.first (end t)) (nat_lt t.first (end s))

child_parts : (parent : ℕ) (s : Space) → is_child_of parent s ≡ true → (s.handle ≢ 0) × (s.parent ≡ parent)
child_parts parent s e =
    let parts = and_parts (not (s.handle == 0)) (s.parent == parent) e in
    (eqb-false s.handle 0 (not-true (s.handle == 0) parts.0), eqb-true s.parent parent parts.1)

pub child_by : (parent : ℕ) (s : Space) → s.handle ≢ 0 → s.parent ≡ parent → is_child_of parent s ≡ true
child_by parent s n e =
    let a : eqb s.handle 0 ≡ false = ne_eqb s.handle 0 n in
    let b : eqb s.parent parent ≡ true = eq-eqb s.parent parent e in
    rw (a, b) refl

siblings_of : (s x : Space) → are_siblings s x ≡ true → is_child_of x.parent s ≡ true
siblings_of s x e =
    let parts = and_parts (is_child_of s.parent s) (is_child_of s.parent x) e in
    let mine = child_parts s.parent s parts.0 in
    let its = child_parts s.parent x parts.1 in
    child_by x.parent s mine.0 (sym its.1)

-- a space without a window shares no file
unmapped_first : (x t : Space) → x.window ≡ None → shares_anonymous x t ≡ false
unmapped_first x t e = ap (λ (o : Option Window). option_map_or (λ w. w.anonymous && has_window (λ v. v.file == w.file) t) o false) e

unmapped_second : (s x : Space) → x.window ≡ None → shares_anonymous s x ≡ false
unmapped_second s x e = either s.window
  where
    either : (o : Option Window) → option_map_or (λ w. w.anonymous && has_window (λ v. v.file == w.file) x) o false ≡ false
    either None = refl
    either (Some w) = ap (λ (p : Option Window). w.anonymous && option_map_or (λ v. v.file == w.file) p false) e ∙ and_false w.anonymous

unmapped_pair : (s x : Space) → x.window ≡ None → is_mapped s && is_mapped x ≡ false
unmapped_pair s x e = ap (λ (o : Option Window). is_some s.window && is_some o) e ∙ and_false (is_some s.window)

-- A space that may be made: its parent is there, and it is over none of its siblings.
pub record MayBeMade (ss : List Space) (x p : Space) : Type 0 where
  pub unused : is_unused ss x.handle ≡ true
  pub not_root : x.handle ≢ 0
  pub handle_fits : x.handle ≤ 511
  pub not_empty : 1 ≤ x.pages
  pub unit_fits : (1 ≤ x.unit) × (x.unit ≤ 16)
  pub unmapped : x.window ≡ None
  pub inside : IsIn ss x p
  pub clear : (s : Space) → In s ss → is_child_of x.parent s ≡ true → overlap x s ≡ false

pub made_spaces : (ss : List Space) (x p : Space) → MayBeMade ss x p → AreSpaces ss → AreSpaces (put_space x ss)
made_spaces ss x p may h =
    let new = put_space x ss in
    let rise : IsAscending (map (λ s. s.handle) new) = put_rises x ss h.rise may.unused in
    record {
      has_root = let r = looked_up (λ s. s.handle) ss 0 root h.has_root in look_up (λ s. s.handle) new rise root (put_in x ss root r.0) 0 refl;
      rise = rise;
      whole = in_all (IsSpace new) new (λ y i. whole_of y (in_put x ss y i) rise);
      apart = two_by _ new (λ y z i j n t. apart_of y z (in_put x ss y i) (in_put x ss z j) n t);
      path = two_by _ new (λ y z i j n t. path_of y z (in_put x ss y i) (in_put x ss z j) n t);
    }
  where
    apart_of : (y z : Space) → (x ≡ y) ⊎ In y ss → (x ≡ z) ⊎ In z ss → y.handle ≢ z.handle → are_siblings y z ≡ true → overlap y z ≡ false
    apart_of y z (inl e) (inl q) n t = absurd (n (ap (λ (s : Space). s.handle) (sym e ∙ q)))
    apart_of y z (inl e) (inr j) n t =
        let at : are_siblings x z ≡ true = subst (λ (s : Space). are_siblings s z ≡ true) (sym e) t in
        subst (λ (s : Space). overlap s z ≡ false) e (may.clear z j (and_parts (is_child_of x.parent x) (is_child_of x.parent z) at).1)
    apart_of y z (inr i) (inl q) n t =
        let at : are_siblings y x ≡ true = subst (λ (s : Space). are_siblings y s ≡ true) (sym q) t in
        subst (λ (s : Space). overlap y s ≡ false) q (overlap_swap y x ∙ may.clear y i (siblings_of y x at))
    apart_of y z (inr i) (inr j) n t = two_at _ ss h.apart y z i j n t

    path_of : (y z : Space) → (x ≡ y) ⊎ In y ss → (x ≡ z) ⊎ In z ss → y.handle ≢ z.handle → is_mapped y && is_mapped z ≡ true → overlap y z ≡ false
    path_of y z (inl e) k n t =
        absurd (true≢false (sym t ∙ and_swap (is_mapped y) (is_mapped z) ∙ subst (λ (s : Space). is_mapped z && is_mapped s ≡ false) e (unmapped_pair z x may.unmapped)))
    path_of y z (inr i) (inl q) n t = absurd (true≢false (sym t ∙ subst (λ (s : Space). is_mapped y && is_mapped s ≡ false) q (unmapped_pair y x may.unmapped)))
    path_of y z (inr i) (inr j) n t = two_at _ ss h.path y z i j n t

    -- an old handle has the same parent, an old one
    step : IsAscending (map (λ s. s.handle) (put_space x ss)) → (k : ℕ) → IsHandle ss k → (parent_of (put_space x ss) k ≡ parent_of ss k) × IsHandle ss (parent_of ss k)
    step rise k at =
        let old = parent_is ss h.rise at.0 at.1 k at.2 in
        let up = parent_at ss at.0 (all_in (IsSpace ss) ss h.whole at.0 at.1) in
        (parent_is (put_space x ss) rise at.0 (put_in x ss at.0 at.1) k at.2 ∙ sym old, (up.0, up.1.there, up.1.parent ∙ sym old))

    leads : IsAscending (map (λ s. s.handle) (put_space x ss)) → (s : Space) → In s ss → (n : ℕ) × (ancestor (put_space x ss) n s.handle ≡ 0)
    leads rise s i =
        let old = (all_in (IsSpace ss) ss h.whole s i).leads_to_root in
        (old.0, same_ancestors ss (put_space x ss) (IsHandle ss) (step rise) old.0 s.handle (s, i, refl) ∙ old.1)

    higher : IsAscending (map (λ s. s.handle) (put_space x ss)) → (n : ℕ) → ancestor (put_space x ss) n p.handle ≡ 0 → ancestor (put_space x ss) (suc n) x.handle ≡ 0
    higher rise n e =
        ap (λ (o : Option Space). ancestor (put_space x ss) n (option_map_or (λ s. s.parent) o 0)) (look_up (λ s. s.handle) (put_space x ss) rise x (put_there x ss) x.handle refl)
        ∙ ap (λ (k : ℕ). ancestor (put_space x ss) n k) (sym may.inside.parent) ∙ e

    whole_of : (y : Space) → (x ≡ y) ⊎ In y ss → IsAscending (map (λ s. s.handle) (put_space x ss)) → IsSpace (put_space x ss) y
    whole_of y (inl e) rise =
        let up = leads rise p may.inside.there in
        subst (IsSpace (put_space x ss)) e (record {
          handle_fits = may.handle_fits;
          not_empty = may.not_empty;
          unit_fits = may.unit_fits;
          inside_parent = parent_by (put_space x ss) rise x p (record { there = put_in x ss p may.inside.there; parent = may.inside.parent; first = may.inside.first; last = may.inside.last });
          leads_to_root = (suc up.0, higher rise up.0 up.1);
        })
    whole_of y (inr i) rise =
        let old = all_in (IsSpace ss) ss h.whole y i in
        let q = parent_at ss y old in
        record {
          handle_fits = old.handle_fits;
          not_empty = old.not_empty;
          unit_fits = old.unit_fits;
          inside_parent = parent_by (put_space x ss) rise y q.0 (record { there = put_in x ss q.0 q.1.there; parent = q.1.parent; first = q.1.first; last = q.1.last });
          leads_to_root = leads rise y i;
        }

-- Without the space of that handle, which has no children.
pub removed_spaces : (ss : List Space) (k : ℕ) → k ≢ 0 → ((s : Space) → In s ss → is_child_of k s ≡ false) → AreSpaces ss → AreSpaces (without_space k ss)
removed_spaces ss k n none h =
    let new = without_space k ss in
    let kept = λ (s : Space). not (s.handle == k) in
    let rise : IsAscending (map (λ s. s.handle) new) = ascending_filter (λ s. s.handle) kept ss h.rise in
    let back = λ (s : Space) (i : In s new). (in_filter kept ss s i).0 in
    record {
      has_root = let r = looked_up (λ s. s.handle) ss 0 root h.has_root in look_up (λ s. s.handle) new rise root (stays root r.0 (λ e. n (sym e))) 0 refl;
      rise = rise;
      whole = in_all (IsSpace new) new (λ y i. whole_of y i rise);
      apart = two_by _ new (λ y z i j d. two_at _ ss h.apart y z (back y i) (back z j) d);
      path = two_by _ new (λ y z i j d. two_at _ ss h.path y z (back y i) (back z j) d);
    }
  where
    stays : (s : Space) → In s ss → s.handle ≢ k → In s (without_space k ss)
    stays s i d = filter_in (λ t. not (t.handle == k)) ss s i (let e : eqb s.handle k ≡ false = ne_eqb s.handle k d in ap not e)

    -- no space that stays has the removed one as its parent
    other_parent : (s : Space) → In s ss → s.parent ≢ k
    other_parent s i e = either (s.handle == 0) refl
      where
        either : (b : Bool) → s.handle == 0 ≡ b → ⊥
        either true q =
            let r = looked_up (λ t. t.handle) ss 0 root h.has_root in
            let same : s ≡ root = one_key (λ t. t.handle) ss h.rise s root i r.0 (eqb-true s.handle 0 q) in
            n (sym e ∙ ap (λ (t : Space). t.parent) same)
        either false q = true≢false (sym (child_by k s (eqb-false s.handle 0 q) e) ∙ none s i)

    parent_stays : (s : Space) → In s ss → (p : Space) × IsIn (without_space k ss) s p
    parent_stays s i =
        let p = parent_at ss s (all_in (IsSpace ss) ss h.whole s i) in
        (p.0, record { there = stays p.0 p.1.there (λ e. other_parent s i (sym p.1.parent ∙ e)); parent = p.1.parent; first = p.1.first; last = p.1.last })

    step : IsAscending (map (λ s. s.handle) (without_space k ss)) → (j : ℕ) → IsHandle (without_space k ss) j
        → (parent_of (without_space k ss) j ≡ parent_of ss j) × IsHandle (without_space k ss) (parent_of ss j)
    step rise j at =
        let there = (in_filter (λ s. not (s.handle == k)) ss at.0 at.1).0 in
        let old = parent_is ss h.rise at.0 there j at.2 in
        let up = parent_stays at.0 there in
        (parent_is (without_space k ss) rise at.0 at.1 j at.2 ∙ sym old, (up.0, up.1.there, up.1.parent ∙ sym old))

    whole_of : (y : Space) → In y (without_space k ss) → IsAscending (map (λ s. s.handle) (without_space k ss)) → IsSpace (without_space k ss) y
    whole_of y i rise =
        let there = (in_filter (λ s. not (s.handle == k)) ss y i).0 in
        let old = all_in (IsSpace ss) ss h.whole y there in
        let p = parent_stays y there in
        record {
          handle_fits = old.handle_fits;
          not_empty = old.not_empty;
          unit_fits = old.unit_fits;
          inside_parent = parent_by (without_space k ss) rise y p.0 p.1;
          leads_to_root = (old.leads_to_root.0, same_ancestors ss (without_space k ss) (IsHandle (without_space k ss)) (step rise) old.leads_to_root.0 y.handle (y, i, refl) ∙ old.leads_to_root.1);
        }

-- Files with an anonymous window.

pub made_alone : (ss : List Space) (x : Space) → x.window ≡ None → AreAlone ss → AreAlone (put_space x ss)
made_alone ss x unmapped h = two_by _ (put_space x ss) (λ y z i j n. alone_of y z (in_put x ss y i) (in_put x ss z j) n)
  where
    alone_of : (y z : Space) → (x ≡ y) ⊎ In y ss → (x ≡ z) ⊎ In z ss → y.handle ≢ z.handle → shares_anonymous y z ≡ false
    alone_of y z (inl e) k n = subst (λ (s : Space). shares_anonymous s z ≡ false) e (unmapped_first x z unmapped)
    alone_of y z (inr i) (inl q) n = subst (λ (s : Space). shares_anonymous y s ≡ false) q (unmapped_second y x unmapped)
    alone_of y z (inr i) (inr j) n = two_at _ ss h y z i j n

pub removed_alone : (ss : List Space) (k : ℕ) → AreAlone ss → AreAlone (without_space k ss)
removed_alone ss k h =
    let back = λ (s : Space) (i : In s (without_space k ss)). (in_filter (λ t. not (t.handle == k)) ss s i).0 in
    two_by _ (without_space k ss) (λ y z i j d. two_at _ ss h y z (back y i) (back z j) d)
