-- What holds of a machine's spaces, and edits that keep it.
use Rattle.std.proofs.Common.{◌≡◌, ◌≢◌, ℕ, zero, suc, ◌≤◌, Bool, true, false, ◌&&◌, cond, List, [], ◌∷◌, map, Option, Some, None, refl, sym, ◌∙◌, ap, subst}
use Rattle.std.specs.Prelude.{IsSomeAnd, IsTrue, IsFalse, is_some, ◌==◌}
use Rattle.std.specs.Option.{option_map_or}
use Rattle.std.specs.List.{AllByRecursion}
use Rattle.flat_machine.specs.Space.{Space, Window, root, end, overlap, space_at, is_mapped}
use Rattle.flat_machine.specs.Machine.{IsAscending, IsSpace, EachTwo, ancestor, are_siblings, shares_anonymous}
pub use Rattle.flat_machine.specs.Spaces.{AreSpaces}
use Rattle.flat_machine.specs.Spaces.{AreAlone}
use Rattle.flat_machine.proofs.Lists.{In, all_in, in_all, in_map, map_in, looked_up, look_up, ascending_map}

-- of every two different ones
pub two_at : (R : Space → Space → Type 0) (ss : List Space) → EachTwo R ss → (s t : Space) → In s ss → In t ss → s.handle ≢ t.handle → R s t
two_at R ss h s t i j = all_in (λ u. s.handle ≢ u.handle → R s u) ss (all_in (λ r. AllByRecursion (λ u. r.handle ≢ u.handle → R r u) ss) ss h s i) t j

pub two_by : (R : Space → Space → Type 0) (ss : List Space) → ((s t : Space) → In s ss → In t ss → s.handle ≢ t.handle → R s t) → EachTwo R ss
two_by R ss f = in_all (λ s. AllByRecursion (λ t. s.handle ≢ t.handle → R s t) ss) ss (λ s i. in_all (λ t. s.handle ≢ t.handle → R s t) ss (λ t j. f s t i j))

-- the space is in its parent
pub record IsIn (ss : List Space) (s p : Space) : Type 0 where
  pub there : In p ss
  pub parent : p.handle ≡ s.parent
  pub first : p.first ≤ s.first
  pub last : end s ≤ end p

pub parent_at : (ss : List Space) (s : Space) → IsSpace ss s → (p : Space) × IsIn ss s p
parent_at ss s h = either (space_at ss s.parent) refl
  where
    either : (o : Option Space) → space_at ss s.parent ≡ o → (p : Space) × IsIn ss s p
    either None e = absurd (subst (λ (o : Option Space). IsSomeAnd o (λ p. (p.first ≤ s.first) × (end s ≤ end p))) e h.inside_parent)
    either (Some p) e =
        let at = looked_up (λ t. t.handle) ss s.parent p e in
        let inside = subst (λ (o : Option Space). IsSomeAnd o (λ p. (p.first ≤ s.first) × (end s ≤ end p))) e h.inside_parent in
        (p, record { there = at.0; parent = at.1; first = inside.0; last = inside.1 })

pub parent_by : (ss : List Space) → IsAscending (map (λ s. s.handle) ss) → (s p : Space) → IsIn ss s p
    → IsSomeAnd (space_at ss s.parent) (λ p. (p.first ≤ s.first) × (end s ≤ end p))
parent_by ss rise s p h =
    subst (λ (o : Option Space). IsSomeAnd o (λ p. (p.first ≤ s.first) × (end s ≤ end p))) (sym (look_up (λ t. t.handle) ss rise p h.there s.parent h.parent)) (h.first, h.last)

-- Steps up to the root.

pub parent_of : List Space → ℕ → ℕ
parent_of ss handle = option_map_or (λ s. s.parent) (space_at ss handle) 0

pub parent_is : (ss : List Space) → IsAscending (map (λ s. s.handle) ss) → (s : Space) → In s ss → (h : ℕ) → s.handle ≡ h → parent_of ss h ≡ s.parent
unfolding parent_of
parent_is ss rise s i h e = ap (λ (o : Option Space). option_map_or (λ t. t.parent) o 0) (look_up (λ t. t.handle) ss rise s i h e)

-- the steps lead through the same handles, where these handles have the same parents
pub same_ancestors : (ss tt' : List Space) (ok : ℕ → Type 0) → ((h : ℕ) → ok h → (parent_of tt' h ≡ parent_of ss h) × ok (parent_of ss h))
    → (k h : ℕ) → ok h → ancestor tt' k h ≡ ancestor ss k h
unfolding parent_of
same_ancestors ss tt' ok step zero h good = refl
same_ancestors ss tt' ok step (suc k) h good =
    let at = step h good in
    ap (λ (n : ℕ). ancestor tt' k n) at.0 ∙ same_ancestors ss tt' ok step k (parent_of ss h) at.1

-- the handle of one of these spaces
abbrev pub IsHandle : List Space → ℕ → Type 0
IsHandle ss h = (s : Space) × In s ss × (s.handle ≡ h)

-- Changes of units and windows.

-- the space with that unit and that window
abbrev pub fitted : (Space → ℕ) → (Space → Option Window) → Space → Space
fitted u w s = record s { unit = u s; window = w s }

module _ (u : Space → ℕ) (w : Space → Option Window) where
  pub fitted_parents : (ss : List Space) (h : ℕ) → parent_of (map (fitted u w) ss) h ≡ parent_of ss h
  unfolding parent_of
  fitted_parents [] h = refl
  fitted_parents (s ∷ ss) h = either (s.handle == h) (fitted_parents ss h)
    where
      either : (b : Bool) → parent_of (map (fitted u w) ss) h ≡ parent_of ss h
          → option_map_or (λ t. t.parent) (cond b (Some (record s { unit = u s; window = w s })) (space_at (map (fitted u w) ss) h)) 0
          ≡ option_map_or (λ t. t.parent) (cond b (Some s) (space_at ss h)) 0
      either true e = refl
      either false e = e

  pub fitted_spaces : (ss : List Space) → fitted u w root ≡ root → ((s : Space) → In s ss → (1 ≤ s.unit) × (s.unit ≤ 16) → (1 ≤ u s) × (u s ≤ 16))
      → EachTwo (λ s t. IsTrue (is_some (w s) && is_some (w t)) → IsFalse (overlap s t)) ss
      → AreSpaces ss → AreSpaces (map (fitted u w) ss)
  fitted_spaces ss keeps_root units path h =
      let new = map (fitted u w) ss in
      let rise : IsAscending (map (λ s. s.handle) new) = ascending_map (λ s. s.handle) (fitted u w) (λ s. refl) ss h.rise in
      let back = in_map (fitted u w) ss in
      record {
        has_root = let r = looked_up (λ s. s.handle) ss 0 root h.has_root in
            look_up (λ s. s.handle) new rise root (subst (λ (s : Space). In s new) keeps_root (map_in (fitted u w) ss root r.0)) 0 refl;
        rise = rise;
        whole = in_all (IsSpace new) new (λ y i. let r = back y i in subst (IsSpace new) r.2 (is_space r.0 r.1 rise));
        apart = two_by _ new (λ x y i j n. let a = back x i in let b = back y j in
            subst (λ (s : Space). IsTrue (are_siblings s y) → IsFalse (overlap s y)) a.2
            (subst (λ (t : Space). IsTrue (are_siblings (fitted u w a.0) t) → IsFalse (overlap (fitted u w a.0) t)) b.2
            (two_at _ ss h.apart a.0 b.0 a.1 b.1 (differ a.0 b.0 x y a.2 b.2 n))));
        path = two_by _ new (λ x y i j n. let a = back x i in let b = back y j in
            subst (λ (s : Space). IsTrue (is_mapped s && is_mapped y) → IsFalse (overlap s y)) a.2
            (subst (λ (t : Space). IsTrue (is_mapped (fitted u w a.0) && is_mapped t) → IsFalse (overlap (fitted u w a.0) t)) b.2
            (two_at _ ss path a.0 b.0 a.1 b.1 (differ a.0 b.0 x y a.2 b.2 n))));
      }
    where
      differ : (a b x y : Space) → fitted u w a ≡ x → fitted u w b ≡ y → x.handle ≢ y.handle → a.handle ≢ b.handle
      differ a b x y p q n e = n (sym (ap (λ (s : Space). s.handle) p) ∙ e ∙ ap (λ (s : Space). s.handle) q)

      is_space : (s : Space) → In s ss → IsAscending (map (λ t. t.handle) (map (fitted u w) ss)) → IsSpace (map (fitted u w) ss) (fitted u w s)
      is_space s i rise =
          let old = all_in (IsSpace ss) ss h.whole s i in
          let p = parent_at ss s old in
          record {
            handle_fits = old.handle_fits;
            not_empty = old.not_empty;
            unit_fits = units s i old.unit_fits;
            inside_parent = parent_by (map (fitted u w) ss) rise (fitted u w s) (fitted u w p.0)
                (record { there = map_in (fitted u w) ss p.0 p.1.there; parent = p.1.parent; first = p.1.first; last = p.1.last });
            leads_to_root = (
              old.leads_to_root.0,
              same_ancestors ss (map (fitted u w) ss) (λ k. Unit {0}) (λ k good. (fitted_parents ss k, tt)) old.leads_to_root.0 s.handle tt ∙ old.leads_to_root.1,
            );
          }

  pub fitted_alone : (ss : List Space) → EachTwo (λ s t. IsFalse (shares_anonymous (fitted u w s) (fitted u w t))) ss → AreAlone (map (fitted u w) ss)
  fitted_alone ss alone =
      two_by _ (map (fitted u w) ss) (λ x y i j n. let a = in_map (fitted u w) ss x i in let b = in_map (fitted u w) ss y j in
      subst (λ (s : Space). IsFalse (shares_anonymous s y)) a.2
      (subst (λ (t : Space). IsFalse (shares_anonymous (fitted u w a.0) t)) b.2
      (two_at _ ss alone a.0 b.0 a.1 b.1 (λ e. n (sym (ap (λ (s : Space). s.handle) a.2) ∙ e ∙ ap (λ (s : Space). s.handle) b.2)))))
