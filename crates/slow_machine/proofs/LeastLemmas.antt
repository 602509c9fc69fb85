-- The least number of a list, and the lowest unused handle.
use Rattle.std.proofs.Common.{◌≡◌, ℕ, zero, suc, ◌+◌, ◌≤◌, Bool, true, false, not, ◌&&◌, ◌||◌, cond, List, [], ◌∷◌, map, filter, Option, None, Some, refl, sym, ◌∙◌, ap, subst, arith, ◌⊎◌, inl, inr}
use Rattle.std.proofs.lemmas.Bool.Decides.{nat_tests}
use Rattle.std.specs.Prelude.{MatchOption, IsSomeAnd, IsTrue, nat_lt, unwrap_or, if◌then◌else◌, ◌==◌}
use Rattle.std.specs.Option.{option_map_or}
use Rattle.std.specs.List.{list_any}
use Rattle.flat_machine.specs.declared.space.Space.{Space}
use Rattle.flat_machine.specs.Refusal.{least}
use Rattle.flat_machine.specs.Next.{is_unused, lowest_unused}

abbrev pub Among : ℕ → List ℕ → Type 0
Among x [] = ⊥
Among x (y ∷ ys) = (y ≡ x) ⊎ Among x ys

abbrev IsLeastOf : ℕ → List ℕ → Type 0
IsLeastOf k ns = Among k ns × ((x : ℕ) → Among x ns → k ≤ x)

below_nil : (n x : ℕ) (ns : List ℕ) → ns ≡ [] → Among x (n ∷ ns) → n ≤ x
below_nil n x ns e (inl q) = omega (arith, q)
below_nil n x ns e (inr r) = let P : List ℕ → Type 0 = λ l. Among x l in absurd (subst P e r)

picked : (b : Bool) (k n : ℕ) (ns : List ℕ) → Among k ns → Among (cond b k n) (n ∷ ns)
picked true k n ns a = inr a
picked false k n ns a = inl refl

lower_left : (k n : ℕ) → cond (nat_lt k n) k n ≤ k
lower_left k n = grind (arith, nat_tests)

lower_right : (k n : ℕ) → cond (nat_lt k n) k n ≤ n
lower_right k n = grind (arith, nat_tests)

below_some : (k n x : ℕ) (ns : List ℕ) → ((y : ℕ) → Among y ns → k ≤ y) → Among x (n ∷ ns) → cond (nat_lt k n) k n ≤ x
below_some k n x ns b (inl q) = omega (arith, lower_right k n, q)
below_some k n x ns b (inr r) = omega (arith, lower_left k n, b x r)

least_step : (n : ℕ) (ns : List ℕ) (o : Option ℕ) → MatchOption o (ns ≡ []) (λ k. IsLeastOf k ns)
    → IsLeastOf (option_map_or (λ k. if nat_lt k n then k else n) o n) (n ∷ ns)
least_step n ns None e = (inl refl, λ x a. below_nil n x ns e a)
least_step n ns (Some k) h = (picked (nat_lt k n) k n ns h.0, λ x a. below_some k n x ns h.1 a)

least_is : (ns : List ℕ) → MatchOption (least ns) (ns ≡ []) (λ k. IsLeastOf k ns)
least_is [] = refl
least_is (n ∷ ns) = least_step n ns (least ns) (least_is ns)

found_at : (ns : List ℕ) (x : ℕ) (o : Option ℕ) → MatchOption o (ns ≡ []) (λ k. IsLeastOf k ns) → Among x ns
    → IsSomeAnd o (λ k. k ≤ x × Among k ns)
found_at ns x None e a = let P : List ℕ → Type 0 = λ l. Among x l in absurd (subst P e a)
found_at ns x (Some k) h a = (h.1 x a, h.0)

among_cons : (b : Bool) (x y : ℕ) (ys : List ℕ) → Among x ys → Among x (cond b (y ∷ ys) ys)
among_cons true x y ys a = inr a
among_cons false x y ys a = a

among_filter : (p : ℕ → Bool) (xs : List ℕ) (x : ℕ) → Among x xs → p x ≡ true → Among x (filter p xs)
among_filter p [] x a t = a
among_filter p (y ∷ ys) x (inl e) t = let q : p y ≡ true = ap p e ∙ t in rw q (inl e)
among_filter p (y ∷ ys) x (inr r) t = among_cons (p y) x y (filter p ys) (among_filter p ys x r t)

filter_keeps : (p : ℕ → Bool) (b : Bool) (x y : ℕ) (ys : List ℕ) → p y ≡ b → (Among x ys → p x ≡ true) → Among x (cond b (y ∷ ys) ys) → p x ≡ true
filter_keeps p true x y ys e f (inl q) = sym (ap p q) ∙ e
filter_keeps p true x y ys e f (inr r) = f r
filter_keeps p false x y ys e f a = f a

pub filter_passed : (p : ℕ → Bool) (xs : List ℕ) (x : ℕ) → Among x (filter p xs) → p x ≡ true
filter_passed p [] x a = absurd a
filter_passed p (y ∷ ys) x a = filter_keeps p (p y) x y (filter p ys) refl (filter_passed p ys x) a

pub and_true : (a b : Bool) → a && b ≡ true → (a ≡ true) × (b ≡ true)
and_true true b h = (refl, h)
and_true false b h = absurd (cc)

some_and : (o : Option ℕ) (P Q : ℕ → Type 0) → ((k : ℕ) → P k → Q k) → IsSomeAnd o P → IsSomeAnd o Q
some_and None P Q f h = h
some_and (Some k) P Q f h = f k h

-- The lowest unused handle.

or_cases : (a b : Bool) → not (a || b) ≡ false → (a ≡ true) ⊎ (not b ≡ false)
or_cases true b h = inl refl
or_cases false b h = inr h

used_below : (h : ℕ) (ss : List Space) → is_unused ss h ≡ false → Among (suc h) (map (λ s. s.handle + 1) ss)
used_below h [] e = absurd (cc)
used_below h (s ∷ ss) e = used_of (or_cases (s.handle == h) (list_any (λ t. t.handle == h) ss) e) (used_below h ss)
  where
    used_of : (s.handle == h ≡ true) ⊎ (is_unused ss h ≡ false) → (is_unused ss h ≡ false → Among (suc h) (map (λ t. t.handle + 1) ss))
        → (s.handle + 1 ≡ suc h) ⊎ Among (suc h) (map (λ t. t.handle + 1) ss)
    used_of (inl q) f = inl (grind (arith, nat_tests))
    used_of (inr r) f = inr (f r)

abbrev IsLowUnused : List Space → ℕ → ℕ → Type 0
IsLowUnused spaces handle k = k ≤ handle × IsTrue (is_unused spaces k)

unused_from : (spaces : List Space) (h : ℕ) → is_unused spaces 0 ≡ false → is_unused spaces h ≡ true
    → IsSomeAnd (least (filter (is_unused spaces) (map (λ s. s.handle + 1) spaces))) (IsLowUnused spaces h)
unused_from spaces zero z u = absurd (cc)
unused_from spaces (suc h) z u = lower (is_unused spaces h) refl (unused_from spaces h z)
  where
    starts : List ℕ
    starts = map (λ s. s.handle + 1) spaces

    lower : (b : Bool) → is_unused spaces h ≡ b
        → (is_unused spaces h ≡ true → IsSomeAnd (least (filter (is_unused spaces) (map (λ s. s.handle + 1) spaces))) (IsLowUnused spaces h))
        → IsSomeAnd (least (filter (is_unused spaces) (map (λ s. s.handle + 1) spaces))) (IsLowUnused spaces (suc h))
    lower true e f = some_and _ (IsLowUnused spaces h) (IsLowUnused spaces (suc h)) (λ k p. (omega (arith, p.0), p.1)) (f e)
    lower false e f =
        let cs = map (λ (s : Space). s.handle + 1) spaces in
        some_and _ (λ k. k ≤ suc h × Among k (filter (is_unused spaces) cs)) (IsLowUnused spaces (suc h))
        (λ k p. (p.0, filter_passed (is_unused spaces) cs k p.1))
        (found_at (filter (is_unused spaces) cs) (suc h) _ (least_is _) (among_filter (is_unused spaces) cs (suc h) (used_below h spaces e) u))

taken_out : (spaces : List Space) (h : ℕ) (o : Option ℕ) → IsSomeAnd o (IsLowUnused spaces h) → IsLowUnused spaces h (unwrap_or o 0)
taken_out spaces h None p = absurd p
taken_out spaces h (Some k) p = p

not_zero : (spaces : List Space) (k : ℕ) → is_unused spaces 0 ≡ false → is_unused spaces k ≡ true → 1 ≤ k
not_zero spaces zero z u = absurd (cc)
not_zero spaces (suc k) z u = omega arith

-- where a handle is unused, the lowest unused one is no higher, and it is unused and not the root's
pub lowest_unused_is_least : (spaces : List Space) (handle : ℕ) → is_unused spaces 0 ≡ false → is_unused spaces handle ≡ true
    → (lowest_unused spaces ≤ handle) × (is_unused spaces (lowest_unused spaces) ≡ true) × (1 ≤ lowest_unused spaces)
lowest_unused_is_least spaces handle z u =
    let found = taken_out spaces handle _ (unused_from spaces handle z u) in
    (found.0, found.1, not_zero spaces (lowest_unused spaces) z found.1)

-- the least number is one of them
pub least_among : (ns : List ℕ) (k : ℕ) → least ns ≡ Some k → Among k ns
least_among ns k e = let P : Option ℕ → Type 0 = λ o. MatchOption o (ns ≡ []) (λ j. IsLeastOf j ns) in
    let h : IsLeastOf k ns = subst P e (least_is ns) in h.0
