-- The lowest gap and the lowest unused handle are the least.
use Rattle.std.proofs.Common.{◌≡◌, ℕ, zero, suc, ◌+◌, ◌≤◌, Bool, true, false, not, ◌&&◌, ◌||◌, ◌<◌, cond, List, [], ◌∷◌, map, filter, Option, None, Some, refl, sym, ◌∙◌, ap, subst, arith, ◌⊎◌, inl, inr}
use Rattle.std.proofs.lemmas.Bool.Decides.{nat_tests}
use Rattle.std.specs.Prelude.{MatchOption, IsSomeAnd, IsTrue, nat_le, nat_lt, unwrap_or, option_map, find, if◌then◌else◌, ◌==◌}
use Rattle.std.specs.Option.{option_map_or}
use Rattle.std.specs.List.{list_all, list_any, AllByRecursion}
use Rattle.std.proofs.lemmas.Bool.{true≢false}
use Rattle.std.proofs.lemmas.Option.{same_Some, none-some}
use Rattle.flat_machine.specs.Machine.{IsAscending}
use Rattle.flat_machine.specs.Space.{Space, is_child_of, end}
use Rattle.flat_machine.specs.Refusal.{fits, lowest_gap, least, gap_starts}
use Rattle.flat_machine.specs.Next.{is_unused, lowest_unused}
use Rattle.flat_machine.specs.Laws.{LowestGapIsLeast, LowestUnusedIsLeast, IsOneOf}
use Rattle.flat_machine.specs.SpaceLaws.{LeastIsLeast, IsLowest, LowestHandleIsLowest}
use Rattle.flat_machine.proofs.Lists.{In, all_in, find_in, looked_up, look_up, map_in}

-- The lowest gap.

abbrev pub Among : ℕ → List ℕ → Type 0
Among x [] = ⊥
Among x (y ∷ ys) = (y ≡ x) ⊎ Among x ys

abbrev IsLeastOf : ℕ → List ℕ → Type 0
IsLeastOf k ns = Among k ns × ((x : ℕ) → Among x ns → k ≤ x)

below_nil : (n x : ℕ) (ns : List ℕ) → ns ≡ [] → Among x (n ∷ ns) → n ≤ x
below_nil n x ns e (inl q) = omega (arith, q)
below_nil n x ns e (inr r) = let P : List ℕ → Type 0 = λ l. Among x l in absurd (subst P e r)

picked : (b : Bool) (k n : ℕ) (ns : List ℕ) → Among k ns → Among (cond b k n) (n ∷ ns)
picked true k n ns a = inr a
picked false k n ns a = inl refl

lower_left : (k n : ℕ) → cond (nat_lt k n) k n ≤ k
lower_left k n = grind (arith, nat_tests)

lower_right : (k n : ℕ) → cond (nat_lt k n) k n ≤ n
lower_right k n = grind (arith, nat_tests)

below_some : (k n x : ℕ) (ns : List ℕ) → ((y : ℕ) → Among y ns → k ≤ y) → Among x (n ∷ ns) → cond (nat_lt k n) k n ≤ x
below_some k n x ns b (inl q) = omega (arith, lower_right k n, q)
below_some k n x ns b (inr r) = omega (arith, lower_left k n, b x r)

least_step : (n : ℕ) (ns : List ℕ) (o : Option ℕ) → MatchOption o (ns ≡ []) (λ k. IsLeastOf k ns)
    → IsLeastOf (option_map_or (λ k. if nat_lt k n then k else n) o n) (n ∷ ns)
least_step n ns None e = (inl refl, λ x a. below_nil n x ns e a)
least_step n ns (Some k) h = (picked (nat_lt k n) k n ns h.0, λ x a. below_some k n x ns h.1 a)

least_is : (ns : List ℕ) → MatchOption (least ns) (ns ≡ []) (λ k. IsLeastOf k ns)
least_is [] = refl
least_is (n ∷ ns) = least_step n ns (least ns) (least_is ns)

found_at : (ns : List ℕ) (x : ℕ) (o : Option ℕ) → MatchOption o (ns ≡ []) (λ k. IsLeastOf k ns) → Among x ns
    → IsSomeAnd o (λ k. k ≤ x × Among k ns)
found_at ns x None e a = let P : List ℕ → Type 0 = λ l. Among x l in absurd (subst P e a)
found_at ns x (Some k) h a = (h.1 x a, h.0)

among_cons : (b : Bool) (x y : ℕ) (ys : List ℕ) → Among x ys → Among x (cond b (y ∷ ys) ys)
among_cons true x y ys a = inr a
among_cons false x y ys a = a

among_filter : (p : ℕ → Bool) (xs : List ℕ) (x : ℕ) → Among x xs → p x ≡ true → Among x (filter p xs)
among_filter p [] x a t = a
among_filter p (y ∷ ys) x (inl e) t = let q : p y ≡ true = ap p e ∙ t in rw q (inl e)
among_filter p (y ∷ ys) x (inr r) t = among_cons (p y) x y (filter p ys) (among_filter p ys x r t)

filter_keeps : (p : ℕ → Bool) (b : Bool) (x y : ℕ) (ys : List ℕ) → p y ≡ b → (Among x ys → p x ≡ true) → Among x (cond b (y ∷ ys) ys) → p x ≡ true
filter_keeps p true x y ys e f (inl q) = sym (ap p q) ∙ e
filter_keeps p true x y ys e f (inr r) = f r
filter_keeps p false x y ys e f a = f a

pub filter_passed : (p : ℕ → Bool) (xs : List ℕ) (x : ℕ) → Among x (filter p xs) → p x ≡ true
filter_passed p [] x a = absurd a
filter_passed p (y ∷ ys) x a = filter_keeps p (p y) x y (filter p ys) refl (filter_passed p ys x) a

pub and_true : (a b : Bool) → a && b ≡ true → (a ≡ true) × (b ≡ true)
and_true true b h = (refl, h)
and_true false b h = absurd (cc)

abbrev avoids : Space → ℕ → ℕ → Space → Bool
avoids parent pages first s = not (is_child_of parent.handle s && (nat_lt s.first (first + pages) && nat_lt first (end s)))

edge_at : (f e x pages : ℕ) → not (nat_lt f (suc x + pages) && nat_lt (suc x) e) ≡ true → not (nat_lt f (x + pages) && nat_lt x e) ≡ false → e ≡ suc x
edge_at f e x pages h g = grind (arith, nat_tests)

child_edge : (c : Bool) (f e x pages : ℕ) → not (c && (nat_lt f (suc x + pages) && nat_lt (suc x) e)) ≡ true
    → not (c && (nat_lt f (x + pages) && nat_lt x e)) ≡ false → (c ≡ true) × (e ≡ suc x)
child_edge true f e x pages h g = (refl, edge_at f e x pages h g)
child_edge false f e x pages h g = absurd (cc)

among_skip : (b : Bool) (x : ℕ) (s : Space) (ss : List Space) → Among x (map end ss) → Among x (map end (cond b (s ∷ ss) ss))
among_skip true x s ss a = inr a
among_skip false x s ss a = a

-- a child that stands in the way one page lower ends where the pages begin
edge : (parent : Space) (pages x : ℕ) (ss : List Space) → list_all (avoids parent pages (suc x)) ss ≡ true
    → list_all (avoids parent pages x) ss ≡ false → Among (suc x) (map end (filter (is_child_of parent.handle) ss))
edge parent pages x [] h g = absurd (cc)
edge parent pages x (s ∷ ss) h g =
    let above : (avoids parent pages (suc x) s ≡ true) × (list_all (avoids parent pages (suc x)) ss ≡ true) = and_true _ _ h in
    edge_of (avoids parent pages x s) refl g above.0 (edge parent pages x ss above.1)
  where
    edge_of : (b : Bool) → avoids parent pages x s ≡ b → b && list_all (avoids parent pages x) ss ≡ false → avoids parent pages (suc x) s ≡ true
        → (list_all (avoids parent pages x) ss ≡ false → Among (suc x) (map end (filter (is_child_of parent.handle) ss)))
        → Among (suc x) (map end (cond (is_child_of parent.handle s) (s ∷ filter (is_child_of parent.handle) ss) (filter (is_child_of parent.handle) ss)))
    edge_of true e k here rest = among_skip (is_child_of parent.handle s) (suc x) s (filter (is_child_of parent.handle) ss) (rest k)
    edge_of false e k here rest =
        let c : (is_child_of parent.handle s ≡ true) × (end s ≡ suc x) = child_edge _ _ _ _ _ here e in
        rw c.0 (inl c.1)

inside_lower : (x pages e : ℕ) → nat_le (suc x + pages) e ≡ true → nat_le (x + pages) e ≡ true
inside_lower x pages e h = grind (arith, nat_tests)

begins_at : (f x : ℕ) → nat_le f (suc x) ≡ true → nat_le f x ≡ false → f ≡ suc x
begins_at f x h g = grind (arith, nat_tests)

begins_at_zero : (f : ℕ) → nat_le f 0 ≡ true → f ≡ 0
begins_at_zero f h = grind (arith, nat_tests)

last_false : (a b c : Bool) → a ≡ true → b ≡ true → a && b && c ≡ false → c ≡ false
last_false true true c h g k = k
last_false false b c h g k = absurd (cc)
last_false true false c h g k = absurd (cc)

start_or_edge : (spaces : List Space) (parent : Space) (pages x : ℕ) (b : Bool) → nat_le parent.first x ≡ b
    → fits spaces parent pages (suc x) ≡ true → fits spaces parent pages x ≡ false → Among (suc x) (gap_starts spaces parent)
start_or_edge spaces parent pages x true e h g =
    let parts = and_true _ _ h in
    let outer = and_true _ _ parts.0 in
    inr (edge parent pages x spaces parts.1 (last_false _ _ _ e (inside_lower x pages (end parent) outer.1) g))
start_or_edge spaces parent pages x false e h g =
    let parts = and_true _ _ h in
    let outer = and_true _ _ parts.0 in
    inl (begins_at parent.first x outer.0 e)

some_and : (o : Option ℕ) (P Q : ℕ → Type 0) → ((k : ℕ) → P k → Q k) → IsSomeAnd o P → IsSomeAnd o Q
some_and None P Q f h = h
some_and (Some k) P Q f h = f k h

at_start : (spaces : List Space) (parent : Space) (pages x : ℕ) → fits spaces parent pages x ≡ true → Among x (gap_starts spaces parent)
    → IsSomeAnd (lowest_gap spaces parent pages) (λ gap. gap ≤ x × IsTrue (fits spaces parent pages gap))
at_start spaces parent pages x h a =
    let ok = filter (fits spaces parent pages) (gap_starts spaces parent) in
    some_and (least ok) (λ k. k ≤ x × Among k ok) (λ gap. gap ≤ x × IsTrue (fits spaces parent pages gap))
    (λ k p. (p.0, filter_passed (fits spaces parent pages) (gap_starts spaces parent) k p.1))
    (found_at ok x (least ok) (least_is ok) (among_filter (fits spaces parent pages) (gap_starts spaces parent) x a h))

gap_from : (spaces : List Space) (parent : Space) (pages x : ℕ) → fits spaces parent pages x ≡ true
    → IsSomeAnd (lowest_gap spaces parent pages) (λ gap. gap ≤ x × IsTrue (fits spaces parent pages gap))
gap_from spaces parent pages zero h =
    at_start spaces parent pages 0 h (inl (begins_at_zero parent.first (and_true _ _ (and_true _ _ h).0).0))
gap_from spaces parent pages (suc x) h = lower (fits spaces parent pages x) refl (gap_from spaces parent pages x)
  where
    lower : (b : Bool) → fits spaces parent pages x ≡ b
        → (fits spaces parent pages x ≡ true → IsSomeAnd (lowest_gap spaces parent pages) (λ gap. gap ≤ x × IsTrue (fits spaces parent pages gap)))
        → IsSomeAnd (lowest_gap spaces parent pages) (λ gap. gap ≤ suc x × IsTrue (fits spaces parent pages gap))
    lower true e f = some_and (lowest_gap spaces parent pages) _ _ (λ k p. (omega (arith, p.0), p.1)) (f e)
    lower false e f = at_start spaces parent pages (suc x) h (start_or_edge spaces parent pages x (nat_le parent.first x) refl h e)

pub lowest_gap_is_least : LowestGapIsLeast
lowest_gap_is_least spaces parent pages first h = gap_from spaces parent pages first h

-- The lowest unused handle.

or_cases : (a b : Bool) → not (a || b) ≡ false → (a ≡ true) ⊎ (not b ≡ false)
or_cases true b h = inl refl
or_cases false b h = inr h

used_below : (h : ℕ) (ss : List Space) → is_unused ss h ≡ false → Among (suc h) (map (λ s. s.handle + 1) ss)
used_below h [] e = absurd (cc)
used_below h (s ∷ ss) e = used_of (or_cases (s.handle == h) (list_any (λ t. t.handle == h) ss) e) (used_below h ss)
  where
    used_of : (s.handle == h ≡ true) ⊎ (is_unused ss h ≡ false) → (is_unused ss h ≡ false → Among (suc h) (map (λ t. t.handle + 1) ss))
        → (s.handle + 1 ≡ suc h) ⊎ Among (suc h) (map (λ t. t.handle + 1) ss)
    used_of (inl q) f = inl (grind (arith, nat_tests))
    used_of (inr r) f = inr (f r)

abbrev IsLowUnused : List Space → ℕ → ℕ → Type 0
IsLowUnused spaces handle k = k ≤ handle × IsTrue (is_unused spaces k)

unused_from : (spaces : List Space) (h : ℕ) → is_unused spaces 0 ≡ false → is_unused spaces h ≡ true
    → IsSomeAnd (least (filter (is_unused spaces) (map (λ s. s.handle + 1) spaces))) (IsLowUnused spaces h)
unused_from spaces zero z u = absurd (cc)
unused_from spaces (suc h) z u = lower (is_unused spaces h) refl (unused_from spaces h z)
  where
    starts : List ℕ
    starts = map (λ s. s.handle + 1) spaces

    lower : (b : Bool) → is_unused spaces h ≡ b
        → (is_unused spaces h ≡ true → IsSomeAnd (least (filter (is_unused spaces) (map (λ s. s.handle + 1) spaces))) (IsLowUnused spaces h))
        → IsSomeAnd (least (filter (is_unused spaces) (map (λ s. s.handle + 1) spaces))) (IsLowUnused spaces (suc h))
    lower true e f = some_and _ (IsLowUnused spaces h) (IsLowUnused spaces (suc h)) (λ k p. (omega (arith, p.0), p.1)) (f e)
    lower false e f =
        let cs = map (λ (s : Space). s.handle + 1) spaces in
        some_and _ (λ k. k ≤ suc h × Among k (filter (is_unused spaces) cs)) (IsLowUnused spaces (suc h))
        (λ k p. (p.0, filter_passed (is_unused spaces) cs k p.1))
        (found_at (filter (is_unused spaces) cs) (suc h) _ (least_is _) (among_filter (is_unused spaces) cs (suc h) (used_below h spaces e) u))

taken_out : (spaces : List Space) (h : ℕ) (o : Option ℕ) → IsSomeAnd o (IsLowUnused spaces h) → IsLowUnused spaces h (unwrap_or o 0)
taken_out spaces h None p = absurd p
taken_out spaces h (Some k) p = p

not_zero : (spaces : List Space) (k : ℕ) → is_unused spaces 0 ≡ false → is_unused spaces k ≡ true → 1 ≤ k
not_zero spaces zero z u = absurd (cc)
not_zero spaces (suc k) z u = omega arith

pub lowest_unused_is_least : LowestUnusedIsLeast
lowest_unused_is_least spaces handle z u =
    let found = taken_out spaces handle _ (unused_from spaces handle z u) in
    (found.0, found.1, not_zero spaces (lowest_unused spaces) z found.1)

-- the least number is one of them
pub least_among : (ns : List ℕ) (k : ℕ) → least ns ≡ Some k → Among k ns
least_among ns k e = let P : Option ℕ → Type 0 = λ o. MatchOption o (ns ≡ []) (λ j. IsLeastOf j ns) in
    let h : IsLeastOf k ns = subst P e (least_is ns) in h.0

-- The least of a list, as a law.

all_at_most : (k : ℕ) (ns : List ℕ) → ((x : ℕ) → Among x ns → k ≤ x) → AllByRecursion (λ x. k ≤ x) ns
all_at_most k [] f = tt
all_at_most k (n ∷ ns) f = (f n (inl refl), all_at_most k ns (λ x a. f x (inr a)))

one_of_them : (k : ℕ) (ns : List ℕ) → Among k ns → IsOneOf ns k
one_of_them k [] a = a
one_of_them k (n ∷ ns) (inl e) = inl e
one_of_them k (n ∷ ns) (inr a) = inr (one_of_them k ns a)

pub least_is_least : LeastIsLeast
least_is_least ns n e =
    let r = subst (λ (o : Option ℕ). MatchOption o (ns ≡ []) (λ k. IsLeastOf k ns)) e (least_is ns) in
    (one_of_them n ns r.0, all_at_most n ns r.1)

-- The lowest handle of a space that passes.

lower_found : (test : Space → Bool) (ss : List Space) (low : Space) → IsAscending (map (λ s. s.handle) ss) → find test ss ≡ Some low
    → (t : Space) → In t ss → test t ≡ true → low.handle ≤ t.handle
lower_found test [] low rise e t i passes = absurd i
lower_found test (s ∷ ss) low rise e t i passes = either (test s) refl e i (λ f j. lower_found test ss low rise.1 f t j passes)
  where
    either : (b : Bool) → test s ≡ b → (if b then Some s else find test ss) ≡ Some low → (s ≡ t) ⊎ In t ss → (find test ss ≡ Some low → In t ss → low.handle ≤ t.handle) → low.handle ≤ t.handle
    either true q f (inl k) more = let z : s ≡ low = same_Some s low f in let y : low.handle ≡ t.handle = ap (λ (r : Space). r.handle) (sym z ∙ k) in omega arith
    either true q f (inr j) more =
        let z : s.handle ≡ low.handle = ap (λ (r : Space). r.handle) (same_Some s low f) in
        let l : s.handle < t.handle = all_in (λ k. s.handle < k) (map (λ r. r.handle) ss) rise.0 t.handle (map_in (λ r. r.handle) ss t j) in omega arith
    either false q f (inl k) more = absurd (true≢false (sym passes ∙ ap test (sym k) ∙ q))
    either false q f (inr j) more = more f j

pub lowest_handle_is_lowest : LowestHandleIsLowest
lowest_handle_is_lowest test ss handle rise e = either (find test ss) refl e
  where
    either : (o : Option Space) → find test ss ≡ o → option_map (λ s. s.handle) o ≡ Some handle → IsLowest test ss handle
    either None q f = absurd (none-some handle f)
    either (Some s) q f =
        let k : s.handle ≡ handle = same_Some s.handle handle f in
        let found = find_in test ss s q in record {
          space = s;
          there = look_up (λ r. r.handle) ss rise s found.0 handle k;
          passes = found.1;
          lowest = λ t at passes. let l = lower_found test ss s rise q t (looked_up (λ r. r.handle) ss t.handle t at).0 passes in omega (arith, l, k);
        }
