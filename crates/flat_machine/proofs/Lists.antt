-- Lists, element by element.
use Rattle.std.proofs.Common.{◌≡◌, ◌≢◌, ◌⊎◌, inl, inr, ℕ, ◌<◌, Bool, true, false, ◌||◌, cond, List, [], ◌∷◌, map, filter, Option, Some, None, refl, sym, ◌∙◌, ap, subst, arith}
use Rattle.std.specs.Prelude.{find, ◌==◌}
use Rattle.std.specs.List.{AllByRecursion, list_any, list_all}
use Rattle.std.proofs.lemmas.Option.{same_Some, none-some}
use Rattle.std.proofs.lemmas.Bool.{eqb-true, eq-eqb, true≢false, false≢true, and_parts}
use Rattle.labelled_disk.specs.Ascending.{IsAscending}

-- one of the elements
abbrev pub In : {X : Type 0} → X → List X → Type 0
In x [] = ⊥
In x (y ∷ ys) = (y ≡ x) ⊎ In x ys

module _ {X : Type 0} where
  pub all_in : (P : X → Type 0) (xs : List X) → AllByRecursion P xs → (x : X) → In x xs → P x
  all_in P [] h x i = absurd i
  all_in P (y ∷ ys) h x (inl e) = subst P e h.0
  all_in P (y ∷ ys) h x (inr i) = all_in P ys h.1 x i

  pub in_all : (P : X → Type 0) (xs : List X) → ((x : X) → In x xs → P x) → AllByRecursion P xs
  in_all P [] f = tt
  in_all P (x ∷ xs) f = (f x (inl refl), in_all P xs (λ y i. f y (inr i)))

  -- what holds of each of a list holds of each of a part of it
  pub in_filter : (p : X → Bool) (xs : List X) (x : X) → In x (filter p xs) → In x xs × (p x ≡ true)
  in_filter p [] x i = absurd i
  in_filter p (y ∷ ys) x i = either (p y) refl i (in_filter p ys x)
    where
      either : (b : Bool) → p y ≡ b → In x (cond b (y ∷ filter p ys) (filter p ys)) → (In x (filter p ys) → In x ys × (p x ≡ true)) → ((y ≡ x) ⊎ In x ys) × (p x ≡ true)
      either true e (inl q) f = (inl q, ap p (sym q) ∙ e)
      either true e (inr j) f = let r = f j in (inr r.0, r.1)
      either false e j f = let r = f j in (inr r.0, r.1)

  pub filter_in : (p : X → Bool) (xs : List X) (x : X) → In x xs → p x ≡ true → In x (filter p xs)
  filter_in p [] x i t = absurd i
  filter_in p (y ∷ ys) x i t = either (p y) refl i (λ j. filter_in p ys x j t)
    where
      either : (b : Bool) → p y ≡ b → (y ≡ x) ⊎ In x ys → (In x ys → In x (filter p ys)) → In x (cond b (y ∷ filter p ys) (filter p ys))
      either true e (inl q) f = inl q
      either true e (inr j) f = inr (f j)
      either false e (inl q) f = absurd (true≢false (sym t ∙ ap p (sym q) ∙ e))
      either false e (inr j) f = f j

  pub any_in : (p : X → Bool) (xs : List X) → list_any p xs ≡ true → (x : X) × In x xs × (p x ≡ true)
  any_in p [] h = absurd (false≢true h)
  any_in p (x ∷ xs) h = either (p x) refl h (any_in p xs)
    where
      either : (b : Bool) → p x ≡ b → b || list_any p xs ≡ true → (list_any p xs ≡ true → (y : X) × In y xs × (p y ≡ true)) → (y : X) × ((x ≡ y) ⊎ In y xs) × (p y ≡ true)
      either true e h f = (x, inl refl, e)
      either false e h f = let r = f h in (r.0, inr r.1, r.2)

  pub in_any : (p : X → Bool) (xs : List X) (x : X) → In x xs → p x ≡ true → list_any p xs ≡ true
  in_any p [] x i t = absurd i
  in_any p (y ∷ ys) x (inl q) t = let e : p y ≡ true = ap p q ∙ t in rw e refl
  in_any p (y ∷ ys) x (inr i) t = let e = in_any p ys x i t in either (p y) e
    where
      either : (b : Bool) → list_any p ys ≡ true → b || list_any p ys ≡ true
      either true e = refl
      either false e = e

  pub not_any : (p : X → Bool) (xs : List X) → list_any p xs ≡ false → (x : X) → In x xs → p x ≡ false
  not_any p xs h x i = either (p x) refl
    where
      either : (b : Bool) → p x ≡ b → p x ≡ false
      either true e = absurd (true≢false (sym (in_any p xs x i e) ∙ h))
      either false e = e

  pub any_not : (p : X → Bool) (xs : List X) → ((x : X) → In x xs → p x ≡ false) → list_any p xs ≡ false
  any_not p xs f = either (list_any p xs) refl
    where
      either : (b : Bool) → list_any p xs ≡ b → list_any p xs ≡ false
      either true e = let r = any_in p xs e in absurd (true≢false (sym r.2 ∙ f r.0 r.1))
      either false e = e

  pub all_pass : (p : X → Bool) (xs : List X) → list_all p xs ≡ true → (x : X) → In x xs → p x ≡ true
  all_pass p [] h x i = absurd i
  all_pass p (y ∷ ys) h x (inl q) = ap p (sym q) ∙ (and_parts (p y) (list_all p ys) h).0
  all_pass p (y ∷ ys) h x (inr i) = all_pass p ys (and_parts (p y) (list_all p ys) h).1 x i

  pub find_in : (p : X → Bool) (xs : List X) (x : X) → find p xs ≡ Some x → In x xs × (p x ≡ true)
  find_in p [] x e = absurd (none-some x e)
  find_in p (y ∷ ys) x e = either (p y) refl e (find_in p ys x)
    where
      either : (b : Bool) → p y ≡ b → cond b (Some y) (find p ys) ≡ Some x → (find p ys ≡ Some x → In x ys × (p x ≡ true)) → ((y ≡ x) ⊎ In x ys) × (p x ≡ true)
      either true t h f = let q : y ≡ x = same_Some y x h in (inl q, ap p (sym q) ∙ t)
      either false t h f = let r = f h in (inr r.0, r.1)

  pub not_found : (p : X → Bool) (xs : List X) → find p xs ≡ None → (x : X) → In x xs → p x ≡ false
  not_found p [] e x i = absurd i
  not_found p (y ∷ ys) e x i = either (p y) refl e (not_found p ys) i
    where
      either : (b : Bool) → p y ≡ b → cond b (Some y) (find p ys) ≡ None → (find p ys ≡ None → (z : X) → In z ys → p z ≡ false) → (y ≡ x) ⊎ In x ys → p x ≡ false
      either true t h f j = absurd (none-some y (sym h))
      either false t h f (inl q) = ap p (sym q) ∙ t
      either false t h f (inr j) = f h x j

module _ {X Y : Type 0} where
  pub in_map : (f : X → Y) (xs : List X) (y : Y) → In y (map f xs) → (x : X) × In x xs × (f x ≡ y)
  in_map f [] y i = absurd i
  in_map f (x ∷ xs) y (inl e) = (x, inl refl, e)
  in_map f (x ∷ xs) y (inr i) = let r = in_map f xs y i in (r.0, inr r.1, r.2)

  pub map_in : (f : X → Y) (xs : List X) (x : X) → In x xs → In (f x) (map f xs)
  map_in f [] x i = absurd i
  map_in f (y ∷ ys) x (inl e) = inl (ap f e)
  map_in f (y ∷ ys) x (inr i) = inr (map_in f ys x i)

-- Elements with keys in ascending order.

module _ {X : Type 0} (key : X → ℕ) where
  above : (xs : List X) (low : ℕ) → AllByRecursion (λ k. low < k) (map key xs) → (x : X) → In x xs → low < key x
  above xs low h x i = all_in (λ k. low < k) (map key xs) h (key x) (map_in key xs x i)

  -- two with one key are the same
  pub one_key : (xs : List X) → IsAscending (map key xs) → (x y : X) → In x xs → In y xs → key x ≡ key y → x ≡ y
  one_key [] r x y i j e = absurd i
  one_key (z ∷ zs) r x y (inl p) (inl q) e = sym p ∙ q
  one_key (z ∷ zs) r x y (inl p) (inr j) e = let l = above zs (key z) r.0 y j in let s : key z ≡ key x = ap key p in absurd (omega arith)
  one_key (z ∷ zs) r x y (inr i) (inl q) e = let l = above zs (key z) r.0 x i in let s : key z ≡ key y = ap key q in absurd (omega arith)
  one_key (z ∷ zs) r x y (inr i) (inr j) e = one_key zs r.1 x y i j e

  -- what is looked up is in the list, and has the key
  pub looked_up : (xs : List X) (k : ℕ) (x : X) → find (λ y. key y == k) xs ≡ Some x → In x xs × (key x ≡ k)
  looked_up xs k x e = let r = find_in (λ y. key y == k) xs x e in (r.0, eqb-true (key x) k r.1)

  pub look_up : (xs : List X) → IsAscending (map key xs) → (x : X) → In x xs → (k : ℕ) → key x ≡ k → find (λ y. key y == k) xs ≡ Some x
  look_up xs r x i k e = either (find (λ y. key y == k) xs) refl
    where
      either : (o : Option X) → find (λ y. key y == k) xs ≡ o → find (λ y. key y == k) xs ≡ Some x
      either None n = absurd (true≢false (sym (eq-eqb (key x) k e) ∙ not_found (λ y. key y == k) xs n x i))
      either (Some y) n = let f = looked_up xs k y n in n ∙ ap Some (one_key xs r y x f.0 i (f.1 ∙ sym e))

  -- nothing is looked up where no element has the key
  pub look_up_none : (xs : List X) (k : ℕ) → ((x : X) → In x xs → key x ≢ k) → find (λ y. key y == k) xs ≡ None
  look_up_none xs k n = either (find (λ y. key y == k) xs) refl
    where
      either : (o : Option X) → find (λ y. key y == k) xs ≡ o → find (λ y. key y == k) xs ≡ None
      either None e = e
      either (Some y) e = let f = looked_up xs k y e in absurd (n y f.0 f.1)

  above_filter : (p : X → Bool) (low : ℕ) (xs : List X) → AllByRecursion (λ k. low < k) (map key xs) → AllByRecursion (λ k. low < k) (map key (filter p xs))
  above_filter p low [] h = tt
  above_filter p low (x ∷ xs) h = either (p x) (above_filter p low xs h.1)
    where
      either : (b : Bool) → AllByRecursion (λ k. low < k) (map key (filter p xs)) → AllByRecursion (λ k. low < k) (map key (cond b (x ∷ filter p xs) (filter p xs)))
      either true t = (h.0, t)
      either false t = t

  pub ascending_filter : (p : X → Bool) (xs : List X) → IsAscending (map key xs) → IsAscending (map key (filter p xs))
  ascending_filter p [] h = tt
  ascending_filter p (x ∷ xs) h = either (p x) (ascending_filter p xs h.1)
    where
      either : (b : Bool) → IsAscending (map key (filter p xs)) → IsAscending (map key (cond b (x ∷ filter p xs) (filter p xs)))
      either true t = (above_filter p (key x) xs h.0, t)
      either false t = t

  -- a change that keeps each key keeps the order
  same_keys : (g : X → X) → ((x : X) → key (g x) ≡ key x) → (xs : List X) → map key (map g xs) ≡ map key xs
  same_keys g k [] = refl
  same_keys g k (x ∷ xs) = λ t. k x t ∷ same_keys g k xs t

  pub ascending_map : (g : X → X) → ((x : X) → key (g x) ≡ key x) → (xs : List X) → IsAscending (map key xs) → IsAscending (map key (map g xs))
  ascending_map g k xs r = subst IsAscending (sym (same_keys g k xs)) r
