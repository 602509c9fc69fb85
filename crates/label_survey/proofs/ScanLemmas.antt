-- A scan of the last sectors of a disk, one by one.
use Rattle.std.proofs.Common.{◌≡◌, ℕ, zero, suc, ◌+◌, ◌-◌, ◌<◌, ◌≤◌, add-one, get_or, List, [], ◌∷◌, ◌++◌, length, map, take, drop, Some, refl, sym, ◌∙◌, ap, arith}
use Rattle.std.specs.Prelude.{slice_get, min, ◌/◌, ◌%◌}
use Rattle.std.proofs.lemmas.Option.{same_Some, none-some, slice_get-get_or}
use Rattle.std.proofs.lemmas.List.{take_all}
use Rattle.labelled_disk.specs.declared.layout.Layout.{Layout}
use Rattle.labelled_disk.specs.Layout.{IsCount, layout_of, first_data}

-- an element after the first n
pub dropped : {X : Type 0} (xs : List X) (n k : ℕ) → slice_get (drop n xs) k ≡ slice_get xs (n + k)
dropped xs zero k = let z : 0 + k ≡ k = omega arith in ap (slice_get xs) (sym z)
dropped [] (suc n) k = refl
dropped (x ∷ xs) (suc n) k = let s : suc n + k ≡ suc (n + k) = omega arith in dropped xs n k ∙ ap (slice_get (x ∷ xs)) (sym s)

module _ {X Y : Type 0} (f : X → Y) where
  one_more : (xs : List X) (k : ℕ) (x : X) → slice_get xs k ≡ Some x → map f (take (suc k) xs) ≡ map f (take k xs) ++ f x ∷ []
  one_more [] k x here = absurd (none-some x here)
  one_more (y ∷ ys) zero x here = ap (λ (z : X). f z ∷ []) (same_Some y x here)
  one_more (y ∷ ys) (suc k) x here = ap (λ (l : List Y). f y ∷ l) (one_more ys k x here)

  -- what each element becomes, pushed one by one
  pub pushed_more : (xs : List X) (i : ℕ) (d : X) (ys : List Y) (y : Y) → i < length xs → ys ≡ map f (take i xs) → y ≡ f (get_or xs i d)
      → ys ++ y ∷ [] ≡ map f (take (i + 1) xs)
  pushed_more xs i d ys y inside so_far is =
      rw (so_far, is, add-one) (sym (one_more xs i (get_or xs i d) (slice_get-get_or xs i d inside)))

  -- one element more of those from n on
  pub scanned_more : (xs : List X) (n i : ℕ) (x : X) → n ≤ i → slice_get xs i ≡ Some x → map f (take (i + 1 - n) (drop n xs)) ≡ map f (take (i - n) (drop n xs)) ++ f x ∷ []
  scanned_more xs n i x from here =
      let more : i + 1 - n ≡ suc (i - n) = omega (arith, from) in
      let at : n + (i - n) ≡ i = omega (arith, from) in
      ap (λ (k : ℕ). map f (take k (drop n xs))) more
      ∙ one_more (drop n xs) (i - n) x (dropped xs n (i - n) ∙ ap (slice_get xs) at ∙ here)

  -- all of them
  pub scanned_all : (xs : List X) (n k : ℕ) → length xs ≤ n + k → map f (take k (drop n xs)) ≡ map f (drop n xs)
  scanned_all xs zero k long = ap (map f) (take_all k xs (omega (arith, long)))
  scanned_all [] (suc n) k long = ap (map f) (take_all k [] (omega arith))
  scanned_all (x ∷ xs) (suc n) k long = scanned_all xs n k (omega (arith, long))

-- the parts of a layout
pub of_layout : (l : Layout) (n : ℕ) → l ≡ layout_of n → (l.sectors ≡ n) × (l.first ≡ first_data n)
unfolding first_data
of_layout l n is = (ap (λ (k : Layout). k.sectors) is, ap (λ (k : Layout). k.first) is)

-- one element more
pub pushed_length : {X : Type 0} (xs : List X) (x : X) → length (xs ++ x ∷ []) ≡ length xs + 1
pushed_length [] x = refl
pushed_length (y ∷ ys) x = let more = pushed_length ys x in omega (arith, more)

ceil_small : (n : ℕ) → n / 4096 + min 1 (n % 4096) ≤ n / 4096 + 1
ceil_small n = omega arith

-- the data sectors begin on the disk
pub first_within : (n : ℕ) → IsCount n → first_data n ≤ n
unfolding first_data
first_within n count = let few = ceil_small n in omega (arith, few, count.0, count.1)
