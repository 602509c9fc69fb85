-- Lists that are written over from the prefix on, each element by its place.
use Rattle.std.proofs.Common.{◌≡◌, ℕ, zero, suc, ◌+◌, ◌<◌, ◌≤◌, false, List, [], ◌∷◌, ◌++◌, drop, length, map, Option, Some, None, refl, sym, ◌∙◌, ap, arith}
use Rattle.std.specs.Prelude.{slice_get, slice_index_or, slice_set, option_map}
use Rattle.std.specs.List.{range_with_len}
use Rattle.std.proofs.lemmas.List.{drop_all, length-map}
use Rattle.std.proofs.lemmas.List.FromFn.{map-range_with_len_more}
use Rattle.std.proofs.lemmas.Option.{slice_get-map, slice_get_within, slice_get_past, get_or_from_slice_get}
use Rattle.labelled_disk.proofs.WriteLemmas as laws
use Rattle.volume_convert.proofs.SettledLemmas.{get_made, made_long, past_end}

module _ {X : Type 0} where
  dropped : (xs : List X) (i : ℕ) (d : X) → i < length xs → drop i xs ≡ slice_index_or xs i d ∷ drop (i + 1) xs
  dropped [] i d l = absurd (omega (arith, l))
  dropped (x ∷ xs) zero d l = refl
  dropped (x ∷ xs) (suc i) d l = let s : suc i + 1 ≡ suc (i + 1) = omega arith in
      dropped xs i d (omega (arith, l)) ∙ ap (λ (m : ℕ). slice_index_or xs i d ∷ drop m (x ∷ xs)) (sym s)

  seam_set : (pre : List X) (x v : X) (rest : List X) → slice_set (pre ++ x ∷ rest) (length pre) v ≡ (pre ++ v ∷ []) ++ rest
  seam_set [] x v rest = refl
  seam_set (p ∷ pre) x v rest = ap (λ (l : List X). p ∷ l) (seam_set pre x v rest)

  seam_read : (pre : List X) (x d : X) (rest : List X) → slice_index_or (pre ++ x ∷ rest) (length pre) d ≡ x
  seam_read [] x d rest = refl
  seam_read (p ∷ pre) x d rest = seam_read pre x d rest

  append_nil : (xs : List X) → xs ++ [] ≡ xs
  append_nil [] = refl
  append_nil (x ∷ xs) = ap (λ (l : List X). x ∷ l) (append_nil xs)

  module _ (f : ℕ → X) (old now : List X) (i : ℕ) (so_far : now ≡ map f (range_with_len 0 i) ++ drop i old) where
    -- what comes next is as it was
    pub read_next : (d : X) → i < length old → slice_index_or now i d ≡ slice_index_or old i d
    read_next d l =
        ap (λ (xs : List X). slice_index_or xs i d) (so_far ∙ ap (λ (xs : List X). map f (range_with_len 0 i) ++ xs) (dropped old i d l))
        ∙ ap (λ (k : ℕ). slice_index_or (map f (range_with_len 0 i) ++ slice_index_or old i d ∷ drop (i + 1) old) k d) (sym (made_long f 0 i))
        ∙ seam_read (map f (range_with_len 0 i)) (slice_index_or old i d) d (drop (i + 1) old)

    -- one more
    pub one_placed : (v : X) → i < length old → v ≡ f i → slice_set now i v ≡ map f (range_with_len 0 (i + 1)) ++ drop (i + 1) old
    one_placed v l is =
        ap (λ (xs : List X). slice_set xs i v) (so_far ∙ ap (λ (xs : List X). map f (range_with_len 0 i) ++ xs) (dropped old i v l))
        ∙ ap (λ (k : ℕ). slice_set (map f (range_with_len 0 i) ++ slice_index_or old i v ∷ drop (i + 1) old) k v) (sym (made_long f 0 i))
        ∙ seam_set (map f (range_with_len 0 i)) (slice_index_or old i v) v (drop (i + 1) old)
        ∙ ap (λ (y : X). (map f (range_with_len 0 i) ++ y ∷ []) ++ drop (i + 1) old) is
        ∙ ap (λ (xs : List X). xs ++ drop (i + 1) old) (sym (map-range_with_len_more f 0 i i (omega arith)))

    -- all
    pub all_placed : length old ≤ i → i ≤ length old → now ≡ map f (range_with_len 0 (length old))
    all_placed least most =
        let same : i ≡ length old = omega (arith, least, most) in
        so_far ∙ ap (λ (xs : List X). map f (range_with_len 0 i) ++ xs) (drop_all i old least) ∙ append_nil (map f (range_with_len 0 i)) ∙ ap (λ (k : ℕ). map f (range_with_len 0 k)) same

  -- by their places is one by one
  pub by_places : (g : X → X) (xs : List X) (d : X) → map (λ j. g (slice_index_or xs j d)) (range_with_len 0 (length xs)) ≡ map g xs
  by_places g xs d = laws.same_elements false 0 0 (map (λ j. g (slice_index_or xs j d)) (range_with_len 0 (length xs))) (map g xs) (λ i. by i (slice_get xs i) refl)
    where
      by : (i : ℕ) (o : Option X) → slice_get xs i ≡ o → slice_get (map (λ j. g (slice_index_or xs j d)) (range_with_len 0 (length xs))) i ≡ slice_get (map g xs) i
      by i None e =
          let past = past_end xs i e in
          slice_get_past (map (λ j. g (slice_index_or xs j d)) (range_with_len 0 (length xs))) i (omega (arith, past, made_long (λ j. g (slice_index_or xs j d)) 0 (length xs)))
          ∙ sym (slice_get_past (map g xs) i (omega (arith, past, length-map xs g)))
      by i (Some x) e =
          let z : 0 + i ≡ i = omega arith in
          get_made (λ j. g (slice_index_or xs j d)) 0 (length xs) i (slice_get_within xs i x e)
          ∙ ap (λ (k : ℕ). Some (g (slice_index_or xs k d))) z
          ∙ ap (λ (y : X). Some (g y)) (get_or_from_slice_get xs i x d e)
          ∙ sym (slice_get-map g xs i ∙ ap (option_map g) e)
