-- A text read line by line, by what a line says and which item is the last.
use Rattle.std.proofs.Common.{◌≡◌, ℕ, ◌<◌, Bool, true, false, cond, eqb, List, [], ◌∷◌, ◌++◌, length, map, Option, refl, ap, ◌∙◌, arith}
use Rattle.std.proofs.lemmas.List.Splits.{length-slice_split}
use Rattle.trace_io.specs.Stream.{Misses}
use Rattle.trace_io.specs.Items.{parts_of, lines_of, whole_lines_of, up_to_last, items_of, whole_items_of}
use Rattle.trace_io.proofs.Cuts.{split_first, split_none}

parts_some : (s : List ℕ) → 0 < length (parts_of s)
parts_some s = omega (arith, length-slice_split (λ b. eqb b 10) s)

lines_of-cons : (line : List ℕ) (parts : List (List ℕ)) → 0 < length parts → lines_of (line ∷ parts) ≡ line ∷ lines_of parts
lines_of-cons line [] some = absurd (omega arith)
lines_of-cons [] (next ∷ more) some = refl
lines_of-cons (b ∷ bs) (next ∷ more) some = refl

whole_lines_of-cons : (line : List ℕ) (parts : List (List ℕ)) → 0 < length parts → whole_lines_of (line ∷ parts) ≡ line ∷ whole_lines_of parts
whole_lines_of-cons line [] some = absurd (omega arith)
whole_lines_of-cons line (next ∷ more) some = refl

last_alone : {A : Type 0} (b : Bool) (item : Option A) → item ∷ cond b [] [] ≡ item ∷ []
last_alone true item = refl
last_alone false item = refl

module _ {A : Type 0} (meaning : List ℕ → Option A) (is_last : Option A → Bool) where
  -- a line and its line feed at the start
  pub items_of-line : (line s : List ℕ) → Misses 10 line → items_of meaning is_last (line ++ 10 ∷ s) ≡ meaning line ∷ cond (is_last (meaning line)) [] (items_of meaning is_last s)
  unfolding items_of
  items_of-line line s misses =
      ap (λ parts. up_to_last is_last (map meaning (lines_of parts))) (split_first 10 line s misses)
      ∙ ap (λ lines. up_to_last is_last (map meaning lines)) (lines_of-cons line (parts_of s) (parts_some s))

  pub whole_items_of-line : (line s : List ℕ) → Misses 10 line → whole_items_of meaning is_last (line ++ 10 ∷ s) ≡ meaning line ∷ cond (is_last (meaning line)) [] (whole_items_of meaning is_last s)
  unfolding whole_items_of
  whole_items_of-line line s misses =
      ap (λ parts. up_to_last is_last (map meaning (whole_lines_of parts))) (split_first 10 line s misses)
      ∙ ap (λ lines. up_to_last is_last (map meaning lines)) (whole_lines_of-cons line (parts_of s) (parts_some s))

  pub items_of-nil : items_of meaning is_last [] ≡ []
  unfolding items_of
  items_of-nil = refl

  -- a last line with no line feed
  pub items_of-last : (line : List ℕ) → Misses 10 line → 0 < length line → items_of meaning is_last line ≡ meaning line ∷ []
  unfolding items_of
  items_of-last [] misses some = absurd (omega arith)
  items_of-last (b ∷ bs) misses some =
      let cut : items_of meaning is_last (b ∷ bs) ≡ meaning (b ∷ bs) ∷ cond (is_last (meaning (b ∷ bs))) [] [] = ap (λ parts. up_to_last is_last (map meaning (lines_of parts))) (split_none 10 (b ∷ bs) misses) in
      cut ∙ last_alone (is_last (meaning (b ∷ bs))) (meaning (b ∷ bs))

  pub whole_items_of-part : (part : List ℕ) → Misses 10 part → whole_items_of meaning is_last part ≡ []
  unfolding whole_items_of
  whole_items_of-part part misses = ap (λ parts. up_to_last is_last (map meaning (whole_lines_of parts))) (split_none 10 part misses)
