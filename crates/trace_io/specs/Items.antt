-- A text cut at its line feeds into items, by what a line says and which item is the last.
use Rattle.std.specs.Prelude.{◌≡◌, ◌⊎◌, ◌<◌, ℕ, ◌==◌, Bool, true, if◌then◌else◌, List, [], ◌∷◌, length, map, take, drop, Option}
use Rattle.std.specs.List.{slice_split, join_with_byte, list_any}

-- what stands between the line feeds; the last part stands after the last of them
abbrev pub parts_of : List ℕ → List (List ℕ)
parts_of bytes = slice_split (λ b. b == 10) bytes

-- the lines: after the last line feed there is one only if a byte is there
abbrev pub lines_of : List (List ℕ) → List (List ℕ)
lines_of [] = []
lines_of ([] ∷ []) = []
lines_of ((b ∷ bs) ∷ []) = (b ∷ bs) ∷ []
lines_of (line ∷ next ∷ more) = line ∷ lines_of (next ∷ more)

-- the lines that end in a line feed
abbrev pub whole_lines_of : List (List ℕ) → List (List ℕ)
whole_lines_of [] = []
whole_lines_of (line ∷ []) = []
whole_lines_of (line ∷ next ∷ more) = line ∷ whole_lines_of (next ∷ more)

-- the items up to and with the first that is the last of its text
abbrev pub up_to_last : {A : Type 0} → (Option A → Bool) → List (Option A) → List (Option A)
up_to_last is_last [] = []
up_to_last is_last (item ∷ items) = item ∷ (if is_last item then [] else up_to_last is_last items)

-- the lines of a text, each an item, or None where it is bad
unfoldable pub items_of : {A : Type 0} → (List ℕ → Option A) → (Option A → Bool) → List ℕ → List (Option A)
items_of meaning is_last bytes = up_to_last is_last (map meaning (lines_of (parts_of bytes)))

-- the same of the lines whose line feed is there
unfoldable pub whole_items_of : {A : Type 0} → (List ℕ → Option A) → (Option A → Bool) → List ℕ → List (Option A)
whole_items_of meaning is_last bytes = up_to_last is_last (map meaning (whole_lines_of (parts_of bytes)))

-- what stands after the line of the last item
unfoldable pub left_after : {A : Type 0} → (List ℕ → Option A) → (Option A → Bool) → List ℕ → List ℕ
left_after meaning is_last bytes = join_with_byte 10 (drop (length (items_of meaning is_last bytes)) (parts_of bytes))

-- the text has fewer bytes than the limit, or a line whose item is the last is whole in that many
abbrev pub FitsIn : {A : Type 0} → (List ℕ → Option A) → (Option A → Bool) → ℕ → List ℕ → Type 0
FitsIn meaning is_last limit bytes = (length bytes < limit) ⊎ (list_any is_last (whole_items_of meaning is_last (take limit bytes)) ≡ true)
