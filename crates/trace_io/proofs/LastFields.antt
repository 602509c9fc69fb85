-- The last field of a line is read from all that is left of it.
use Rattle.std.proofs.Common.{◌≡◌, ◌<◌, ℕ, Bool, true, false, List, [], ◌∷◌, length, get_or, Option, Some, None, refl, sym, ap, ◌∙◌, arith, inl, inr}
use Rattle.std.specs.List.{AllPass, list_all, join_with_byte}
use Rattle.std.specs.Prelude.{codes}
use Rattle.std.specs.Char.{is_ascii_digit}
use Rattle.std.specs.Str.{bytes_eq}
use Rattle.std.specs.Result.{result_ok}
use Rattle.std.proofs.lemmas.List.Splits.{join_with_byte-slice_split}
use Rattle.std.proofs.lemmas.List.Sums.{AllPass-from_list_all}
use Rattle.std.proofs.lemmas.Slice.Eq.{bytes_eq-Decides}
use Rattle.hex.specs.Hex.{decode_sized, is_hex_digit}
use Rattle.hex.proofs.HexLemmas.{decode_of-ok, decode_sized-ok, decode_sized-twice}
use Rattle.trace_io.specs.Grammar.{is_plain, number_of, id_of, bytes_of, count_of, type_of, mode_of, both, only_id, only_number, number_and_type, id_and_number, two_numbers, number_and_mode, number_and_count, number_and_bytes, place, window, words_of, ◌>>=◌}
use Rattle.trace_io.proofs.Cuts.{split_none}
use Rattle.trace_io.proofs.WordLemmas.{words_some}
use Rattle.trace_io.proofs.DigitLemmas.{bytes_of-some}
use Rattle.trace_io.proofs.LongLines.{cases_bool, cond_some, then_some, result_some}

-- what such bytes alone make up is one word
one_word : (p : ℕ → Bool) → p 32 ≡ false → (text : List ℕ) → AllPass p text → words_of text ≡ text ∷ []
one_word p space text all = split_none 32 text (λ k l here. let passes : p (get_or text k 0) ≡ true = all k 0 l in let fails : p (get_or text k 0) ≡ false = ap p here ∙ space in cc)

-- What says something is one word.
abbrev IsOfWords : {A : Type 0} → (List ℕ → Option A) → Type 0
IsOfWords {A} f = (text : List ℕ) (x : A) → f text ≡ Some x → words_of text ≡ text ∷ []

number-word : IsOfWords number_of
unfolding number_of
number-word text n e =
    let first = cond_some (is_plain text) _ n e in
    let digits : list_all is_ascii_digit text ≡ true = grind arith in
    one_word is_ascii_digit refl text (AllPass-from_list_all is_ascii_digit text digits)

id-word : IsOfWords id_of
unfolding id_of
id-word text n e =
    let got = then_some _ (result_ok (decode_sized text 8)) n e in
    let ok = result_some _ got.0 got.1 in
    let size = decode_sized-ok text 8 got.0 ok in
    one_word is_hex_digit refl text (decode_of-ok text got.0 (sym (decode_sized-twice text 8 size) ∙ ok)).1

bytes-word : IsOfWords bytes_of
bytes-word text bytes e = one_word is_hex_digit refl text (bytes_of-some text bytes e).3

count-word : IsOfWords count_of
unfolding count_of
count-word text n e = let got = then_some _ (number_of text) n e in number-word text got.0 got.1

type-word : IsOfWords type_of
unfolding type_of
type-word text n e = let got = then_some _ (number_of text) n e in number-word text got.0 got.1

mode-word : IsOfWords mode_of
unfolding mode_of
mode-word text b e =
    let rw_text = codes "rw" in
    let ro_text = codes "ro" in
    elim (cases_bool (bytes_eq text rw_text)) [
      | inl same ↦ rw ((bytes_eq-Decides text rw_text).0 same) refl
      | inr other ↦ let e2 = rw other at e in rw ((bytes_eq-Decides text ro_text).0 (cond_some (bytes_eq text ro_text) (Some false) b e2).0) refl
    ]

-- what the only word says
abbrev only : {A : Type 0} → (List ℕ → Option A) → List (List ℕ) → Option A
only f [] = None
only f (w ∷ []) = f w
only f (w ∷ v ∷ ws) = None

only_none : {A : Type 0} (f : List ℕ → Option A) (ws : List (List ℕ)) (text : List ℕ) → join_with_byte 32 ws ≡ text → None ≡ f text → None ≡ only f ws
only_none f [] text joined none = refl
only_none f (w ∷ []) text joined none = none ∙ ap f (sym joined)
only_none f (w ∷ v ∷ ws) text joined none = refl

module _ {A : Type 0} (f : List ℕ → Option A) (of_words : IsOfWords f) where
  by_cases : (text : List ℕ) (o : Option A) → f text ≡ o → o ≡ only f (words_of text)
  by_cases text None e = only_none f (words_of text) text (join_with_byte-slice_split 32 text) (sym e)
  by_cases text (Some x) e = sym e ∙ ap (only f) (sym (of_words text x e))

  -- what a text says is what its only word says
  last : (text : List ℕ) → f text ≡ only f (words_of text)
  last text = by_cases text (f text) refl

both_none : {A B : Type 0} (a : Option A) → both {A = A} {B = B} a None ≡ None
both_none None = refl
both_none (Some x) = refl

-- what two words say
abbrev pair : {A B : Type 0} → (List ℕ → Option A) → (List ℕ → Option B) → List (List ℕ) → Option (A × B)
pair f g [] = None
pair f g (a ∷ ws) = both (f a) (only g ws)

only_id-only : (ws : List (List ℕ)) → only id_of ws ≡ only_id ws
unfolding only_id
only_id-only [] = refl
only_id-only (w ∷ []) = refl
only_id-only (w ∷ v ∷ ws) = refl

pub only_id_last : (text : List ℕ) → id_of text ≡ only_id (words_of text)
only_id_last text = last id_of id-word text ∙ only_id-only (words_of text)

only_number-only : (ws : List (List ℕ)) → only number_of ws ≡ only_number ws
unfolding only_number
only_number-only [] = refl
only_number-only (w ∷ []) = refl
only_number-only (w ∷ v ∷ ws) = refl

pub only_number_last : (text : List ℕ) → number_of text ≡ only_number (words_of text)
only_number_last text = last number_of number-word text ∙ only_number-only (words_of text)

number_and_type-pair : (ws : List (List ℕ)) → pair number_of type_of ws ≡ number_and_type ws
unfolding number_and_type
number_and_type-pair [] = refl
number_and_type-pair (a ∷ []) = both_none (number_of a)
number_and_type-pair (a ∷ b ∷ []) = refl
number_and_type-pair (a ∷ b ∷ c ∷ ws) = both_none (number_of a)

pub number_and_type_last : (a text : List ℕ) → both (number_of a) (type_of text) ≡ number_and_type (a ∷ words_of text)
number_and_type_last a text = ap (both (number_of a)) (last type_of type-word text) ∙ number_and_type-pair (a ∷ words_of text)

id_and_number-pair : (ws : List (List ℕ)) → pair id_of number_of ws ≡ id_and_number ws
unfolding id_and_number
id_and_number-pair [] = refl
id_and_number-pair (a ∷ []) = both_none (id_of a)
id_and_number-pair (a ∷ b ∷ []) = refl
id_and_number-pair (a ∷ b ∷ c ∷ ws) = both_none (id_of a)

pub id_and_number_last : (a text : List ℕ) → both (id_of a) (number_of text) ≡ id_and_number (a ∷ words_of text)
id_and_number_last a text = ap (both (id_of a)) (last number_of number-word text) ∙ id_and_number-pair (a ∷ words_of text)

two_numbers-pair : (ws : List (List ℕ)) → pair number_of number_of ws ≡ two_numbers ws
unfolding two_numbers
two_numbers-pair [] = refl
two_numbers-pair (a ∷ []) = both_none (number_of a)
two_numbers-pair (a ∷ b ∷ []) = refl
two_numbers-pair (a ∷ b ∷ c ∷ ws) = both_none (number_of a)

pub two_numbers_last : (a text : List ℕ) → both (number_of a) (number_of text) ≡ two_numbers (a ∷ words_of text)
two_numbers_last a text = ap (both (number_of a)) (last number_of number-word text) ∙ two_numbers-pair (a ∷ words_of text)

number_and_mode-pair : (ws : List (List ℕ)) → pair number_of mode_of ws ≡ number_and_mode ws
unfolding number_and_mode
number_and_mode-pair [] = refl
number_and_mode-pair (a ∷ []) = both_none (number_of a)
number_and_mode-pair (a ∷ b ∷ []) = refl
number_and_mode-pair (a ∷ b ∷ c ∷ ws) = both_none (number_of a)

pub number_and_mode_last : (a text : List ℕ) → both (number_of a) (mode_of text) ≡ number_and_mode (a ∷ words_of text)
number_and_mode_last a text = ap (both (number_of a)) (last mode_of mode-word text) ∙ number_and_mode-pair (a ∷ words_of text)

number_and_count-pair : (ws : List (List ℕ)) → pair number_of count_of ws ≡ number_and_count ws
unfolding number_and_count
number_and_count-pair [] = refl
number_and_count-pair (a ∷ []) = both_none (number_of a)
number_and_count-pair (a ∷ b ∷ []) = refl
number_and_count-pair (a ∷ b ∷ c ∷ ws) = both_none (number_of a)

pub number_and_count_last : (a text : List ℕ) → both (number_of a) (count_of text) ≡ number_and_count (a ∷ words_of text)
number_and_count_last a text = ap (both (number_of a)) (last count_of count-word text) ∙ number_and_count-pair (a ∷ words_of text)

number_and_bytes-pair : (ws : List (List ℕ)) → pair number_of bytes_of ws ≡ number_and_bytes ws
unfolding number_and_bytes
number_and_bytes-pair [] = refl
number_and_bytes-pair (a ∷ []) = both_none (number_of a)
number_and_bytes-pair (a ∷ b ∷ []) = refl
number_and_bytes-pair (a ∷ b ∷ c ∷ ws) = both_none (number_of a)

pub number_and_bytes_last : (a text : List ℕ) → both (number_of a) (bytes_of text) ≡ number_and_bytes (a ∷ words_of text)
number_and_bytes_last a text = ap (both (number_of a)) (last bytes_of bytes-word text) ∙ number_and_bytes-pair (a ∷ words_of text)

-- a call of two or three numbers
abbrev pub place_of : Option ℕ → Option ℕ → Option ℕ → Option (ℕ × ℕ × Option ℕ)
place_of (Some a) (Some b) (Some c) = Some (a, b, Some c)
place_of a b c = None

place_of-none : (a b : Option ℕ) → place_of a b None ≡ None
place_of-none None b = refl
place_of-none (Some a) None = refl
place_of-none (Some a) (Some b) = refl

place_of-three : (a b c : Option ℕ) → place_of a b c ≡ (a >>= (λ x. b >>= (λ y. c >>= (λ z. Some (x, y, Some z)))))
place_of-three None b c = refl
place_of-three (Some a) None c = refl
place_of-three (Some a) (Some b) None = refl
place_of-three (Some a) (Some b) (Some c) = refl

place-only : (a b w : List ℕ) (ws : List (List ℕ)) → place_of (number_of a) (number_of b) (only number_of (w ∷ ws)) ≡ place (a ∷ b ∷ w ∷ ws)
unfolding place
place-only a b w [] = place_of-three (number_of a) (number_of b) (number_of w)
place-only a b w (v ∷ ws) = place_of-none (number_of a) (number_of b)

place-words : (a b : List ℕ) (ws : List (List ℕ)) → 0 < length ws → place_of (number_of a) (number_of b) (only number_of ws) ≡ place (a ∷ b ∷ ws)
place-words a b [] some = absurd (omega arith)
place-words a b (w ∷ ws) some = place-only a b w ws

pub place_last : (a b text : List ℕ) → place_of (number_of a) (number_of b) (number_of text) ≡ place (a ∷ b ∷ words_of text)
place_last a b text = ap (place_of (number_of a) (number_of b)) (last number_of number-word text) ∙ place-words a b (words_of text) (words_some text)

-- a space, an identifier, a page and a mode
abbrev pub window_of : Option ℕ → Option ℕ → Option ℕ → Option Bool → Option (ℕ × ℕ × ℕ × Bool)
window_of (Some a) (Some b) (Some c) (Some d) = Some (a, b, c, d)
window_of a b c d = None

window_of-none : (a b c : Option ℕ) → window_of a b c None ≡ None
window_of-none None b c = refl
window_of-none (Some a) None c = refl
window_of-none (Some a) (Some b) None = refl
window_of-none (Some a) (Some b) (Some c) = refl

window_of-four : (a b c : Option ℕ) (d : Option Bool) → window_of a b c d ≡ (a >>= (λ x. b >>= (λ y. c >>= (λ z. d >>= (λ w. Some (x, y, z, w))))))
window_of-four None b c d = refl
window_of-four (Some a) None c d = refl
window_of-four (Some a) (Some b) None d = refl
window_of-four (Some a) (Some b) (Some c) None = refl
window_of-four (Some a) (Some b) (Some c) (Some d) = refl

window-only : (a b c : List ℕ) (ws : List (List ℕ)) → window_of (number_of a) (id_of b) (number_of c) (only mode_of ws) ≡ window (a ∷ b ∷ c ∷ ws)
unfolding window
window-only a b c [] = window_of-none (number_of a) (id_of b) (number_of c)
window-only a b c (w ∷ []) = window_of-four (number_of a) (id_of b) (number_of c) (mode_of w)
window-only a b c (w ∷ v ∷ ws) = window_of-none (number_of a) (id_of b) (number_of c)

pub window_last : (a b c text : List ℕ) → window_of (number_of a) (id_of b) (number_of c) (mode_of text) ≡ window (a ∷ b ∷ c ∷ words_of text)
window_last a b c text = ap (window_of (number_of a) (id_of b) (number_of c)) (last mode_of mode-word text) ∙ window-only a b c (words_of text)
