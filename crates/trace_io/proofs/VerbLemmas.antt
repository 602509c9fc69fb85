-- The verb of a word, by its first letter.
use Rattle.std.proofs.Common.{◌≡◌, ◌≢◌, ◌⊎◌, ◌≤◌, length, inl, inr, ℕ, Bool, true, false, cond, eqb, List, [], ◌∷◌, get_or, Option, Some, None, refl, sym, ap, subst, ◌∙◌, arith}
use Rattle.std.specs.Prelude.{codes, if◌then◌else◌}
use Rattle.std.specs.Str.{bytes_eq}
use Rattle.std.specs.Option.{option_or}
use Rattle.std.proofs.lemmas.Bool.{ne_eqb}
use Rattle.std.proofs.lemmas.Slice.Eq.{bytes_eq-Decides}
use Rattle.trace_io.specs.Grammar.{verb_of}
use Rattle.trace_io.specs.declared.calls.Verb.{Verb}
use Rattle.trace_io.specs.declared.calls.Verb.TheVariants as verb

cases_bool : (b : Bool) → (b ≡ true) ⊎ (b ≡ false)
cases_bool true = inl refl
cases_bool false = inr refl

-- the names of the verbs
abbrev verbs : List (List ℕ × Verb)
verbs =
    (codes "create", verb.Create)
    ∷ (codes "delete", verb.Delete)
    ∷ (codes "attr", verb.Attr)
    ∷ (codes "setsize", verb.SetSize)
    ∷ (codes "permanent", verb.Permanent)
    ∷ (codes "immutable", verb.Immutable)
    ∷ (codes "next", verb.Next)
    ∷ (codes "volume", verb.Volume)
    ∷ (codes "space", verb.Space)
    ∷ (codes "remove", verb.Remove)
    ∷ (codes "where", verb.Where)
    ∷ (codes "units", verb.Units)
    ∷ (codes "map", verb.Map)
    ∷ (codes "mapdata", verb.MapData)
    ∷ (codes "unmap", verb.Unmap)
    ∷ (codes "protect", verb.Protect)
    ∷ (codes "load", verb.Load)
    ∷ (codes "store", verb.Store)
    ∷ (codes "activate", verb.Activate)
    ∷ (codes "deactivate", verb.Deactivate)
    ∷ (codes "kill", verb.Kill)
    ∷ (codes "force", verb.Force)
    ∷ (codes "close", verb.Close)
    ∷ (codes "halt", verb.Halt)
    ∷ []

-- the verb of the first of these names that the word is
abbrev pub look : List (List ℕ × Verb) → List ℕ → Option Verb
look [] word = None
look (e ∷ es) word = cond (bytes_eq word e.0) (Some e.1) (look es word)

-- the names with this first letter
abbrev pub with_letter : ℕ → List (List ℕ × Verb) → List (List ℕ × Verb)
with_letter c [] = []
with_letter c (e ∷ es) = cond (eqb c (get_or e.0 0 0)) (e ∷ with_letter c es) (with_letter c es)

other_word : (word text : List ℕ) → eqb (get_or word 0 0) (get_or text 0 0) ≡ false → bytes_eq word text ≡ false
other_word word text differ =
    elim (cases_bool (bytes_eq word text)) [
      | inl same ↦ let is : get_or word 0 0 ≡ get_or text 0 0 = ap (λ (w : List ℕ). get_or w 0 0) ((bytes_eq-Decides word text).0 same) in absurd (grind arith)
      | inr other ↦ other
    ]

look-letter : (es : List (List ℕ × Verb)) (word : List ℕ) → look (with_letter (get_or word 0 0) es) word ≡ look es word
look-letter [] word = refl
look-letter (e ∷ es) word =
    let rest = look-letter es word in
    elim (cases_bool (eqb (get_or word 0 0) (get_or e.0 0 0))) [
      | inl same ↦ rw same (ap (cond (bytes_eq word e.0) (Some e.1)) rest)
      | inr other ↦ rw (other, other_word word e.0 other) rest
    ]

verb_of-look : (word : List ℕ) → look verbs word ≡ verb_of word
unfolding verb_of
verb_of-look word = refl

-- only the names with the word's first letter need to be tried
pub by_letter : (word : List ℕ) (c : ℕ) → get_or word 0 0 ≡ c → look (with_letter c verbs) word ≡ verb_of word
by_letter word c is = ap (λ (d : ℕ). look (with_letter d verbs) word) (sym is) ∙ look-letter verbs word ∙ verb_of-look word

pub no_word : None ≡ verb_of []
unfolding verb_of
no_word = refl

-- one name or another
pub or_more : (a : Bool) (v : Verb) (o p : Option Verb) → option_or (if a then Some v else o) p ≡ (if a then Some v else option_or o p)
or_more true v o p = refl
or_more false v o p = refl

-- none of the names begins with this letter
abbrev Others : ℕ → List (List ℕ × Verb) → Type 0
Others c [] = Unit {0}
Others c (e ∷ es) = (c ≢ get_or e.0 0 0) × Others c es

look-none : (es : List (List ℕ × Verb)) (word : List ℕ) → Others (get_or word 0 0) es → look es word ≡ None
look-none [] word others = refl
look-none (e ∷ es) word others = rw (other_word word e.0 (ne_eqb (get_or word 0 0) (get_or e.0 0 0) others.0)) (look-none es word others.1)

-- a word with another first letter is no verb
pub no_letter : (word : List ℕ) (c : ℕ) → get_or word 0 0 ≡ c
    → c ≢ 99 → c ≢ 100 → c ≢ 97 → c ≢ 115 → c ≢ 112 → c ≢ 105 → c ≢ 110 → c ≢ 118
    → c ≢ 114 → c ≢ 119 → c ≢ 117 → c ≢ 109 → c ≢ 108 → c ≢ 107 → c ≢ 102 → c ≢ 104 → None ≡ verb_of word
no_letter word c is n99 n100 n97 n115 n112 n105 n110 n118 n114 n119 n117 n109 n108 n107 n102 n104 =
    let others : Others c verbs = (n99, (n100, (n97, (n115, (n112, (n105, (n110, (n118, (n115, (n114, (n119, (n117, (n109, (n109, (n117, (n112, (n108, (n115, (n97, (n100, (n107, (n102, (n99, (n104, tt)))))))))))))))))))))))) in
    sym (look-none verbs word (subst (λ (d : ℕ). Others d verbs) (sym is) others)) ∙ verb_of-look word

pub empty_list : (word : List ℕ) → length word ≤ 0 → word ≡ []
empty_list [] short = refl
empty_list (x ∷ xs) short = absurd (omega arith)
