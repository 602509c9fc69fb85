-- The first of the words.
use Rattle.std.proofs.Common.{◌≡◌, ◌∙◌, ap, sym, List, [], ◌∷◌, Option, Some, map, string_bytes, slice_get, unwrap_or}
use Rattle.std.specs.Borrow.{Bor}
use Rattle.std.specs.Option.{option_copied}
use Rattle.std.specs.Prelude.{String}
use Rattle.std.specs.declared.alloc.Global.{Global}
use Rattle.clap.specs.Words.{Text}

-- the text of the first word comes first among the texts
pub first_named : (words : List (String Global)) (first : Option (Bor (String Global))) (word : Bor (String Global)) (text name : Text) → option_copied first ≡ slice_get words 0
    → first ≡ Some word → text ≡ string_bytes word.now → text ≡ name → (rest : List Text) × (map string_bytes words ≡ name ∷ rest)
first_named [] first word text name value is bytes named = cc
first_named (w ∷ ws) first word text name value is bytes named =
    let same : w ≡ word.now = ap (λ (o : Option (String Global)). unwrap_or o w) (sym value ∙ ap option_copied is) in
    (map string_bytes ws, ap (λ (t : Text). t ∷ map string_bytes ws) (ap string_bytes same ∙ (sym bytes ∙ named)))
