-- Plain words: the name of a command, and then pairs of an option and a number in decimal digits.
use Rattle.std.specs.Prelude.{◌≡◌, ◌≤◌, ℕ, false, if◌then◌else◌, List, [], ◌∷◌, ◌++◌, Some, map, String}
use Rattle.std.specs.List.{list_any}
use Rattle.std.specs.Str.{bytes_eq}
use Rattle.std.specs.String.{string_bytes}
use Rattle.std.specs.Str.Parse.{IsNumeral, digits_value}
use Rattle.std.specs.declared.alloc.Global.{Global}
use Rattle.clap.specs.Words.{Text}
use Rattle.command_words.specs.Options.{NumberOption, name_of, numbers_of, option_named, options_of}
use Rattle.command_words.specs.declared.words.Command.{Command}

-- `--name value` for each pair
abbrev pub flat : List (Text × Text) → List Text
flat [] = []
flat (p ∷ ps) = (45 ∷ 45 ∷ p.0) ∷ p.1 ∷ flat ps

-- decimal digits of a number that the option may have
abbrev pub IsNumberFor : NumberOption → Text → Type 0
IsNumberFor o text = IsNumeral 10 text × (o.least ≤ digits_value 10 text) × (digits_value 10 text ≤ o.most)

-- one of the options has the name, and the text is a number for it
abbrev pub Fits : List NumberOption → Text → Text → Type 0
Fits options name text = (o : NumberOption) × (option_named options name ≡ Some o) × IsNumberFor o text

-- each pair fits, and none has the name of an earlier one
abbrev pub ArePairs : List NumberOption → List Text → List (Text × Text) → Type 0
ArePairs options seen [] = Unit {0}
ArePairs options seen (p ∷ ps) = Fits options p.0 p.1 × (list_any (λ name. bytes_eq name p.0) seen ≡ false)
    × ArePairs options (seen ++ p.0 ∷ []) ps

-- the number that the pairs say of an option, or the one that it has otherwise
abbrev pub said : List (Text × Text) → NumberOption → ℕ
said [] o = o.otherwise
said (p ∷ ps) o = if bytes_eq p.0 o.name then digits_value 10 p.1 else said ps o

-- The texts are the name of the command and pairs of its options, in any order, each at most once; and the command has the
-- numbers that they say.
pub record ArePlain (texts : List Text) (c : Command) : Type 0 where
  pub pairs : List (Text × Text)
  pub texts_are : texts ≡ name_of c ∷ flat pairs
  pub fit : ArePairs (options_of c) [] pairs
  pub numbers : numbers_of c ≡ map (said pairs) (options_of c)

-- so are the words
abbrev pub IsPlain : List (String Global) → Command → Type 0
IsPlain words c = ArePlain (map string_bytes words) c
