-- What words mean.
use Rattle.std.specs.Prelude.{◌≡◌, ℕ, true, List, ◌∷◌, map, String}
use Rattle.std.specs.Option.{option_map_or}
use Rattle.std.specs.String.{string_bytes}
use Rattle.std.specs.Str.Parse.{digits_value, without_leading_plus}
use Rattle.std.specs.declared.alloc.Global.{Global}
use Rattle.clap.specs.Words.{Row, Text, matches_of, one_of, takes}
use Rattle.command_words.specs.Options.{NumberOption, name_of, numbers_of, options_of, parser_of}
use Rattle.command_words.specs.declared.words.Command.{Command}

-- the number that a value is, which may begin with a plus sign
abbrev pub number_of : Text → ℕ
number_of text = digits_value 10 (without_leading_plus text)

-- the number of an option, by what `clap` found
abbrev pub number_in : List Row → NumberOption → ℕ
number_in rows o = option_map_or number_of (one_of o.name rows) o.otherwise

-- the first word is the name of the command
abbrev pub AreNamed : List Text → Command → Type 0
AreNamed texts c = (rest : List Text) × (texts ≡ name_of c ∷ rest)

-- The texts mean the command: the first is its name, `clap` takes them, and the command has the numbers that `clap` finds.
pub record AreMeant (texts : List Text) (c : Command) : Type 0 where
  pub named : AreNamed texts c
  pub taken : takes (parser_of c) texts ≡ true
  pub numbers : numbers_of c ≡ map (number_in (matches_of (parser_of c) texts)) (options_of c)

-- so do the words
abbrev pub Means : List (String Global) → Command → Type 0
Means words c = AreMeant (map string_bytes words) c

-- the first of the words is the name of the command
abbrev pub Names : List (String Global) → Command → Type 0
Names words c = AreNamed (map string_bytes words) c

-- the words mean no command
abbrev pub IsNoCommand : List (String Global) → Type 0
IsNoCommand words = (c : Command) → ¬ Means words c
