-- The commands by their words: the name of each, its options, and the numbers that it has for them.
use Rattle.std.specs.Prelude.{◌≤◌, ℕ, true, List, [], ◌∷◌, Option, Some, codes, find, map}
use Rattle.std.specs.Str.{bytes_eq}
use Rattle.clap.specs.Words.{App, Rule, Text, new_app, new_rule}
use Rattle.clap.specs.Simple.{on_top}
use Rattle.clap.specs.declared.builder.action.ArgAction.TheVariants.{Set}
use Rattle.clap.specs.declared.builder.value_parser.ValueParser.TheVariants as vp
use Rattle.command_words.specs.declared.words.Command.{Command}
use Rattle.command_words.specs.declared.words.Command.TheVariants as command

-- an option `--name value`: the least and the most number that its value may be, and the number where it isn't given
pub record NumberOption : Type 0 where
  pub name : Text
  pub least : ℕ
  pub most : ℕ
  pub otherwise : ℕ

-- how many pages are kept in memory
abbrev pub frames : NumberOption
frames = record { name = codes "frames"; least = 24; most = 4096; otherwise = 64 }

-- how many pages may wait before the disk
abbrev pub queue : NumberOption
queue = record { name = codes "queue"; least = 0; most = 256; otherwise = 0 }

-- the high half of each identifier of a volume
abbrev pub serial : NumberOption
serial = record { name = codes "serial"; least = 1; most = 4294967295; otherwise = 1 }

-- the low half of the next one
abbrev pub counter : NumberOption
counter = record { name = codes "counter"; least = 1; most = 4294967295; otherwise = 1 }

-- where the calls of a trial are drawn from
abbrev pub seed : NumberOption
seed = record { name = codes "seed"; least = 0; most = 4294967295; otherwise = 0 }

-- how many calls a trial makes
abbrev pub calls : NumberOption
calls = record { name = codes "calls"; least = 0; most = 1000000; otherwise = 1000 }

-- the word of a command
abbrev pub name_of : Command → Text
name_of (command.Run n q) = codes "run"
name_of (command.Processes n) = codes "processes"
name_of (command.Replicate n) = codes "replicate"
name_of (command.Format s c) = codes "format"
name_of command.Scavenge = codes "scavenge"
name_of command.Convert = codes "convert"
name_of (command.Trial s n f) = codes "trial"

-- its options
abbrev pub options_of : Command → List NumberOption
options_of (command.Run n q) = frames ∷ queue ∷ []
options_of (command.Processes n) = frames ∷ []
options_of (command.Replicate n) = frames ∷ []
options_of (command.Format s c) = serial ∷ counter ∷ []
options_of command.Scavenge = []
options_of command.Convert = []
options_of (command.Trial s n f) = seed ∷ calls ∷ frames ∷ []

-- the number that it has for each of them
abbrev pub numbers_of : Command → List ℕ
numbers_of (command.Run n q) = n ∷ q ∷ []
numbers_of (command.Processes n) = n ∷ []
numbers_of (command.Replicate n) = n ∷ []
numbers_of (command.Format s c) = s ∷ c ∷ []
numbers_of command.Scavenge = []
numbers_of command.Convert = []
numbers_of (command.Trial s n f) = s ∷ n ∷ f ∷ []

-- each number is one that its option may have
abbrev pub AreInRange : List NumberOption → List ℕ → Type 0
AreInRange (o ∷ os) (n ∷ ns) = (o.least ≤ n) × (n ≤ o.most) × AreInRange os ns
AreInRange (o ∷ os) [] = ⊥
AreInRange [] (n ∷ ns) = ⊥
AreInRange [] [] = Unit {0}

-- so is each number of the command
abbrev pub IsInRange : Command → Type 0
IsInRange c = AreInRange (options_of c) (numbers_of c)

-- the option of a name
abbrev pub option_named : List NumberOption → Text → Option NumberOption
option_named options name = find (λ o. bytes_eq o.name name) options

-- an option of this name and these bounds, as `clap` has it
abbrev pub option_rule : Text → ℕ → ℕ → Rule
option_rule name least most = record (new_rule name) { long = Some name; action = Some Set; parser = Some (vp.Unsigned least most) }

-- so is this option
abbrev pub rule_for : NumberOption → Rule
rule_for o = option_rule o.name o.least o.most

-- a command with these options, and no `--help`, as `clap` has it
abbrev pub parser_with : Text → List NumberOption → App
parser_with name options = on_top (λ s. record s { disable_help_flag = true; rules = map rule_for options }) (new_app name)

-- the command as `clap` has it
abbrev pub parser_of : Command → App
parser_of c = parser_with (name_of c) (options_of c)
