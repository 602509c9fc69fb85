use Rattle.std.proofs.Common.{◌∷◌, [], ap₂, ℕ, codes, map, string_bytes}
use Rattle.command_words.specs.Options.{counter, serial}
use Rattle.command_words.specs.declared.words.Command.TheVariants as command
use Rattle.command_words.proofs.OptionLemmas.{counter_of_format, has_options, serial_of_format}
use Rattle.command_words.proofs.ReadingLemmas.{fits, number_found, number_in_range, words_taken}
use Rattle.command_words.proofs.words.format_of.Goals as goal

pub number_or-serial-requires : goal.number_or-serial-requires
number_or-serial-requires c = record { fits = fits c.in_ok-parser.parser c.in_ok-matches.matches (map string_bytes c.args.words.now) (codes "format") (serial ∷ counter ∷ []) (has_options (command.Format 1 1)) c.in_ok-parser.ensures c.in_ok-matches.ensures.parsed serial serial_of_format }

pub number_or-counter-requires : goal.number_or-counter-requires
number_or-counter-requires c = record { fits = fits c.in_ok-parser.parser c.in_ok-matches.matches (map string_bytes c.args.words.now) (codes "format") (serial ∷ counter ∷ []) (has_options (command.Format 1 1)) c.in_ok-parser.ensures c.in_ok-matches.ensures.parsed counter counter_of_format }

pub returns-clause-meant : goal.returns-clause-meant
returns-clause-meant c =
    let serial_is = number_found c.in_ok-parser.parser c.in_ok-matches.matches (map string_bytes c.args.words.now) (codes "format") (serial ∷ counter ∷ []) (has_options (command.Format 1 1)) c.in_ok-parser.ensures c.in_ok-matches.ensures.parsed c.in_ok-matches.ensures.matches serial c.number_or-serial.result c.number_or-serial.ensures in
    let counter_is = number_found c.in_ok-parser.parser c.in_ok-matches.matches (map string_bytes c.args.words.now) (codes "format") (serial ∷ counter ∷ []) (has_options (command.Format 1 1)) c.in_ok-parser.ensures c.in_ok-matches.ensures.parsed c.in_ok-matches.ensures.matches counter c.number_or-counter.result c.number_or-counter.ensures in
    record { named = c.requires.named; taken = words_taken c.in_ok-parser.parser c.in_ok-matches.matches (map string_bytes c.args.words.now) (codes "format") (serial ∷ counter ∷ []) (has_options (command.Format 1 1)) c.in_ok-parser.ensures c.in_ok-matches.ensures.parsed c.in_ok-matches.ensures.faultless; numbers = ap₂ (λ (n m : ℕ). n ∷ m ∷ []) serial_is counter_is }

pub returns-clause-range : goal.returns-clause-range
returns-clause-range c =
    let serial_in = number_in_range c.in_ok-parser.parser c.in_ok-matches.matches (map string_bytes c.args.words.now) (codes "format") (serial ∷ counter ∷ []) (has_options (command.Format 1 1)) c.in_ok-parser.ensures c.in_ok-matches.ensures.parsed serial serial_of_format c.number_or-serial.result c.number_or-serial.ensures in
    let counter_in = number_in_range c.in_ok-parser.parser c.in_ok-matches.matches (map string_bytes c.args.words.now) (codes "format") (serial ∷ counter ∷ []) (has_options (command.Format 1 1)) c.in_ok-parser.ensures c.in_ok-matches.ensures.parsed counter counter_of_format c.number_or-counter.result c.number_or-counter.ensures in
    (serial_in.0, serial_in.1, (counter_in.0, counter_in.1, tt))
