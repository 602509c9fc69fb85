use Rattle.std.proofs.Common.{◌∷◌, [], ap, ℕ, codes, map, string_bytes}
use Rattle.command_words.specs.Options.{frames}
use Rattle.command_words.specs.declared.words.Command.TheVariants as command
use Rattle.command_words.proofs.OptionLemmas.{frames_alone, has_options}
use Rattle.command_words.proofs.ReadingLemmas.{fits, number_found, number_in_range, words_taken}
use Rattle.command_words.proofs.words.processes_of.Goals as goal

pub number_or-frames-requires : goal.number_or-frames-requires
number_or-frames-requires c = record { fits = fits c.in_ok-parser.parser c.in_ok-matches.matches (map string_bytes c.args.words.now) (codes "processes") (frames ∷ []) (has_options (command.Processes 64)) c.in_ok-parser.ensures c.in_ok-matches.ensures.parsed frames frames_alone }

pub returns-clause-meant : goal.returns-clause-meant
returns-clause-meant c =
    let frames_is = number_found c.in_ok-parser.parser c.in_ok-matches.matches (map string_bytes c.args.words.now) (codes "processes") (frames ∷ []) (has_options (command.Processes 64)) c.in_ok-parser.ensures c.in_ok-matches.ensures.parsed c.in_ok-matches.ensures.matches frames c.number_or-frames.result c.number_or-frames.ensures in
    record { named = c.requires.named; taken = words_taken c.in_ok-parser.parser c.in_ok-matches.matches (map string_bytes c.args.words.now) (codes "processes") (frames ∷ []) (has_options (command.Processes 64)) c.in_ok-parser.ensures c.in_ok-matches.ensures.parsed c.in_ok-matches.ensures.faultless; numbers = ap (λ (n : ℕ). n ∷ []) frames_is }

pub returns-clause-range : goal.returns-clause-range
returns-clause-range c =
    let frames_in = number_in_range c.in_ok-parser.parser c.in_ok-matches.matches (map string_bytes c.args.words.now) (codes "processes") (frames ∷ []) (has_options (command.Processes 64)) c.in_ok-parser.ensures c.in_ok-matches.ensures.parsed frames frames_alone c.number_or-frames.result c.number_or-frames.ensures in
    (frames_in.0, frames_in.1, tt)
