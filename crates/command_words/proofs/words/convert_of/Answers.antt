use Rattle.std.proofs.Common.{[], refl, codes, map, string_bytes}
use Rattle.command_words.specs.declared.words.Command.TheVariants as command
use Rattle.command_words.proofs.OptionLemmas.{has_options}
use Rattle.command_words.proofs.ReadingLemmas.{words_taken}
use Rattle.command_words.proofs.words.convert_of.Goals as goal

pub returns-clause-meant : goal.returns-clause-meant
returns-clause-meant c =
    record { named = c.requires.named; taken = words_taken c.convert_parser-parser.result c.in_ok-_matches._matches (map string_bytes c.args.words.now) (codes "convert") [] (has_options (command.Convert)) c.convert_parser-parser.ensures c.in_ok-_matches.ensures.parsed c.in_ok-_matches.ensures.faultless; numbers = refl }
