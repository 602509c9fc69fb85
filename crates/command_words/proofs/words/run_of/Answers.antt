use Rattle.std.proofs.Common.{◌∷◌, [], ap₂, ℕ, codes, map, string_bytes}
use Rattle.command_words.specs.Options.{frames, queue}
use Rattle.command_words.specs.declared.words.Command.TheVariants as command
use Rattle.command_words.proofs.OptionLemmas.{frames_of_run, has_options, queue_of_run}
use Rattle.command_words.proofs.ReadingLemmas.{fits, number_found, number_in_range, words_taken}
use Rattle.command_words.proofs.words.run_of.Goals as goal

pub number_or-frames-requires : goal.number_or-frames-requires
number_or-frames-requires c = record { fits = fits c.in_ok-parser.parser c.in_ok-matches.matches (map string_bytes c.args.words.now) (codes "run") (frames ∷ queue ∷ []) (has_options (command.Run 64 0)) c.in_ok-parser.ensures c.in_ok-matches.ensures.parsed frames frames_of_run }

pub number_or-queue-requires : goal.number_or-queue-requires
number_or-queue-requires c = record { fits = fits c.in_ok-parser.parser c.in_ok-matches.matches (map string_bytes c.args.words.now) (codes "run") (frames ∷ queue ∷ []) (has_options (command.Run 64 0)) c.in_ok-parser.ensures c.in_ok-matches.ensures.parsed queue queue_of_run }

pub returns-clause-meant : goal.returns-clause-meant
returns-clause-meant c =
    let frames_is = number_found c.in_ok-parser.parser c.in_ok-matches.matches (map string_bytes c.args.words.now) (codes "run") (frames ∷ queue ∷ []) (has_options (command.Run 64 0)) c.in_ok-parser.ensures c.in_ok-matches.ensures.parsed c.in_ok-matches.ensures.matches frames c.number_or-frames.result c.number_or-frames.ensures in
    let queue_is = number_found c.in_ok-parser.parser c.in_ok-matches.matches (map string_bytes c.args.words.now) (codes "run") (frames ∷ queue ∷ []) (has_options (command.Run 64 0)) c.in_ok-parser.ensures c.in_ok-matches.ensures.parsed c.in_ok-matches.ensures.matches queue c.number_or-queue.result c.number_or-queue.ensures in
    record { named = c.requires.named; taken = words_taken c.in_ok-parser.parser c.in_ok-matches.matches (map string_bytes c.args.words.now) (codes "run") (frames ∷ queue ∷ []) (has_options (command.Run 64 0)) c.in_ok-parser.ensures c.in_ok-matches.ensures.parsed c.in_ok-matches.ensures.faultless; numbers = ap₂ (λ (n m : ℕ). n ∷ m ∷ []) frames_is queue_is }

pub returns-clause-range : goal.returns-clause-range
returns-clause-range c =
    let frames_in = number_in_range c.in_ok-parser.parser c.in_ok-matches.matches (map string_bytes c.args.words.now) (codes "run") (frames ∷ queue ∷ []) (has_options (command.Run 64 0)) c.in_ok-parser.ensures c.in_ok-matches.ensures.parsed frames frames_of_run c.number_or-frames.result c.number_or-frames.ensures in
    let queue_in = number_in_range c.in_ok-parser.parser c.in_ok-matches.matches (map string_bytes c.args.words.now) (codes "run") (frames ∷ queue ∷ []) (has_options (command.Run 64 0)) c.in_ok-parser.ensures c.in_ok-matches.ensures.parsed queue queue_of_run c.number_or-queue.result c.number_or-queue.ensures in
    (frames_in.0, frames_in.1, (queue_in.0, queue_in.1, tt))
