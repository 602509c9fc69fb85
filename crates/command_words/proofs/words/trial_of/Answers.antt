use Rattle.std.proofs.Common.{◌∷◌, [], codes, map, string_bytes}
use Rattle.command_words.specs.Options.{calls, frames, seed}
use Rattle.command_words.specs.declared.words.Command.TheVariants as command
use Rattle.command_words.proofs.OptionLemmas.{calls_of_trial, frames_of_trial, has_options, seed_of_trial}
use Rattle.command_words.proofs.ReadingLemmas.{fits, number_found, number_in_range, words_taken}
use Rattle.command_words.proofs.words.trial_of.Goals as goal

pub number_or-seed-requires : goal.number_or-seed-requires
number_or-seed-requires c = record { fits = fits c.in_ok-parser.parser c.in_ok-matches.matches (map string_bytes c.args.words.now) (codes "trial") (seed ∷ calls ∷ frames ∷ []) (has_options (command.Trial 0 0 24)) c.in_ok-parser.ensures c.in_ok-matches.ensures.parsed seed seed_of_trial }

pub number_or-calls-requires : goal.number_or-calls-requires
number_or-calls-requires c = record { fits = fits c.in_ok-parser.parser c.in_ok-matches.matches (map string_bytes c.args.words.now) (codes "trial") (seed ∷ calls ∷ frames ∷ []) (has_options (command.Trial 0 0 24)) c.in_ok-parser.ensures c.in_ok-matches.ensures.parsed calls calls_of_trial }

pub number_or-frames-requires : goal.number_or-frames-requires
number_or-frames-requires c = record { fits = fits c.in_ok-parser.parser c.in_ok-matches.matches (map string_bytes c.args.words.now) (codes "trial") (seed ∷ calls ∷ frames ∷ []) (has_options (command.Trial 0 0 24)) c.in_ok-parser.ensures c.in_ok-matches.ensures.parsed frames frames_of_trial }

pub returns-clause-meant : goal.returns-clause-meant
returns-clause-meant c =
    let seed_is = number_found c.in_ok-parser.parser c.in_ok-matches.matches (map string_bytes c.args.words.now) (codes "trial") (seed ∷ calls ∷ frames ∷ []) (has_options (command.Trial 0 0 24)) c.in_ok-parser.ensures c.in_ok-matches.ensures.parsed c.in_ok-matches.ensures.matches seed c.number_or-seed.result c.number_or-seed.ensures in
    let calls_is = number_found c.in_ok-parser.parser c.in_ok-matches.matches (map string_bytes c.args.words.now) (codes "trial") (seed ∷ calls ∷ frames ∷ []) (has_options (command.Trial 0 0 24)) c.in_ok-parser.ensures c.in_ok-matches.ensures.parsed c.in_ok-matches.ensures.matches calls c.number_or-calls.result c.number_or-calls.ensures in
    let frames_is = number_found c.in_ok-parser.parser c.in_ok-matches.matches (map string_bytes c.args.words.now) (codes "trial") (seed ∷ calls ∷ frames ∷ []) (has_options (command.Trial 0 0 24)) c.in_ok-parser.ensures c.in_ok-matches.ensures.parsed c.in_ok-matches.ensures.matches frames c.number_or-frames.result c.number_or-frames.ensures in
    record { named = c.requires.named; taken = words_taken c.in_ok-parser.parser c.in_ok-matches.matches (map string_bytes c.args.words.now) (codes "trial") (seed ∷ calls ∷ frames ∷ []) (has_options (command.Trial 0 0 24)) c.in_ok-parser.ensures c.in_ok-matches.ensures.parsed c.in_ok-matches.ensures.faultless; numbers = (λ i. seed_is i ∷ calls_is i ∷ frames_is i ∷ []) }

pub returns-clause-range : goal.returns-clause-range
returns-clause-range c =
    let seed_in = number_in_range c.in_ok-parser.parser c.in_ok-matches.matches (map string_bytes c.args.words.now) (codes "trial") (seed ∷ calls ∷ frames ∷ []) (has_options (command.Trial 0 0 24)) c.in_ok-parser.ensures c.in_ok-matches.ensures.parsed seed seed_of_trial c.number_or-seed.result c.number_or-seed.ensures in
    let calls_in = number_in_range c.in_ok-parser.parser c.in_ok-matches.matches (map string_bytes c.args.words.now) (codes "trial") (seed ∷ calls ∷ frames ∷ []) (has_options (command.Trial 0 0 24)) c.in_ok-parser.ensures c.in_ok-matches.ensures.parsed calls calls_of_trial c.number_or-calls.result c.number_or-calls.ensures in
    let frames_in = number_in_range c.in_ok-parser.parser c.in_ok-matches.matches (map string_bytes c.args.words.now) (codes "trial") (seed ∷ calls ∷ frames ∷ []) (has_options (command.Trial 0 0 24)) c.in_ok-parser.ensures c.in_ok-matches.ensures.parsed frames frames_of_trial c.number_or-frames.result c.number_or-frames.ensures in
    (seed_in.0, seed_in.1, (calls_in.0, calls_in.1, (frames_in.0, frames_in.1, tt)))
