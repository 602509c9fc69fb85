-- The commands as `clap` has them.
use Rattle.std.proofs.Common.{◌≡◌, ◌≤◌, ◌<◌, ◌^◌, ap, refl, lit<, true, List, [], ◌∷◌, arith, codes, get_or}
use Rattle.clap.proofs.OnLiterals.{clap_on_literals}
use Rattle.clap.specs.Faults.{is_simple_and_free}
use Rattle.clap.specs.Simple.{built}
use Rattle.clap.specs.Walk.{Text}
use Rattle.command_words.specs.Options.{NumberOption, calls, counter, frames, name_of, options_of, parser_with, queue, seed, serial}
use Rattle.command_words.specs.declared.words.Command.{Command}
use Rattle.command_words.specs.declared.words.Command.TheVariants as command
use Rattle.command_words.proofs.PlainLemmas.{HasOptions, rule_named}
use Rattle.command_words.proofs.RangeLemmas.{OnlyOne}
use Rattle.command_words.proofs.Walks.{IsOption, IsPlainApp}

run_is_free : is_simple_and_free (parser_with (codes "run") (frames ∷ queue ∷ [])) ≡ true
unfolding clap_on_literals
run_is_free = refl

run_is_plain : IsPlainApp (parser_with (codes "run") (frames ∷ queue ∷ []))
unfolding clap_on_literals
run_is_plain = record { simple = refl; leaf = refl; named = refl; defaults_pass = refl; no_defaults = refl; valid = λ rows. refl }

run_frames : IsOption (built (parser_with (codes "run") (frames ∷ queue ∷ []))).top (codes "frames") (rule_named (frames ∷ queue ∷ []) (codes "frames"))
unfolding clap_on_literals
run_frames = record { by_long = refl; by_id = refl; id = refl; values = refl; most = refl; least = refl; set = refl; reading = refl; word = refl; dashes = refl }

run_queue : IsOption (built (parser_with (codes "run") (frames ∷ queue ∷ []))).top (codes "queue") (rule_named (frames ∷ queue ∷ []) (codes "queue"))
unfolding clap_on_literals
run_queue = record { by_long = refl; by_id = refl; id = refl; values = refl; most = refl; least = refl; set = refl; reading = refl; word = refl; dashes = refl }

processes_is_free : is_simple_and_free (parser_with (codes "processes") (frames ∷ [])) ≡ true
unfolding clap_on_literals
processes_is_free = refl

processes_is_plain : IsPlainApp (parser_with (codes "processes") (frames ∷ []))
unfolding clap_on_literals
processes_is_plain = record { simple = refl; leaf = refl; named = refl; defaults_pass = refl; no_defaults = refl; valid = λ rows. refl }

processes_frames : IsOption (built (parser_with (codes "processes") (frames ∷ []))).top (codes "frames") (rule_named (frames ∷ []) (codes "frames"))
unfolding clap_on_literals
processes_frames = record { by_long = refl; by_id = refl; id = refl; values = refl; most = refl; least = refl; set = refl; reading = refl; word = refl; dashes = refl }

replicate_is_free : is_simple_and_free (parser_with (codes "replicate") (frames ∷ [])) ≡ true
unfolding clap_on_literals
replicate_is_free = refl

replicate_is_plain : IsPlainApp (parser_with (codes "replicate") (frames ∷ []))
unfolding clap_on_literals
replicate_is_plain = record { simple = refl; leaf = refl; named = refl; defaults_pass = refl; no_defaults = refl; valid = λ rows. refl }

replicate_frames : IsOption (built (parser_with (codes "replicate") (frames ∷ []))).top (codes "frames") (rule_named (frames ∷ []) (codes "frames"))
unfolding clap_on_literals
replicate_frames = record { by_long = refl; by_id = refl; id = refl; values = refl; most = refl; least = refl; set = refl; reading = refl; word = refl; dashes = refl }

format_is_free : is_simple_and_free (parser_with (codes "format") (serial ∷ counter ∷ [])) ≡ true
unfolding clap_on_literals
format_is_free = refl

format_is_plain : IsPlainApp (parser_with (codes "format") (serial ∷ counter ∷ []))
unfolding clap_on_literals
format_is_plain = record { simple = refl; leaf = refl; named = refl; defaults_pass = refl; no_defaults = refl; valid = λ rows. refl }

format_serial : IsOption (built (parser_with (codes "format") (serial ∷ counter ∷ []))).top (codes "serial") (rule_named (serial ∷ counter ∷ []) (codes "serial"))
unfolding clap_on_literals
format_serial = record { by_long = refl; by_id = refl; id = refl; values = refl; most = refl; least = refl; set = refl; reading = refl; word = refl; dashes = refl }

format_counter : IsOption (built (parser_with (codes "format") (serial ∷ counter ∷ []))).top (codes "counter") (rule_named (serial ∷ counter ∷ []) (codes "counter"))
unfolding clap_on_literals
format_counter = record { by_long = refl; by_id = refl; id = refl; values = refl; most = refl; least = refl; set = refl; reading = refl; word = refl; dashes = refl }

scavenge_is_free : is_simple_and_free (parser_with (codes "scavenge") []) ≡ true
unfolding clap_on_literals
scavenge_is_free = refl

scavenge_is_plain : IsPlainApp (parser_with (codes "scavenge") [])
unfolding clap_on_literals
scavenge_is_plain = record { simple = refl; leaf = refl; named = refl; defaults_pass = refl; no_defaults = refl; valid = λ rows. refl }

convert_is_free : is_simple_and_free (parser_with (codes "convert") []) ≡ true
unfolding clap_on_literals
convert_is_free = refl

convert_is_plain : IsPlainApp (parser_with (codes "convert") [])
unfolding clap_on_literals
convert_is_plain = record { simple = refl; leaf = refl; named = refl; defaults_pass = refl; no_defaults = refl; valid = λ rows. refl }

trial_is_free : is_simple_and_free (parser_with (codes "trial") (seed ∷ calls ∷ frames ∷ [])) ≡ true
unfolding clap_on_literals
trial_is_free = refl

trial_is_plain : IsPlainApp (parser_with (codes "trial") (seed ∷ calls ∷ frames ∷ []))
unfolding clap_on_literals
trial_is_plain = record { simple = refl; leaf = refl; named = refl; defaults_pass = refl; no_defaults = refl; valid = λ rows. refl }

trial_seed : IsOption (built (parser_with (codes "trial") (seed ∷ calls ∷ frames ∷ []))).top (codes "seed") (rule_named (seed ∷ calls ∷ frames ∷ []) (codes "seed"))
unfolding clap_on_literals
trial_seed = record { by_long = refl; by_id = refl; id = refl; values = refl; most = refl; least = refl; set = refl; reading = refl; word = refl; dashes = refl }

trial_calls : IsOption (built (parser_with (codes "trial") (seed ∷ calls ∷ frames ∷ []))).top (codes "calls") (rule_named (seed ∷ calls ∷ frames ∷ []) (codes "calls"))
unfolding clap_on_literals
trial_calls = record { by_long = refl; by_id = refl; id = refl; values = refl; most = refl; least = refl; set = refl; reading = refl; word = refl; dashes = refl }

trial_frames : IsOption (built (parser_with (codes "trial") (seed ∷ calls ∷ frames ∷ []))).top (codes "frames") (rule_named (seed ∷ calls ∷ frames ∷ []) (codes "frames"))
unfolding clap_on_literals
trial_frames = record { by_long = refl; by_id = refl; id = refl; values = refl; most = refl; least = refl; set = refl; reading = refl; word = refl; dashes = refl }

-- each command has its options
pub has_options : (c : Command) → HasOptions (name_of c) (options_of c)
has_options (command.Run n q) = record { plain = run_is_plain; free = run_is_free; each = (run_frames, lit< tt, (run_queue, lit< tt, tt)) }
has_options (command.Processes n) = record { plain = processes_is_plain; free = processes_is_free; each = (processes_frames, lit< tt, tt) }
has_options (command.Replicate n) = record { plain = replicate_is_plain; free = replicate_is_free; each = (replicate_frames, lit< tt, tt) }
has_options (command.Format s k) = record { plain = format_is_plain; free = format_is_free; each = (format_serial, lit< tt, (format_counter, lit< tt, tt)) }
has_options command.Scavenge = record { plain = scavenge_is_plain; free = scavenge_is_free; each = tt }
has_options command.Convert = record { plain = convert_is_plain; free = convert_is_free; each = tt }
has_options (command.Trial s n f) = record { plain = trial_is_plain; free = trial_is_free; each = (trial_seed, lit< tt, (trial_calls, lit< tt, (trial_frames, lit< tt, tt))) }

-- two texts with other first letters
other_letter : (a b : Text) → (get_or a 0 0 ≡ get_or b 0 0 → ⊥) → a ≡ b → ⊥
other_letter a b differ e = differ (ap (λ (l : Text). get_or l 0 0) e)

-- an option is one of these, and its number fits where it isn't given
pub record IsOf (options : List NumberOption) (o : NumberOption) : Type 0 where
  pub one : OnlyOne options o
  pub own : (o.name ≡ codes "help" → ⊥) × (o.name ≡ codes "version" → ⊥) × (o.name ≡ [] → ⊥)
  pub low : o.least ≤ o.otherwise
  pub high : o.otherwise ≤ o.most
  pub small : o.most < 2 ^ 32

own_frames : (frames.name ≡ codes "help" → ⊥) × (frames.name ≡ codes "version" → ⊥) × (frames.name ≡ [] → ⊥)
own_frames = (other_letter _ _ (λ e. omega (arith, e)), other_letter _ _ (λ e. omega (arith, e)), other_letter _ _ (λ e. omega (arith, e)))

pub frames_of_run : IsOf (frames ∷ queue ∷ []) frames
frames_of_run = record {
  one = ((λ e. (refl, refl)), ((λ e. absurd (other_letter _ _ (λ f. omega (arith, f)) e)), tt));
  own = own_frames;
  low = omega arith;
  high = omega arith;
  small = omega arith;
}

pub queue_of_run : IsOf (frames ∷ queue ∷ []) queue
queue_of_run = record {
  one = ((λ e. absurd (other_letter _ _ (λ f. omega (arith, f)) e)), ((λ e. (refl, refl)), tt));
  own = (other_letter _ _ (λ e. omega (arith, e)), other_letter _ _ (λ e. omega (arith, e)), other_letter _ _ (λ e. omega (arith, e)));
  low = omega arith;
  high = omega arith;
  small = omega arith;
}

pub frames_alone : IsOf (frames ∷ []) frames
frames_alone = record { one = ((λ e. (refl, refl)), tt); own = own_frames; low = omega arith; high = omega arith; small = omega arith }

pub serial_of_format : IsOf (serial ∷ counter ∷ []) serial
serial_of_format = record {
  one = ((λ e. (refl, refl)), ((λ e. absurd (other_letter _ _ (λ f. omega (arith, f)) e)), tt));
  own = (other_letter _ _ (λ e. omega (arith, e)), other_letter _ _ (λ e. omega (arith, e)), other_letter _ _ (λ e. omega (arith, e)));
  low = omega arith;
  high = omega arith;
  small = omega arith;
}

pub counter_of_format : IsOf (serial ∷ counter ∷ []) counter
counter_of_format = record {
  one = ((λ e. absurd (other_letter _ _ (λ f. omega (arith, f)) e)), ((λ e. (refl, refl)), tt));
  own = (other_letter _ _ (λ e. omega (arith, e)), other_letter _ _ (λ e. omega (arith, e)), other_letter _ _ (λ e. omega (arith, e)));
  low = omega arith;
  high = omega arith;
  small = omega arith;
}

pub seed_of_trial : IsOf (seed ∷ calls ∷ frames ∷ []) seed
seed_of_trial = record {
  one = ((λ e. (refl, refl)), ((λ e. absurd (other_letter _ _ (λ f. omega (arith, f)) e)), ((λ e. absurd (other_letter _ _ (λ f. omega (arith, f)) e)), tt)));
  own = (other_letter _ _ (λ e. omega (arith, e)), other_letter _ _ (λ e. omega (arith, e)), other_letter _ _ (λ e. omega (arith, e)));
  low = omega arith;
  high = omega arith;
  small = omega arith;
}

pub calls_of_trial : IsOf (seed ∷ calls ∷ frames ∷ []) calls
calls_of_trial = record {
  one = ((λ e. absurd (other_letter _ _ (λ f. omega (arith, f)) e)), ((λ e. (refl, refl)), ((λ e. absurd (other_letter _ _ (λ f. omega (arith, f)) e)), tt)));
  own = (other_letter _ _ (λ e. omega (arith, e)), other_letter _ _ (λ e. omega (arith, e)), other_letter _ _ (λ e. omega (arith, e)));
  low = omega arith;
  high = omega arith;
  small = omega arith;
}

pub frames_of_trial : IsOf (seed ∷ calls ∷ frames ∷ []) frames
frames_of_trial = record {
  one = ((λ e. absurd (other_letter _ _ (λ f. omega (arith, f)) e)), ((λ e. absurd (other_letter _ _ (λ f. omega (arith, f)) e)), ((λ e. (refl, refl)), tt)));
  own = own_frames;
  low = omega arith;
  high = omega arith;
  small = omega arith;
}
