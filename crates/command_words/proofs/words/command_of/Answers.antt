use Rattle.command_words.specs.declared.words.Command.TheVariants as command
use Rattle.command_words.proofs.NameLemmas.{first_named}
use Rattle.command_words.proofs.words.command_of.Goals as goal

pub run_of-requires : goal.run_of-requires
run_of-requires c = record { named = first_named c.args.words.now c.first.result c.in-Some.word c.as_str.result.now _ c.first.ensures.value c.in-Some.is c.as_str.ensures.value c.in-run.is }

pub returns-in-run-clause-unknown : goal.returns-in-run-clause-unknown
returns-in-run-clause-unknown c none =
    absurd (none (command.Run 64 0) (first_named c.args.words.now c.first.result c.in-Some.word c.as_str.result.now _ c.first.ensures.value c.in-Some.is c.as_str.ensures.value c.in-run.is))

pub processes_of-requires : goal.processes_of-requires
processes_of-requires c = record { named = first_named c.args.words.now c.first.result c.in-Some.word c.as_str.result.now _ c.first.ensures.value c.in-Some.is c.as_str.ensures.value c.in-processes.is }

pub replicate_of-requires : goal.replicate_of-requires
replicate_of-requires c = record { named = first_named c.args.words.now c.first.result c.in-Some.word c.as_str.result.now _ c.first.ensures.value c.in-Some.is c.as_str.ensures.value c.in-replicate.is }

pub returns-in-processes-clause-unknown : goal.returns-in-processes-clause-unknown
returns-in-processes-clause-unknown c none =
    absurd (none (command.Processes 64) (first_named c.args.words.now c.first.result c.in-Some.word c.as_str.result.now _ c.first.ensures.value c.in-Some.is c.as_str.ensures.value c.in-processes.is))

pub returns-in-replicate-clause-unknown : goal.returns-in-replicate-clause-unknown
returns-in-replicate-clause-unknown c none =
    absurd (none (command.Replicate 64) (first_named c.args.words.now c.first.result c.in-Some.word c.as_str.result.now _ c.first.ensures.value c.in-Some.is c.as_str.ensures.value c.in-replicate.is))

pub format_of-requires : goal.format_of-requires
format_of-requires c = record { named = first_named c.args.words.now c.first.result c.in-Some.word c.as_str.result.now _ c.first.ensures.value c.in-Some.is c.as_str.ensures.value c.in-format.is }

pub returns-in-format-clause-unknown : goal.returns-in-format-clause-unknown
returns-in-format-clause-unknown c none =
    absurd (none (command.Format 1 1) (first_named c.args.words.now c.first.result c.in-Some.word c.as_str.result.now _ c.first.ensures.value c.in-Some.is c.as_str.ensures.value c.in-format.is))

pub scavenge_of-requires : goal.scavenge_of-requires
scavenge_of-requires c = record { named = first_named c.args.words.now c.first.result c.in-Some.word c.as_str.result.now _ c.first.ensures.value c.in-Some.is c.as_str.ensures.value c.in-scavenge.is }

pub convert_of-requires : goal.convert_of-requires
convert_of-requires c = record { named = first_named c.args.words.now c.first.result c.in-Some.word c.as_str.result.now _ c.first.ensures.value c.in-Some.is c.as_str.ensures.value c.in-convert.is }

pub returns-in-scavenge-clause-unknown : goal.returns-in-scavenge-clause-unknown
returns-in-scavenge-clause-unknown c none =
    absurd (none (command.Scavenge) (first_named c.args.words.now c.first.result c.in-Some.word c.as_str.result.now _ c.first.ensures.value c.in-Some.is c.as_str.ensures.value c.in-scavenge.is))

pub returns-in-convert-clause-unknown : goal.returns-in-convert-clause-unknown
returns-in-convert-clause-unknown c none =
    absurd (none (command.Convert) (first_named c.args.words.now c.first.result c.in-Some.word c.as_str.result.now _ c.first.ensures.value c.in-Some.is c.as_str.ensures.value c.in-convert.is))

pub trial_of-requires : goal.trial_of-requires
trial_of-requires c = record { named = first_named c.args.words.now c.first.result c.in-Some.word c.as_str.result.now _ c.first.ensures.value c.in-Some.is c.as_str.ensures.value c.in-trial.is }

pub returns-in-trial-clause-unknown : goal.returns-in-trial-clause-unknown
returns-in-trial-clause-unknown c none =
    absurd (none (command.Trial 0 1000 64) (first_named c.args.words.now c.first.result c.in-Some.word c.as_str.result.now _ c.first.ensures.value c.in-Some.is c.as_str.ensures.value c.in-trial.is))

pub returns-in-run-clause-memory : goal.returns-in-run-clause-memory
returns-in-run-clause-memory c is = (command.Run 64 0, first_named c.args.words.now c.first.result c.in-Some.word c.as_str.result.now _ c.first.ensures.value c.in-Some.is c.as_str.ensures.value c.in-run.is)

pub returns-in-processes-clause-memory : goal.returns-in-processes-clause-memory
returns-in-processes-clause-memory c is = (command.Processes 64, first_named c.args.words.now c.first.result c.in-Some.word c.as_str.result.now _ c.first.ensures.value c.in-Some.is c.as_str.ensures.value c.in-processes.is)

pub returns-in-replicate-clause-memory : goal.returns-in-replicate-clause-memory
returns-in-replicate-clause-memory c is = (command.Replicate 64, first_named c.args.words.now c.first.result c.in-Some.word c.as_str.result.now _ c.first.ensures.value c.in-Some.is c.as_str.ensures.value c.in-replicate.is)

pub returns-in-format-clause-memory : goal.returns-in-format-clause-memory
returns-in-format-clause-memory c is = (command.Format 1 1, first_named c.args.words.now c.first.result c.in-Some.word c.as_str.result.now _ c.first.ensures.value c.in-Some.is c.as_str.ensures.value c.in-format.is)

pub returns-in-scavenge-clause-memory : goal.returns-in-scavenge-clause-memory
returns-in-scavenge-clause-memory c is = (command.Scavenge, first_named c.args.words.now c.first.result c.in-Some.word c.as_str.result.now _ c.first.ensures.value c.in-Some.is c.as_str.ensures.value c.in-scavenge.is)

pub returns-in-convert-clause-memory : goal.returns-in-convert-clause-memory
returns-in-convert-clause-memory c is = (command.Convert, first_named c.args.words.now c.first.result c.in-Some.word c.as_str.result.now _ c.first.ensures.value c.in-Some.is c.as_str.ensures.value c.in-convert.is)

pub returns-in-trial-clause-memory : goal.returns-in-trial-clause-memory
returns-in-trial-clause-memory c is = (command.Trial 0 1000 64, first_named c.args.words.now c.first.result c.in-Some.word c.as_str.result.now _ c.first.ensures.value c.in-Some.is c.as_str.ensures.value c.in-trial.is)
