use Rattle.std.proofs.lemmas.List.FromFn.{length-map-range_with_len}
use Rattle.trace_maker.specs.Calls.{call_of}
use Rattle.running_words.specs.Running.{Runs}
use Rattle.pilot_top.specs.Trial.{after_calls, first_calls}
use Rattle.pilot_top.proofs.PermittedRuns.{openly_then}
use Rattle.pilot_top.proofs.TrialLemmas.{tried}
use Rattle.pilot_top.proofs.trial.try_calls.Goals as goal

pub returns-in-Ok-count_calls-clause-answered : goal.returns-in-Ok-count_calls-clause-answered
returns-in-Ok-count_calls-clause-answered g c =
    let drawn = c.in-Ok-count_calls.ensures.answered in (
      drawn.0,
      drawn.1,
      drawn.2,
      λ m stands.
          let first = c.in-Ok.ensures.answered m stands in
          tried m c.args.seed c.args.calls first.0 drawn.0 (Runs c.prepare.new.session.core c.prepare.new.session.volume) (Runs c.count_calls.new.session.core c.count_calls.new.session.volume) first.1
          (drawn.3 (after_calls m first_calls) first.1.stands) (length-map-range_with_len (call_of c.args.seed) 0 c.args.calls),
    )

pub returns-in-Err-count_calls-clause-sound : goal.returns-in-Err-count_calls-clause-sound
returns-in-Err-count_calls-clause-sound g c = λ m stands. c.in-Err-count_calls.ensures.sound (after_calls m first_calls) (c.in-Ok.ensures.answered m stands).1.stands

pub returns-in-Ok-count_calls-clause-permitted : goal.returns-in-Ok-count_calls-clause-permitted
returns-in-Ok-count_calls-clause-permitted g c = openly_then c.prepare.ensures.permitted c.count_calls.ensures.permitted

pub returns-in-Err-count_calls-clause-permitted : goal.returns-in-Err-count_calls-clause-permitted
returns-in-Err-count_calls-clause-permitted g c = openly_then c.prepare.ensures.permitted c.count_calls.ensures.permitted
