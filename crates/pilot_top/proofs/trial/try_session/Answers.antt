use Rattle.std.proofs.Common.{rules, ◌≡◌, inl, inr, ◌++◌, Option, Some, None, Err, ◌∙◌, ap}
use Rattle.labelled_disk.specs.declared.evidence.Halt.{Halt}
use Rattle.swapper_kernel.specs.GoesLaws.{went_then}
use Rattle.pilot_top.specs.Trial.{after_calls, drawn_calls, first_calls, trial_line}
use Rattle.pilot_top.specs.declared.status.Status.{Status}
use Rattle.pilot_top.proofs.CloseLemmas.{not_closed}
use Rattle.pilot_top.proofs.ExitLemmas.{halt_not_damaged, halt_not_done, halt_not_stream}
use Rattle.pilot_top.proofs.PermittedRuns.{ended_last, openly_last}
use Rattle.pilot_top.proofs.TopLemmas.{rose_later}
use Rattle.pilot_top.proofs.TrialEnds.{halt_stops, line_revealed, prefix_revealed}
use Rattle.pilot_top.proofs.trial.try_session.Goals as goal
use Rattle.fault_core.specs.Core.{state}

-- a call stopped the session
pub returns-in-Err-clause-puts : goal.returns-in-Err-clause-puts
returns-in-Err-clause-puts g c = record {
  line = λ done. absurd (halt_not_done c.in-Err.halt c.stop.result c.stop.ensures.status done);
  part_of_line = λ failed. absurd (halt_not_stream c.in-Err.halt c.stop.result c.stop.ensures.status failed);
}

pub returns-in-Err-clause-left : goal.returns-in-Err-clause-left
returns-in-Err-clause-left g c = λ m stands ends. elim ends [
  | inl done ↦ absurd (halt_not_done c.in-Err.halt c.stop.result c.stop.ensures.status done)
  | inr failed ↦ absurd (halt_not_stream c.in-Err.halt c.stop.result c.stop.ensures.status failed)
]

pub returns-in-Err-clause-sound : goal.returns-in-Err-clause-sound
returns-in-Err-clause-sound g c = λ m stands damaged. absurd (halt_not_damaged c.in-Err.halt c.stop.result c.stop.ensures.status (c.in-Err.ensures.sound m stands) damaged)

pub returns-in-Err-clause-stops : goal.returns-in-Err-clause-stops
returns-in-Err-clause-stops g c =
    rw c.into_disk.ensures
    (halt_stops c.in-Err.halt c.stop.result (state c.args.session.core).disk (state c.try_calls.new.session.core).disk _ _ c.stop.ensures.status
    (λ disk. c.try_calls.ensures.counted (c.in-Err.is ∙ ap (λ (h : Halt). Err h) disk)) c.in-Err.ensures.evidence_seen c.stop.ensures.line)

pub returns-in-Err-clause-permitted : goal.returns-in-Err-clause-permitted
returns-in-Err-clause-permitted g c = rw c.into_disk.ensures (openly_last c.try_calls.ensures.permitted)

-- the end of the session failed
pub returns-in-Some-clause-puts : goal.returns-in-Some-clause-puts
returns-in-Some-clause-puts g c =
    let never = not_closed c.close-stopped.result.0 c.in-Some.status c.in-Some.is c.close-stopped.ensures.stops.ends in
    record { line = λ done. absurd (never (inl done)); part_of_line = λ failed. absurd (never (inr failed)) }

pub returns-in-Some-clause-left : goal.returns-in-Some-clause-left
returns-in-Some-clause-left g c = λ m stands ends. absurd (not_closed c.close-stopped.result.0 c.in-Some.status c.in-Some.is c.close-stopped.ensures.stops.ends ends)

pub returns-in-Some-clause-sound : goal.returns-in-Some-clause-sound
returns-in-Some-clause-sound g c = λ m stands damaged.
    (c.close-stopped.ensures.stands (after_calls m (first_calls ++ drawn_calls c.args.seed c.args.calls)) (c.in-Ok.ensures.answered.3 m stands).1).sound (c.in-Some.is ∙ ap (λ (s : Status). Some s) damaged)

pub returns-in-Some-clause-stops : goal.returns-in-Some-clause-stops
returns-in-Some-clause-stops g c =
    let e = c.close-stopped.ensures.stops in
    record {
      disk_cause = λ disk. rose_later _ _ _ c.try_calls.ensures.went.faults (e.disk_fault (c.in-Some.is ∙ ap (λ (s : Status). Some s) disk)).1;
      disk_line = λ disk. (e.disk_fault (c.in-Some.is ∙ ap (λ (s : Status). Some s) disk)).2;
      stream_cause = λ failed. absurd (not_closed c.close-stopped.result.0 c.in-Some.status c.in-Some.is e.ends (inr failed));
      damage_line = λ damaged. let all = e.damage (c.in-Some.is ∙ ap (λ (s : Status). Some s) damaged) in (all.0, all.1.0, all.2);
    }

pub returns-in-Some-clause-permitted : goal.returns-in-Some-clause-permitted
returns-in-Some-clause-permitted g c = ended_last c.try_calls.ensures.permitted c.close-stopped.ensures.writes.wrote

-- the line was put
pub returns-in-Ok-put-clause-puts : goal.returns-in-Ok-put-clause-puts
returns-in-Ok-put-clause-puts g c =
    let none : ◌≡◌ {A = Option Status} c.close-stopped.result.0 None = search rules in
    let quiet = c.close-stopped.ensures.quiet none in
    let seen = c.in-Ok.ensures.answered in
    record {
      line = λ done. (
        seen.0,
        seen.2,
        λ m stands. (seen.3 m stands).0,
        line_revealed g.K.Sink.took c.args.sink.now c.close-stopped.new.sink _ c.deref.result.now (trial_line c.args.calls seen.0) quiet (c.deref.ensures.0 ∙ c.line.ensures seen.0 seen.1) c.in-Ok-put.ensures.ok,
      );
      part_of_line = λ failed. absurd (cc failed);
    }

pub returns-in-Ok-put-clause-left : goal.returns-in-Ok-put-clause-left
returns-in-Ok-put-clause-left g c =
    let none : ◌≡◌ {A = Option Status} c.close-stopped.result.0 None = search rules in
    λ m stands ends. (c.close-stopped.ensures.stands (after_calls m (first_calls ++ drawn_calls c.args.seed c.args.calls)) (c.in-Ok.ensures.answered.3 m stands).1).closed none

pub returns-in-Ok-put-clause-permitted : goal.returns-in-Ok-put-clause-permitted
returns-in-Ok-put-clause-permitted g c = ended_last c.try_calls.ensures.permitted c.close-stopped.ensures.writes.wrote

-- the sink failed on it
pub returns-in-Err-put-clause-permitted : goal.returns-in-Err-put-clause-permitted
returns-in-Err-put-clause-permitted g c = ended_last c.try_calls.ensures.permitted c.close-stopped.ensures.writes.wrote

pub returns-in-Err-put-clause-puts : goal.returns-in-Err-put-clause-puts
returns-in-Err-put-clause-puts g c =
    let none : ◌≡◌ {A = Option Status} c.close-stopped.result.0 None = search rules in
    let quiet = c.close-stopped.ensures.quiet none in
    let seen = c.in-Ok.ensures.answered in
    record {
      line = λ done. absurd (cc done);
      part_of_line = λ failed.
          let prefix = prefix_revealed g.K.Sink.took c.args.sink.now c.close-stopped.new.sink _ c.deref.result.now (trial_line c.args.calls seen.0) quiet (c.deref.ensures.0 ∙ c.line.ensures seen.0 seen.1) c.in-Err-put.ensures.err in
          (seen.0, seen.2, λ m stands. (seen.3 m stands).0, prefix.0, prefix.1, prefix.2);
    }

pub returns-in-Err-put-clause-left : goal.returns-in-Err-put-clause-left
returns-in-Err-put-clause-left g c =
    let none : ◌≡◌ {A = Option Status} c.close-stopped.result.0 None = search rules in
    λ m stands ends. (c.close-stopped.ensures.stands (after_calls m (first_calls ++ drawn_calls c.args.seed c.args.calls)) (c.in-Ok.ensures.answered.3 m stands).1).closed none

-- ---- The disk is the same one later.

pub returns-in-Some-clause-went : goal.returns-in-Some-clause-went
returns-in-Some-clause-went g c = went_then c.try_calls.ensures.went c.close-stopped.ensures.writes.wrote.went

pub returns-in-Ok-put-clause-went : goal.returns-in-Ok-put-clause-went
returns-in-Ok-put-clause-went g c = went_then c.try_calls.ensures.went c.close-stopped.ensures.writes.wrote.went

pub returns-in-Err-put-clause-went : goal.returns-in-Err-put-clause-went
returns-in-Err-put-clause-went g c = went_then c.try_calls.ensures.went c.close-stopped.ensures.writes.wrote.went
