use Rattle.std.proofs.Common.{◌≡◌, ℕ, ◌+◌, [], ◌∷◌, ◌++◌, take, sym, ◌∙◌, ap, subst, arith}
use Rattle.swapper_kernel.specs.GoesLaws.{went_then}
use Rattle.running_words.specs.Running.{Runs}
use Rattle.pilot_top.specs.Trial.{HasAnswered, after_calls, first_calls}
use Rattle.pilot_top.proofs.PermittedRuns.{called_openly, openly_then}
use Rattle.pilot_top.proofs.TrialLemmas.{first_more, one_answered}
use Rattle.pilot_top.proofs.trial.prepare.Goals as goal

pub returns-in-Err-clause-sound : goal.returns-in-Err-clause-sound
returns-in-Err-clause-sound g c = λ m stands. (c.in-Err.ensures.machine (after_calls m (take c.loop-index.index first_calls)) (c.loop-index.invariant.answered m stands).1.stands).answers.sound

pub returns-in-Err-clause-permitted : goal.returns-in-Err-clause-permitted
returns-in-Err-clause-permitted g c = openly_then c.loop-index.invariant.permitted (called_openly c.step.ensures.writes.wrote)

pub loop-index-preserved : goal.loop-index-preserved
loop-index-preserved g c =
    let i = c.loop-index.invariant in
    let went = c.step.ensures.writes.wrote.makes.went in
    record {
      answered = λ m stands.
          let evidence_seen = i.answered m stands in (
            evidence_seen.0 ++ c.in-Ok.field-0 ∷ [],
            one_answered m (take c.loop-index.index first_calls) (take (c.loop-index.index + 1) first_calls) evidence_seen.0 (Runs c.loop-index.session.core c.loop-index.session.volume) (Runs c.step.new.self.core c.step.new.self.volume) c.first_call.result
                c.in-Ok.field-0 (first_more c.loop-index.index c.first_call.result c.first_call.ensures.here) evidence_seen.1 (λ n is. let done = (c.in-Ok.ensures.machine n is).answers.carried in (done.allowed, done.runs)),
          );
      permitted = openly_then i.permitted (called_openly c.step.ensures.writes.wrote);
      went = went_then i.went went;
      layout = c.step.ensures.remains.stays.layout ∙ i.layout;
      size = went.sectors ∙ i.size ∙ ap (λ l. l.sectors) (sym c.step.ensures.remains.stays.layout);
      opened = c.step.ensures.remains.stays.open_still;
      running = c.in-Ok.ensures.remains.goes_on;
    }

pub returns-clause-answered : goal.returns-clause-answered
returns-clause-answered g c = λ m stands.
    let i = c.loop-index.invariant in
    let evidence_seen = i.answered m stands in
    let end : c.loop-index.index ≡ 12 = omega (arith, c.loop-index-test.false, c.loop-index.auto.index-end) in
    (evidence_seen.0, subst (λ (n : ℕ). HasAnswered m (take n first_calls) evidence_seen.0 (Runs c.loop-index.session.core c.loop-index.session.volume)) end evidence_seen.1)
