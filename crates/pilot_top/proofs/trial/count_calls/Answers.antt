use Rattle.std.proofs.Common.{◌≡◌, ℕ, suc, ◌+◌, [], ◌∷◌, ◌++◌, sym, ◌∙◌, ap, subst, arith}
use Rattle.std.proofs.lemmas.List.{length_push}
use Rattle.swapper_kernel.specs.GoesLaws.{went_then}
use Rattle.trace_maker.specs.Maker.{IsAt}
use Rattle.running_words.specs.Running.{Runs}
use Rattle.pilot_top.specs.Trial.{HasAnswered, after_calls, drawn_calls}
use Rattle.pilot_top.proofs.PermittedRuns.{called_openly, openly_then}
use Rattle.pilot_top.proofs.TrialLemmas.{drawn_more, one_answered}
use Rattle.pilot_top.proofs.trial.count_calls.Goals as goal

pub returns-in-Err-clause-sound : goal.returns-in-Err-clause-sound
returns-in-Err-clause-sound g c = λ m stands. (c.in-Err.ensures.machine (after_calls m (drawn_calls c.args.seed c.loop.counter)) (c.loop.invariant.answered.3 m stands).stands).answers.sound

pub returns-in-Err-clause-permitted : goal.returns-in-Err-clause-permitted
returns-in-Err-clause-permitted g c = openly_then c.loop.invariant.permitted (called_openly c.step.ensures.writes.wrote)

pub loop-preserved : goal.loop-preserved
loop-preserved g c =
    let i = c.loop.invariant in
    let went = c.step.ensures.writes.wrote.makes.went in
    let k = c.loop.counter in
    let seed = c.args.seed in
    record {
      answered = let evidence_seen = i.answered in (
        evidence_seen.0 ++ c.in-Ok.reply ∷ [],
        c.add.ensures.more evidence_seen.0 evidence_seen.1,
        omega (arith, length_push evidence_seen.0 c.in-Ok.reply, evidence_seen.2),
        λ m stands.
            one_answered m (drawn_calls seed k) (drawn_calls seed (k + 1)) evidence_seen.0 (Runs c.loop.session.core c.loop.session.volume) (Runs c.step.new.self.core c.step.new.self.volume) c.next_call.result c.in-Ok.reply
            (drawn_more seed k c.next_call.result (c.next_call.ensures.call seed k i.drawn)) (evidence_seen.3 m stands) (λ n is. let done = (c.in-Ok.ensures.machine n is).answers.carried in (done.allowed, done.runs)),
      );
      drawn = subst (λ (n : ℕ). IsAt c.next_call.new.self seed n) (let on : suc k ≡ k + 1 = omega arith in on) (c.next_call.ensures.next seed k i.drawn);
      errors = omega (arith, c.add.ensures.one, i.errors);
      loaded = omega (arith, c.add.ensures.few, i.loaded);
      permitted = openly_then i.permitted (called_openly c.step.ensures.writes.wrote);
      went = went_then i.went went;
      layout = c.step.ensures.remains.stays.layout ∙ i.layout;
      size = went.sectors ∙ i.size ∙ ap (λ l. l.sectors) (sym c.step.ensures.remains.stays.layout);
      opened = c.step.ensures.remains.stays.open_still;
      running = c.in-Ok.ensures.remains.goes_on;
    }

pub returns-clause-answered : goal.returns-clause-answered
returns-clause-answered g c =
    let evidence_seen = c.loop.invariant.answered in
    let end : c.loop.counter ≡ c.args.calls = omega (arith, c.loop-test.false, c.loop.auto.counter-end) in (
      evidence_seen.0,
      evidence_seen.1,
      evidence_seen.2 ∙ end,
      λ m stands. subst (λ (n : ℕ). HasAnswered m (drawn_calls c.args.seed n) evidence_seen.0 (Runs c.loop.session.core c.loop.session.volume)) end (evidence_seen.3 m stands),
    )
