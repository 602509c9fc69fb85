use Rattle.std.proofs.Common.{ℕ, Option, false, subst}
use Rattle.space_tables.specs.Shows.{IsFirstWith, shows}
use Rattle.space_tables.specs.declared.shown.Shown.{Shown}
use Rattle.pilot_engine.proofs.SeenLemmas.{hidden_by, seen_by, seen_by_none}
use Rattle.fault_core.specs.Core.{state}
use Rattle.space_calls.specs.ReasonLaws.{sight_reasons}
use Rattle.space_calls.specs.Halts.{SightHalts}
use Rattle.pilot_engine.proofs.ReasonSteps.{shows_after}
use Rattle.running_words.specs.BlamelessLaws.{never_blames_form}
use Rattle.pilot_engine.proofs.HomeLemmas.{file_pages}
use Rattle.pilot_engine.proofs.LackLemmas.{sight_misses}
use Rattle.space_calls.specs.OutcomesLaws.{halted}
use Rattle.pilot_engine.proofs.AskedSteps.{accounts_looked, looks_alone}
use Rattle.pilot_engine.proofs.session.Session.sight.Goals as goal
use Rattle.filer_kernel.specs.View.{accepted}

pub returns-then-shown-clause-asks : goal.returns-then-shown-clause-asks
returns-then-shown-clause-asks g c = λ m r. record {
  answer = hidden_by m r.session.stands.is.by.machine c.args.id _ _ (subst (λ (o : Option (ℕ × Shown)). IsFirstWith (shows c.args.id false) m.spaces o) c.in-Ok-Some.field-0-is (c.in-Ok-Some.ensures.answer c.args.self.now.volume m r)) c.if-shown.true;
  runs = c.window_on.ensures.looks.runs c.args.self.now.volume m r;
  sound = tt;
}

pub returns-else-shown-clause-asks : goal.returns-else-shown-clause-asks
returns-else-shown-clause-asks g c = λ m r. record {
  answer = seen_by m r.session.stands.is.by.machine c.args.id _ _ (subst (λ (o : Option (ℕ × Shown)). IsFirstWith (shows c.args.id false) m.spaces o) c.in-Ok-Some.field-0-is (c.in-Ok-Some.ensures.answer c.args.self.now.volume m r)) c.if-shown.false;
  runs = c.window_on.ensures.looks.runs c.args.self.now.volume m r;
  sound = tt;
}

pub returns-in-Ok-None-clause-asks : goal.returns-in-Ok-None-clause-asks
returns-in-Ok-None-clause-asks g c = λ m r. record {
  answer = seen_by_none m r.session.stands.is.by.machine c.args.id (subst (λ (o : Option (ℕ × Shown)). IsFirstWith (shows c.args.id false) m.spaces o) c.in-Ok-None.field-0-is (c.in-Ok-None.ensures.answer c.args.self.now.volume m r));
  runs = c.window_on.ensures.looks.runs c.args.self.now.volume m r;
  sound = tt;
}

pub returns-in-Err-clause-asks : goal.returns-in-Err-clause-asks
returns-in-Err-clause-asks g c = λ m r. record {
  answer = tt;
  runs = c.window_on.ensures.looks.runs c.args.self.now.volume m r;
  sound = c.in-Err.ensures.answer c.args.self.now.volume m r;
}

-- ---- The initial state.

pub returns-then-shown-clause-accounts : goal.returns-then-shown-clause-accounts
returns-then-shown-clause-accounts g c = accounts_looked c.window_on.ensures.looks

pub returns-else-shown-clause-accounts : goal.returns-else-shown-clause-accounts
returns-else-shown-clause-accounts g c = accounts_looked c.window_on.ensures.looks

pub returns-in-Ok-None-clause-accounts : goal.returns-in-Ok-None-clause-accounts
returns-in-Ok-None-clause-accounts g c = accounts_looked c.window_on.ensures.looks

pub returns-in-Err-clause-accounts : goal.returns-in-Err-clause-accounts
returns-in-Err-clause-accounts g c = λ o k. record {
  keeps_to = tt;
  reasons = (let old = c.args.self.now.core in
      let count = old.intervals in
      shows_after (SightHalts count) (sight_reasons count)
      o (state old) (state c.window_on.new.core) (accepted old.filer) c.window_on.ensures.looks.reaches.goes.makes k c.in-Err.halt c.in-Err.ensures.fails.cause);
  sees = (λ seen. let old = c.args.self.now.core in
      let new = c.window_on.new.core in
      (never_blames_form c.in-Err.halt (c.in-Err.ensures.fails.right (seen.0, seen.1.0)), sight_misses (file_pages o (state new).disk) old.intervals (state old) (state new) c.in-Err.halt c.in-Err.ensures.fails.cause));
  windows = tt;
}

-- ---- Which pages came.

pub returns-then-shown-clause-looks : goal.returns-then-shown-clause-looks
returns-then-shown-clause-looks g c = looks_alone c.window_on.ensures.looks

pub returns-else-shown-clause-looks : goal.returns-else-shown-clause-looks
returns-else-shown-clause-looks g c = looks_alone c.window_on.ensures.looks

pub returns-in-Ok-None-clause-looks : goal.returns-in-Ok-None-clause-looks
returns-in-Ok-None-clause-looks g c = looks_alone c.window_on.ensures.looks

pub returns-in-Err-clause-looks : goal.returns-in-Err-clause-looks
returns-in-Err-clause-looks g c = looks_alone c.window_on.ensures.looks

pub returns-in-Err-clause-fails : goal.returns-in-Err-clause-fails
returns-in-Err-clause-fails g c = halted c.in-Err.ensures.fails
