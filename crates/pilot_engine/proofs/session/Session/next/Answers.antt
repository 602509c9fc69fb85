use Rattle.std.proofs.Common.{rules, ℕ, ◌<◌, ◌^◌, ◌∙◌, Option, ap, refl, subst, arith}
use Rattle.std.specs.Prelude.{IfSome}
use Rattle.flat_machine.specs.declared.call.Call.TheVariants as call
use Rattle.swapper_kernel.specs.GoesLaws.{makes_then}
use Rattle.pilot_engine.specs.declared.order.Passed.{Passed}
use Rattle.pilot_engine.proofs.BoundLemmas.{turns_bounded}
use Rattle.pilot_engine.proofs.LiftLemmas.{asked_passes, replied_running, still_open}
use Rattle.pilot_engine.proofs.NextUpTo.{up_to_end, up_to_found, up_to_more, up_to_none, up_to_paid}
use Rattle.pilot_engine.proofs.OrderLemmas.{next_replied, nothing_replied}
use Rattle.fault_core.specs.Core.{state}
use Rattle.fault_core.proofs.ReachLemmas.{reaches_itself, reaches_then}
use Rattle.pilot_engine.specs.Halting.{TurnHalts}
use Rattle.pilot_engine.proofs.ReasonSteps.{reached_on, shows_since}
use Rattle.file_manager.specs.declared.volume.Volume.{Volume}
use Rattle.pilot_engine.proofs.SeesLemmas.{same_next}
use Rattle.swapper_kernel.specs.HaltLaws.{brings_then}
use Rattle.pilot_engine.proofs.CameOwn.{own_itself}
use Rattle.pilot_engine.proofs.FailSteps.{fails_after}
use Rattle.pilot_engine.proofs.AskedSteps.{asked_pages}
use Rattle.pilot_engine.proofs.session.Session.next.Goals as goal
use Rattle.filer_kernel.specs.View.{accepted, disk_of}

pub files-init : goal.files-init
files-init g c = (up_to_none c.args.id _ _ _ _ _ _ c.requires.set_up.size, reaches_itself (state c.args.self.now.core), refl, λ o k seen. seen, λ o k ss s. s, own_itself (state c.args.self.now.core).slots)

pub files-smaller : goal.files-smaller
files-smaller g c =
    let above : c.files.cursor < c.in-Ok-Some.passed.id = subst (λ (o : Option Passed). IfSome o (λ p. c.files.cursor < p.id)) c.in-Ok-Some.field-0-is c.in-Ok-Some.ensures.above in
    let fits : c.in-Ok-Some.passed.id < 2 ^ 64 = search rules in
    omega (arith, above, fits)

pub files-preserved : goal.files-preserved
files-preserved g c = (
  up_to_more _ _ _ _ _ _ _ _ _ _ _ _ _ _ c.files.invariant.0 (λ m r. r.session.stands.is.by.machine) _ _ c.in-Ok-Some.field-0-is (λ m r. (c.in-Ok-Some.ensures.asks m r).answer) _ _ _ _ _ _ c.if-passed.false (λ m r. (c.next_passed.ensures.asks m r).runs) c.next_passed.ensures.looks.makes c.next_passed.ensures.looks.layout c.next_passed.ensures.looks.volume c.next_passed.ensures.looks.running c.next_passed.ensures.cost,
  reaches_then (state c.args.self.now.core) (state c.files.self.core) (accepted c.args.self.now.core.filer) c.files.invariant.1 (state c.next_passed.new.self.core) c.next_passed.ensures.looks.reaches,
  c.next_passed.ensures.looks.intervals ∙ c.files.invariant.2,
  λ o k seen. (c.in-Ok-Some.ensures.accounts o (reached_on o (state c.args.self.now.core) (state c.files.self.core) (accepted c.args.self.now.core.filer) c.files.invariant.1 k)).sees (c.files.invariant.3 o k seen),
  λ o k ss s. (c.in-Ok-Some.ensures.accounts o (reached_on o (state c.args.self.now.core) (state c.files.self.core) (accepted c.args.self.now.core.filer) c.files.invariant.1 k)).windows ss (c.files.invariant.4 o k ss s),
  brings_then c.files.invariant.5 c.next_passed.ensures.looks.came,
)

pub returns-then-passed-clause-answers : goal.returns-then-passed-clause-answers
returns-then-passed-clause-answers g c = λ m r. record {
  carried = (replied_running _ _ m (call.Next c.args.id) _ ((c.next_passed.ensures.asks m (c.files.invariant.0.runs m r)).runs) refl (next_replied m c.args.id _ (up_to_found _ _ _ _ _ _ _ _ _ _ _ _ _ _ c.files.invariant.0 (λ m r. r.session.stands.is.by.machine) _ _ c.in-Ok-Some.field-0-is (λ m r. (c.in-Ok-Some.ensures.asks m r).answer) c.if-passed.true m r)) refl);
  sound = tt;
  passes = (asked_passes c.args.self.now.core c.args.self.now.volume m (call.Next c.args.id) r (g.met.D.Disk.in_form (disk_of c.args.self.now.core.filer)) (makes_then c.files.invariant.0.makes c.next_passed.ensures.looks.makes));
  came = λ quiet. brings_then c.files.invariant.5 c.next_passed.ensures.looks.came;
  cost = (turns_bounded (state c.args.self.now.core).disk (state c.next_passed.new.self.core).disk (state c.args.self.now.core).layout (accepted c.args.self.now.core.filer) c.requires.set_up.size m (let fits = c.requires.set_up.opened.room in let same = r.session.same_used in omega (arith, fits, same)) (up_to_paid _ _ _ _ _ _ _ _ _ _ _ _ _ _ c.files.invariant.0 (λ m r. r.session.stands.is.by.machine) _ c.next_passed.ensures.cost m r));
}

pub returns-then-passed-clause-writes : goal.returns-then-passed-clause-writes
returns-then-passed-clause-writes g c = asked_pages (makes_then c.files.invariant.0.makes c.next_passed.ensures.looks.makes)

pub returns-then-passed-clause-remains : goal.returns-then-passed-clause-remains
returns-then-passed-clause-remains g c = record {
  stays = (record {
    open_still = (still_open _ _ _ _ c.requires.set_up.opened (c.next_passed.ensures.looks.layout ∙ c.files.invariant.0.same_layout) (c.next_passed.ensures.looks.volume ∙ c.files.invariant.0.same_volume));
    monotone = (same_next c.args.self.now.volume.root c.next_passed.new.self.volume.root (ap (λ (v : Volume). v.root) (c.next_passed.ensures.looks.volume ∙ c.files.invariant.0.same_volume)));
    serial = (ap (λ (v : Volume). v.root.serial) (c.next_passed.ensures.looks.volume ∙ c.files.invariant.0.same_volume));
    layout = (c.next_passed.ensures.looks.layout ∙ c.files.invariant.0.same_layout);
  });
  running = c.next_passed.ensures.looks.running ∙ c.files.invariant.0.same_running;
}

pub returns-in-Ok-None-clause-answers : goal.returns-in-Ok-None-clause-answers
returns-in-Ok-None-clause-answers g c = λ m r. record {
  carried = (replied_running _ _ m (call.Next c.args.id) _ ((c.next_passed.ensures.asks m (c.files.invariant.0.runs m r)).runs) refl (nothing_replied m c.args.id (up_to_end _ _ _ _ _ _ _ _ _ _ _ _ _ _ c.files.invariant.0 (λ m r. r.session.stands.is.by.machine) _ c.in-Ok-None.field-0-is (λ m r. (c.in-Ok-None.ensures.asks m r).answer) m r)) refl);
  sound = tt;
  passes = (asked_passes c.args.self.now.core c.args.self.now.volume m (call.Next c.args.id) r (g.met.D.Disk.in_form (disk_of c.args.self.now.core.filer)) (makes_then c.files.invariant.0.makes c.next_passed.ensures.looks.makes));
  came = λ quiet. brings_then c.files.invariant.5 c.next_passed.ensures.looks.came;
  cost = (turns_bounded (state c.args.self.now.core).disk (state c.next_passed.new.self.core).disk (state c.args.self.now.core).layout (accepted c.args.self.now.core.filer) c.requires.set_up.size m (let fits = c.requires.set_up.opened.room in let same = r.session.same_used in omega (arith, fits, same)) (up_to_paid _ _ _ _ _ _ _ _ _ _ _ _ _ _ c.files.invariant.0 (λ m r. r.session.stands.is.by.machine) _ c.next_passed.ensures.cost m r));
}

pub returns-in-Ok-None-clause-writes : goal.returns-in-Ok-None-clause-writes
returns-in-Ok-None-clause-writes g c = asked_pages (makes_then c.files.invariant.0.makes c.next_passed.ensures.looks.makes)

pub returns-in-Ok-None-clause-remains : goal.returns-in-Ok-None-clause-remains
returns-in-Ok-None-clause-remains g c = record {
  stays = (record {
    open_still = (still_open _ _ _ _ c.requires.set_up.opened (c.next_passed.ensures.looks.layout ∙ c.files.invariant.0.same_layout) (c.next_passed.ensures.looks.volume ∙ c.files.invariant.0.same_volume));
    monotone = (same_next c.args.self.now.volume.root c.next_passed.new.self.volume.root (ap (λ (v : Volume). v.root) (c.next_passed.ensures.looks.volume ∙ c.files.invariant.0.same_volume)));
    serial = (ap (λ (v : Volume). v.root.serial) (c.next_passed.ensures.looks.volume ∙ c.files.invariant.0.same_volume));
    layout = (c.next_passed.ensures.looks.layout ∙ c.files.invariant.0.same_layout);
  });
  running = c.next_passed.ensures.looks.running ∙ c.files.invariant.0.same_running;
}

pub returns-in-Err-clause-answers : goal.returns-in-Err-clause-answers
returns-in-Err-clause-answers g c = λ m r. record {
  carried = tt;
  sound = ((c.in-Err.ensures.asks m (c.files.invariant.0.runs m r)).sound);
  passes = (asked_passes c.args.self.now.core c.args.self.now.volume m (call.Next c.args.id) r (g.met.D.Disk.in_form (disk_of c.args.self.now.core.filer)) (makes_then c.files.invariant.0.makes c.next_passed.ensures.looks.makes));
  came = λ quiet. tt;
  cost = (turns_bounded (state c.args.self.now.core).disk (state c.next_passed.new.self.core).disk (state c.args.self.now.core).layout (accepted c.args.self.now.core.filer) c.requires.set_up.size m (let fits = c.requires.set_up.opened.room in let same = r.session.same_used in omega (arith, fits, same)) (up_to_paid _ _ _ _ _ _ _ _ _ _ _ _ _ _ c.files.invariant.0 (λ m r. r.session.stands.is.by.machine) _ c.next_passed.ensures.cost m r));
}

pub returns-in-Err-clause-writes : goal.returns-in-Err-clause-writes
returns-in-Err-clause-writes g c = asked_pages (makes_then c.files.invariant.0.makes c.next_passed.ensures.looks.makes)

pub returns-in-Err-clause-remains : goal.returns-in-Err-clause-remains
returns-in-Err-clause-remains g c = record {
  stays = (record {
    open_still = (still_open _ _ _ _ c.requires.set_up.opened (c.next_passed.ensures.looks.layout ∙ c.files.invariant.0.same_layout) (c.next_passed.ensures.looks.volume ∙ c.files.invariant.0.same_volume));
    monotone = (same_next c.args.self.now.volume.root c.next_passed.new.self.volume.root (ap (λ (v : Volume). v.root) (c.next_passed.ensures.looks.volume ∙ c.files.invariant.0.same_volume)));
    serial = (ap (λ (v : Volume). v.root.serial) (c.next_passed.ensures.looks.volume ∙ c.files.invariant.0.same_volume));
    layout = (c.next_passed.ensures.looks.layout ∙ c.files.invariant.0.same_layout);
  });
  running = c.next_passed.ensures.looks.running ∙ c.files.invariant.0.same_running;
}

-- ---- Why it failed.

pub returns-in-Err-clause-fails : goal.returns-in-Err-clause-fails
returns-in-Err-clause-fails g c =
    let u = state c.files.self.core in
    fails_after c.files.invariant.0.makes.went.faults (λ h. (u, c.files.invariant.1, subst (λ (j : ℕ). TurnHalts j u (state c.next_passed.new.self.core) c.in-Err.halt) c.files.invariant.2 h)) c.in-Err.ensures.fails

-- ---- The initial state.

pub returns-then-passed-clause-accounts : goal.returns-then-passed-clause-accounts
returns-then-passed-clause-accounts g c = λ o k. record {
  keeps_to = (let old = c.args.self.now.core in
      (c.in-Ok-Some.ensures.accounts o (reached_on o (state old) (state c.files.self.core) (accepted old.filer) c.files.invariant.1 k)).keeps_to);
  reasons = tt;
  sees = (λ seen. (c.in-Ok-Some.ensures.accounts o (reached_on o (state c.args.self.now.core) (state c.files.self.core) (accepted c.args.self.now.core.filer) c.files.invariant.1 k)).sees (c.files.invariant.3 o k seen));
  windows = λ ss s. (c.in-Ok-Some.ensures.accounts o (reached_on o (state c.args.self.now.core) (state c.files.self.core) (accepted c.args.self.now.core.filer) c.files.invariant.1 k)).windows ss (c.files.invariant.4 o k ss s);
}

pub returns-in-Ok-None-clause-accounts : goal.returns-in-Ok-None-clause-accounts
returns-in-Ok-None-clause-accounts g c = λ o k. record {
  keeps_to = (let old = c.args.self.now.core in
      (c.in-Ok-None.ensures.accounts o (reached_on o (state old) (state c.files.self.core) (accepted old.filer) c.files.invariant.1 k)).keeps_to);
  reasons = tt;
  sees = (λ seen. (c.in-Ok-None.ensures.accounts o (reached_on o (state c.args.self.now.core) (state c.files.self.core) (accepted c.args.self.now.core.filer) c.files.invariant.1 k)).sees (c.files.invariant.3 o k seen));
  windows = λ ss s. (c.in-Ok-None.ensures.accounts o (reached_on o (state c.args.self.now.core) (state c.files.self.core) (accepted c.args.self.now.core.filer) c.files.invariant.1 k)).windows ss (c.files.invariant.4 o k ss s);
}

pub returns-in-Err-clause-accounts : goal.returns-in-Err-clause-accounts
returns-in-Err-clause-accounts g c = λ o k. record {
  keeps_to = tt;
  reasons = (shows_since o (state c.next_passed.new.self.core).disk c.in-Err.halt c.files.invariant.0.same_layout
      ((c.in-Err.ensures.accounts o (reached_on o (state c.args.self.now.core) (state c.files.self.core) (accepted c.args.self.now.core.filer) c.files.invariant.1 k)).reasons));
  sees = (λ seen. (c.in-Err.ensures.accounts o (reached_on o (state c.args.self.now.core) (state c.files.self.core) (accepted c.args.self.now.core.filer) c.files.invariant.1 k)).sees (c.files.invariant.3 o k seen));
  windows = tt;
}
