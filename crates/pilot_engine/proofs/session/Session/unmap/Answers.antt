use Rattle.std.proofs.Common.{ap, arith, inl, inr, Ok, refl, Result, subst, sym, true, ◌^◌, ◌∙◌, ◌≡◌, ◌≤◌}
use Rattle.labelled_disk.specs.declared.layout.Layout.{Layout}
use Rattle.flat_machine.specs.declared.call.Call.TheVariants as call
use Rattle.flat_machine.specs.declared.call.Refusal.{Refusal}
use Rattle.flat_machine.specs.Refusal.{first_of}
use Rattle.projection_laws.specs.Tests.{window_row}
use Rattle.space_tables.specs.declared.shown.Shown.{Shown}
use Rattle.space_tables.specs.Shows.{IsShownAt}
use Rattle.table_calls.specs.Answers.{TablesSay, Reveals}
use Rattle.space_calls.specs.Unmapping.{IsGivenUp, IsRefused, IsTaken, ShowsIn}
use Rattle.space_calls.proofs.RunLemmas.{reached_makes}
use Rattle.running_words.specs.Running.{Runs}
use Rattle.pilot_engine.proofs.AnonymousLemmas.{hidden_alike, hidden_carried, hidden_numbers, is_set, left_temporary, left_unseen, not_taken, passes_still, plain_carried, refused_undone, took, unset, waited_carried}
use Rattle.pilot_engine.proofs.BoundLemmas.{asked_inside, spent_around, spent_besides}
use Rattle.pilot_engine.proofs.LiftLemmas.{asked_passes, carried_out, refused_running, still_open}
use Rattle.pilot_engine.proofs.PassThen.{quiet_then}
use Rattle.pilot_engine.proofs.WroteLemmas.{rose_after, wrote_by, wrote_then}
use Rattle.fault_core.specs.Core.{state}
use Rattle.space_calls.proofs.RangeLemmas.{fault_halt, given_so}
use Rattle.space_calls.specs.Ranges.{BreaksWindow}
use Rattle.space_calls.specs.ReasonLaws.{take_window_reasons}
use Rattle.space_calls.specs.Halts.{TakeWindowHalts}
use Rattle.pilot_engine.proofs.ReasonSteps.{fault_shows, reached_on, reshaped_on, shows_after, shows_since}
use Rattle.running_words.specs.BlamelessLaws.{never_blames_form}
use Rattle.file_manager.specs.Reasons.{WasBelow}
use Rattle.space_calls.specs.FilesLaws.{still_on}
use Rattle.pilot_engine.specs.Stepping.{missing_page}
use Rattle.pilot_engine.proofs.HomeLemmas.{home_on, home_still, none_blameless}
use Rattle.pilot_engine.proofs.HomeSteps.{fault_blameless}
use Rattle.pilot_engine.proofs.SpaceMisses.{fault_misses, take_window_misses, unmap_misses}
use Rattle.pilot_engine.proofs.SparedCalls.{all_then, spares_quiet}
use Rattle.pilot_engine.proofs.WindowLemmas.{on_then}
use Rattle.swapper_kernel.specs.HaltLaws.{brings_then}
use Rattle.pilot_engine.proofs.WritingLemmas.{only_quiet, only_then, only_unmapped}
use Rattle.pilot_engine.proofs.FailSteps.{fails_after, fails_fault, fails_wider}
use Rattle.space_calls.specs.OutcomesLaws.{halted}
use Rattle.pilot_engine.proofs.SpaceSteps.{stays_on}
use Rattle.pilot_engine.proofs.session.Session.unmap.Goals as goal
use Rattle.space_calls.specs.OutcomesLaws.{waited_rose}
use Rattle.filer_kernel.specs.View.{accepted, disk_of, view_of}

pub returns-in-Ok-Err-clause-answers : goal.returns-in-Ok-Err-clause-answers
returns-in-Ok-Err-clause-answers g c = λ m r. record {
  carried = (refused_running _ _ m (call.Unmap c.args.space) _ (subst (λ (x : Result Shown Refusal). IsRefused (Runs c.take_window.new.core c.args.self.now.volume m) x) c.in-Ok-Err.field-0-is (c.in-Ok-Err.ensures.takes c.args.self.now.volume m r).refused)
      (not_taken m c.args.space _ (λ n. Runs c.take_window.new.core c.args.self.now.volume n) (subst (λ (x : Result Shown Refusal). Reveals (first_of (window_row m.spaces c.args.space)) (IsTaken m c.args.space (λ n. Runs c.take_window.new.core c.args.self.now.volume n)) x) c.in-Ok-Err.field-0-is (c.in-Ok-Err.ensures.takes c.args.self.now.volume m r).taken)));
  sound = tt;
  passes = (asked_passes c.args.self.now.core c.args.self.now.volume m (call.Unmap c.args.space) r (g.met.D.Disk.in_form (disk_of c.args.self.now.core.filer)) c.take_window.ensures.makes);
  came = λ quiet. c.take_window.ensures.reshapes.came;
  cost = (asked_inside (state c.args.self.now.core).disk (state c.take_window.new.core).disk (2 ^ 23) (omega arith) c.take_window.ensures.cost);
}

pub returns-in-Ok-Err-clause-writes : goal.returns-in-Ok-Err-clause-writes
returns-in-Ok-Err-clause-writes g c = record {
  wrote = wrote_by c.take_window.ensures.makes tt;
  own = only_quiet (call.Unmap c.args.space) c.take_window.ensures.makes;
  spares = spares_quiet c.take_window.ensures.makes;
}

pub returns-in-Ok-Err-clause-remains : goal.returns-in-Ok-Err-clause-remains
returns-in-Ok-Err-clause-remains g c = record { stays = stays_on c.args.self.now c.take_window.new.core c.requires.set_up.opened c.take_window.ensures.reshapes.layout; running = refl }

pub returns-in-Err-clause-answers : goal.returns-in-Err-clause-answers
returns-in-Err-clause-answers g c = λ m r. record {
  carried = tt;
  sound = (c.in-Err.ensures.takes c.args.self.now.volume m r).sound;
  passes = (asked_passes c.args.self.now.core c.args.self.now.volume m (call.Unmap c.args.space) r (g.met.D.Disk.in_form (disk_of c.args.self.now.core.filer)) c.take_window.ensures.makes);
  came = λ quiet. tt;
  cost = (asked_inside (state c.args.self.now.core).disk (state c.take_window.new.core).disk (2 ^ 23) (omega arith) c.take_window.ensures.cost);
}

pub returns-in-Err-clause-writes : goal.returns-in-Err-clause-writes
returns-in-Err-clause-writes g c = record {
  wrote = wrote_by c.take_window.ensures.makes tt;
  own = only_quiet (call.Unmap c.args.space) c.take_window.ensures.makes;
  spares = spares_quiet c.take_window.ensures.makes;
}

pub returns-in-Err-clause-remains : goal.returns-in-Err-clause-remains
returns-in-Err-clause-remains g c = record { stays = stays_on c.args.self.now c.take_window.new.core c.requires.set_up.opened c.take_window.ensures.reshapes.layout; running = refl }

pub returns-then-not-shown-clause-answers : goal.returns-then-not-shown-clause-answers
returns-then-not-shown-clause-answers g c = λ m r. record {
  carried = (let t = took m c.args.space c.in-Ok-Ok.shown (λ n. Runs c.take_window.new.core c.args.self.now.volume n) (subst (λ (x : Result Shown Refusal). Reveals (first_of (window_row m.spaces c.args.space)) (IsTaken m c.args.space (λ n. Runs c.take_window.new.core c.args.self.now.volume n)) x) c.in-Ok-Ok.field-0-is (c.in-Ok-Ok.ensures.takes c.args.self.now.volume m r).taken) in
      plain_carried m r.session.stands.is.by.machine c.args.space t.s t.here c.in-Ok-Ok.shown t.window t.free c.take_window.new.core c.args.self.now.volume (unset _ c.if-not-shown.true) t.left);
  sound = tt;
  passes = (asked_passes c.args.self.now.core c.args.self.now.volume m (call.Unmap c.args.space) r (g.met.D.Disk.in_form (disk_of c.args.self.now.core.filer)) c.take_window.ensures.makes);
  came = λ quiet. c.take_window.ensures.reshapes.came;
  cost = (asked_inside (state c.args.self.now.core).disk (state c.take_window.new.core).disk (2 ^ 23) (omega arith) c.take_window.ensures.cost);
}

pub returns-then-not-shown-clause-writes : goal.returns-then-not-shown-clause-writes
returns-then-not-shown-clause-writes g c = record {
  wrote = wrote_by c.take_window.ensures.makes tt;
  own = only_quiet (call.Unmap c.args.space) c.take_window.ensures.makes;
  spares = spares_quiet c.take_window.ensures.makes;
}

pub returns-then-not-shown-clause-remains : goal.returns-then-not-shown-clause-remains
returns-then-not-shown-clause-remains g c = record { stays = stays_on c.args.self.now c.take_window.new.core c.requires.set_up.opened c.take_window.ensures.reshapes.layout; running = refl }

pub delete_unseen-requires : goal.delete_unseen-requires
delete_unseen-requires g c = record { set_up = record { size = c.take_window.ensures.makes.went.sectors ∙ c.requires.set_up.size ∙ ap (λ (l : Layout). l.sectors) (sym c.take_window.ensures.reshapes.layout); opened = still_open _ _ _ _ c.requires.set_up.opened c.take_window.ensures.reshapes.layout refl } }

pub returns-in-Err-delete_unseen-clause-answers : goal.returns-in-Err-delete_unseen-clause-answers
returns-in-Err-delete_unseen-clause-answers g c = λ m r.
    let t = took m c.args.space c.in-Ok-Ok.shown (λ n. Runs c.take_window.new.core c.args.self.now.volume n) (subst (λ (x : Result Shown Refusal). Reveals (first_of (window_row m.spaces c.args.space)) (IsTaken m c.args.space (λ n. Runs c.take_window.new.core c.args.self.now.volume n)) x) c.in-Ok-Ok.field-0-is (c.in-Ok-Ok.ensures.takes c.args.self.now.volume m r).taken) in
    record {
      carried = tt;
      sound = (c.in-Err-delete_unseen.ensures.sound _ _ t.left.session (left_unseen m r.session.stands.is.by.machine c.args.space t.s t.here c.in-Ok-Ok.shown t.window t.free (is_set _ c.if-not-shown.false)) (λ set. left_temporary m r.session.stands.is.by.machine c.args.space t.s t.here c.in-Ok-Ok.shown t.window t.free (is_set _ c.if-not-shown.false)));
      passes = (quiet_then m _ (call.Unmap c.args.space) (call.Delete c.in-Ok-Ok.shown.id) (asked_passes c.args.self.now.core c.args.self.now.volume m call.Volume r (g.met.D.Disk.in_form (disk_of c.args.self.now.core.filer)) c.take_window.ensures.makes)
          ((c.delete_unseen.ensures.answers _ _ t.left.session (left_unseen m r.session.stands.is.by.machine c.args.space t.s t.here c.in-Ok-Ok.shown t.window t.free (is_set _ c.if-not-shown.false)) (λ set. left_temporary m r.session.stands.is.by.machine c.args.space t.s t.here c.in-Ok-Ok.shown t.window t.free (is_set _ c.if-not-shown.false))).passes) (omega arith) (hidden_alike m r.session.stands.is.by.machine c.args.space t.s t.here c.in-Ok-Ok.shown t.window t.free (is_set _ c.if-not-shown.false)) (hidden_numbers m r.session.stands.is.by.machine c.args.space t.s t.here c.in-Ok-Ok.shown t.window t.free (is_set _ c.if-not-shown.false)));
      came = λ quiet. tt;
      cost = (spent_besides (state c.args.self.now.core).disk (state c.take_window.new.core).disk (state c.delete_unseen.new.self.core).disk c.take_window.ensures.makes.went.sectors (let few = c.take_window.ensures.cost in omega (arith, few)) (c.delete_unseen.ensures.bounded _ _ t.left.session));
    }

pub returns-in-Err-delete_unseen-clause-writes : goal.returns-in-Err-delete_unseen-clause-writes
returns-in-Err-delete_unseen-clause-writes g c = record {
  wrote = wrote_then (wrote_by c.take_window.ensures.makes tt) c.delete_unseen.ensures.writes.wrote;
  own = only_then (only_quiet (call.Unmap c.args.space) c.take_window.ensures.makes) ((only_unmapped c.in-Ok-Ok.shown.id c.args.space c.delete_unseen.ensures.writes.own));
  spares = all_then (spares_quiet c.take_window.ensures.makes) (c.delete_unseen.ensures.lasting refl);
}

pub returns-in-Err-delete_unseen-clause-remains : goal.returns-in-Err-delete_unseen-clause-remains
returns-in-Err-delete_unseen-clause-remains g c = record {
  stays = record {
    open_still = c.delete_unseen.ensures.remains.stays.open_still;
    monotone = c.delete_unseen.ensures.remains.stays.monotone;
    serial = c.delete_unseen.ensures.remains.stays.serial;
    layout = (c.delete_unseen.ensures.remains.stays.layout ∙ c.take_window.ensures.reshapes.layout);
  };
  running = c.delete_unseen.ensures.remains.running;
}

pub returns-in-Ok-sync-clause-answers : goal.returns-in-Ok-sync-clause-answers
returns-in-Ok-sync-clause-answers g c = λ m r.
    let t = took m c.args.space c.in-Ok-Ok.shown (λ n. Runs c.take_window.new.core c.args.self.now.volume n) (subst (λ (x : Result Shown Refusal). Reveals (first_of (window_row m.spaces c.args.space)) (IsTaken m c.args.space (λ n. Runs c.take_window.new.core c.args.self.now.volume n)) x) c.in-Ok-Ok.field-0-is (c.in-Ok-Ok.ensures.takes c.args.self.now.volume m r).taken) in
    let carried = hidden_carried m r.session.stands.is.by.machine c.args.space t.s t.here c.in-Ok-Ok.shown t.window t.free (is_set _ c.if-not-shown.false) c.delete_unseen.new.self.core c.delete_unseen.new.self.volume (Ok c.in-Ok.done) (carried_out c.take_window.new.core c.delete_unseen.new.self.core c.args.self.now.volume c.delete_unseen.new.self.volume _ (call.Delete c.in-Ok-Ok.shown.id) c.delete_unseen.ensures.remains.kept c.delete_unseen.ensures.remains.intervals refl t.left (Ok c.in-Ok.done) (λ spaces_of s. (c.in-Ok.ensures.answers spaces_of _ s (left_unseen m r.session.stands.is.by.machine c.args.space t.s t.here c.in-Ok-Ok.shown t.window t.free (is_set _ c.if-not-shown.false)) (λ set. left_temporary m r.session.stands.is.by.machine c.args.space t.s t.here c.in-Ok-Ok.shown t.window t.free (is_set _ c.if-not-shown.false))).carried)) in
    record {
      carried = (waited_carried c.delete_unseen.new.self.core c.sync.new.core (accepted c.delete_unseen.new.self.core.filer) (c.delete_unseen.ensures.writes.wrote.makes.went.sectors ∙ c.take_window.ensures.makes.went.sectors ∙ c.requires.set_up.size ∙ ap (λ (l : Layout). l.sectors) (sym (c.delete_unseen.ensures.remains.stays.layout ∙ c.take_window.ensures.reshapes.layout))) c.delete_unseen.new.self.volume m (call.Unmap c.args.space) c.in-Ok.done carried c.sync.ensures.waits.reaches c.sync.ensures.waits.frames c.sync.ensures.waits.intervals c.sync.ensures.waits.known);
      sound = tt;
      passes = (passes_still m (call.Unmap c.args.space)
          (quiet_then m _ (call.Unmap c.args.space) (call.Delete c.in-Ok-Ok.shown.id) (asked_passes c.args.self.now.core c.args.self.now.volume m call.Volume r (g.met.D.Disk.in_form (disk_of c.args.self.now.core.filer)) c.take_window.ensures.makes)
          ((c.delete_unseen.ensures.answers _ _ t.left.session (left_unseen m r.session.stands.is.by.machine c.args.space t.s t.here c.in-Ok-Ok.shown t.window t.free (is_set _ c.if-not-shown.false)) (λ set. left_temporary m r.session.stands.is.by.machine c.args.space t.s t.here c.in-Ok-Ok.shown t.window t.free (is_set _ c.if-not-shown.false))).passes) (omega arith) (hidden_alike m r.session.stands.is.by.machine c.args.space t.s t.here c.in-Ok-Ok.shown t.window t.free (is_set _ c.if-not-shown.false)) (hidden_numbers m r.session.stands.is.by.machine c.args.space t.s t.here c.in-Ok-Ok.shown t.window t.free (is_set _ c.if-not-shown.false)))
          c.sync.ensures.waits.same);
      came = λ quiet. rw c.sync.ensures.waits.frames (brings_then c.take_window.ensures.reshapes.came ((c.in-Ok.ensures.answers _ _ t.left.session (left_unseen m r.session.stands.is.by.machine c.args.space t.s t.here c.in-Ok-Ok.shown t.window t.free (is_set _ c.if-not-shown.false)) (λ set. left_temporary m r.session.stands.is.by.machine c.args.space t.s t.here c.in-Ok-Ok.shown t.window t.free (is_set _ c.if-not-shown.false))).came));
      cost = (spent_around (state c.args.self.now.core).disk (state c.take_window.new.core).disk (state c.delete_unseen.new.self.core).disk (state c.sync.new.core).disk c.take_window.ensures.makes.went.sectors (let few = c.take_window.ensures.cost in omega (arith, few))
          (c.delete_unseen.ensures.bounded _ _ t.left.session) (let few = c.sync.ensures.cost in omega (arith, few)));
    }

pub returns-in-Ok-sync-clause-writes : goal.returns-in-Ok-sync-clause-writes
returns-in-Ok-sync-clause-writes g c =
    let what = call.Unmap c.args.space in
    record {
      wrote = wrote_then (wrote_then (wrote_by c.take_window.ensures.makes tt) c.delete_unseen.ensures.writes.wrote) (wrote_by (reached_makes c.sync.ensures.waits.reaches) tt);
      own = only_then (only_then (only_quiet what c.take_window.ensures.makes) ((only_unmapped c.in-Ok-Ok.shown.id c.args.space c.delete_unseen.ensures.writes.own))) (only_quiet what (reached_makes c.sync.ensures.waits.reaches));
      spares = all_then (all_then (spares_quiet c.take_window.ensures.makes) (c.delete_unseen.ensures.lasting refl)) (spares_quiet (reached_makes c.sync.ensures.waits.reaches));
    }

pub returns-in-Ok-sync-clause-remains : goal.returns-in-Ok-sync-clause-remains
returns-in-Ok-sync-clause-remains g c = record {
  stays = record {
    open_still = (still_open _ _ _ _ c.delete_unseen.ensures.remains.stays.open_still c.sync.ensures.waits.layout refl);
    monotone = c.delete_unseen.ensures.remains.stays.monotone;
    serial = c.delete_unseen.ensures.remains.stays.serial;
    layout = (c.sync.ensures.waits.layout ∙ c.delete_unseen.ensures.remains.stays.layout ∙ c.take_window.ensures.reshapes.layout);
  };
  running = c.delete_unseen.ensures.remains.running;
}

pub returns-in-Err-sync-clause-answers : goal.returns-in-Err-sync-clause-answers
returns-in-Err-sync-clause-answers g c = λ m r.
    let t = took m c.args.space c.in-Ok-Ok.shown (λ n. Runs c.take_window.new.core c.args.self.now.volume n) (subst (λ (x : Result Shown Refusal). Reveals (first_of (window_row m.spaces c.args.space)) (IsTaken m c.args.space (λ n. Runs c.take_window.new.core c.args.self.now.volume n)) x) c.in-Ok-Ok.field-0-is (c.in-Ok-Ok.ensures.takes c.args.self.now.volume m r).taken) in
    record {
      carried = tt;
      sound = c.in-Err-sync.ensures.fails.cause;
      passes = (passes_still m (call.Unmap c.args.space)
          (quiet_then m _ (call.Unmap c.args.space) (call.Delete c.in-Ok-Ok.shown.id) (asked_passes c.args.self.now.core c.args.self.now.volume m call.Volume r (g.met.D.Disk.in_form (disk_of c.args.self.now.core.filer)) c.take_window.ensures.makes)
          ((c.delete_unseen.ensures.answers _ _ t.left.session (left_unseen m r.session.stands.is.by.machine c.args.space t.s t.here c.in-Ok-Ok.shown t.window t.free (is_set _ c.if-not-shown.false)) (λ set. left_temporary m r.session.stands.is.by.machine c.args.space t.s t.here c.in-Ok-Ok.shown t.window t.free (is_set _ c.if-not-shown.false))).passes) (omega arith) (hidden_alike m r.session.stands.is.by.machine c.args.space t.s t.here c.in-Ok-Ok.shown t.window t.free (is_set _ c.if-not-shown.false)) (hidden_numbers m r.session.stands.is.by.machine c.args.space t.s t.here c.in-Ok-Ok.shown t.window t.free (is_set _ c.if-not-shown.false)))
          c.sync.ensures.waits.same);
      came = λ quiet. tt;
      cost = (spent_around (state c.args.self.now.core).disk (state c.take_window.new.core).disk (state c.delete_unseen.new.self.core).disk (state c.sync.new.core).disk c.take_window.ensures.makes.went.sectors (let few = c.take_window.ensures.cost in omega (arith, few))
          (c.delete_unseen.ensures.bounded _ _ t.left.session) (let few = c.sync.ensures.cost in omega (arith, few)));
    }

pub returns-in-Err-sync-clause-writes : goal.returns-in-Err-sync-clause-writes
returns-in-Err-sync-clause-writes g c =
    let what = call.Unmap c.args.space in
    record {
      wrote = wrote_then (wrote_then (wrote_by c.take_window.ensures.makes tt) c.delete_unseen.ensures.writes.wrote) (wrote_by (reached_makes c.sync.ensures.waits.reaches) tt);
      own = only_then (only_then (only_quiet what c.take_window.ensures.makes) ((only_unmapped c.in-Ok-Ok.shown.id c.args.space c.delete_unseen.ensures.writes.own))) (only_quiet what (reached_makes c.sync.ensures.waits.reaches));
      spares = all_then (all_then (spares_quiet c.take_window.ensures.makes) (c.delete_unseen.ensures.lasting refl)) (spares_quiet (reached_makes c.sync.ensures.waits.reaches));
    }

pub returns-in-Err-sync-clause-remains : goal.returns-in-Err-sync-clause-remains
returns-in-Err-sync-clause-remains g c = record {
  stays = record {
    open_still = (still_open _ _ _ _ c.delete_unseen.ensures.remains.stays.open_still c.sync.ensures.waits.layout refl);
    monotone = c.delete_unseen.ensures.remains.stays.monotone;
    serial = c.delete_unseen.ensures.remains.stays.serial;
    layout = (c.sync.ensures.waits.layout ∙ c.delete_unseen.ensures.remains.stays.layout ∙ c.take_window.ensures.reshapes.layout);
  };
  running = c.delete_unseen.ensures.remains.running;
}

pub returns-in-Ok-sync-clause-synced : goal.returns-in-Ok-sync-clause-synced
returns-in-Ok-sync-clause-synced g c = λ is. c.in-Ok-sync.ensures.synced

pub returns-in-Ok-Err-clause-synced : goal.returns-in-Ok-Err-clause-synced
returns-in-Ok-Err-clause-synced g c = λ is. absurd (refused_undone _ is)

pub returns-then-not-shown-clause-synced : goal.returns-then-not-shown-clause-synced
returns-then-not-shown-clause-synced g c = λ is. subst (λ (x : Result Shown Refusal). IsGivenUp ((state c.take_window.new.core).disk.synced ≡ true) x) c.in-Ok-Ok.field-0-is c.in-Ok-Ok.ensures.synced

-- ---- Why it failed.

pub returns-in-Err-clause-fails : goal.returns-in-Err-clause-fails
returns-in-Err-clause-fails g c = fails_wider (λ h. inl h) (halted c.in-Err.ensures.fails)

pub returns-in-Err-delete_unseen-clause-fails : goal.returns-in-Err-delete_unseen-clause-fails
returns-in-Err-delete_unseen-clause-fails g c =
    fails_after c.take_window.ensures.makes.went.faults (λ h. inr (
      c.in-Ok-Ok.shown,
      given_so (TablesSay (state c.args.self.now.core) (λ b. IsShownAt b c.args.space)) c.in-Ok-Ok.shown c.in-Ok-Ok.field-0 c.in-Ok-Ok.field-0-is c.in-Ok-Ok.ensures.read,
      (state c.take_window.new.core, c.take_window.ensures.reshapes, h),
    )) c.in-Err-delete_unseen.ensures.fails

pub returns-in-Err-sync-clause-fails : goal.returns-in-Err-sync-clause-fails
returns-in-Err-sync-clause-fails g c =
    let v = state c.args.self.now.core in
    let x = state c.delete_unseen.new.self.core in
    let w = state c.sync.new.core in
    let first = c.take_window.ensures.makes.went.faults in
    let second = c.delete_unseen.ensures.writes.wrote.makes.went.faults in
    let later : v.disk.faults ≤ x.disk.faults = omega (arith, first, second) in
    let rose = waited_rose c.in-Err-sync.ensures.fails in
    fails_fault c.in-Err-sync.ensures.fails.cause (rose_after _ _ _ later rose) (inl (fault_halt (BreaksWindow v c.args.self.now.core.intervals c.args.space) v x w c.in-Err-sync.halt later c.in-Err-sync.ensures.fails.cause rose))

-- ---- The initial state.

pub returns-in-Ok-Err-clause-accounts : goal.returns-in-Ok-Err-clause-accounts
returns-in-Ok-Err-clause-accounts g c = λ o k. record {
  keeps_to = (let old = c.args.self.now.core in
      reshaped_on o (state old) (state c.take_window.new.core) (accepted old.filer) c.take_window.ensures.reshapes k);
  reasons = tt;
  sees = (λ seen. let old = c.args.self.now.core in
      let u = c.take_window.new.core in
      home_on o old u c.take_window.ensures.makes (still_on old u c.in-Ok-Err.ensures.sees (WasBelow o (state old).disk) seen));
}

pub returns-then-not-shown-clause-accounts : goal.returns-then-not-shown-clause-accounts
returns-then-not-shown-clause-accounts g c = λ o k. record {
  keeps_to = (let old = c.args.self.now.core in
      reshaped_on o (state old) (state c.take_window.new.core) (accepted old.filer) c.take_window.ensures.reshapes k);
  reasons = tt;
  sees = (λ seen. let old = c.args.self.now.core in
      let u = c.take_window.new.core in
      home_on o old u c.take_window.ensures.makes (still_on old u c.in-Ok-Ok.ensures.sees (WasBelow o (state old).disk) seen));
}

pub returns-in-Ok-sync-clause-accounts : goal.returns-in-Ok-sync-clause-accounts
returns-in-Ok-sync-clause-accounts g c = λ o k. record {
  keeps_to = (let old = c.args.self.now.core in
      reached_on o (state c.delete_unseen.new.self.core) (state c.sync.new.core) (accepted c.delete_unseen.new.self.core.filer) c.sync.ensures.waits.reaches
      ((c.in-Ok.ensures.accounts o (reshaped_on o (state old) (state c.take_window.new.core) (accepted old.filer) c.take_window.ensures.reshapes k)).keeps_to));
  reasons = tt;
  sees = (λ seen. let old = c.args.self.now.core in
      let u = c.take_window.new.core in
      let taken = home_on o old u c.take_window.ensures.makes (still_on old u c.in-Ok-Ok.ensures.sees (WasBelow o (state old).disk) seen) in
      home_still o c.delete_unseen.new.self.core c.sync.new.core (reached_makes c.sync.ensures.waits.reaches) c.sync.ensures.waits.still
      ((c.in-Ok.ensures.accounts o (reshaped_on o (state old) (state u) (accepted old.filer) c.take_window.ensures.reshapes k)).sees taken));
}

pub returns-in-Err-clause-accounts : goal.returns-in-Err-clause-accounts
returns-in-Err-clause-accounts g c = λ o k. record {
  keeps_to = tt;
  reasons = (let old = c.args.self.now.core in
      let count = old.intervals in
      shows_after (TakeWindowHalts c.args.space count) (take_window_reasons c.args.space count)
      o (state old) (state c.take_window.new.core) (accepted old.filer) c.take_window.ensures.makes k c.in-Err.halt c.in-Err.ensures.fails.cause);
  sees = (λ seen. let old = c.args.self.now.core in
      let u = c.take_window.new.core in
      none_blameless o (view_of u.filer).disk c.in-Err.halt (never_blames_form c.in-Err.halt (c.in-Err.ensures.fails.right (seen.0, seen.1.0)))
      (λ pages. take_window_misses c.args.space old.intervals pages (state old) (state u) c.in-Err.halt c.in-Err.ensures.fails.cause));
}

pub returns-in-Err-delete_unseen-clause-accounts : goal.returns-in-Err-delete_unseen-clause-accounts
returns-in-Err-delete_unseen-clause-accounts g c = λ o k. record {
  keeps_to = tt;
  reasons = (let old = c.args.self.now.core in
      shows_since o (state c.delete_unseen.new.self.core).disk c.in-Err-delete_unseen.halt c.take_window.ensures.reshapes.layout
      ((c.in-Err-delete_unseen.ensures.accounts o (reshaped_on o (state old) (state c.take_window.new.core) (accepted old.filer) c.take_window.ensures.reshapes k)).reasons));
  sees = (λ seen. let old = c.args.self.now.core in
      let u = c.take_window.new.core in
      let taken = home_on o old u c.take_window.ensures.makes (still_on old u c.in-Ok-Ok.ensures.sees (WasBelow o (state old).disk) seen) in
      (c.in-Err-delete_unseen.ensures.accounts o (reshaped_on o (state old) (state u) (accepted old.filer) c.take_window.ensures.reshapes k)).sees taken);
}

pub returns-in-Err-sync-clause-accounts : goal.returns-in-Err-sync-clause-accounts
returns-in-Err-sync-clause-accounts g c = λ o k. record {
  keeps_to = tt;
  reasons = (fault_shows o (state c.args.self.now.core).layout (state c.sync.new.core).disk c.in-Err-sync.halt c.in-Err-sync.ensures.fails.cause);
  sees = (λ seen. fault_blameless o (state c.sync.new.core).disk c.in-Err-sync.halt c.in-Err-sync.ensures.fails.cause);
}

-- ---- Which pages are missing.

pub returns-in-Err-clause-missing : goal.returns-in-Err-clause-missing
returns-in-Err-clause-missing g c = λ ss sees.
    let old = c.args.self.now.core in
    take_window_misses c.args.space old.intervals (missing_page (call.Unmap c.args.space) ss) (state old) (state c.take_window.new.core) c.in-Err.halt c.in-Err.ensures.fails.cause

pub returns-in-Err-delete_unseen-clause-missing : goal.returns-in-Err-delete_unseen-clause-missing
returns-in-Err-delete_unseen-clause-missing g c = λ ss sees.
    unmap_misses ss c.args.space c.in-Ok-Ok.shown (given_so (ShowsIn ss c.args.space) c.in-Ok-Ok.shown c.in-Ok-Ok.field-0 c.in-Ok-Ok.field-0-is (c.in-Ok-Ok.ensures.seen ss sees)) (is_set _ c.if-not-shown.false)
    (state c.take_window.new.core) (state c.delete_unseen.new.self.core) c.in-Err-delete_unseen.halt c.in-Err-delete_unseen.ensures.fails.cause

pub returns-in-Err-sync-clause-missing : goal.returns-in-Err-sync-clause-missing
returns-in-Err-sync-clause-missing g c = λ ss sees. fault_misses (missing_page (call.Unmap c.args.space) ss) c.in-Err-sync.halt c.in-Err-sync.ensures.fails.cause

-- ---- Which windows are seen.

pub returns-in-Ok-Err-clause-windows : goal.returns-in-Ok-Err-clause-windows
returns-in-Ok-Err-clause-windows g c = λ o k. c.in-Ok-Err.ensures.sees

pub returns-then-not-shown-clause-windows : goal.returns-then-not-shown-clause-windows
returns-then-not-shown-clause-windows g c = λ o k. c.in-Ok-Ok.ensures.sees

pub returns-in-Ok-sync-clause-windows : goal.returns-in-Ok-sync-clause-windows
returns-in-Ok-sync-clause-windows g c = λ o k.
    let old = c.args.self.now.core in
    let u = c.take_window.new.core in
    let w = c.delete_unseen.new.self.core in
    let taken = reshaped_on o (state old) (state u) (accepted old.filer) c.take_window.ensures.reshapes k in
    on_then old u c.sync.new.core c.in-Ok-Ok.ensures.sees (λ ss s. c.sync.ensures.waits.still ss ((c.in-Ok.ensures.accounts o taken).windows ss s))
