use Rattle.std.proofs.Common.{refl, subst, arith, inl, false, true, inr}
use Rattle.flat_machine.specs.declared.call.Call.TheVariants as call
use Rattle.flat_machine.specs.declared.call.Refusal.TheVariants as why
use Rattle.pilot_engine.specs.declared.sight.Sight.{Sight}
use Rattle.pilot_engine.specs.Seen.{IsSight}
use Rattle.pilot_engine.proofs.BoundLemmas.{asked_inside}
use Rattle.pilot_engine.proofs.LiftLemmas.{refused_running}
use Rattle.std.proofs.Common.{ℕ, Option, true}
use Rattle.space_tables.specs.Shows.{IsFirstWith, shows}
use Rattle.space_tables.specs.declared.shown.Shown.{Shown}
use Rattle.swapper_kernel.specs.GoesLaws.{makes_then}
use Rattle.pilot_engine.proofs.RefusalLemmas.{no_file_hidden, immutable_gone}
use Rattle.pilot_engine.proofs.SeenLemmas.{immutable_seen, written_by_none}
use Rattle.fault_core.specs.Core.{state}
use Rattle.space_calls.proofs.HaltLemmas.{later_sight}
use Rattle.fault_core.proofs.ReachLemmas.{reaches_then}
use Rattle.space_calls.specs.ReasonLaws.{sight_reasons}
use Rattle.space_calls.specs.Halts.{SightHalts}
use Rattle.pilot_engine.proofs.ReasonSteps.{shows_after, shows_since}
use Rattle.running_words.specs.BlamelessLaws.{never_blames_form}
use Rattle.pilot_engine.proofs.HomeLemmas.{file_pages}
use Rattle.pilot_engine.proofs.LackLemmas.{sight_misses}
use Rattle.label_calls.specs.SyncedLaws.{around_after, quiet_synced, synced_then, syncs_around}
use Rattle.pilot_engine.proofs.OwnLemmas.{around_of}
use Rattle.pilot_engine.proofs.FailSteps.{fails_after, fails_wider, if_fails_after}
use Rattle.space_calls.specs.OutcomesLaws.{halted}
use Rattle.pilot_engine.proofs.AskedSteps.{accounts_after, accounts_again, accounts_failed, accounts_looked, answers_after, answers_asked, answers_halted, asked_writes, looks_alone, looks_then, remains_after, remains_asked, writes_after, set_up_asked}
use Rattle.pilot_engine.proofs.session.Session.make_immutable.Goals as goal
use Rattle.filer_kernel.specs.View.{accepted, disk_of}

pub returns-in-Ok-Hidden-clause-answers : goal.returns-in-Ok-Hidden-clause-answers
returns-in-Ok-Hidden-clause-answers g c = λ m r. answers_asked c.sight.ensures.looks r (g.met.D.Disk.in_form (disk_of c.args.self.now.core.filer)) (call.MakeImmutable c.args.id) 14532 (omega arith) c.sight.ensures.cost (refused_running _ _ m (call.MakeImmutable c.args.id) why.File ((c.sight.ensures.asks m r).runs) (immutable_gone m c.args.id (no_file_hidden m c.args.id (subst (λ (x : Sight). IsSight m c.args.id x) c.in-Ok-Hidden.field-0-is ((c.in-Ok-Hidden.ensures.asks m r).answer)))))

pub returns-in-Ok-Hidden-clause-writes : goal.returns-in-Ok-Hidden-clause-writes
returns-in-Ok-Hidden-clause-writes g c = asked_writes (call.MakeImmutable c.args.id) c.sight.ensures.looks.makes

pub returns-in-Err-clause-answers : goal.returns-in-Err-clause-answers
returns-in-Err-clause-answers g c = λ m r. answers_halted c.sight.ensures.looks r (g.met.D.Disk.in_form (disk_of c.args.self.now.core.filer)) (call.MakeImmutable c.args.id) 14532 (omega arith) c.sight.ensures.cost ((c.in-Err.ensures.asks m r).sound)

pub returns-in-Err-clause-writes : goal.returns-in-Err-clause-writes
returns-in-Err-clause-writes g c = asked_writes (call.MakeImmutable c.args.id) c.sight.ensures.looks.makes

pub returns-in-Ok-Some-clause-answers : goal.returns-in-Ok-Some-clause-answers
returns-in-Ok-Some-clause-answers g c =
    λ m r.
    let now = (c.sight.ensures.asks m r).runs in
    let first = subst (λ (o : Option (ℕ × Shown)). IsFirstWith (shows c.args.id true) m.spaces o) c.in-Ok-Some.field-0-is (c.in-Ok-Some.ensures.answer c.sight.new.self.volume m now) in
    answers_asked (looks_then c.sight.ensures.looks (looks_alone c.window_on.ensures.looks)) r (g.met.D.Disk.in_form (disk_of c.args.self.now.core.filer)) (call.MakeImmutable c.args.id) 29064 (omega arith) (let first = c.sight.ensures.cost in let later = c.window_on.ensures.cost in omega (arith, first, later))
    (refused_running _ _ m (call.MakeImmutable c.args.id) _ (c.window_on.ensures.looks.runs c.sight.new.self.volume m now) (immutable_seen m now.session.stands.is.by.machine c.args.id _ _ (subst (λ (x : Sight). IsSight m c.args.id x) c.in-Ok-By.field-0-is ((c.in-Ok-By.ensures.asks m r).answer)).named first))

pub returns-in-Ok-Some-clause-writes : goal.returns-in-Ok-Some-clause-writes
returns-in-Ok-Some-clause-writes g c = asked_writes (call.MakeImmutable c.args.id) (looks_then c.sight.ensures.looks (looks_alone c.window_on.ensures.looks)).makes

pub returns-in-Err-window_on-clause-answers : goal.returns-in-Err-window_on-clause-answers
returns-in-Err-window_on-clause-answers g c = λ m r. answers_halted (looks_then c.sight.ensures.looks (looks_alone c.window_on.ensures.looks)) r (g.met.D.Disk.in_form (disk_of c.args.self.now.core.filer)) (call.MakeImmutable c.args.id) 29064 (omega arith) (let first = c.sight.ensures.cost in let later = c.window_on.ensures.cost in omega (arith, first, later)) (c.in-Err-window_on.ensures.answer c.sight.new.self.volume m ((c.sight.ensures.asks m r).runs))

pub returns-in-Err-window_on-clause-writes : goal.returns-in-Err-window_on-clause-writes
returns-in-Err-window_on-clause-writes g c = asked_writes (call.MakeImmutable c.args.id) (looks_then c.sight.ensures.looks (looks_alone c.window_on.ensures.looks)).makes

pub mark_immutable-requires : goal.mark_immutable-requires
mark_immutable-requires g c = record { set_up = set_up_asked (looks_then c.sight.ensures.looks (looks_alone c.window_on.ensures.looks)) c.requires.set_up }

pub returns-clause-answers : goal.returns-clause-answers
returns-clause-answers g c =
    λ m r.
    let now = (c.sight.ensures.asks m r).runs in
    let last = c.window_on.ensures.looks.runs c.sight.new.self.volume m now in
    let named = (subst (λ (x : Sight). IsSight m c.args.id x) c.in-Ok-By.field-0-is ((c.in-Ok-By.ensures.asks m r).answer)).named in
    let unwritten = written_by_none m c.args.id (subst (λ (o : Option (ℕ × Shown)). IsFirstWith (shows c.args.id true) m.spaces o) c.in-Ok-None.field-0-is (c.in-Ok-None.ensures.answer c.sight.new.self.volume m now)) in
    answers_after (looks_then c.sight.ensures.looks (looks_alone c.window_on.ensures.looks)) r (g.met.D.Disk.in_form (disk_of c.args.self.now.core.filer)) (call.MakeImmutable c.args.id) 29064 (omega arith) (let first = c.sight.ensures.cost in let later = c.window_on.ensures.cost in omega (arith, first, later)) c.mark_immutable.result last refl c.mark_immutable.ensures.remains
    (λ spaces_of s. c.mark_immutable.ensures.answers spaces_of m s named unwritten) (c.mark_immutable.ensures.sound _ m last.session)
    (asked_inside (state c.args.self.now.core).disk (state c.mark_immutable.new.self.core).disk 29109 (omega arith) (let first = c.sight.ensures.cost in let later = c.window_on.ensures.cost in let last = c.mark_immutable.ensures.cost in omega (arith, first, later, last)))

pub returns-clause-writes : goal.returns-clause-writes
returns-clause-writes g c = writes_after (call.MakeImmutable c.args.id) (looks_then c.sight.ensures.looks (looks_alone c.window_on.ensures.looks)).makes c.mark_immutable.ensures.writes

pub returns-clause-remains : goal.returns-clause-remains
returns-clause-remains g c = remains_after (looks_then c.sight.ensures.looks (looks_alone c.window_on.ensures.looks)) c.mark_immutable.ensures.remains

-- ---- Why it failed.

pub returns-in-Err-clause-fails : goal.returns-in-Err-clause-fails
returns-in-Err-clause-fails g c = fails_wider (λ h. inl h) c.in-Err.ensures.fails

pub returns-in-Err-window_on-clause-fails : goal.returns-in-Err-window_on-clause-fails
returns-in-Err-window_on-clause-fails g c =
    let old = c.args.self.now.core in
    let u = c.sight.new.self.core in
    fails_after c.sight.ensures.looks.makes.went.faults
    (λ h. inl (later_sight (state old) (state u) (accepted old.filer) c.sight.ensures.looks.reaches old.intervals u.intervals c.sight.ensures.looks.intervals (state c.window_on.new.core) c.in-Err-window_on.halt h)) (halted c.in-Err-window_on.ensures.fails)

pub returns-clause-fails : goal.returns-clause-fails
returns-clause-fails g c =
    let v = state c.args.self.now.core in
    let u = state c.sight.new.self.core in
    let x = state c.window_on.new.core in
    if_fails_after c.mark_immutable.result _ _ v x (state c.mark_immutable.new.self.core) (makes_then c.sight.ensures.looks.makes c.window_on.ensures.looks.makes).went.faults
    (λ e h. inr (x, reaches_then v u (accepted c.args.self.now.core.filer) c.sight.ensures.looks.reaches x c.window_on.ensures.looks.reaches, h)) c.mark_immutable.ensures.fails

-- ---- The initial state.

pub returns-in-Ok-Some-clause-accounts : goal.returns-in-Ok-Some-clause-accounts
returns-in-Ok-Some-clause-accounts g c = accounts_after _ c.sight.ensures.looks.layout c.in-Ok-By.ensures.accounts (accounts_looked c.window_on.ensures.looks)

pub returns-clause-accounts : goal.returns-clause-accounts
returns-clause-accounts g c = accounts_after c.mark_immutable.result (looks_then c.sight.ensures.looks (looks_alone c.window_on.ensures.looks)).layout (accounts_after _ c.sight.ensures.looks.layout c.in-Ok-By.ensures.accounts (accounts_looked {x = c.args.id} c.window_on.ensures.looks)) c.mark_immutable.ensures.accounts

pub returns-in-Err-window_on-clause-accounts : goal.returns-in-Err-window_on-clause-accounts
returns-in-Err-window_on-clause-accounts g c = λ o k. record {
  keeps_to = tt;
  reasons = (let u = c.sight.new.self.core in
      shows_since o (state c.window_on.new.core).disk c.in-Err-window_on.halt c.sight.ensures.looks.layout
      (shows_after (SightHalts u.intervals) (sight_reasons u.intervals) o (state u) (state c.window_on.new.core) (accepted u.filer) c.window_on.ensures.looks.reaches.goes.makes
      ((c.in-Ok-By.ensures.accounts o k).keeps_to) c.in-Err-window_on.halt c.in-Err-window_on.ensures.fails.cause));
  sees = (λ seen. let u = c.sight.new.self.core in
      let new = c.window_on.new.core in
      let there = (c.in-Ok-By.ensures.accounts o k).sees seen in (
        never_blames_form c.in-Err-window_on.halt (c.in-Err-window_on.ensures.fails.right (there.0, there.1.0)),
        sight_misses (file_pages o (state new).disk) u.intervals (state u) (state new) c.in-Err-window_on.halt c.in-Err-window_on.ensures.fails.cause,
      ));
  windows = tt;
}

-- ---- The next identifier.

pub returns-in-Ok-Hidden-clause-accounts : goal.returns-in-Ok-Hidden-clause-accounts
returns-in-Ok-Hidden-clause-accounts g c = λ o k. accounts_again (c.in-Ok-Hidden.ensures.accounts o k)

pub returns-in-Err-clause-accounts : goal.returns-in-Err-clause-accounts
returns-in-Err-clause-accounts g c = λ o k. accounts_failed (c.in-Err.ensures.accounts o k)

-- ---- The syncs around leaders.

pub returns-in-Ok-Hidden-clause-around : goal.returns-in-Ok-Hidden-clause-around
returns-in-Ok-Hidden-clause-around g c = syncs_around (quiet_synced false c.sight.ensures.looks.makes)

pub returns-in-Err-clause-around : goal.returns-in-Err-clause-around
returns-in-Err-clause-around g c = syncs_around (quiet_synced true c.sight.ensures.looks.makes)

pub returns-in-Ok-Some-clause-around : goal.returns-in-Ok-Some-clause-around
returns-in-Ok-Some-clause-around g c = around_after (quiet_synced false c.sight.ensures.looks.makes) (quiet_synced false c.window_on.ensures.looks.makes)

pub returns-in-Err-window_on-clause-around : goal.returns-in-Err-window_on-clause-around
returns-in-Err-window_on-clause-around g c = around_after (quiet_synced false c.sight.ensures.looks.makes) (quiet_synced true c.window_on.ensures.looks.makes)

pub returns-clause-around : goal.returns-clause-around
returns-clause-around g c = around_of c.mark_immutable.result (synced_then (quiet_synced false c.sight.ensures.looks.makes) (quiet_synced false c.window_on.ensures.looks.makes)) c.mark_immutable.ensures.writes.wrote.makes c.mark_immutable.ensures.around

-- ---- Which windows are seen.

pub returns-in-Ok-Hidden-clause-remains : goal.returns-in-Ok-Hidden-clause-remains
returns-in-Ok-Hidden-clause-remains g c = remains_asked c.sight.ensures.looks c.requires.set_up.opened

pub returns-in-Err-clause-remains : goal.returns-in-Err-clause-remains
returns-in-Err-clause-remains g c = remains_asked c.sight.ensures.looks c.requires.set_up.opened

pub returns-in-Ok-Some-clause-remains : goal.returns-in-Ok-Some-clause-remains
returns-in-Ok-Some-clause-remains g c = remains_asked (looks_then c.sight.ensures.looks (looks_alone c.window_on.ensures.looks)) c.requires.set_up.opened

pub returns-in-Err-window_on-clause-remains : goal.returns-in-Err-window_on-clause-remains
returns-in-Err-window_on-clause-remains g c = remains_asked (looks_then c.sight.ensures.looks (looks_alone c.window_on.ensures.looks)) c.requires.set_up.opened
