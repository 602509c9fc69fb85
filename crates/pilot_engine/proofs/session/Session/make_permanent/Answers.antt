use Rattle.std.proofs.Common.{refl, subst, arith, inl, false, true, inr}
use Rattle.flat_machine.specs.declared.call.Call.TheVariants as call
use Rattle.flat_machine.specs.declared.call.Refusal.TheVariants as why
use Rattle.pilot_engine.specs.declared.sight.Sight.{Sight}
use Rattle.pilot_engine.specs.Seen.{IsSight}
use Rattle.pilot_engine.proofs.BoundLemmas.{asked_inside}
use Rattle.pilot_engine.proofs.LiftLemmas.{refused_running}
use Rattle.pilot_engine.proofs.RefusalLemmas.{no_file_hidden, permanent_gone}
use Rattle.fault_core.specs.Core.{state}
use Rattle.label_calls.specs.SyncedLaws.{quiet_synced, syncs_around}
use Rattle.pilot_engine.proofs.OwnLemmas.{around_of}
use Rattle.pilot_engine.proofs.FailSteps.{fails_wider, if_fails_after}
use Rattle.pilot_engine.proofs.AskedSteps.{accounts_after, accounts_again, accounts_failed, answers_after, answers_asked, answers_halted, asked_writes, remains_after, remains_asked, writes_after, set_up_asked}
use Rattle.pilot_engine.proofs.session.Session.make_permanent.Goals as goal
use Rattle.filer_kernel.specs.View.{disk_of}

pub returns-in-Ok-Hidden-clause-answers : goal.returns-in-Ok-Hidden-clause-answers
returns-in-Ok-Hidden-clause-answers g c = λ m r. answers_asked c.sight.ensures.looks r (g.met.D.Disk.in_form (disk_of c.args.self.now.core.filer)) (call.MakePermanent c.args.id) 14532 (omega arith) c.sight.ensures.cost (refused_running _ _ m (call.MakePermanent c.args.id) why.File ((c.sight.ensures.asks m r).runs) (permanent_gone m c.args.id (no_file_hidden m c.args.id (subst (λ (x : Sight). IsSight m c.args.id x) c.in-Ok-Hidden.field-0-is ((c.in-Ok-Hidden.ensures.asks m r).answer)))))

pub returns-in-Ok-Hidden-clause-writes : goal.returns-in-Ok-Hidden-clause-writes
returns-in-Ok-Hidden-clause-writes g c = asked_writes (call.MakePermanent c.args.id) c.sight.ensures.looks.makes

pub returns-in-Err-clause-answers : goal.returns-in-Err-clause-answers
returns-in-Err-clause-answers g c = λ m r. answers_halted c.sight.ensures.looks r (g.met.D.Disk.in_form (disk_of c.args.self.now.core.filer)) (call.MakePermanent c.args.id) 14532 (omega arith) c.sight.ensures.cost ((c.in-Err.ensures.asks m r).sound)

pub returns-in-Err-clause-writes : goal.returns-in-Err-clause-writes
returns-in-Err-clause-writes g c = asked_writes (call.MakePermanent c.args.id) c.sight.ensures.looks.makes

pub mark_permanent-requires : goal.mark_permanent-requires
mark_permanent-requires g c = record { set_up = set_up_asked c.sight.ensures.looks c.requires.set_up }

pub returns-in-Ok-By-clause-answers : goal.returns-in-Ok-By-clause-answers
returns-in-Ok-By-clause-answers g c =
    λ m r.
    let now = (c.sight.ensures.asks m r).runs in
    let seen = (subst (λ (x : Sight). IsSight m c.args.id x) c.in-Ok-By.field-0-is ((c.in-Ok-By.ensures.asks m r).answer)) in
    answers_after c.sight.ensures.looks r (g.met.D.Disk.in_form (disk_of c.args.self.now.core.filer)) (call.MakePermanent c.args.id) 14532 (omega arith) c.sight.ensures.cost c.mark_permanent.result now refl c.mark_permanent.ensures.remains
    (λ spaces_of s. c.mark_permanent.ensures.answers spaces_of m s seen.named) (c.mark_permanent.ensures.sound _ m now.session)
    (asked_inside (state c.args.self.now.core).disk (state c.mark_permanent.new.self.core).disk 14577 (omega arith) (let first = c.sight.ensures.cost in let later = c.mark_permanent.ensures.cost in omega (arith, first, later)))

pub returns-in-Ok-By-clause-writes : goal.returns-in-Ok-By-clause-writes
returns-in-Ok-By-clause-writes g c = writes_after (call.MakePermanent c.args.id) c.sight.ensures.looks.makes c.mark_permanent.ensures.writes

pub returns-in-Ok-By-clause-remains : goal.returns-in-Ok-By-clause-remains
returns-in-Ok-By-clause-remains g c = remains_after c.sight.ensures.looks c.mark_permanent.ensures.remains

-- ---- Why it failed.

pub returns-in-Err-clause-fails : goal.returns-in-Err-clause-fails
returns-in-Err-clause-fails g c = fails_wider (λ h. inl h) c.in-Err.ensures.fails

pub returns-in-Ok-By-clause-fails : goal.returns-in-Ok-By-clause-fails
returns-in-Ok-By-clause-fails g c = if_fails_after c.mark_permanent.result _ _ (state c.args.self.now.core) (state c.sight.new.self.core) (state c.mark_permanent.new.self.core) c.sight.ensures.looks.makes.went.faults (λ e h. inr (state c.sight.new.self.core, c.sight.ensures.looks.reaches, h)) c.mark_permanent.ensures.fails

-- ---- The initial state.

pub returns-in-Ok-By-clause-accounts : goal.returns-in-Ok-By-clause-accounts
returns-in-Ok-By-clause-accounts g c = accounts_after c.mark_permanent.result c.sight.ensures.looks.layout c.in-Ok-By.ensures.accounts c.mark_permanent.ensures.accounts

-- ---- The next identifier.

pub returns-in-Ok-Hidden-clause-accounts : goal.returns-in-Ok-Hidden-clause-accounts
returns-in-Ok-Hidden-clause-accounts g c = λ o k. accounts_again (c.in-Ok-Hidden.ensures.accounts o k)

pub returns-in-Err-clause-accounts : goal.returns-in-Err-clause-accounts
returns-in-Err-clause-accounts g c = λ o k. accounts_failed (c.in-Err.ensures.accounts o k)

-- ---- The syncs around leaders.

pub returns-in-Ok-Hidden-clause-around : goal.returns-in-Ok-Hidden-clause-around
returns-in-Ok-Hidden-clause-around g c = syncs_around (quiet_synced false c.sight.ensures.looks.makes)

pub returns-in-Err-clause-around : goal.returns-in-Err-clause-around
returns-in-Err-clause-around g c = syncs_around (quiet_synced true c.sight.ensures.looks.makes)

pub returns-in-Ok-By-clause-around : goal.returns-in-Ok-By-clause-around
returns-in-Ok-By-clause-around g c = around_of c.mark_permanent.result (quiet_synced false c.sight.ensures.looks.makes) c.mark_permanent.ensures.writes.wrote.makes c.mark_permanent.ensures.around

-- ---- Which windows are seen.

pub returns-in-Ok-Hidden-clause-remains : goal.returns-in-Ok-Hidden-clause-remains
returns-in-Ok-Hidden-clause-remains g c = remains_asked c.sight.ensures.looks c.requires.set_up.opened

pub returns-in-Err-clause-remains : goal.returns-in-Err-clause-remains
returns-in-Err-clause-remains g c = remains_asked c.sight.ensures.looks c.requires.set_up.opened
