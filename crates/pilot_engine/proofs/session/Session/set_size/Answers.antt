use Rattle.std.proofs.Common.{refl, subst, arith, inl, inr}
use Rattle.flat_machine.specs.declared.call.Call.TheVariants as call
use Rattle.flat_machine.specs.declared.call.Refusal.TheVariants as why
use Rattle.pilot_engine.specs.declared.sight.Sight.{Sight}
use Rattle.pilot_engine.specs.Seen.{IsSight}
use Rattle.pilot_engine.proofs.LiftLemmas.{refused_running}
use Rattle.pilot_engine.proofs.RefusalLemmas.{no_file_hidden, size_gone}
use Rattle.fault_core.specs.Core.{state}
use Rattle.label_calls.specs.ClearedLaws.{later_after_sync, quiet_after}
use Rattle.pilot_engine.proofs.FailSteps.{fails_wider, if_fails_after}
use Rattle.pilot_engine.proofs.AskedSteps.{accounts_after, accounts_again, accounts_failed, answers_after, answers_asked, answers_halted, asked_writes, remains_after, remains_asked, writes_after, paid_after, set_up_asked}
use Rattle.pilot_engine.proofs.session.Session.set_size.Goals as goal
use Rattle.filer_kernel.specs.View.{disk_of}

pub returns-in-Ok-Hidden-clause-answers : goal.returns-in-Ok-Hidden-clause-answers
returns-in-Ok-Hidden-clause-answers g c = λ m r. answers_asked c.sight.ensures.looks r (g.met.D.Disk.in_form (disk_of c.args.self.now.core.filer)) (call.SetSize c.args.id c.args.pages) 14532 (omega arith) c.sight.ensures.cost (refused_running _ _ m (call.SetSize c.args.id c.args.pages) why.File ((c.sight.ensures.asks m r).runs) (size_gone m c.args.id (no_file_hidden m c.args.id (subst (λ (x : Sight). IsSight m c.args.id x) c.in-Ok-Hidden.field-0-is ((c.in-Ok-Hidden.ensures.asks m r).answer))) c.args.pages))

pub returns-in-Ok-Hidden-clause-writes : goal.returns-in-Ok-Hidden-clause-writes
returns-in-Ok-Hidden-clause-writes g c = asked_writes (call.SetSize c.args.id c.args.pages) c.sight.ensures.looks.makes

pub returns-in-Err-clause-answers : goal.returns-in-Err-clause-answers
returns-in-Err-clause-answers g c = λ m r. answers_halted c.sight.ensures.looks r (g.met.D.Disk.in_form (disk_of c.args.self.now.core.filer)) (call.SetSize c.args.id c.args.pages) 14532 (omega arith) c.sight.ensures.cost ((c.in-Err.ensures.asks m r).sound)

pub returns-in-Err-clause-writes : goal.returns-in-Err-clause-writes
returns-in-Err-clause-writes g c = asked_writes (call.SetSize c.args.id c.args.pages) c.sight.ensures.looks.makes

pub resize-requires : goal.resize-requires
resize-requires g c = record { set_up = set_up_asked c.sight.ensures.looks c.requires.set_up }

pub returns-in-Ok-By-clause-answers : goal.returns-in-Ok-By-clause-answers
returns-in-Ok-By-clause-answers g c =
    λ m r.
    let now = (c.sight.ensures.asks m r).runs in
    let seen = (subst (λ (x : Sight). IsSight m c.args.id x) c.in-Ok-By.field-0-is ((c.in-Ok-By.ensures.asks m r).answer)) in
    answers_after c.sight.ensures.looks r (g.met.D.Disk.in_form (disk_of c.args.self.now.core.filer)) (call.SetSize c.args.id c.args.pages) 14532 (omega arith) c.sight.ensures.cost c.resize.result now refl c.resize.ensures.remains
    (λ spaces_of s. c.resize.ensures.answers spaces_of m s seen) (c.resize.ensures.sound _ m now.session seen)
    (paid_after c.sight.ensures.looks c.resize.new.self 14532 (omega arith) c.sight.ensures.cost (c.resize.ensures.bounded _ m now.session))

pub returns-in-Ok-By-clause-writes : goal.returns-in-Ok-By-clause-writes
returns-in-Ok-By-clause-writes g c = writes_after (call.SetSize c.args.id c.args.pages) c.sight.ensures.looks.makes c.resize.ensures.writes

pub returns-in-Ok-By-clause-remains : goal.returns-in-Ok-By-clause-remains
returns-in-Ok-By-clause-remains g c = remains_after c.sight.ensures.looks c.resize.ensures.remains

-- ---- Why it failed.

pub returns-in-Err-clause-fails : goal.returns-in-Err-clause-fails
returns-in-Err-clause-fails g c = fails_wider (λ h. inl h) c.in-Err.ensures.fails

pub returns-in-Ok-By-clause-fails : goal.returns-in-Ok-By-clause-fails
returns-in-Ok-By-clause-fails g c = if_fails_after c.resize.result _ _ (state c.args.self.now.core) (state c.sight.new.self.core) (state c.resize.new.self.core) c.sight.ensures.looks.makes.went.faults (λ e h. inr (state c.sight.new.self.core, c.sight.ensures.looks.reaches, h)) c.resize.ensures.fails

-- ---- The initial state.

pub returns-in-Ok-By-clause-accounts : goal.returns-in-Ok-By-clause-accounts
returns-in-Ok-By-clause-accounts g c = accounts_after c.resize.result c.sight.ensures.looks.layout c.in-Ok-By.ensures.accounts c.resize.ensures.accounts

-- ---- The next identifier.

pub returns-in-Ok-Hidden-clause-accounts : goal.returns-in-Ok-Hidden-clause-accounts
returns-in-Ok-Hidden-clause-accounts g c = λ o k. accounts_again (c.in-Ok-Hidden.ensures.accounts o k)

pub returns-in-Err-clause-accounts : goal.returns-in-Err-clause-accounts
returns-in-Err-clause-accounts g c = λ o k. accounts_failed (c.in-Err.ensures.accounts o k)

-- ---- The syncs before its labels.

pub returns-in-Ok-Hidden-clause-after_sync : goal.returns-in-Ok-Hidden-clause-after_sync
returns-in-Ok-Hidden-clause-after_sync g c = λ m f r found permanent. quiet_after c.sight.ensures.looks.makes

pub returns-in-Err-clause-after_sync : goal.returns-in-Err-clause-after_sync
returns-in-Err-clause-after_sync g c = λ m f r found permanent. quiet_after c.sight.ensures.looks.makes

pub returns-in-Ok-By-clause-after_sync : goal.returns-in-Ok-By-clause-after_sync
returns-in-Ok-By-clause-after_sync g c = λ m f r found permanent.
    let now = (c.sight.ensures.asks m r).runs in
    later_after_sync c.sight.ensures.looks.makes c.resize.ensures.writes.wrote.makes (c.resize.ensures.after_sync _ m f now.session found permanent)

pub returns-in-Ok-Hidden-clause-remains : goal.returns-in-Ok-Hidden-clause-remains
returns-in-Ok-Hidden-clause-remains g c = remains_asked c.sight.ensures.looks c.requires.set_up.opened

pub returns-in-Err-clause-remains : goal.returns-in-Err-clause-remains
returns-in-Err-clause-remains g c = remains_asked c.sight.ensures.looks c.requires.set_up.opened
