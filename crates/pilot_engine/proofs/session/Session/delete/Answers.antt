use Rattle.std.proofs.Common.{refl, sym, ap, subst, ◌∙◌, arith, inl, false, true, inr}
use Rattle.std.proofs.lemmas.Bool.{true≢false}
use Rattle.flat_machine.specs.declared.call.Call.TheVariants as call
use Rattle.flat_machine.specs.declared.call.Refusal.TheVariants as why
use Rattle.pilot_engine.specs.declared.sight.Sight.{Sight}
use Rattle.std.proofs.Common.{ℕ, Option}
use Rattle.std.specs.Prelude.{option_map}
use Rattle.pilot_engine.specs.Seen.{IsSeenBy, IsSight}
use Rattle.pilot_engine.proofs.LiftLemmas.{refused_running}
use Rattle.pilot_engine.proofs.RefusalLemmas.{delete_gone, no_file_hidden}
use Rattle.pilot_engine.proofs.SeenLemmas.{delete_seen}
use Rattle.fault_core.specs.Core.{state}
use Rattle.label_calls.specs.SyncedLaws.{quiet_synced, syncs_around}
use Rattle.pilot_engine.proofs.OwnLemmas.{around_of}
use Rattle.pilot_engine.proofs.FailSteps.{fails_wider, if_fails_after}
use Rattle.pilot_engine.proofs.AskedSteps.{accounts_after, accounts_again, accounts_failed, answers_after, answers_asked, answers_halted, asked_writes, remains_after, remains_asked, writes_after, paid_after, set_up_asked}
use Rattle.pilot_engine.proofs.session.Session.delete.Goals as goal
use Rattle.filer_kernel.specs.View.{disk_of}

pub returns-in-Ok-Hidden-clause-answers : goal.returns-in-Ok-Hidden-clause-answers
returns-in-Ok-Hidden-clause-answers g c = λ m r. answers_asked c.sight.ensures.looks r (g.met.D.Disk.in_form (disk_of c.args.self.now.core.filer)) (call.Delete c.args.id) 14532 (omega arith) c.sight.ensures.cost (refused_running _ _ m (call.Delete c.args.id) why.File ((c.sight.ensures.asks m r).runs) (delete_gone m c.args.id (no_file_hidden m c.args.id (subst (λ (x : Sight). IsSight m c.args.id x) c.in-Ok-Hidden.field-0-is ((c.in-Ok-Hidden.ensures.asks m r).answer)))))

pub returns-in-Ok-Hidden-clause-writes : goal.returns-in-Ok-Hidden-clause-writes
returns-in-Ok-Hidden-clause-writes g c = asked_writes (call.Delete c.args.id) c.sight.ensures.looks.makes

pub returns-in-Some-clause-answers : goal.returns-in-Some-clause-answers
returns-in-Some-clause-answers g c = λ m r. answers_asked c.sight.ensures.looks r (g.met.D.Disk.in_form (disk_of c.args.self.now.core.filer)) (call.Delete c.args.id) 14532 (omega arith) c.sight.ensures.cost (refused_running _ _ m (call.Delete c.args.id) _ ((c.sight.ensures.asks m r).runs) (delete_seen m r.session.stands.is.by.machine c.args.id _ (subst (λ (o : Option ℕ). IsSeenBy m c.args.id o) c.in-Some.is (subst (λ (x : Sight). IsSight m c.args.id x) c.in-Ok-By.field-0-is ((c.in-Ok-By.ensures.asks m r).answer)))))

pub returns-in-Some-clause-writes : goal.returns-in-Some-clause-writes
returns-in-Some-clause-writes g c = asked_writes (call.Delete c.args.id) c.sight.ensures.looks.makes

pub returns-in-Err-clause-answers : goal.returns-in-Err-clause-answers
returns-in-Err-clause-answers g c = λ m r. answers_halted c.sight.ensures.looks r (g.met.D.Disk.in_form (disk_of c.args.self.now.core.filer)) (call.Delete c.args.id) 14532 (omega arith) c.sight.ensures.cost ((c.in-Err.ensures.asks m r).sound)

pub returns-in-Err-clause-writes : goal.returns-in-Err-clause-writes
returns-in-Err-clause-writes g c = asked_writes (call.Delete c.args.id) c.sight.ensures.looks.makes

pub delete_unseen-requires : goal.delete_unseen-requires
delete_unseen-requires g c = record { set_up = set_up_asked c.sight.ensures.looks c.requires.set_up }

pub returns-clause-answers : goal.returns-clause-answers
returns-clause-answers g c =
    λ m r.
    let now = (c.sight.ensures.asks m r).runs in
    let unseen = (subst (λ (x : Sight). IsSight m c.args.id x) c.in-Ok-By.field-0-is ((c.in-Ok-By.ensures.asks m r).answer)).mapped ∙ ap (option_map why.FileMapped) c.in-None.is in
    answers_after c.sight.ensures.looks r (g.met.D.Disk.in_form (disk_of c.args.self.now.core.filer)) (call.Delete c.args.id) 14532 (omega arith) c.sight.ensures.cost c.delete_unseen.result now refl c.delete_unseen.ensures.remains
    (λ spaces_of s. c.delete_unseen.ensures.answers spaces_of m s unseen (λ set. absurd (true≢false (sym set)))) (c.delete_unseen.ensures.sound _ m now.session unseen (λ set. absurd (true≢false (sym set))))
    (paid_after c.sight.ensures.looks c.delete_unseen.new.self 14532 (omega arith) c.sight.ensures.cost (c.delete_unseen.ensures.bounded _ m now.session))

pub returns-clause-writes : goal.returns-clause-writes
returns-clause-writes g c = writes_after (call.Delete c.args.id) c.sight.ensures.looks.makes c.delete_unseen.ensures.writes

pub returns-clause-remains : goal.returns-clause-remains
returns-clause-remains g c = remains_after c.sight.ensures.looks c.delete_unseen.ensures.remains

-- ---- Why it failed.

pub returns-in-Err-clause-fails : goal.returns-in-Err-clause-fails
returns-in-Err-clause-fails g c = fails_wider (λ h. inl h) c.in-Err.ensures.fails

pub returns-clause-fails : goal.returns-clause-fails
returns-clause-fails g c = if_fails_after c.delete_unseen.result _ _ (state c.args.self.now.core) (state c.sight.new.self.core) (state c.delete_unseen.new.self.core) c.sight.ensures.looks.makes.went.faults (λ e h. inr (state c.sight.new.self.core, c.sight.ensures.looks.reaches, h)) c.delete_unseen.ensures.fails

-- ---- The initial state.

pub returns-clause-accounts : goal.returns-clause-accounts
returns-clause-accounts g c = accounts_after c.delete_unseen.result c.sight.ensures.looks.layout c.in-Ok-By.ensures.accounts c.delete_unseen.ensures.accounts

-- ---- The next identifier.

pub returns-in-Ok-Hidden-clause-accounts : goal.returns-in-Ok-Hidden-clause-accounts
returns-in-Ok-Hidden-clause-accounts g c = λ o k. accounts_again (c.in-Ok-Hidden.ensures.accounts o k)

pub returns-in-Some-clause-accounts : goal.returns-in-Some-clause-accounts
returns-in-Some-clause-accounts g c = λ o k. accounts_again (c.in-Ok-By.ensures.accounts o k)

pub returns-in-Err-clause-accounts : goal.returns-in-Err-clause-accounts
returns-in-Err-clause-accounts g c = λ o k. accounts_failed (c.in-Err.ensures.accounts o k)

-- ---- The syncs around leaders.

pub returns-in-Ok-Hidden-clause-around : goal.returns-in-Ok-Hidden-clause-around
returns-in-Ok-Hidden-clause-around g c = syncs_around (quiet_synced false c.sight.ensures.looks.makes)

pub returns-in-Err-clause-around : goal.returns-in-Err-clause-around
returns-in-Err-clause-around g c = syncs_around (quiet_synced true c.sight.ensures.looks.makes)

pub returns-in-Some-clause-around : goal.returns-in-Some-clause-around
returns-in-Some-clause-around g c = syncs_around (quiet_synced false c.sight.ensures.looks.makes)

pub returns-clause-around : goal.returns-clause-around
returns-clause-around g c = around_of c.delete_unseen.result (quiet_synced false c.sight.ensures.looks.makes) c.delete_unseen.ensures.writes.wrote.makes c.delete_unseen.ensures.around

-- ---- Which windows are seen.

pub returns-in-Ok-Hidden-clause-remains : goal.returns-in-Ok-Hidden-clause-remains
returns-in-Ok-Hidden-clause-remains g c = remains_asked c.sight.ensures.looks c.requires.set_up.opened

pub returns-in-Some-clause-remains : goal.returns-in-Some-clause-remains
returns-in-Some-clause-remains g c = remains_asked c.sight.ensures.looks c.requires.set_up.opened

pub returns-in-Err-clause-remains : goal.returns-in-Err-clause-remains
returns-in-Err-clause-remains g c = remains_asked c.sight.ensures.looks c.requires.set_up.opened
