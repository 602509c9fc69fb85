use Rattle.std.proofs.Common.{rules, ◌≡◌, Option, Some, None, [], sym, ◌∙◌, ap}
use denote.Enum.Bare.{same_true}
use Rattle.labelled_disk.proofs.WriteRunLemmas.{appended_none}
use Rattle.filer_kernel.specs.View.{disk_of}
use Rattle.fault_core.specs.Core.{state}
use Rattle.pilot_top.specs.contracts.turn.End.{the_type}
use Rattle.pilot_top.specs.declared.status.Status.{Status}
use Rattle.pilot_top.specs.declared.turn.End.TheVariants as end
use Rattle.pilot_top.proofs.CloseLemmas.{not_closed}
use Rattle.pilot_top.proofs.EndedLemmas.{left_as, left_writes, same_over, spent_over, went_over}
use Rattle.pilot_top.proofs.SameLemmas.{unset_same}
use Rattle.pilot_top.proofs.ShownLemmas.{none_shown, not_shown, revealed_then}
use Rattle.pilot_top.proofs.closing.end_trace.Goals as goal

-- it failed

pub returns-in-Some-clause-stands : goal.returns-in-Some-clause-stands
returns-in-Some-clause-stands g c =
    let halted : c.args.end ≡ end.Halt = same_true the_type (search rules) _ _ (sym c.if-eq.ensures) in
    λ m is.
    let at = is.session.stands.stands in
    let disk = c.bring.new.disk in
    let revealed = revealed_then [] (state c.args.session.core).disk (g.D.Disk.state disk) (appended_none (same_over g.D.Disk.state _ c.into_disk-disk.ensures c.bring.ensures.same)) at.sectors at.revealed in
    left_as m is (g.met.D.Disk.in_form (disk_of c.args.session.core.filer)) (same_over g.D.Disk.state _ c.into_disk-disk.ensures c.bring.ensures.same) (spent_over g.D.Disk.state (g.D.Disk.state c.bring.new.disk) c.into_disk-disk.ensures c.bring.ensures.transfers) (λ closes. closes.0 halted) (λ damaged.
    not_shown (none_shown (g.D.RunDisk.shown disk) (g.D.Disk.state disk) (g.met.D.RunDisk.unrevealed disk) revealed.0 revealed.1) (c.bring.ensures.changed (c.in-Some.is ∙ ap (λ (s : Status). Some s) damaged)).1)

pub returns-in-Some-clause-writes : goal.returns-in-Some-clause-writes
returns-in-Some-clause-writes g c = left_writes c.args.session.volume.root (state c.args.session.core).slots (same_over g.D.Disk.state _ c.into_disk-disk.ensures c.bring.ensures.same) (went_over g.D.Disk.state _ c.into_disk-disk.ensures c.bring.ensures.went)

pub returns-in-Some-clause-left_open : goal.returns-in-Some-clause-left_open
returns-in-Some-clause-left_open g c unset damaged = unset_same (same_over g.D.Disk.state _ c.into_disk-disk.ensures c.bring.ensures.same) unset

-- the line `halt` is answered

pub returns-in-Ok-clause-stands : goal.returns-in-Ok-clause-stands
returns-in-Ok-clause-stands g c =
    let halted : c.args.end ≡ end.Halt = same_true the_type (search rules) _ _ (sym c.if-eq.ensures) in
    λ m is. left_as m is (g.met.D.Disk.in_form (disk_of c.args.session.core.filer)) (same_over g.D.Disk.state _ c.into_disk-disk.ensures c.bring.ensures.same) (spent_over g.D.Disk.state (g.D.Disk.state c.bring.new.disk) c.into_disk-disk.ensures c.bring.ensures.transfers) (λ closes. closes.0 halted) (λ damaged. cc damaged)

pub returns-in-Ok-clause-writes : goal.returns-in-Ok-clause-writes
returns-in-Ok-clause-writes g c = left_writes c.args.session.volume.root (state c.args.session.core).slots (same_over g.D.Disk.state _ c.into_disk-disk.ensures c.bring.ensures.same) (went_over g.D.Disk.state _ c.into_disk-disk.ensures c.bring.ensures.went)

pub returns-in-Err-clause-stands : goal.returns-in-Err-clause-stands
returns-in-Err-clause-stands g c =
    let halted : c.args.end ≡ end.Halt = same_true the_type (search rules) _ _ (sym c.if-eq.ensures) in
    λ m is. left_as m is (g.met.D.Disk.in_form (disk_of c.args.session.core.filer)) (same_over g.D.Disk.state _ c.into_disk-disk.ensures c.bring.ensures.same) (spent_over g.D.Disk.state (g.D.Disk.state c.bring.new.disk) c.into_disk-disk.ensures c.bring.ensures.transfers) (λ closes. closes.0 halted) (λ damaged. cc damaged)

pub returns-in-Err-clause-writes : goal.returns-in-Err-clause-writes
returns-in-Err-clause-writes g c = left_writes c.args.session.volume.root (state c.args.session.core).slots (same_over g.D.Disk.state _ c.into_disk-disk.ensures c.bring.ensures.same) (went_over g.D.Disk.state _ c.into_disk-disk.ensures c.bring.ensures.went)

-- the session was ended, or halted

pub returns-in-Some-stopped-clause-stands : goal.returns-in-Some-stopped-clause-stands
returns-in-Some-stopped-clause-stands g c = λ m is.
    let e = c.close_run-stopped.ensures.stands m is in
    record {
      closed = λ closes. absurd (not_closed c.close_run-stopped.result.0 c.in-Some-stopped.status c.in-Some-stopped.is c.close_run-stopped.ensures.stops.ends closes.1);
      stops = e.stops;
      sound = λ damaged. e.sound (c.in-Some-stopped.is ∙ ap (λ (s : Status). Some s) damaged);
      cost = e.cost;
      syncs = e.syncs;
    }

pub returns-in-Some-stopped-clause-left_open : goal.returns-in-Some-stopped-clause-left_open
returns-in-Some-stopped-clause-left_open g c unset damaged = c.close_run-stopped.ensures.stops.left_open unset (c.in-Some-stopped.is ∙ ap (λ (s : Status). Some s) damaged)

pub returns-then-is_err-clause-stands : goal.returns-then-is_err-clause-stands
returns-then-is_err-clause-stands g c =
    let none : ◌≡◌ {A = Option Status} c.close_run-stopped.result.0 None = search rules in
    λ m is.
    let e = c.close_run-stopped.ensures.stands m is in
    record { closed = λ closes. e.closed none; stops = e.stops; sound = λ damaged. cc damaged; cost = e.cost; syncs = e.syncs }

pub returns-clause-stands : goal.returns-clause-stands
returns-clause-stands g c =
    let none : ◌≡◌ {A = Option Status} c.close_run-stopped.result.0 None = search rules in
    λ m is.
    let e = c.close_run-stopped.ensures.stands m is in
    record { closed = λ closes. e.closed none; stops = e.stops; sound = λ damaged. cc damaged; cost = e.cost; syncs = e.syncs }
