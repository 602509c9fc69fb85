use Rattle.std.proofs.Common.{refl, sym, subst, arith}
use Rattle.std.specs.Prelude.{Result}
use Rattle.std.proofs.lemmas.Bool.{true≢false}
use Rattle.labelled_disk.specs.declared.evidence.Halt.{Halt}
use Rattle.filer_kernel.specs.View.{accepted}
use Rattle.flat_machine.specs.declared.call.Call.TheVariants as call
use Rattle.swapper_kernel.specs.Goes.{no_page}
use Rattle.file_manager.specs.Creating.{next_id}
use Rattle.file_manager.specs.Reasons.{giving}
use Rattle.fault_core.specs.Core.{state}
use Rattle.fault_core.specs.Reach.{ReachHalts}
use Rattle.flight_core.specs.declared.stepped.Tried.{Tried}
use Rattle.space_calls.specs.Ranges.{BreaksRange}
use Rattle.pilot_engine.specs.Calls.{Accounts}
use Rattle.pilot_engine.specs.Trying.{Tries, TriesIn}
use Rattle.pilot_engine.proofs.HomeSteps.{none_or_blameless}
use Rattle.pilot_engine.proofs.LackLemmas.{fails_missing_page}
use Rattle.pilot_engine.proofs.LiftLemmas.{still_open}
use Rattle.pilot_engine.proofs.ReasonSteps.{moving_ahead, reaching_reasons}
use Rattle.pilot_engine.proofs.ReferLemmas.{ok_always}
use Rattle.pilot_engine.proofs.SpaceMisses.{range_misses}
use Rattle.pilot_engine.proofs.TriedLemmas.{labels_quiet, replied_accounts, replied_fails, replied_in, reply_tried}
use Rattle.pilot_engine.proofs.BoundLemmas.{asked_inside}
use Rattle.space_calls.specs.OutcomesLaws.{halted}
use Rattle.pilot_engine.proofs.session.Session.look_up.Goals as goal

pub returns : goal.returns
returns g c =
    let old = c.args.self.now.core in
    let new = c.try_activate.new.core in
    let later = record c.args.self.now { core = new } in
    let did = c.try_activate.ensures in
    let r = c.try_activate.result in
    let space = c.args.space in
    record {
      machine = λ m runs.
          let a = did.answers c.args.self.now.volume m runs in
          subst (λ (t : Result Tried Halt). TriesIn m (call.Activate space) c.args.self.now t later) (sym c.replied.ensures)
          (replied_in m (call.Activate space) c.args.self.now later r refl refl runs a.carried a.sound a.passes (ok_always r _ did.went.came) (λ quiet. absurd (true≢false quiet)) (λ one. absurd (true≢false (sym one)))
          (asked_inside (state old).disk (state new).disk 28 (omega arith) did.cost));
      accounts = λ o k up.
          subst (λ (t : Result Tried Halt). Accounts o (giving o (next_id c.args.self.now.volume.root)) c.args.self.now later t) (sym c.replied.ensures)
          (replied_accounts o (giving o (next_id c.args.self.now.volume.root)) c.args.self.now later r (record {
            keeps_to = moving_ahead (state old) (state new) r (accepted old.filer) did.went.moves o c.args.self.now.volume.root k up;
            reasons = reaching_reasons (λ v. BreaksRange v old.intervals space) (state old) (state new) r (accepted old.filer) did.went.moves did.fails.cause o k;
            sees = λ seen.
                none_or_blameless o old new did.went.moves.goes.makes r did.sees did.fails.right
                (fails_missing_page (λ v w e. ReachHalts (BreaksRange v old.intervals space) v w e) no_page (range_misses space old.intervals no_page) (state old) (state new) r did.fails.cause) seen;
          }));
      tries = subst (λ (t : Result Tried Halt). Tries (call.Activate space) c.args.self.now t later) (sym c.replied.ensures) (record {
        absent = reply_tried (call.Activate space) r;
        fails = replied_fails r _ (halted did.fails);
        wrote = did.went.wrote;
        few = λ one. absurd (true≢false (sym one));
        room = λ one. absurd (true≢false (sym one));
        stay = λ one. absurd (true≢false (sym one));
        stays = record { open_still = still_open _ _ _ _ c.requires.set_up.opened did.went.moves.layout refl; monotone = omega arith; serial = refl; layout = did.went.moves.layout };
      });
      labels = labels_quiet (call.Activate space) c.args.self.now later c.replied.result refl did.went.moves.goes.makes;
      running = refl;
    }
