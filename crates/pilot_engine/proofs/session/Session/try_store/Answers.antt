use Rattle.std.proofs.Common.{◌≡◌, ◌≤◌, Ok, Err, length, refl, sym, subst, arith}
use Rattle.std.specs.Prelude.{Result}
use Rattle.std.proofs.lemmas.Bool.{true≢false}
use Rattle.labelled_disk.specs.declared.evidence.Halt.{Halt}
use Rattle.filer_kernel.specs.EvidenceLaws.{fits}
use Rattle.flat_machine.specs.declared.call.Call.TheVariants as call
use Rattle.flat_machine.specs.declared.call.Reply.TheVariants as reply
use Rattle.swapper_kernel.specs.Goes.{no_page}
use Rattle.flat_machine.specs.Bytes.{AreBytes}
use Rattle.fault_core.specs.declared.attempt.Attempt.{Attempt}
use Rattle.fault_core.specs.Access.{BreaksFor}
use Rattle.fault_core.specs.Moves.{client_page}
use Rattle.fault_core.specs.Attempt.{IsPresent}
use Rattle.fault_core.specs.Core.{kept, state}
use Rattle.fault_core.specs.Reach.{ReachHalts}
use Rattle.running_words.specs.Running.{Runs}
use Rattle.running_words.proofs.RunningLemmas.{running_laws}
use Rattle.space_calls.specs.FilesLaws.{shown_here}
use Rattle.space_calls.specs.Sees.{StillOn}
use Rattle.pilot_engine.specs.Trying.{tried_as}
use Rattle.pilot_engine.proofs.HomeSteps.{none_or_blameless}
use Rattle.pilot_engine.proofs.LackLemmas.{fails_missing_page}
use Rattle.pilot_engine.proofs.LiftLemmas.{still_open}
use Rattle.pilot_engine.proofs.ReasonSteps.{moving_ahead, reaching_reasons}
use Rattle.pilot_engine.proofs.ReferLemmas.{ok_always}
use Rattle.pilot_engine.proofs.SpaceMisses.{reached_misses}
use Rattle.running_words.specs.MovingLaws.{moves_of_touches}
use Rattle.space_calls.proofs.CameLemmas.{store_makes, whole_of, wrote_so}
use Rattle.space_calls.proofs.StoreLemmas.{are_bytes}
use Rattle.flight_core.specs.declared.stepped.Tried.{Tried}
use Rattle.flight_core.specs.Tried.{ComesBy, IsTried, MayBeTried, after_tried}
use Rattle.pilot_engine.proofs.TryLemmas.{quiet_tried, store_tried, store_tried_passes}
use Rattle.pilot_engine.proofs.TriedLemmas.{fails_reached, labels_quiet, store_may_be}
use Rattle.pilot_engine.proofs.BoundLemmas.{asked_inside}
use Rattle.pilot_engine.proofs.session.Session.try_store.Goals as goal
use Rattle.filer_kernel.specs.View.{accepted, disk_of, swapper_of}

pub returns-in-Ok : goal.returns-in-Ok
returns-in-Ok g c =
    let old = c.args.self.now.core in
    let new = c.try_store.new.self in
    let did = c.in-Ok.ensures in
    let bytes = c.args.bytes.now in
    let n = length bytes in
    let whole = whole_of old c.requires.set_up.size in
    let few : n ≤ 512 = omega (arith, c.requires.few) in
    let moves = moves_of_touches (state old) (state new) client_page did.brings.touches in
    let typed : AreBytes bytes = are_bytes bytes (λ k. let fits = c.type_inv.bytes k in omega (arith, fits)) in
    let attempted : Result Attempt Halt = Ok c.in-Ok.attempt in
    let outcome : Result Tried Halt = Ok c.outcome.result in
    let is : c.outcome.result ≡ tried_as reply.Done c.in-Ok.attempt = c.outcome.ensures in
    record {
      machine = λ m r. record {
        tried = subst (λ (t : Tried). IsTried m (call.Store c.args.address bytes) t (λ k. Runs new c.args.self.now.volume k) (λ k page. IsPresent k.spaces (state new).slots page)) (sym is)
            (store_tried whole r c.args.address bytes c.in-Ok.attempt typed did.stays.intervals did.brings.touches.layout did.brings.came did.comes.access did.comes.absent did.comes.present did.moves.stored (λ other. did.moves.unmoved (λ same. other (cc same))) did.stays.known);
        quiet = subst (λ (t : Tried). ComesBy m (call.Store c.args.address bytes) (λ page. IsPresent m.spaces (state old).slots page) (λ page. IsPresent (after_tried m (call.Store c.args.address bytes) t).spaces (state new).slots page)) (sym is)
            (quiet_tried r (state new).slots did.brings.came (call.Store c.args.address bytes) refl reply.Done c.in-Ok.attempt);
        sound = tt;
        passes = store_tried_passes whole r (λ d revealed. g.met.D.Disk.in_form (disk_of old.filer) d revealed) c.args.address bytes attempted typed few did.comes.access did.moves.stored did.moves.unmoved;
        came = did.brings.came;
        advised = λ quiet free. absurd (true≢false quiet);
        forced = λ one free. absurd (true≢false (sym one));
        cost = asked_inside (state old).disk (state new).disk 392 (omega arith) did.cost;
      };
      accounts = λ o k up. record {
        keeps_to = moving_ahead (state old) (state new) outcome (accepted old.filer) moves o c.args.self.now.volume.root k up;
        reasons = reaching_reasons (λ v. BreaksFor v old.intervals c.args.address n) (state old) (state new) outcome (accepted old.filer) moves tt o k;
        sees = λ seen.
            none_or_blameless o old new moves.goes.makes outcome (ok_always outcome (StillOn old new) (λ ss s. (ss, (did.stays.sees ss s, shown_here ss)))) (λ s. did.fails.right s.0 s.1)
            (fails_missing_page (λ v w e. ReachHalts (BreaksFor v old.intervals c.args.address n) v w e) no_page (reached_misses (λ v. BreaksFor v old.intervals c.args.address n) no_page) (state old) (state new) outcome tt) seen;
      };
      tries = record {
        absent = subst (λ (t : Tried). MayBeTried (call.Store c.args.address bytes) t) (sym is) (store_may_be c.args.address bytes reply.Done c.in-Ok.attempt);
        fails = tt;
        wrote = wrote_so (store_makes did.brings.touches);
        few = λ one. did.cost;
        room = λ one. did.brings.room;
        stay = λ one. did.brings.stay;
        stays = record { open_still = still_open _ _ _ _ c.requires.set_up.opened did.brings.touches.layout refl; monotone = omega arith; serial = refl; layout = did.brings.touches.layout };
      };
      labels = labels_quiet (call.Store c.args.address bytes) c.args.self.now (record c.args.self.now { core = new }) outcome refl moves.goes.makes;
      running = refl;
    }

pub returns-in-Err : goal.returns-in-Err
returns-in-Err g c =
    let old = c.args.self.now.core in
    let new = c.try_store.new.self in
    let did = c.in-Err.ensures in
    let bytes = c.args.bytes.now in
    let n = length bytes in
    let whole = whole_of old c.requires.set_up.size in
    let few : n ≤ 512 = omega (arith, c.requires.few) in
    let moves = moves_of_touches (state old) (state new) client_page did.brings.touches in
    let typed : AreBytes bytes = are_bytes bytes (λ k. let fits = c.type_inv.bytes k in omega (arith, fits)) in
    let attempted : Result Attempt Halt = Err c.in-Err.halt in
    let outcome : Result Tried Halt = Err c.in-Err.halt in
    let cause = did.fails.cause in
    record {
      machine = λ m r. record {
        tried = tt;
        quiet = tt;
        sound = did.fails.sound r.session.stands.memory r.session.stands.is.named m.spaces (running_laws.known (state old) (kept old) old.intervals c.args.self.now.volume m whole r);
        passes = store_tried_passes whole r (λ d revealed. g.met.D.Disk.in_form (disk_of old.filer) d revealed) c.args.address bytes attempted typed few did.comes.access did.moves.stored did.moves.unmoved;
        came = tt;
        advised = λ quiet free. absurd (true≢false quiet);
        forced = λ one free. absurd (true≢false (sym one));
        cost = asked_inside (state old).disk (state new).disk 392 (omega arith) did.cost;
      };
      accounts = λ o k up. record {
        keeps_to = moving_ahead (state old) (state new) outcome (accepted old.filer) moves o c.args.self.now.volume.root k up;
        reasons = reaching_reasons (λ v. BreaksFor v old.intervals c.args.address n) (state old) (state new) outcome (accepted old.filer) moves cause o k;
        sees = λ seen.
            none_or_blameless o old new moves.goes.makes outcome (ok_always outcome (StillOn old new) (λ ss s. (ss, (did.stays.sees ss s, shown_here ss)))) (λ s. did.fails.right s.0 s.1)
            (fails_missing_page (λ v w e. ReachHalts (BreaksFor v old.intervals c.args.address n) v w e) no_page (reached_misses (λ v. BreaksFor v old.intervals c.args.address n) no_page) (state old) (state new) outcome cause) seen;
      };
      tries = record {
        absent = tt;
        fails = fails_reached (BreaksFor (state old) old.intervals c.args.address n) (state old) (state new) (fits (swapper_of old.filer) c.requires.set_up.size) did.brings.touches.goes.makes c.in-Err.halt cause;
        wrote = wrote_so (store_makes did.brings.touches);
        few = λ one. did.cost;
        room = λ one. did.brings.room;
        stay = λ one. did.brings.stay;
        stays = record { open_still = still_open _ _ _ _ c.requires.set_up.opened did.brings.touches.layout refl; monotone = omega arith; serial = refl; layout = did.brings.touches.layout };
      };
      labels = labels_quiet (call.Store c.args.address bytes) c.args.self.now (record c.args.self.now { core = new }) outcome refl moves.goes.makes;
      running = refl;
    }
