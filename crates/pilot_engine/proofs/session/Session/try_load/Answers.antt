use Rattle.std.proofs.Common.{◌≡◌, ℕ, Ok, Err, length, refl, sym, ◌∙◌, subst, rules, arith}
use Rattle.std.specs.Prelude.{Result}
use Rattle.std.proofs.lemmas.Bool.{true≢false}
use Rattle.labelled_disk.specs.declared.evidence.Halt.{Halt}
use Rattle.filer_kernel.specs.EvidenceLaws.{fits}
use Rattle.flat_machine.specs.declared.call.Call.TheVariants as call
use Rattle.flat_machine.specs.declared.call.Reply.TheVariants as reply
use Rattle.swapper_kernel.specs.Goes.{no_page}
use Rattle.fault_core.specs.Access.{BreaksFor}
use Rattle.fault_core.specs.Attempt.{IsPresent}
use Rattle.fault_core.specs.Core.{kept, state}
use Rattle.fault_core.specs.Reach.{ReachHalts}
use Rattle.fault_core.proofs.YieldLemmas.{pages_yield}
use Rattle.running_words.specs.Running.{Runs}
use Rattle.running_words.proofs.RunningLemmas.{running_laws}
use Rattle.space_calls.specs.FilesLaws.{shown_here}
use Rattle.space_calls.specs.Sees.{StillOn}
use Rattle.pilot_engine.specs.Trying.{tried_as}
use Rattle.pilot_engine.proofs.HomeSteps.{none_or_blameless}
use Rattle.pilot_engine.proofs.LackLemmas.{fails_missing_page}
use Rattle.pilot_engine.proofs.LiftLemmas.{still_open}
use Rattle.pilot_engine.proofs.ReasonSteps.{moving_ahead, reaching_reasons}
use Rattle.pilot_engine.proofs.ReferLemmas.{ok_always}
use Rattle.pilot_engine.proofs.SpaceMisses.{reached_misses}
use Rattle.running_words.specs.MovingLaws.{moves_of_reaches}
use Rattle.space_calls.proofs.CameLemmas.{came_own, still_reveals, whole_of, wrote_so}
use Rattle.space_calls.proofs.RunLemmas.{reached_makes}
use Rattle.flight_core.specs.declared.stepped.Tried.{Tried}
use Rattle.flight_core.specs.Tried.{IsTried}
use Rattle.pilot_engine.proofs.TryLemmas.{load_tried, quiet_tried}
use Rattle.pilot_engine.proofs.TriedLemmas.{fails_reached, labels_quiet, load_may_be}
use Rattle.pilot_engine.proofs.BoundLemmas.{asked_inside}
use Rattle.pilot_engine.proofs.session.Session.try_load.Goals as goal
use Rattle.filer_kernel.specs.View.{accepted, disk_of, swapper_of}

pub returns-in-Ok : goal.returns-in-Ok
returns-in-Ok g c =
    let old = c.args.self.now.core in
    let new = c.try_load.new.self in
    let did = c.in-Ok.ensures in
    let n = c.args.count in
    let long : length c.try_load.new.into ≡ n = search rules in
    let same = sym did.moves.width ∙ long in
    let whole = whole_of old c.requires.set_up.size in
    let moves = moves_of_reaches (state old) (state new) did.brings.reaches in
    let makes = reached_makes did.brings.reaches in
    let came_to = tried_as (reply.Bytes c.try_load.new.into) c.in-Ok.attempt in
    let outcome : Result Tried Halt = Ok came_to in
    let is : c.loaded.result ≡ outcome = c.loaded.ensures in
    record {
      machine = λ m r. rw is (record {
        tried = subst (λ (k : ℕ). IsTried m (call.Load c.args.address k) (tried_as (reply.Bytes c.try_load.new.into) c.in-Ok.attempt) (λ k. Runs new c.args.self.now.volume k) (λ k page. IsPresent k.spaces (state new).slots page)) same
            (load_tried whole r c.args.address _ c.try_load.new.into c.in-Ok.attempt did.moves.width (came_own did.brings.reaches did.brings.came did.stays.same did.stays.intervals) did.comes.access did.comes.absent did.comes.present did.moves.bytes);
        quiet = quiet_tried r (state new).slots did.brings.came (call.Load c.args.address n) refl (reply.Bytes c.try_load.new.into) c.in-Ok.attempt;
        sound = tt;
        passes = still_reveals running_laws whole r (state new) (λ d revealed. g.met.D.Disk.in_form (disk_of old.filer) d revealed) (call.Load c.args.address n) makes;
        came = did.brings.came;
        advised = λ quiet free. absurd (true≢false quiet);
        forced = λ one free. absurd (true≢false (sym one));
        cost = asked_inside (state old).disk (state new).disk 392 (omega arith) did.cost;
      });
      accounts = λ o k up. rw is (record {
        keeps_to = moving_ahead (state old) (state new) outcome (accepted old.filer) moves o c.args.self.now.volume.root k up;
        reasons = reaching_reasons (λ v. BreaksFor v old.intervals c.args.address n) (state old) (state new) outcome (accepted old.filer) moves tt o k;
        sees = λ seen.
            none_or_blameless o old new moves.goes.makes outcome (ok_always outcome (StillOn old new) (λ ss s. (ss, (did.stays.sees ss s, shown_here ss)))) (λ s. did.fails.right s.0 s.1)
            (fails_missing_page (λ v w e. ReachHalts (BreaksFor v old.intervals c.args.address n) v w e) no_page (reached_misses (λ v. BreaksFor v old.intervals c.args.address n) no_page) (state old) (state new) outcome tt) seen;
      });
      tries = rw is (record {
        absent = load_may_be c.args.address n (reply.Bytes c.try_load.new.into) c.in-Ok.attempt;
        fails = tt;
        wrote = wrote_so makes;
        few = λ one. did.cost;
        room = λ one. did.brings.room;
        stay = λ one. pages_yield did.brings.stay;
        stays = record { open_still = still_open _ _ _ _ c.requires.set_up.opened did.brings.reaches.layout refl; monotone = omega arith; serial = refl; layout = did.brings.reaches.layout };
      });
      labels = labels_quiet (call.Load c.args.address n) c.args.self.now (record c.args.self.now { core = new }) c.loaded.result refl moves.goes.makes;
      running = refl;
    }

pub returns-in-Err : goal.returns-in-Err
returns-in-Err g c =
    let old = c.args.self.now.core in
    let new = c.try_load.new.self in
    let did = c.in-Err.ensures in
    let n = c.args.count in
    let long : length c.try_load.new.into ≡ n = search rules in
    let same = sym did.moves.width ∙ long in
    let whole = whole_of old c.requires.set_up.size in
    let moves = moves_of_reaches (state old) (state new) did.brings.reaches in
    let makes = reached_makes did.brings.reaches in
    let outcome : Result Tried Halt = Err c.in-Err.halt in
    let cause = subst (λ (k : ℕ). ReachHalts (BreaksFor (state old) old.intervals c.args.address k) (state old) (state new) c.in-Err.halt) same did.fails.cause in
    record {
      machine = λ m r. record {
        tried = tt;
        quiet = tt;
        sound = did.fails.sound r.session.stands.memory r.session.stands.is.named m.spaces (running_laws.known (state old) (kept old) old.intervals c.args.self.now.volume m whole r);
        passes = still_reveals running_laws whole r (state new) (λ d revealed. g.met.D.Disk.in_form (disk_of old.filer) d revealed) (call.Load c.args.address n) makes;
        came = tt;
        advised = λ quiet free. absurd (true≢false quiet);
        forced = λ one free. absurd (true≢false (sym one));
        cost = asked_inside (state old).disk (state new).disk 392 (omega arith) did.cost;
      };
      accounts = λ o k up. record {
        keeps_to = moving_ahead (state old) (state new) outcome (accepted old.filer) moves o c.args.self.now.volume.root k up;
        reasons = reaching_reasons (λ v. BreaksFor v old.intervals c.args.address n) (state old) (state new) outcome (accepted old.filer) moves cause o k;
        sees = λ seen.
            none_or_blameless o old new moves.goes.makes outcome (ok_always outcome (StillOn old new) (λ ss s. (ss, (did.stays.sees ss s, shown_here ss)))) (λ s. did.fails.right s.0 s.1)
            (fails_missing_page (λ v w e. ReachHalts (BreaksFor v old.intervals c.args.address n) v w e) no_page (reached_misses (λ v. BreaksFor v old.intervals c.args.address n) no_page) (state old) (state new) outcome cause) seen;
      };
      tries = record {
        absent = tt;
        fails = fails_reached (BreaksFor (state old) old.intervals c.args.address n) (state old) (state new) (fits (swapper_of old.filer) c.requires.set_up.size) did.brings.reaches.goes.makes c.in-Err.halt cause;
        wrote = wrote_so makes;
        few = λ one. did.cost;
        room = λ one. did.brings.room;
        stay = λ one. pages_yield did.brings.stay;
        stays = record { open_still = still_open _ _ _ _ c.requires.set_up.opened did.brings.reaches.layout refl; monotone = omega arith; serial = refl; layout = did.brings.reaches.layout };
      };
      labels = labels_quiet (call.Load c.args.address n) c.args.self.now (record c.args.self.now { core = new }) outcome refl moves.goes.makes;
      running = refl;
    }
