use Rattle.std.proofs.Common.{Err, Ok, arith, length, refl}
use Rattle.std.specs.Prelude.{Result}
use Rattle.labelled_disk.specs.declared.evidence.Halt.{Halt}
use Rattle.filer_kernel.specs.EvidenceLaws.{fits}
use Rattle.flat_machine.specs.declared.call.Call.TheVariants as call
use Rattle.file_manager.specs.Reasons.{WasBelow}
use Rattle.fault_core.specs.declared.reference.Access.{Access}
use Rattle.fault_core.specs.Access.{BreaksFor}
use Rattle.fault_core.specs.Core.{kept, state}
use Rattle.fault_core.specs.Lack.{shown_units}
use Rattle.running_words.specs.MovingLaws.{moves_of_reaches}
use Rattle.running_words.proofs.RunningLemmas.{running_laws}
use Rattle.space_calls.specs.FilesLaws.{shown_here, units_on}
use Rattle.space_calls.specs.Sees.{StillOn}
use Rattle.space_calls.proofs.CameLemmas.{Came, still_reveals, whole_of, wrote_so}
use Rattle.space_calls.proofs.RunLemmas.{reached_makes}
use Rattle.pilot_engine.proofs.HomeLemmas.{have_lower}
use Rattle.pilot_engine.proofs.HomeSteps.{still_or_blameless}
use Rattle.pilot_engine.proofs.LabelLemmas.{pages_alone}
use Rattle.pilot_engine.proofs.LiftLemmas.{still_open}
use Rattle.pilot_engine.proofs.ReasonSteps.{moving_keeps, touching_reasons}
use Rattle.pilot_engine.proofs.ReferLemmas.{fails_of, load_answered, ok_always}
use Rattle.pilot_engine.proofs.session.Session.load.Goals as goal
use Rattle.filer_kernel.specs.View.{accepted, disk_of, swapper_of}

pub returns-in-Ok : goal.returns-in-Ok
returns-in-Ok g c =
    let old = c.args.self.now.core in
    let new = c.load.new.self in
    let result : Result Access Halt = Ok c.in-Ok.access in
    let did = c.in-Ok.ensures in
    let address = c.args.address in
    let n = length c.args.into.now in
    let whole = whole_of old c.requires.taken.size in
    let moves = moves_of_reaches (state old) (state new) did.brings.reaches in
    let makes = reached_makes did.brings.reaches in
    let came : Came (state old) (state new) (kept old) (kept new) old.intervals new.intervals =
    record { reaches = did.brings.reaches; brings = did.brings.came; known = did.stays.same; same_count = did.stays.intervals } in
    record {
      machine = λ m r. record {
        carried =
            let p = load_answered whole r address n c.load.new.into result did.moves.width came did.comes.access did.moves.bytes in
            record { allowed = p.0; runs = p.1 };
        sound = did.fails.sound r.session.stands.memory r.session.stands.is.named m.spaces (running_laws.known (state old) (kept old) old.intervals c.args.self.now.volume m whole r);
        passes = still_reveals running_laws whole r (state new) (λ d revealed. g.met.D.Disk.in_form (disk_of old.filer) d revealed) (call.Load address n) makes;
        idle = λ ready.
            let two = did.idle ready.0 ready.1 (running_laws.apart (state old) (kept old) old.intervals c.args.self.now.volume m r) in
            (two.0, rw two.1 refl);
      };
      since = λ o k. record {
        keeps_to = moving_keeps (state old) (state new) result (accepted old.filer) moves o k;
        reasons = touching_reasons (λ v. BreaksFor v old.intervals address n) (state old) (state new) result (accepted old.filer) moves did.fails.cause o k;
        sees = λ seen.
            still_or_blameless o old new moves.goes.makes result (ok_always result (StillOn old new) (λ ss s. (ss, (did.stays.sees ss s, shown_here ss)))) (λ s. did.fails.right s.0 s.1)
            (shown_units seen.0 address n) (did.fails.missing seen.0 seen.1.0)
            (units_on (WasBelow o (state old).disk) (have_lower o (state old).disk) seen.0 seen.1.1 address n) seen;
      };
      refers = record {
        fails = fails_of result (BreaksFor (state old) old.intervals address n) (state old) (state new) (fits (swapper_of old.filer) c.requires.taken.size) did.brings.reaches.goes.makes did.fails.cause;
        missing = did.fails.missing;
        wrote = wrote_so makes;
        shown = λ ss s. wrote_so makes;
        unlabelled = pages_alone moves.goes.makes;
        ready = λ done ss. did.comes.ready done;
        few = did.cost;
        stays = record { open_still = still_open _ _ _ _ c.requires.taken.opened did.brings.reaches.layout refl; monotone = omega arith; serial = refl; layout = did.brings.reaches.layout };
        same_volume = refl;
        goes_on = c.requires.taken.running;
        halted = tt;
      };
      width = did.moves.width;
      unmoved = did.moves.refused;
      intact = did.moves.intact;
    }

pub returns-in-Err : goal.returns-in-Err
returns-in-Err g c =
    let old = c.args.self.now.core in
    let new = c.load.new.self in
    let result : Result Access Halt = Err c.in-Err.halt in
    let did = c.in-Err.ensures in
    let address = c.args.address in
    let n = length c.args.into.now in
    let whole = whole_of old c.requires.taken.size in
    let moves = moves_of_reaches (state old) (state new) did.brings.reaches in
    let makes = reached_makes did.brings.reaches in
    let came : Came (state old) (state new) (kept old) (kept new) old.intervals new.intervals =
    record { reaches = did.brings.reaches; brings = did.brings.came; known = did.stays.same; same_count = did.stays.intervals } in
    record {
      machine = λ m r. record {
        carried = tt;
        sound = did.fails.sound r.session.stands.memory r.session.stands.is.named m.spaces (running_laws.known (state old) (kept old) old.intervals c.args.self.now.volume m whole r);
        passes = still_reveals running_laws whole r (state new) (λ d revealed. g.met.D.Disk.in_form (disk_of old.filer) d revealed) (call.Load address n) makes;
        idle = λ ready.
            let two = did.idle ready.0 ready.1 (running_laws.apart (state old) (kept old) old.intervals c.args.self.now.volume m r) in
            (two.0, rw two.1 refl);
      };
      since = λ o k. record {
        keeps_to = moving_keeps (state old) (state new) result (accepted old.filer) moves o k;
        reasons = touching_reasons (λ v. BreaksFor v old.intervals address n) (state old) (state new) result (accepted old.filer) moves did.fails.cause o k;
        sees = λ seen.
            still_or_blameless o old new moves.goes.makes result (ok_always result (StillOn old new) (λ ss s. (ss, (did.stays.sees ss s, shown_here ss)))) (λ s. did.fails.right s.0 s.1)
            (shown_units seen.0 address n) (did.fails.missing seen.0 seen.1.0)
            (units_on (WasBelow o (state old).disk) (have_lower o (state old).disk) seen.0 seen.1.1 address n) seen;
      };
      refers = record {
        fails = fails_of result (BreaksFor (state old) old.intervals address n) (state old) (state new) (fits (swapper_of old.filer) c.requires.taken.size) did.brings.reaches.goes.makes did.fails.cause;
        missing = did.fails.missing;
        wrote = wrote_so makes;
        shown = λ ss s. wrote_so makes;
        unlabelled = pages_alone moves.goes.makes;
        ready = tt;
        few = did.cost;
        stays = record { open_still = still_open _ _ _ _ c.requires.taken.opened did.brings.reaches.layout refl; monotone = omega arith; serial = refl; layout = did.brings.reaches.layout };
        same_volume = refl;
        goes_on = tt;
        halted = refl;
      };
      width = did.moves.width;
      unmoved = did.moves.refused;
      intact = did.moves.intact;
    }
