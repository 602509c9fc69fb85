use Rattle.std.proofs.Common.{Err, Ok, arith, length, refl}
use Rattle.std.specs.Prelude.{Result}
use Rattle.labelled_disk.specs.declared.evidence.Halt.{Halt}
use Rattle.filer_kernel.specs.EvidenceLaws.{fits}
use Rattle.flat_machine.specs.Bytes.{AreBytes}
use Rattle.file_manager.specs.Reasons.{WasBelow}
use Rattle.fault_core.specs.declared.reference.Access.{Access}
use Rattle.fault_core.specs.Access.{BreaksFor}
use Rattle.fault_core.specs.Core.{kept, state}
use Rattle.fault_core.specs.Lack.{shown_units}
use Rattle.fault_core.specs.Moves.{client_page}
use Rattle.running_words.specs.MovingLaws.{moves_of_touches}
use Rattle.running_words.proofs.RunningLemmas.{running_laws}
use Rattle.space_calls.specs.FilesLaws.{shown_here, units_on}
use Rattle.space_calls.specs.Sees.{StillOn}
use Rattle.space_calls.proofs.CameLemmas.{store_makes, touched_makes, whole_of, wrote_so}
use Rattle.space_calls.proofs.StoreLemmas.{are_bytes}
use Rattle.pilot_engine.proofs.HomeLemmas.{have_lower}
use Rattle.pilot_engine.proofs.HomeSteps.{still_or_blameless}
use Rattle.pilot_engine.proofs.LabelLemmas.{pages_alone}
use Rattle.pilot_engine.proofs.LiftLemmas.{still_open}
use Rattle.pilot_engine.proofs.ReasonSteps.{moving_keeps, touching_reasons}
use Rattle.pilot_engine.proofs.ReferLemmas.{fails_of, ok_always, store_answered, store_passed}
use Rattle.pilot_engine.proofs.session.Session.store.Goals as goal
use Rattle.filer_kernel.specs.View.{accepted, disk_of, swapper_of}

pub returns-in-Ok : goal.returns-in-Ok
returns-in-Ok g c =
    let old = c.args.self.now.core in
    let new = c.store.new.self in
    let result : Result Access Halt = Ok c.in-Ok.access in
    let did = c.in-Ok.ensures in
    let address = c.args.address in
    let bytes = c.args.bytes.now in
    let whole = whole_of old c.requires.taken.size in
    let moves = moves_of_touches (state old) (state new) client_page did.brings.touches in
    let typed : AreBytes bytes = are_bytes bytes (λ k. let fits = c.type_inv.bytes k in omega (arith, fits)) in
    record {
      machine = λ m r. record {
        carried =
            let p = store_answered whole r address bytes result typed did.stays.intervals did.brings.touches.layout did.comes.access did.moves.stored did.moves.refused did.brings.came did.stays.known in
            record { allowed = p.0; runs = p.1 };
        sound = did.fails.sound r.session.stands.memory r.session.stands.is.named m.spaces (running_laws.known (state old) (kept old) old.intervals c.args.self.now.volume m whole r);
        passes = store_passed whole r (λ d revealed. g.met.D.Disk.in_form (disk_of old.filer) d revealed) address bytes result typed c.requires.count.1 did.moves.stored did.moves.halted did.moves.tested;
        idle = λ ready.
            let two = did.idle ready.0 ready.1 (running_laws.apart (state old) (kept old) old.intervals c.args.self.now.volume m r) in
            (two.0, two.1);
      };
      since = λ o k. record {
        keeps_to = moving_keeps (state old) (state new) result (accepted old.filer) moves o k;
        reasons = touching_reasons (λ v. BreaksFor v old.intervals address (length bytes)) (state old) (state new) result (accepted old.filer) moves did.fails.cause o k;
        sees = λ seen.
            still_or_blameless o old new moves.goes.makes result (ok_always result (StillOn old new) (λ ss s. (ss, (did.stays.sees ss s, shown_here ss)))) (λ s. did.fails.right s.0 s.1)
            (shown_units seen.0 address (length bytes)) (did.fails.missing seen.0 seen.1.0)
            (units_on (WasBelow o (state old).disk) (have_lower o (state old).disk) seen.0 seen.1.1 address (length bytes)) seen;
      };
      refers = record {
        fails = fails_of result (BreaksFor (state old) old.intervals address (length bytes)) (state old) (state new) (fits (swapper_of old.filer) c.requires.taken.size) did.brings.touches.goes.makes did.fails.cause;
        missing = did.fails.missing;
        wrote = wrote_so (store_makes did.brings.touches);
        shown = λ ss s. wrote_so (touched_makes ss address (length bytes) (did.brings.shown ss s));
        unlabelled = pages_alone moves.goes.makes;
        ready = λ done ss. did.comes.ready done;
        few = did.cost;
        stays = record { open_still = still_open _ _ _ _ c.requires.taken.opened did.brings.touches.layout refl; monotone = omega arith; serial = refl; layout = did.brings.touches.layout };
        same_volume = refl;
        goes_on = c.requires.taken.running;
        halted = tt;
      };
    }

pub returns-in-Err : goal.returns-in-Err
returns-in-Err g c =
    let old = c.args.self.now.core in
    let new = c.store.new.self in
    let result : Result Access Halt = Err c.in-Err.halt in
    let did = c.in-Err.ensures in
    let address = c.args.address in
    let bytes = c.args.bytes.now in
    let whole = whole_of old c.requires.taken.size in
    let moves = moves_of_touches (state old) (state new) client_page did.brings.touches in
    let typed : AreBytes bytes = are_bytes bytes (λ k. let fits = c.type_inv.bytes k in omega (arith, fits)) in
    record {
      machine = λ m r. record {
        carried = tt;
        sound = did.fails.sound r.session.stands.memory r.session.stands.is.named m.spaces (running_laws.known (state old) (kept old) old.intervals c.args.self.now.volume m whole r);
        passes = store_passed whole r (λ d revealed. g.met.D.Disk.in_form (disk_of old.filer) d revealed) address bytes result typed c.requires.count.1 did.moves.stored did.moves.halted did.moves.tested;
        idle = λ ready.
            let two = did.idle ready.0 ready.1 (running_laws.apart (state old) (kept old) old.intervals c.args.self.now.volume m r) in
            (two.0, two.1);
      };
      since = λ o k. record {
        keeps_to = moving_keeps (state old) (state new) result (accepted old.filer) moves o k;
        reasons = touching_reasons (λ v. BreaksFor v old.intervals address (length bytes)) (state old) (state new) result (accepted old.filer) moves did.fails.cause o k;
        sees = λ seen.
            still_or_blameless o old new moves.goes.makes result (ok_always result (StillOn old new) (λ ss s. (ss, (did.stays.sees ss s, shown_here ss)))) (λ s. did.fails.right s.0 s.1)
            (shown_units seen.0 address (length bytes)) (did.fails.missing seen.0 seen.1.0)
            (units_on (WasBelow o (state old).disk) (have_lower o (state old).disk) seen.0 seen.1.1 address (length bytes)) seen;
      };
      refers = record {
        fails = fails_of result (BreaksFor (state old) old.intervals address (length bytes)) (state old) (state new) (fits (swapper_of old.filer) c.requires.taken.size) did.brings.touches.goes.makes did.fails.cause;
        missing = did.fails.missing;
        wrote = wrote_so (store_makes did.brings.touches);
        shown = λ ss s. wrote_so (touched_makes ss address (length bytes) (did.brings.shown ss s));
        unlabelled = pages_alone moves.goes.makes;
        ready = tt;
        few = did.cost;
        stays = record { open_still = still_open _ _ _ _ c.requires.taken.opened did.brings.touches.layout refl; monotone = omega arith; serial = refl; layout = did.brings.touches.layout };
        same_volume = refl;
        goes_on = tt;
        halted = refl;
      };
    }
