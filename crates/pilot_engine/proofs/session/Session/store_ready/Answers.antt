use Rattle.std.proofs.Common.{◌≡◌, ◌∙◌, ℕ, List, Ok, arith, ap, length, refl, sym, subst}
use Rattle.std.specs.Prelude.{Result}
use Rattle.labelled_disk.specs.declared.evidence.Halt.{Halt}
use Rattle.labelled_disk.specs.declared.layout.Layout.{Layout}
use Rattle.labelled_disk.specs.State.{DiskState}
use Rattle.flat_machine.specs.Bytes.{AreBytes}
use Rattle.flat_machine.specs.declared.space.Space.{Space}
use Rattle.swap_units.specs.declared.interval.Interval.{Interval}
use Rattle.fault_core.specs.Core.{kept, state}
use Rattle.fault_core.specs.Lack.{Sees}
use Rattle.fault_core.specs.Moves.{client_page}
use Rattle.fault_core.proofs.StoreReadyLemmas.{row_sees, row_touches}
use Rattle.running_words.specs.MovingLaws.{moves_of_touches}
use Rattle.running_words.specs.Running.{IsRunning}
use Rattle.running_words.proofs.RunningLemmas.{running_laws}
use Rattle.space_calls.specs.FilesLaws.{shown_here}
use Rattle.space_calls.specs.Sees.{StillOn}
use Rattle.space_calls.proofs.CameLemmas.{store_makes, whole_of, wrote_so}
use Rattle.space_calls.proofs.StoreLemmas.{are_bytes}
use Rattle.pilot_engine.proofs.HomeSteps.{none_or_blameless}
use Rattle.pilot_engine.proofs.LiftLemmas.{still_open}
use Rattle.pilot_engine.proofs.ReasonSteps.{moving_keeps}
use Rattle.pilot_engine.proofs.ReferLemmas.{ok_always}
use Rattle.pilot_engine.proofs.StoreReadyLemmas.{bytes_take, row_runs, row_some, settled_still}
use Rattle.pilot_engine.proofs.session.Session.store_ready.Goals as goal
use Rattle.filer_kernel.specs.View.{accepted, disk_of}

pub returns-clause-machine : goal.returns-clause-machine
returns-clause-machine g c = λ m r.
    let old = c.args.self.now.core in
    let new = c.store_ready.new.self in
    let volume = c.args.self.now.volume in
    let bytes = c.args.bytes.now in
    let did = c.store_ready.ensures.stored in
    let typed : AreBytes bytes = are_bytes bytes (λ k. let fits = c.type_inv.bytes k in omega (arith, fits)) in
    let to =
    row_runs (kept old) old.intervals volume did.pieces c.args.address (state old) (state new) m (whole_of old c.requires.taken.size) r
    (subst (λ (l : List ℕ). AreBytes l) (sym did.whole) (bytes_take c.store_ready.result bytes typed)) did.changed in
    record {
      pieces = did.pieces;
      some = row_some (kept old) did.pieces c.args.address (state old) (state new) did.changed;
      whole = did.whole;
      after = to.0;
      lead = to.1;
      runs =
          subst (λ (n : ℕ). IsRunning (state new) (kept new) n volume to.0) (sym c.store_ready.ensures.intervals)
          (subst (λ (k : List Interval). IsRunning (state new) k old.intervals volume to.0) (sym c.store_ready.ensures.kept) to.2);
      settled = settled_still r (λ d revealed. g.met.D.Disk.in_form (disk_of old.filer) d revealed) (state new).disk c.store_ready.ensures.disk;
    }

pub returns-clause-since : goal.returns-clause-since
returns-clause-since g c = λ o k.
    let old = c.args.self.now.core in
    let new = c.store_ready.new.self in
    let did = c.store_ready.ensures.stored in
    let result : Result ℕ Halt = Ok c.store_ready.result in
    let touches = row_touches (kept old) did.pieces c.args.address (state old) (state new) (accepted old.filer) did.changed in
    let moves = moves_of_touches (state old) (state new) client_page touches in
    let sees : (ss : List Space) → Sees (state old) (kept old) old.intervals ss → Sees (state new) (kept new) new.intervals ss =
    λ ss s.
    subst (λ (n : ℕ). Sees (state new) (kept new) n ss) (sym c.store_ready.ensures.intervals)
    (subst (λ (k : List Interval). Sees (state new) k old.intervals ss) (sym c.store_ready.ensures.kept)
    (row_sees (kept old) did.pieces c.args.address (state old) (state new) did.changed s)) in
    record {
      keeps_to = moving_keeps (state old) (state new) result (accepted old.filer) moves o k;
      reasons = tt;
      sees = λ seen. none_or_blameless o old new moves.goes.makes result (ok_always result (StillOn old new) (λ ss s. (ss, (sees ss s, shown_here ss)))) (λ s. tt) tt seen;
    }

pub returns-clause-stays : goal.returns-clause-stays
returns-clause-stays g c =
    let old = c.args.self.now.core in
    let new = c.store_ready.new.self in
    let did = c.store_ready.ensures.stored in
    let taken = c.requires.taken in
    let touches = row_touches (kept old) did.pieces c.args.address (state old) (state new) (accepted old.filer) did.changed in
    let opened = still_open _ _ _ _ taken.opened touches.layout refl in
    record {
      disk = c.store_ready.ensures.disk;
      wrote = wrote_so (store_makes touches);
      stays = record { open_still = opened; monotone = omega arith; serial = refl; layout = touches.layout };
      same_volume = refl;
      taken = record {
        size = ap (λ (d : DiskState). d.sectors) c.store_ready.ensures.disk ∙ taken.size ∙ ap (λ (l : Layout). l.sectors) (sym touches.layout);
        opened = opened;
        running = taken.running;
      };
    }

pub returns-clause-left : goal.returns-clause-left
returns-clause-left g c = λ none. rw (c.store_ready.ensures.left none) refl

pub returns-clause-first : goal.returns-clause-first
returns-clause-first g c = λ m slot r hand.
    let core = c.args.self.now.core in
    c.store_ready.ensures.first slot hand (running_laws.apart (state core) (kept core) core.intervals c.args.self.now.volume m r)
