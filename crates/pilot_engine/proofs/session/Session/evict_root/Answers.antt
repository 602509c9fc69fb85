use Rattle.std.proofs.Common.{refl, length, subst, sym}
use Rattle.labelled_disk.specs.declared.layout.Layout.{Layout}
use Rattle.fault_core.specs.Core.{kept, state}
use Rattle.running_words.specs.RunningLaws.{IsWhole}
use Rattle.running_words.specs.Session.{IsOpen}
use Rattle.running_words.proofs.RunningLemmas.{running_laws}
use Rattle.pilot_engine.proofs.AloneLemmas.{evict_alone, own_makes, revealed_there}
use Rattle.pilot_engine.proofs.EndCosts.{gone_cost}
use Rattle.pilot_engine.proofs.StopLemmas.{stops_quiet}
use Rattle.pilot_engine.proofs.WroteLemmas.{wrote_by}
use Rattle.running_words.specs.Running.{exactly}
use Rattle.filer_kernel.specs.EvidenceLaws.{fits}
use Rattle.fault_core.proofs.EvidenceLemmas.{shows_evidence}
use Rattle.running_words.specs.MovingLaws.{keeps_moved, moves_of_reaches, reach_reasons}
use Rattle.flat_machine.specs.Space.{root_pages}
use Rattle.fault_core.specs.Kill.{BreaksWithin}
use Rattle.fault_core.specs.ReachLaws.{reach_misses}
use Rattle.pilot_engine.proofs.HomeLemmas.{file_pages, files_later}
use Rattle.pilot_engine.proofs.WritingLemmas.{clears_none}
use Rattle.pilot_engine.specs.Halting.{EvictHalts}
use Rattle.pilot_engine.proofs.session.Session.evict_root.Goals as goal
use Rattle.filer_kernel.specs.View.{accepted, disk_of, swapper_of}

pub returns-in-Ok-clause-ends : goal.returns-in-Ok-clause-ends
returns-in-Ok-clause-ends g c = λ m r.
    let old = c.args.self.now.core in
    let new = c.evict.new.self in
    let whole : IsWhole (state old) = record { layout = (accepted old.filer); size = c.requires.set_up.size } in
    let revealed = revealed_there running_laws (state old) (state new) (kept old) (kept new) old.intervals new.intervals c.args.self.now.volume m whole r in
    let x = r.session.stands.memory in
    let named = r.session.stands.is.named in
    record {
      gives = (evict_alone running_laws (state old) (state new) (kept old) (kept new) old.intervals new.intervals c.args.self.now.volume m whole r c.evict.ensures.brings.reaches c.evict.ensures.brings.came c.evict.ensures.stays.intervals
          (c.evict.ensures.stays.same x named m.spaces revealed) (c.in-Ok.ensures.gone x named m.spaces revealed));
      sound = tt;
      stops = stops_quiet (exactly r.pages m.spaces) _ _ _ _ m r.session.stands (g.met.D.Disk.in_form (disk_of c.args.self.now.core.filer)) (own_makes c.evict.ensures.brings.reaches.goes.makes);
    }

pub returns-in-Err-clause-ends : goal.returns-in-Err-clause-ends
returns-in-Err-clause-ends g c = λ m r.
    let old = c.args.self.now.core in
    let whole : IsWhole (state old) = record { layout = (accepted old.filer); size = c.requires.set_up.size } in
    record {
      gives = tt;
      sound = c.in-Err.ensures.fails.sound r.session.stands.memory r.session.stands.is.named m.spaces (running_laws.known (state old) (kept old) old.intervals c.args.self.now.volume m whole r);
      stops = stops_quiet (exactly r.pages m.spaces) _ _ _ _ m r.session.stands (g.met.D.Disk.in_form (disk_of c.args.self.now.core.filer)) (own_makes c.evict.ensures.brings.reaches.goes.makes);
    }

pub returns-in-Ok-clause-clears : goal.returns-in-Ok-clause-clears
returns-in-Ok-clause-clears g c = record {
  wrote = wrote_by (own_makes c.evict.ensures.brings.reaches.goes.makes) tt;
  spares = clears_none (own_makes c.evict.ensures.brings.reaches.goes.makes) refl;
  open_still = subst (λ (l : Layout). IsOpen l c.args.self.now.volume) (sym c.evict.ensures.brings.reaches.layout) c.requires.set_up.opened;
  layout = c.evict.ensures.brings.reaches.layout;
}

pub returns-in-Err-clause-clears : goal.returns-in-Err-clause-clears
returns-in-Err-clause-clears g c = record {
  wrote = wrote_by (own_makes c.evict.ensures.brings.reaches.goes.makes) tt;
  spares = clears_none (own_makes c.evict.ensures.brings.reaches.goes.makes) refl;
  open_still = subst (λ (l : Layout). IsOpen l c.args.self.now.volume) (sym c.evict.ensures.brings.reaches.layout) c.requires.set_up.opened;
  layout = c.evict.ensures.brings.reaches.layout;
}

pub returns-in-Ok-clause-cost : goal.returns-in-Ok-clause-cost
returns-in-Ok-clause-cost g c =
    gone_cost c.args.self.now.core.intervals (length (state c.args.self.now.core).slots) (state c.args.self.now.core).disk.transfers (state c.evict.new.self).disk.transfers c.args.self.now.core.few c.evict.ensures.cost

pub returns-in-Err-clause-cost : goal.returns-in-Err-clause-cost
returns-in-Err-clause-cost g c =
    gone_cost c.args.self.now.core.intervals (length (state c.args.self.now.core).slots) (state c.args.self.now.core).disk.transfers (state c.evict.new.self).disk.transfers c.args.self.now.core.few c.evict.ensures.cost

-- ---- What began stays a reason.

pub returns-in-Ok-clause-accounts : goal.returns-in-Ok-clause-accounts
returns-in-Ok-clause-accounts g c = λ o k. record {
  keeps_to = (let v = state c.args.self.now.core in
      let w = state c.evict.new.self in
      (k.0, keeps_moved o v w k.0 (accepted c.args.self.now.core.filer) k.1 (moves_of_reaches v w c.evict.ensures.brings.reaches)));
  reasons = tt;
  sees = (λ seen. (seen.0, (c.evict.ensures.stays.sees seen.0 seen.1.0, files_later o c.evict.ensures.brings.reaches.goes.makes seen.0 seen.1.1)));
}

pub returns-in-Err-clause-accounts : goal.returns-in-Err-clause-accounts
returns-in-Err-clause-accounts g c = λ o k. record {
  keeps_to = tt;
  reasons = (reach_reasons o (state c.args.self.now.core) (state c.evict.new.self) k.0 _ (accepted c.args.self.now.core.filer) k.1 c.evict.ensures.brings.reaches.goes.makes c.in-Err.halt c.in-Err.ensures.fails.cause);
  sees = (λ seen. let old = c.args.self.now.core in
      let v = state old in
      let new = c.evict.new.self in
      (c.in-Err.ensures.fails.right seen.0 seen.1.0, reach_misses (BreaksWithin v old.intervals 0 root_pages) v (state new) (file_pages o (state new).disk) c.in-Err.halt c.in-Err.ensures.fails.cause));
}

-- ---- Which files are spared.

pub returns-in-Err-clause-fails : goal.returns-in-Err-clause-fails
returns-in-Err-clause-fails g c =
    record {
      cause = c.in-Err.ensures.fails.cause;
      counted = λ is. subst (EvictHalts c.args.self.now.core.intervals (state c.args.self.now.core) (state c.evict.new.self)) is c.in-Err.ensures.fails.cause;
      evidence_seen = shows_evidence _ (state c.args.self.now.core) (state c.evict.new.self) (fits (swapper_of c.args.self.now.core.filer) c.requires.set_up.size) c.evict.ensures.brings.reaches.goes.makes c.in-Err.halt c.in-Err.ensures.fails.cause;
    }
