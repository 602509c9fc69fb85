use Rattle.std.proofs.Common.{ap, subst, sym, ◌∙◌, arith, inl, inr}
use Rattle.file_manager.specs.declared.volume.Volume.{Volume}
use Rattle.space_calls.proofs.RunLemmas.{reached_makes}
use Rattle.pilot_engine.specs.Closing.{IsOpenStop, IsReady, IsStop}
use Rattle.pilot_engine.specs.Opening.{root_alone}
use Rattle.pilot_engine.proofs.AloneLemmas.{forgotten, shut_same}
use Rattle.pilot_engine.proofs.BoundLemmas.{on_layout}
use Rattle.pilot_engine.proofs.EndCosts.{closed_bounded}
use Rattle.pilot_engine.proofs.EndLemmas.{has_shut, made_ready}
use Rattle.pilot_engine.proofs.StopLemmas.{ends, open_is_stop, throughout_less, throughout_still, throughout_then}
use Rattle.pilot_engine.proofs.TableStops.{stops_closed, stops_forcing}
use Rattle.swapper_kernel.specs.GoesLaws.{went_then}
use Rattle.pilot_engine.proofs.ShutBySyncLemmas.{openly_shut, reveals_itself, sets_shut}
use Rattle.pilot_engine.proofs.ShutLemmas.{any_of, any_root_is, shut_still, shut_then}
use Rattle.pilot_engine.proofs.WritingLemmas.{frees_none, only_then}
use Rattle.pilot_engine.proofs.UnsetLemmas.{leaves_open, unset_then}
use Rattle.pilot_engine.proofs.WroteLemmas.{rose_after, wrote_by, wrote_swapping, wrote_then}
use Rattle.fault_core.specs.Core.{state}
use Rattle.flat_machine.specs.Space.{root_pages}
use Rattle.fault_core.specs.Kill.{BreaksWithin}
use Rattle.space_calls.proofs.RangeLemmas.{fault_halt}
use Rattle.pilot_engine.proofs.CauseLemmas.{made_then}
use Rattle.labelled_disk.specs.declared.layout.Layout.{Layout}
use Rattle.file_manager.specs.Reasons.{ShowsReason}
use Rattle.pilot_engine.proofs.SparedCalls.{all_then, spares_quiet}
use Rattle.pilot_engine.proofs.FailSteps.{fails_after, fails_fault, fails_wider}
use Rattle.pilot_engine.proofs.session.Session.close.Goals as goal
use Rattle.space_calls.specs.OutcomesLaws.{waited_rose}
use Rattle.filer_kernel.specs.View.{accepted, disk_of}

pub returns-in-Err-empty-clause-ends : goal.returns-in-Err-empty-clause-ends
returns-in-Err-empty-clause-ends g c = λ m r.
    let n = forgotten m in
    let s = (c.in-Ok.ensures.ends m r).gives in
    let first = (c.empty.ensures.ends root_alone n s).stops in
    record {
      gives = tt;
      sound = (c.in-Err-empty.ensures.ends root_alone (forgotten m) ((c.in-Ok.ensures.ends m r).gives)).sound;
      stops = stops_closed m r.session.stands.is.by.machine ((c.evict_all.ensures.ends m r).stops) (throughout_less (IsOpenStop n) (IsStop n) (open_is_stop n) first);
    }

pub returns-in-Err-sync_maps-clause-ends : goal.returns-in-Err-sync_maps-clause-ends
returns-in-Err-sync_maps-clause-ends g c = λ m r.
    let n = forgotten m in
    let s = (c.in-Ok.ensures.ends m r).gives in
    let first = (c.empty.ensures.ends root_alone n s).stops in
    let e = (c.in-Ok-empty.ensures.ends root_alone n s).gives in
    let maps = throughout_then (IsOpenStop n) first (stops_forcing n _ _ _ _ _ e c.sync_maps.ensures.swaps (ends (IsOpenStop n) first)) in
    record {
      gives = tt;
      sound = let e = (c.in-Ok-empty.ensures.ends root_alone (forgotten m) ((c.in-Ok.ensures.ends m r).gives)).gives in c.in-Err-sync_maps.ensures.sound e.memory e.stands;
      stops = stops_closed m r.session.stands.is.by.machine ((c.evict_all.ensures.ends m r).stops) (throughout_less (IsOpenStop n) (IsStop n) (open_is_stop n) maps);
    }

pub returns-in-Err-clause-wrote : goal.returns-in-Err-clause-wrote
returns-in-Err-clause-wrote g c = any_of c.args.self.now.volume.root c.evict_all.ensures.clears.wrote c.evict_all.ensures.clears.spares.frees

pub returns-in-Err-empty-clause-wrote : goal.returns-in-Err-empty-clause-wrote
returns-in-Err-empty-clause-wrote g c = any_of c.args.self.now.volume.root (wrote_then c.evict_all.ensures.clears.wrote c.empty.ensures.clears.wrote) (only_then c.evict_all.ensures.clears.spares.frees c.empty.ensures.clears.spares.frees)

pub returns-in-Err-sync_maps-clause-wrote : goal.returns-in-Err-sync_maps-clause-wrote
returns-in-Err-sync_maps-clause-wrote g c = any_of c.args.self.now.volume.root (wrote_then (wrote_then c.evict_all.ensures.clears.wrote c.empty.ensures.clears.wrote) (wrote_swapping c.sync_maps.ensures.swaps)) (only_then (only_then c.evict_all.ensures.clears.spares.frees c.empty.ensures.clears.spares.frees) (frees_none c.sync_maps.ensures.swaps.makes))

pub returns-in-Err-write_clean-clause-wrote : goal.returns-in-Err-write_clean-clause-wrote
returns-in-Err-write_clean-clause-wrote g c = shut_then (wrote_then (wrote_then c.evict_all.ensures.clears.wrote c.empty.ensures.clears.wrote) (wrote_swapping c.sync_maps.ensures.swaps)) (only_then (only_then c.evict_all.ensures.clears.spares.frees c.empty.ensures.clears.spares.frees) (frees_none c.sync_maps.ensures.swaps.makes)) (any_root_is (ap (λ (v : Volume). v.root) c.sync_maps.ensures.volume ∙ c.empty.ensures.clears.spares.root ∙ ap (λ (v : Volume). v.root) c.evict_all.ensures.volume) c.write_clean.ensures.wrote)

pub returns-in-Ok-sync-clause-wrote : goal.returns-in-Ok-sync-clause-wrote
returns-in-Ok-sync-clause-wrote g c = shut_still (shut_then (wrote_then (wrote_then c.evict_all.ensures.clears.wrote c.empty.ensures.clears.wrote) (wrote_swapping c.sync_maps.ensures.swaps)) (only_then (only_then c.evict_all.ensures.clears.spares.frees c.empty.ensures.clears.spares.frees) (frees_none c.sync_maps.ensures.swaps.makes)) (any_root_is (ap (λ (v : Volume). v.root) c.sync_maps.ensures.volume ∙ c.empty.ensures.clears.spares.root ∙ ap (λ (v : Volume). v.root) c.evict_all.ensures.volume) c.write_clean.ensures.wrote)) c.sync.ensures.waits.same (wrote_by (reached_makes c.sync.ensures.waits.reaches) tt)

pub returns-in-Err-sync-clause-wrote : goal.returns-in-Err-sync-clause-wrote
returns-in-Err-sync-clause-wrote g c = shut_still (shut_then (wrote_then (wrote_then c.evict_all.ensures.clears.wrote c.empty.ensures.clears.wrote) (wrote_swapping c.sync_maps.ensures.swaps)) (only_then (only_then c.evict_all.ensures.clears.spares.frees c.empty.ensures.clears.spares.frees) (frees_none c.sync_maps.ensures.swaps.makes)) (any_root_is (ap (λ (v : Volume). v.root) c.sync_maps.ensures.volume ∙ c.empty.ensures.clears.spares.root ∙ ap (λ (v : Volume). v.root) c.evict_all.ensures.volume) c.write_clean.ensures.wrote)) c.sync.ensures.waits.same (wrote_by (reached_makes c.sync.ensures.waits.reaches) tt)

pub returns-in-Ok-sync-clause-ends : goal.returns-in-Ok-sync-clause-ends
returns-in-Ok-sync-clause-ends g c = λ m r.
    let e = (c.in-Ok-empty.ensures.ends root_alone (forgotten m) ((c.in-Ok.ensures.ends m r).gives)).gives in
    let ready = made_ready (forgotten m) _ _ _ _ _ e c.sync_maps.ensures.swaps c.in-Ok-sync_maps.ensures.clean in
    record {
      gives = shut_same m _ (has_shut (forgotten m) _ _ _ _ _ c.sync_maps.ensures.volume ready (c.in-Ok-write_clean.ensures.made (forgotten m)) c.sync.ensures.waits.same.contents c.in-Ok-sync.ensures.synced);
      sound = tt;
      stops = (let n = forgotten m in
          let s = (c.in-Ok.ensures.ends m r).gives in
          let first = (c.empty.ensures.ends root_alone n s).stops in
          let e = (c.in-Ok-empty.ensures.ends root_alone n s).gives in
          let maps = throughout_then (IsOpenStop n) first (stops_forcing n _ _ _ _ _ e c.sync_maps.ensures.swaps (ends (IsOpenStop n) first)) in
          let ready = made_ready n _ _ _ _ _ e c.sync_maps.ensures.swaps c.in-Ok-sync_maps.ensures.clean in
          let now = subst (λ (v : Volume). IsReady n v.root (state c.sync_maps.new.self.core).disk) (sym c.sync_maps.ensures.volume) ready in
          let all = throughout_then (IsStop n) (throughout_less (IsOpenStop n) (IsStop n) (open_is_stop n) maps) (c.write_clean.ensures.stops n now (ends (IsOpenStop n) maps)) in
          throughout_still (IsStop m) (stops_closed m r.session.stands.is.by.machine ((c.evict_all.ensures.ends m r).stops) all) c.sync.ensures.waits.same);
    }

pub returns-in-Err-clause-ends : goal.returns-in-Err-clause-ends
returns-in-Err-clause-ends g c = λ m r. record {
  gives = tt;
  sound = (c.in-Err.ensures.ends m r).sound;
  stops = throughout_less (IsOpenStop m) (IsStop m) (open_is_stop m) ((c.evict_all.ensures.ends m r).stops);
}

pub returns-in-Err-write_clean-clause-ends : goal.returns-in-Err-write_clean-clause-ends
returns-in-Err-write_clean-clause-ends g c = λ m r.
    let n = forgotten m in
    let s = (c.in-Ok.ensures.ends m r).gives in
    let first = (c.empty.ensures.ends root_alone n s).stops in
    let e = (c.in-Ok-empty.ensures.ends root_alone n s).gives in
    let maps = throughout_then (IsOpenStop n) first (stops_forcing n _ _ _ _ _ e c.sync_maps.ensures.swaps (ends (IsOpenStop n) first)) in
    let ready = made_ready n _ _ _ _ _ e c.sync_maps.ensures.swaps c.in-Ok-sync_maps.ensures.clean in
    let now = subst (λ (v : Volume). IsReady n v.root (state c.sync_maps.new.self.core).disk) (sym c.sync_maps.ensures.volume) ready in
    let all = throughout_then (IsStop n) (throughout_less (IsOpenStop n) (IsStop n) (open_is_stop n) maps) (c.write_clean.ensures.stops n now (ends (IsOpenStop n) maps)) in
    record {
      gives = tt;
      sound = c.in-Err-write_clean.ensures.fault;
      stops = stops_closed m r.session.stands.is.by.machine ((c.evict_all.ensures.ends m r).stops) all;
    }

pub returns-in-Err-sync-clause-ends : goal.returns-in-Err-sync-clause-ends
returns-in-Err-sync-clause-ends g c = λ m r.
    let n = forgotten m in
    let s = (c.in-Ok.ensures.ends m r).gives in
    let first = (c.empty.ensures.ends root_alone n s).stops in
    let e = (c.in-Ok-empty.ensures.ends root_alone n s).gives in
    let maps = throughout_then (IsOpenStop n) first (stops_forcing n _ _ _ _ _ e c.sync_maps.ensures.swaps (ends (IsOpenStop n) first)) in
    let ready = made_ready n _ _ _ _ _ e c.sync_maps.ensures.swaps c.in-Ok-sync_maps.ensures.clean in
    let now = subst (λ (v : Volume). IsReady n v.root (state c.sync_maps.new.self.core).disk) (sym c.sync_maps.ensures.volume) ready in
    let all = throughout_then (IsStop n) (throughout_less (IsOpenStop n) (IsStop n) (open_is_stop n) maps) (c.write_clean.ensures.stops n now (ends (IsOpenStop n) maps)) in
    record {
      gives = tt;
      sound = c.in-Err-sync.ensures.fails.cause;
      stops = throughout_still (IsStop m) (stops_closed m r.session.stands.is.by.machine ((c.evict_all.ensures.ends m r).stops) all) c.sync.ensures.waits.same;
    }

pub returns-in-Err-clause-cost : goal.returns-in-Err-clause-cost
returns-in-Err-clause-cost g c = λ m r.
    let layout = (state c.args.self.now.core).layout in
    on_layout layout (state c.args.self.now.core).disk (state c.evict_all.new.self.core).disk c.requires.set_up.size
    (closed_bounded layout (accepted c.args.self.now.core.filer) (state c.evict_all.new.self.core).layout c.evict_all.ensures.clears.layout
    (state c.args.self.now.core).disk.transfers (state c.evict_all.new.self.core).disk.transfers (state c.evict_all.new.self.core).disk.transfers (state c.evict_all.new.self.core).disk.transfers
    c.evict_all.ensures.cost (omega arith) (omega (arith)))

pub returns-in-Err-empty-clause-cost : goal.returns-in-Err-empty-clause-cost
returns-in-Err-empty-clause-cost g c = λ m r.
    let layout = (state c.args.self.now.core).layout in
    on_layout layout (state c.args.self.now.core).disk (state c.empty.new.self.core).disk c.requires.set_up.size
    (closed_bounded layout (accepted c.args.self.now.core.filer) (state c.evict_all.new.self.core).layout c.evict_all.ensures.clears.layout
    (state c.args.self.now.core).disk.transfers (state c.evict_all.new.self.core).disk.transfers (state c.empty.new.self.core).disk.transfers (state c.empty.new.self.core).disk.transfers
    c.evict_all.ensures.cost (c.empty.ensures.cost root_alone (forgotten m) ((c.in-Ok.ensures.ends m r).gives)) (omega (arith)))

pub returns-in-Err-sync_maps-clause-cost : goal.returns-in-Err-sync_maps-clause-cost
returns-in-Err-sync_maps-clause-cost g c = λ m r.
    let layout = (state c.args.self.now.core).layout in
    let maps = c.sync_maps.ensures.cost in
    on_layout layout (state c.args.self.now.core).disk (state c.sync_maps.new.self.core).disk c.requires.set_up.size
    (closed_bounded layout (accepted c.args.self.now.core.filer) (state c.evict_all.new.self.core).layout c.evict_all.ensures.clears.layout
    (state c.args.self.now.core).disk.transfers (state c.evict_all.new.self.core).disk.transfers (state c.empty.new.self.core).disk.transfers (state c.sync_maps.new.self.core).disk.transfers
    c.evict_all.ensures.cost (c.empty.ensures.cost root_alone (forgotten m) ((c.in-Ok.ensures.ends m r).gives)) (omega (arith, maps)))

pub returns-in-Err-write_clean-clause-cost : goal.returns-in-Err-write_clean-clause-cost
returns-in-Err-write_clean-clause-cost g c = λ m r.
    let layout = (state c.args.self.now.core).layout in
    let maps = c.sync_maps.ensures.cost in
    let written = c.write_clean.ensures.cost in
    on_layout layout (state c.args.self.now.core).disk (state c.write_clean.new.self.core).disk c.requires.set_up.size
    (closed_bounded layout (accepted c.args.self.now.core.filer) (state c.evict_all.new.self.core).layout c.evict_all.ensures.clears.layout
    (state c.args.self.now.core).disk.transfers (state c.evict_all.new.self.core).disk.transfers (state c.empty.new.self.core).disk.transfers (state c.write_clean.new.self.core).disk.transfers
    c.evict_all.ensures.cost (c.empty.ensures.cost root_alone (forgotten m) ((c.in-Ok.ensures.ends m r).gives)) (omega (arith, maps, written)))

pub returns-in-Ok-sync-clause-cost : goal.returns-in-Ok-sync-clause-cost
returns-in-Ok-sync-clause-cost g c = λ m r.
    let layout = (state c.args.self.now.core).layout in
    let maps = c.sync_maps.ensures.cost in
    let written = c.write_clean.ensures.cost in
    let settled = c.sync.ensures.cost in
    on_layout layout (state c.args.self.now.core).disk (state c.sync.new.core).disk c.requires.set_up.size
    (closed_bounded layout (accepted c.args.self.now.core.filer) (state c.evict_all.new.self.core).layout c.evict_all.ensures.clears.layout
    (state c.args.self.now.core).disk.transfers (state c.evict_all.new.self.core).disk.transfers (state c.empty.new.self.core).disk.transfers (state c.sync.new.core).disk.transfers
    c.evict_all.ensures.cost (c.empty.ensures.cost root_alone (forgotten m) ((c.in-Ok.ensures.ends m r).gives)) (omega (arith, maps, written, settled)))

pub returns-in-Err-sync-clause-cost : goal.returns-in-Err-sync-clause-cost
returns-in-Err-sync-clause-cost g c = λ m r.
    let layout = (state c.args.self.now.core).layout in
    let maps = c.sync_maps.ensures.cost in
    let written = c.write_clean.ensures.cost in
    let settled = c.sync.ensures.cost in
    on_layout layout (state c.args.self.now.core).disk (state c.sync.new.core).disk c.requires.set_up.size
    (closed_bounded layout (accepted c.args.self.now.core.filer) (state c.evict_all.new.self.core).layout c.evict_all.ensures.clears.layout
    (state c.args.self.now.core).disk.transfers (state c.evict_all.new.self.core).disk.transfers (state c.empty.new.self.core).disk.transfers (state c.sync.new.core).disk.transfers
    c.evict_all.ensures.cost (c.empty.ensures.cost root_alone (forgotten m) ((c.in-Ok.ensures.ends m r).gives)) (omega (arith, maps, written, settled)))

-- where no root was written
pub returns-in-Err-clause-left_open : goal.returns-in-Err-clause-left_open
returns-in-Err-clause-left_open g c = λ unset. leaves_open (state c.evict_all.new.self.core).disk (unset_then unset c.evict_all.ensures.clears.wrote) c.in-Err.halt

pub returns-in-Err-empty-clause-left_open : goal.returns-in-Err-empty-clause-left_open
returns-in-Err-empty-clause-left_open g c = λ unset. leaves_open (state c.empty.new.self.core).disk (unset_then unset (wrote_then c.evict_all.ensures.clears.wrote c.empty.ensures.clears.wrote)) c.in-Err-empty.halt

pub returns-in-Err-sync_maps-clause-left_open : goal.returns-in-Err-sync_maps-clause-left_open
returns-in-Err-sync_maps-clause-left_open g c = λ unset. leaves_open (state c.sync_maps.new.self.core).disk (unset_then unset (wrote_then (wrote_then c.evict_all.ensures.clears.wrote c.empty.ensures.clears.wrote) (wrote_swapping c.sync_maps.ensures.swaps))) c.in-Err-sync_maps.halt

pub returns-in-Err-write_clean-clause-left_open : goal.returns-in-Err-write_clean-clause-left_open
returns-in-Err-write_clean-clause-left_open g c = λ unset. rw c.in-Err-write_clean.ensures.fault tt

pub returns-in-Err-sync-clause-left_open : goal.returns-in-Err-sync-clause-left_open
returns-in-Err-sync-clause-left_open g c = λ unset. rw c.in-Err-sync.ensures.fails.cause tt

-- ---- Why it failed.

pub returns-in-Err-clause-fails : goal.returns-in-Err-clause-fails
returns-in-Err-clause-fails g c = fails_wider (λ h. inl h) c.in-Err.ensures.fails

pub returns-in-Err-empty-clause-fails : goal.returns-in-Err-empty-clause-fails
returns-in-Err-empty-clause-fails g c = fails_after c.evict_all.ensures.clears.wrote.makes.went.faults (λ h. inr (h.0, made_then (state c.args.self.now.core) (state c.evict_all.new.self.core) h.0 (c.evict_all.ensures.clears.wrote, c.evict_all.ensures.clears.layout) h.1, elim h.2 [ inl cleared ↦ inl cleared | inr freed ↦ inr (inl freed) ])) c.in-Err-empty.ensures.fails

pub returns-in-Err-sync_maps-clause-fails : goal.returns-in-Err-sync_maps-clause-fails
returns-in-Err-sync_maps-clause-fails g c =
    let v = state c.args.self.now.core in
    let x = state c.empty.new.self.core in
    let emptied = made_then v (state c.evict_all.new.self.core) x (c.evict_all.ensures.clears.wrote, c.evict_all.ensures.clears.layout) (c.empty.ensures.clears.wrote, c.empty.ensures.clears.layout) in
    fails_after emptied.0.makes.went.faults (λ h. inr (h.0, made_then v x h.0 emptied h.1, inr (inr h.2))) c.in-Err-sync_maps.ensures.fails

pub returns-in-Err-write_clean-clause-fails : goal.returns-in-Err-write_clean-clause-fails
returns-in-Err-write_clean-clause-fails g c =
    let v = state c.args.self.now.core in
    let x = state c.sync_maps.new.self.core in
    let w = state c.write_clean.new.self.core in
    let later = (wrote_then (wrote_then c.evict_all.ensures.clears.wrote c.empty.ensures.clears.wrote) (wrote_swapping c.sync_maps.ensures.swaps)).makes.went.faults in
    fails_fault c.in-Err-write_clean.ensures.fault (rose_after _ _ _ later c.in-Err-write_clean.ensures.counted) (inl (fault_halt (BreaksWithin v c.args.self.now.core.intervals 0 root_pages) v x w c.in-Err-write_clean.halt later c.in-Err-write_clean.ensures.fault c.in-Err-write_clean.ensures.counted))

pub returns-in-Err-sync-clause-fails : goal.returns-in-Err-sync-clause-fails
returns-in-Err-sync-clause-fails g c =
    let v = state c.args.self.now.core in
    let x = state c.write_clean.new.self.core in
    let w = state c.sync.new.core in
    let later = (shut_then (wrote_then (wrote_then c.evict_all.ensures.clears.wrote c.empty.ensures.clears.wrote) (wrote_swapping c.sync_maps.ensures.swaps)) (only_then (only_then c.evict_all.ensures.clears.spares.frees c.empty.ensures.clears.spares.frees) (frees_none c.sync_maps.ensures.swaps.makes)) c.write_clean.ensures.wrote).makes.went.faults in
    let rose = waited_rose c.in-Err-sync.ensures.fails in
    fails_fault c.in-Err-sync.ensures.fails.cause (rose_after _ _ _ later rose) (inl (fault_halt (BreaksWithin v c.args.self.now.core.intervals 0 root_pages) v x w c.in-Err-sync.halt later c.in-Err-sync.ensures.fails.cause rose))

-- ---- What began stays a reason.

pub returns-in-Err-empty-clause-reasons : goal.returns-in-Err-empty-clause-reasons
returns-in-Err-empty-clause-reasons g c = λ o keeps.
    subst (λ (l : Layout). ShowsReason o l (state c.empty.new.self.core).disk c.in-Err-empty.halt) c.evict_all.ensures.clears.layout ((c.in-Err-empty.ensures.accounts o ((c.in-Ok.ensures.accounts o keeps).keeps_to)).reasons)

pub returns-in-Err-sync_maps-clause-reasons : goal.returns-in-Err-sync_maps-clause-reasons
returns-in-Err-sync_maps-clause-reasons g c = λ o keeps.
    subst (λ (l : Layout). ShowsReason o l (state c.sync_maps.new.self.core).disk c.in-Err-sync_maps.halt) (c.empty.ensures.clears.layout ∙ c.evict_all.ensures.clears.layout)
    (c.in-Err-sync_maps.ensures.reasons o ((c.in-Ok-empty.ensures.accounts o ((c.in-Ok.ensures.accounts o keeps).keeps_to)).keeps_to))

pub returns-in-Err-write_clean-clause-reasons : goal.returns-in-Err-write_clean-clause-reasons
returns-in-Err-write_clean-clause-reasons g c = λ o keeps. rw c.in-Err-write_clean.ensures.fault tt

pub returns-in-Err-sync-clause-reasons : goal.returns-in-Err-sync-clause-reasons
returns-in-Err-sync-clause-reasons g c = λ o keeps. rw c.in-Err-sync.ensures.fails.cause tt

-- ---- No page of the space tables is reported as broken, and none of a file as missing that was nowhere at home.

pub returns-in-Err-empty-clause-sees : goal.returns-in-Err-empty-clause-sees
returns-in-Err-empty-clause-sees g c = λ o keeps seen. (c.in-Err-empty.ensures.accounts o ((c.in-Ok.ensures.accounts o keeps).keeps_to)).sees ((c.in-Ok.ensures.accounts o keeps).sees seen)

pub returns-in-Err-sync_maps-clause-sees : goal.returns-in-Err-sync_maps-clause-sees
returns-in-Err-sync_maps-clause-sees g c = λ o keeps seen. c.in-Err-sync_maps.ensures.right o

pub returns-in-Err-write_clean-clause-sees : goal.returns-in-Err-write_clean-clause-sees
returns-in-Err-write_clean-clause-sees g c = λ o keeps seen. rw c.in-Err-write_clean.ensures.fault (tt, tt)

pub returns-in-Err-sync-clause-sees : goal.returns-in-Err-sync-clause-sees
returns-in-Err-sync-clause-sees g c = λ o keeps seen. rw c.in-Err-sync.ensures.fails.cause (tt, tt)

-- ---- The flag is set after a sync.

pub returns-in-Err-clause-syncs : goal.returns-in-Err-clause-syncs
returns-in-Err-clause-syncs g c = λ m r. openly_shut c.evict_all.ensures.clears.wrote

pub returns-in-Err-empty-clause-syncs : goal.returns-in-Err-empty-clause-syncs
returns-in-Err-empty-clause-syncs g c = λ m r. openly_shut (wrote_then c.evict_all.ensures.clears.wrote c.empty.ensures.clears.wrote)

pub returns-in-Err-sync_maps-clause-syncs : goal.returns-in-Err-sync_maps-clause-syncs
returns-in-Err-sync_maps-clause-syncs g c = λ m r.
    openly_shut (wrote_then (wrote_then c.evict_all.ensures.clears.wrote c.empty.ensures.clears.wrote) (wrote_swapping c.sync_maps.ensures.swaps))

pub returns-in-Err-write_clean-clause-syncs : goal.returns-in-Err-write_clean-clause-syncs
returns-in-Err-write_clean-clause-syncs g c = λ m r.
    let n = forgotten m in
    let e = (c.in-Ok-empty.ensures.ends root_alone n ((c.in-Ok.ensures.ends m r).gives)).gives in
    let ready = made_ready n _ _ _ _ _ e c.sync_maps.ensures.swaps c.in-Ok-sync_maps.ensures.clean in
    let now = subst (λ (v : Volume). IsReady n v.root (state c.sync_maps.new.self.core).disk) (sym c.sync_maps.ensures.volume) ready in
    let disk = (disk_of c.sync_maps.new.self.core.filer) in
    let later = (state c.write_clean.new.self.core).disk in
    sets_shut (wrote_then (wrote_then c.evict_all.ensures.clears.wrote c.empty.ensures.clears.wrote) (wrote_swapping c.sync_maps.ensures.swaps)) (g.met.D.Disk.sync_counts disk) c.in-Ok-sync_maps.ensures.synced
    c.write_clean.ensures.wrote.makes.went c.sync_maps.new.self.volume.root (reveals_itself later) (c.write_clean.ensures.sets n now)

pub returns-in-Ok-sync-clause-syncs : goal.returns-in-Ok-sync-clause-syncs
returns-in-Ok-sync-clause-syncs g c = λ m r.
    let n = forgotten m in
    let e = (c.in-Ok-empty.ensures.ends root_alone n ((c.in-Ok.ensures.ends m r).gives)).gives in
    let ready = made_ready n _ _ _ _ _ e c.sync_maps.ensures.swaps c.in-Ok-sync_maps.ensures.clean in
    let now = subst (λ (v : Volume). IsReady n v.root (state c.sync_maps.new.self.core).disk) (sym c.sync_maps.ensures.volume) ready in
    let disk = (disk_of c.sync_maps.new.self.core.filer) in
    sets_shut (wrote_then (wrote_then c.evict_all.ensures.clears.wrote c.empty.ensures.clears.wrote) (wrote_swapping c.sync_maps.ensures.swaps)) (g.met.D.Disk.sync_counts disk) c.in-Ok-sync_maps.ensures.synced
    (went_then c.write_clean.ensures.wrote.makes.went (reached_makes c.sync.ensures.waits.reaches).went) c.sync_maps.new.self.volume.root c.sync.ensures.waits.same (c.write_clean.ensures.sets n now)

pub returns-in-Err-sync-clause-syncs : goal.returns-in-Err-sync-clause-syncs
returns-in-Err-sync-clause-syncs g c = λ m r.
    let n = forgotten m in
    let e = (c.in-Ok-empty.ensures.ends root_alone n ((c.in-Ok.ensures.ends m r).gives)).gives in
    let ready = made_ready n _ _ _ _ _ e c.sync_maps.ensures.swaps c.in-Ok-sync_maps.ensures.clean in
    let now = subst (λ (v : Volume). IsReady n v.root (state c.sync_maps.new.self.core).disk) (sym c.sync_maps.ensures.volume) ready in
    let disk = (disk_of c.sync_maps.new.self.core.filer) in
    sets_shut (wrote_then (wrote_then c.evict_all.ensures.clears.wrote c.empty.ensures.clears.wrote) (wrote_swapping c.sync_maps.ensures.swaps)) (g.met.D.Disk.sync_counts disk) c.in-Ok-sync_maps.ensures.synced
    (went_then c.write_clean.ensures.wrote.makes.went (reached_makes c.sync.ensures.waits.reaches).went) c.sync_maps.new.self.volume.root c.sync.ensures.waits.same (c.write_clean.ensures.sets n now)

-- ---- What its first part tells.

pub returns-in-Err-clause-reasons : goal.returns-in-Err-clause-reasons
returns-in-Err-clause-reasons g c = λ o k. (c.in-Err.ensures.accounts o k).reasons

pub returns-in-Err-clause-sees : goal.returns-in-Err-clause-sees
returns-in-Err-clause-sees g c = λ o k seen. (c.in-Err.ensures.accounts o k).sees seen

-- ---- Which files are spared.

pub returns-in-Err-clause-spares : goal.returns-in-Err-clause-spares
returns-in-Err-clause-spares g c = c.evict_all.ensures.clears.spares.spares

pub returns-in-Err-empty-clause-spares : goal.returns-in-Err-empty-clause-spares
returns-in-Err-empty-clause-spares g c = all_then c.evict_all.ensures.clears.spares.spares c.empty.ensures.clears.spares.spares

pub returns-in-Err-sync_maps-clause-spares : goal.returns-in-Err-sync_maps-clause-spares
returns-in-Err-sync_maps-clause-spares g c = all_then (all_then c.evict_all.ensures.clears.spares.spares c.empty.ensures.clears.spares.spares) (spares_quiet c.sync_maps.ensures.swaps.makes)

pub returns-in-Err-write_clean-clause-spares : goal.returns-in-Err-write_clean-clause-spares
returns-in-Err-write_clean-clause-spares g c = all_then (all_then (all_then c.evict_all.ensures.clears.spares.spares c.empty.ensures.clears.spares.spares) (spares_quiet c.sync_maps.ensures.swaps.makes)) c.write_clean.ensures.spares

pub returns-in-Ok-sync-clause-spares : goal.returns-in-Ok-sync-clause-spares
returns-in-Ok-sync-clause-spares g c = all_then (all_then (all_then (all_then c.evict_all.ensures.clears.spares.spares c.empty.ensures.clears.spares.spares) (spares_quiet c.sync_maps.ensures.swaps.makes)) c.write_clean.ensures.spares) (spares_quiet (reached_makes c.sync.ensures.waits.reaches))

pub returns-in-Err-sync-clause-spares : goal.returns-in-Err-sync-clause-spares
returns-in-Err-sync-clause-spares g c = all_then (all_then (all_then (all_then c.evict_all.ensures.clears.spares.spares c.empty.ensures.clears.spares.spares) (spares_quiet c.sync_maps.ensures.swaps.makes)) c.write_clean.ensures.spares) (spares_quiet (reached_makes c.sync.ensures.waits.reaches))
