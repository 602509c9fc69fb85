use Rattle.std.proofs.Common.{ap, arith, length, List, Some, refl, subst, sym, ℕ, ◌∙◌, ◌≡◌, ◌≤◌}
use Rattle.std.proofs.lemmas.Bool.{true≢false}
use Rattle.flat_machine.specs.References.{is_reference}
use Rattle.pilot_engine.specs.Labels.{keeps_labels}
use Rattle.pilot_engine.specs.Stepping.{IsResident, StepHalts, resizes, waits, writes_leader}
use Rattle.pilot_engine.proofs.BoundLemmas.{asked_inside}
use Rattle.pilot_engine.proofs.LabelLemmas.{pages_alone}
use Rattle.pilot_engine.proofs.StepLemmas.{none_on_spaces, nothing_revealed, of_pages}
use Rattle.pilot_engine.proofs.AnonymousLemmas.{done_then, unset}
use Rattle.fault_core.specs.Access.{last_page, BreaksFor}
use Rattle.fault_core.specs.Activate.{IsActive}
use Rattle.fault_core.specs.Core.{kept, state}
use Rattle.fault_core.specs.Kill.{AreWritableSo, is_absent}
use Rattle.fault_core.specs.Range.{AreClean, AreGone}
use Rattle.fault_core.specs.Unit.{IsReady}
use Rattle.std.specs.Prelude.{IfErr, OnOk}
use Rattle.flat_machine.specs.Form.{IsInForm}
use Rattle.flat_machine.specs.Refusal.{refusal}
use Rattle.flat_machine.specs.declared.call.Call.{Call}
use Rattle.flat_machine.specs.declared.call.Call.TheVariants as call
use Rattle.flat_machine.specs.declared.call.Reply.TheVariants as answer
use Rattle.swapper_kernel.specs.Goes.{no_page}
use Rattle.filer_kernel.proofs.Outcomes.{ok_wider}
use Rattle.file_manager.specs.Creating.{counted, next_id}
use Rattle.file_manager.specs.Reasons.{WasBelow}
use Rattle.fault_core.specs.Lack.{MissesPage, shown_units}
use Rattle.fault_core.specs.Reach.{ReachHalts}
use Rattle.pilot_engine.specs.Halting.{MapNewHalts}
use Rattle.space_calls.specs.FilesLaws.{space_on, units_on}
use Rattle.space_calls.specs.Ranges.{BreaksRange, space_units}
use Rattle.space_calls.specs.Halts.{ChangeHalts, MakeSpaceHalts, MapFileHalts, PlaceHalts, ProtectHalts, RemoveSpaceHalts}
use Rattle.space_calls.specs.ReasonLaws.{change_reasons, make_space_reasons, map_file_reasons, place_reasons, protect_reasons, remove_space_reasons}
use Rattle.pilot_engine.proofs.HomeLemmas.{have_lower, reached_below}
use Rattle.space_calls.specs.Mapping.{IsLastFrom, ReachesOver}
use Rattle.pilot_engine.proofs.HomeSteps.{map_or_blameless}
use Rattle.pilot_engine.proofs.LackLemmas.{fails_missing_page}
use Rattle.pilot_engine.proofs.ReasonSteps.{not_older_on, moving_ahead, moving_reasons}
use Rattle.pilot_engine.proofs.SpaceMisses.{change_misses, make_space_misses, map_file_misses, map_new_misses, place_misses, protect_misses, range_misses, remove_space_misses}
use Rattle.pilot_engine.proofs.SparedCalls.{spares_quiet}
use Rattle.session_words.specs.CellLaws.{IsTouchedOrOwn}
use Rattle.running_words.specs.Session.{WroteIn}
use Rattle.pilot_engine.specs.Showing.{mapped_by, maps}
use Rattle.pilot_engine.proofs.WindowLemmas.{map_or_more, on_or_more}
use Rattle.pilot_engine.proofs.OwnLemmas.{around_other, resizes_none}
use Rattle.pilot_engine.proofs.ReferLemmas.{ok_always}
use Rattle.pilot_engine.proofs.WritingLemmas.{allowed_asked, allowed_call, allowed_named}
use Rattle.pilot_engine.proofs.CallSteps.{plain_all}
use Rattle.pilot_engine.proofs.session.Session.answer_on_spaces.Goals as goal
use Rattle.filer_kernel.specs.View.{accepted}
use Rattle.space_calls.specs.OutcomesLaws.{halted, halted_bringing}
use Rattle.fault_core.specs.Reach.{TouchHalts}
use Rattle.pilot_engine.proofs.SpaceSteps.{answers_on, bringing_for, reached_reasons, touched_reasons, remains_on, writes_on, quiet_for}
use Rattle.pilot_engine.specs.Calls.{Answers}
use Rattle.filer_kernel.specs.FailsLaws.{if_fails, cause_in}

pub returns-in-MakeSpace-clause-machine : goal.returns-in-MakeSpace-clause-machine
returns-in-MakeSpace-clause-machine g c =
    λ m r.
    let e = c.make_space.ensures in
    rw c.in-MakeSpace.is (plain_all (call.MakeSpace c.in-MakeSpace.parent c.in-MakeSpace.pages c.in-MakeSpace.first) c.make_space.result refl (λ kept slots resident. resident) (λ kept slots. tt) refl (answers_on c.args.self.now c.make_space.new.core (e.answers c.args.self.now.volume m r) (λ quiet. ok_always c.make_space.result _ e.went.came) e.cost))

pub returns-in-MakeSpace-clause-remains : goal.returns-in-MakeSpace-clause-remains
returns-in-MakeSpace-clause-remains g c = remains_on c.args.self.now c.make_space.new.core c.requires.set_up.opened c.make_space.ensures.went.moves.layout

pub returns-in-MakeSpace-clause-writes : goal.returns-in-MakeSpace-clause-writes
returns-in-MakeSpace-clause-writes g c = rw c.in-MakeSpace.is (writes_on c.args.self.now c.make_space.new.core (call.MakeSpace c.in-MakeSpace.parent c.in-MakeSpace.pages c.in-MakeSpace.first) c.make_space.result refl c.make_space.ensures.went.wrote (λ ss s. c.make_space.ensures.went.wrote) c.make_space.ensures.went.moves.goes.makes)

pub returns-in-MakeSpace-clause-reference : goal.returns-in-MakeSpace-clause-reference
returns-in-MakeSpace-clause-reference g c = λ revealed. absurd (true≢false (sym revealed ∙ ap is_reference c.in-MakeSpace.is))

pub returns-in-RemoveSpace-clause-machine : goal.returns-in-RemoveSpace-clause-machine
returns-in-RemoveSpace-clause-machine g c =
    λ m r.
    let e = c.remove_space.ensures in
    rw c.in-RemoveSpace.is (plain_all (call.RemoveSpace c.in-RemoveSpace.space) c.remove_space.result refl (λ kept slots resident. resident) (λ kept slots. tt) refl (answers_on c.args.self.now c.remove_space.new.core (e.answers c.args.self.now.volume m r) (λ quiet. ok_always c.remove_space.result _ e.went.came) e.cost))

pub returns-in-RemoveSpace-clause-remains : goal.returns-in-RemoveSpace-clause-remains
returns-in-RemoveSpace-clause-remains g c = remains_on c.args.self.now c.remove_space.new.core c.requires.set_up.opened c.remove_space.ensures.went.moves.layout

pub returns-in-RemoveSpace-clause-writes : goal.returns-in-RemoveSpace-clause-writes
returns-in-RemoveSpace-clause-writes g c = rw c.in-RemoveSpace.is (writes_on c.args.self.now c.remove_space.new.core (call.RemoveSpace c.in-RemoveSpace.space) c.remove_space.result refl c.remove_space.ensures.went.wrote (λ ss s. c.remove_space.ensures.went.wrote) c.remove_space.ensures.went.moves.goes.makes)

pub returns-in-RemoveSpace-clause-reference : goal.returns-in-RemoveSpace-clause-reference
returns-in-RemoveSpace-clause-reference g c = λ revealed. absurd (true≢false (sym revealed ∙ ap is_reference c.in-RemoveSpace.is))

pub returns-in-Place-clause-machine : goal.returns-in-Place-clause-machine
returns-in-Place-clause-machine g c =
    λ m r.
    let e = c.place.ensures in
    rw c.in-Place.is (plain_all (call.Place c.in-Place.page) c.place.result refl (λ kept slots resident. resident) (λ kept slots. tt) refl (answers_on c.args.self.now c.place.new.core (e.answers c.args.self.now.volume m r) (λ quiet. ok_always c.place.result _ e.went.came) e.cost))

pub returns-in-Place-clause-remains : goal.returns-in-Place-clause-remains
returns-in-Place-clause-remains g c = remains_on c.args.self.now c.place.new.core c.requires.set_up.opened c.place.ensures.went.moves.layout

pub returns-in-Place-clause-writes : goal.returns-in-Place-clause-writes
returns-in-Place-clause-writes g c = rw c.in-Place.is (writes_on c.args.self.now c.place.new.core (call.Place c.in-Place.page) c.place.result refl c.place.ensures.went.wrote (λ ss s. c.place.ensures.went.wrote) c.place.ensures.went.moves.goes.makes)

pub returns-in-Place-clause-reference : goal.returns-in-Place-clause-reference
returns-in-Place-clause-reference g c = λ revealed. absurd (true≢false (sym revealed ∙ ap is_reference c.in-Place.is))

pub returns-in-Units-clause-machine : goal.returns-in-Units-clause-machine
returns-in-Units-clause-machine g c =
    λ m r.
    let e = c.set_units.ensures in
    rw c.in-Units.is (plain_all (call.Units c.in-Units.space c.in-Units.pages) c.set_units.result refl (λ kept slots resident. resident) (λ kept slots. tt) refl (answers_on c.args.self.now c.set_units.new.core (e.answers c.args.self.now.volume m r) (λ quiet. ok_always c.set_units.result _ e.went.came) e.cost))

pub returns-in-Units-clause-remains : goal.returns-in-Units-clause-remains
returns-in-Units-clause-remains g c = remains_on c.args.self.now c.set_units.new.core c.requires.set_up.opened c.set_units.ensures.went.moves.layout

pub returns-in-Units-clause-writes : goal.returns-in-Units-clause-writes
returns-in-Units-clause-writes g c = rw c.in-Units.is (writes_on c.args.self.now c.set_units.new.core (call.Units c.in-Units.space c.in-Units.pages) c.set_units.result refl c.set_units.ensures.went.wrote (λ ss s. c.set_units.ensures.went.wrote) c.set_units.ensures.went.moves.goes.makes)

pub returns-in-Units-clause-reference : goal.returns-in-Units-clause-reference
returns-in-Units-clause-reference g c = λ revealed. absurd (true≢false (sym revealed ∙ ap is_reference c.in-Units.is))

pub returns-in-Map-clause-machine : goal.returns-in-Map-clause-machine
returns-in-Map-clause-machine g c =
    λ m r.
    let e = c.map.ensures in
    rw c.in-Map.is (plain_all (call.Map c.in-Map.space c.in-Map.id c.in-Map.page c.in-Map.writable) c.map.result refl (λ kept slots resident. resident) (λ kept slots. tt) refl (answers_on c.args.self.now c.map.new.core (e.answers c.args.self.now.volume m r) (λ quiet. ok_always c.map.result _ e.went.came) e.cost))

pub returns-in-Map-clause-remains : goal.returns-in-Map-clause-remains
returns-in-Map-clause-remains g c = remains_on c.args.self.now c.map.new.core c.requires.set_up.opened c.map.ensures.went.moves.layout

pub returns-in-Map-clause-writes : goal.returns-in-Map-clause-writes
returns-in-Map-clause-writes g c = rw c.in-Map.is (writes_on c.args.self.now c.map.new.core (call.Map c.in-Map.space c.in-Map.id c.in-Map.page c.in-Map.writable) c.map.result refl c.map.ensures.went.wrote (λ ss s. c.map.ensures.went.wrote) c.map.ensures.went.moves.goes.makes)

pub returns-in-Map-clause-reference : goal.returns-in-Map-clause-reference
returns-in-Map-clause-reference g c = λ revealed. absurd (true≢false (sym revealed ∙ ap is_reference c.in-Map.is))

pub returns-in-MapAnonymous-clause-machine : goal.returns-in-MapAnonymous-clause-machine
returns-in-MapAnonymous-clause-machine g c = λ m r. rw c.in-MapAnonymous.is (plain_all (call.MapAnonymous c.in-MapAnonymous.space) c.map_anonymous.result refl (λ kept slots resident. resident) (λ kept slots. tt) refl (c.map_anonymous.ensures.answers m r))

pub returns-in-MapAnonymous-clause-writes : goal.returns-in-MapAnonymous-clause-writes
returns-in-MapAnonymous-clause-writes g c =
    let root = c.args.self.now.volume.root in
    record {
      wrote = rw c.in-MapAnonymous.is c.map_anonymous.ensures.writes.wrote;
      shown = λ ss s. rw c.in-MapAnonymous.is c.map_anonymous.ensures.writes.wrote;
      own = allowed_named c.map_anonymous.result (next_id root) (counted root) c.map_anonymous.new.self.volume.root c.args.call.now c.in-MapAnonymous.is c.map_anonymous.ensures.writes.own;
      spares = λ id client other new. c.map_anonymous.ensures.writes.spares id client new;
      around = around_other c.args.call.now (ap writes_leader c.in-MapAnonymous.is);
      unlabelled = λ keeps. absurd (true≢false (sym keeps ∙ ap keeps_labels c.in-MapAnonymous.is));
    }

pub returns-in-MapAnonymous-clause-reference : goal.returns-in-MapAnonymous-clause-reference
returns-in-MapAnonymous-clause-reference g c = λ revealed. absurd (true≢false (sym revealed ∙ ap is_reference c.in-MapAnonymous.is))

pub returns-in-Unmap-clause-machine : goal.returns-in-Unmap-clause-machine
returns-in-Unmap-clause-machine g c = λ m r. record {
  answers = rw c.in-Unmap.is (c.unmap.ensures.answers m r);
  forced = λ revealed free. done_then m c.in-Unmap.space c.unmap.new.self.core c.unmap.new.self.volume _ c.unmap.result (sym (ap (refusal m) c.in-Unmap.is) ∙ free) ((c.unmap.ensures.answers m r).carried) c.unmap.ensures.synced;
  advised = λ free. rw c.in-Unmap.is (nothing_revealed c.unmap.result);
  resizes = λ id f is. resizes_none c.args.call.now id (ap resizes c.in-Unmap.is) is;
  idle = λ resident. absurd (subst (λ (x : Call). IsResident x (kept c.args.self.now.core) (state c.args.self.now.core).slots) c.in-Unmap.is resident);
}

pub returns-in-Unmap-clause-writes : goal.returns-in-Unmap-clause-writes
returns-in-Unmap-clause-writes g c =
    let root = c.args.self.now.volume.root in
    record {
      wrote = rw c.in-Unmap.is c.unmap.ensures.writes.wrote;
      shown = λ ss s. rw c.in-Unmap.is c.unmap.ensures.writes.wrote;
      own = allowed_call c.unmap.result (next_id root) (counted root) c.unmap.new.self.volume.root c.args.call.now c.in-Unmap.is c.unmap.ensures.writes.own;
      spares = λ id client other new. c.unmap.ensures.writes.spares id client;
      around = around_other c.args.call.now (ap writes_leader c.in-Unmap.is);
      unlabelled = λ keeps. absurd (true≢false (sym keeps ∙ ap keeps_labels c.in-Unmap.is));
    }

pub returns-in-Unmap-clause-reference : goal.returns-in-Unmap-clause-reference
returns-in-Unmap-clause-reference g c = λ revealed. absurd (true≢false (sym revealed ∙ ap is_reference c.in-Unmap.is))

pub returns-in-Protect-clause-machine : goal.returns-in-Protect-clause-machine
returns-in-Protect-clause-machine g c = λ m r.
    let e = c.protect.ensures in
    record {
      answers = rw c.in-Protect.is (answers_on c.args.self.now c.protect.new.core (e.answers c.args.self.now.volume m r) (λ quiet. ok_always c.protect.result _ e.went.came) e.cost);
      forced = λ revealed free. c.protect.ensures.synced c.args.self.now.volume m r (unset _ (sym (ap waits c.in-Protect.is) ∙ revealed)) (sym (ap (refusal m) c.in-Protect.is) ∙ free);
      advised = λ free. rw c.in-Protect.is (nothing_revealed c.protect.result);
      resizes = λ id f is. resizes_none c.args.call.now id (ap resizes c.in-Protect.is) is;
      idle = λ resident. absurd (subst (λ (x : Call). IsResident x (kept c.args.self.now.core) (state c.args.self.now.core).slots) c.in-Protect.is resident);
    }

pub returns-in-Protect-clause-remains : goal.returns-in-Protect-clause-remains
returns-in-Protect-clause-remains g c = remains_on c.args.self.now c.protect.new.core c.requires.set_up.opened c.protect.ensures.went.moves.layout

pub returns-in-Protect-clause-writes : goal.returns-in-Protect-clause-writes
returns-in-Protect-clause-writes g c = rw c.in-Protect.is (writes_on c.args.self.now c.protect.new.core (call.Protect c.in-Protect.space c.in-Protect.writable) c.protect.result refl c.protect.ensures.went.wrote (λ ss s. c.protect.ensures.went.wrote) c.protect.ensures.went.moves.goes.makes)

pub returns-in-Protect-clause-reference : goal.returns-in-Protect-clause-reference
returns-in-Protect-clause-reference g c = λ revealed. absurd (true≢false (sym revealed ∙ ap is_reference c.in-Protect.is))

pub returns-in-Load-clause-machine : goal.returns-in-Load-clause-machine
returns-in-Load-clause-machine g c = λ m r.
    let e = c.load.ensures in
    let cost = asked_inside (state c.args.self.now.core).disk (state c.load.new.core).disk 1680 (omega arith) e.cost in
    record {
      answers = rw c.in-Load.is (answers_on c.args.self.now c.load.new.core (e.answers c.args.self.now.volume m r) (λ quiet. absurd (true≢false quiet)) cost);
      forced = λ revealed free. absurd (true≢false (sym revealed ∙ ap waits c.in-Load.is));
      advised = λ free. rw c.in-Load.is (c.load.ensures.ready c.args.self.now.volume m r (sym (ap (refusal m) c.in-Load.is) ∙ free));
      resizes = λ id f is. resizes_none c.args.call.now id (ap resizes c.in-Load.is) is;
      idle = (λ resident.
          let ready = subst (λ (x : Call). IsResident x (kept c.args.self.now.core) (state c.args.self.now.core).slots) c.in-Load.is resident in
          let done = c.load.ensures.idle c.args.self.now.volume m r ready.0 ready.1 in
          (done.0, rw done.1 refl));
    }

pub returns-in-Load-clause-remains : goal.returns-in-Load-clause-remains
returns-in-Load-clause-remains g c = remains_on c.args.self.now c.load.new.core c.requires.set_up.opened c.load.ensures.went.moves.layout

pub returns-in-Load-clause-writes : goal.returns-in-Load-clause-writes
returns-in-Load-clause-writes g c = rw c.in-Load.is (writes_on c.args.self.now c.load.new.core (call.Load c.in-Load.address c.in-Load.count) c.load.result refl c.load.ensures.went.wrote (λ ss s. c.load.ensures.went.wrote) c.load.ensures.went.moves.goes.makes)

pub returns-in-Store-clause-machine : goal.returns-in-Store-clause-machine
returns-in-Store-clause-machine g c = λ m r.
    let e = c.store.ensures in
    let later = record c.args.self.now { core = c.store.new.core } in
    let cost = asked_inside (state c.args.self.now.core).disk (state c.store.new.core).disk 1680 (omega arith) e.cost in
    let answers = answers_on c.args.self.now c.store.new.core (e.answers c.args.self.now.volume m r) (λ quiet. absurd (true≢false quiet)) cost in
    record {
      answers = rw c.in-Store.is (subst (λ (bs : List ℕ). Answers m (call.Store c.in-Store.address bs) c.args.self.now later c.store.result) c.as_slice.ensures.bytes answers);
      forced = λ revealed free. absurd (true≢false (sym revealed ∙ ap waits c.in-Store.is));
      advised = (λ free.
          rw c.in-Store.is
          (subst (λ (bs : List ℕ). OnOk c.store.result (IsReady (kept c.store.new.core) (state c.store.new.core).slots (last_page c.in-Store.address (length bs)))) c.as_slice.ensures.bytes
          (c.store.ensures.ready c.args.self.now.volume m r (ap (λ (bs : List ℕ). refusal m (call.Store c.in-Store.address bs)) c.as_slice.ensures.bytes ∙ sym (ap (refusal m) c.in-Store.is) ∙ free))));
      resizes = λ id f is. resizes_none c.args.call.now id (ap resizes c.in-Store.is) is;
      idle = (λ resident.
          let ready = subst (λ (x : Call). IsResident x (kept c.args.self.now.core) (state c.args.self.now.core).slots) c.in-Store.is resident in
          let last = subst (λ (bs : List ℕ). IsReady (kept c.args.self.now.core) (state c.args.self.now.core).slots (last_page c.in-Store.address (length bs))) (sym c.as_slice.ensures.bytes) ready.1 in
          let done = c.store.ensures.idle c.args.self.now.volume m r ready.0 last in
          (done.0, done.1));
    }

pub returns-in-Store-clause-remains : goal.returns-in-Store-clause-remains
returns-in-Store-clause-remains g c = remains_on c.args.self.now c.store.new.core c.requires.set_up.opened c.store.ensures.went.moves.layout

pub returns-in-Store-clause-writes : goal.returns-in-Store-clause-writes
returns-in-Store-clause-writes g c =
    let root = c.args.self.now.volume.root in
    record {
      wrote = rw c.in-Store.is c.store.ensures.went.wrote;
      shown = (λ ss s.
          let old = state c.args.self.now.core in
          let new = state c.store.new.core in
          rw c.in-Store.is (subst (λ (bs : List ℕ). WroteIn (IsTouchedOrOwn ss c.in-Store.address (length bs)) old.disk old.slots new.disk new.slots) c.as_slice.ensures.bytes (c.store.ensures.shown ss s)));
      own = allowed_asked c.store.result (next_id root) (counted root) root c.args.call.now c.store.ensures.went.moves.goes.makes;
      spares = λ id client other new. spares_quiet c.store.ensures.went.moves.goes.makes id client;
      around = around_other c.args.call.now (ap writes_leader c.in-Store.is);
      unlabelled = λ keeps. pages_alone c.store.ensures.went.moves.goes.makes;
    }

pub returns-in-Activate-clause-machine : goal.returns-in-Activate-clause-machine
returns-in-Activate-clause-machine g c = λ m r.
    let e = c.activate.ensures in
    record {
      answers = rw c.in-Activate.is (answers_on c.args.self.now c.activate.new.core (e.answers c.args.self.now.volume m r) (λ quiet. absurd (true≢false quiet)) e.cost);
      forced = λ revealed free. absurd (true≢false (sym revealed ∙ ap waits c.in-Activate.is));
      advised = λ free. rw c.in-Activate.is (of_pages (IsActive m.spaces (kept c.activate.new.core) (state c.activate.new.core).slots) m.spaces c.in-Activate.space c.activate.result (λ s at. c.activate.ensures.whole c.args.self.now.volume m s r at));
      resizes = λ id f is. resizes_none c.args.call.now id (ap resizes c.in-Activate.is) is;
      idle = λ resident. absurd (subst (λ (x : Call). IsResident x (kept c.args.self.now.core) (state c.args.self.now.core).slots) c.in-Activate.is resident);
    }

pub returns-in-Activate-clause-remains : goal.returns-in-Activate-clause-remains
returns-in-Activate-clause-remains g c = remains_on c.args.self.now c.activate.new.core c.requires.set_up.opened c.activate.ensures.went.moves.layout

pub returns-in-Activate-clause-writes : goal.returns-in-Activate-clause-writes
returns-in-Activate-clause-writes g c = rw c.in-Activate.is (writes_on c.args.self.now c.activate.new.core (call.Activate c.in-Activate.space) c.activate.result refl c.activate.ensures.went.wrote (λ ss s. c.activate.ensures.went.wrote) c.activate.ensures.went.moves.goes.makes)

pub returns-in-Activate-clause-reference : goal.returns-in-Activate-clause-reference
returns-in-Activate-clause-reference g c = λ revealed. absurd (true≢false (sym revealed ∙ ap is_reference c.in-Activate.is))

pub returns-in-Deactivate-clause-machine : goal.returns-in-Deactivate-clause-machine
returns-in-Deactivate-clause-machine g c = λ m r.
    let e = c.deactivate.ensures in
    record {
      answers = rw c.in-Deactivate.is (answers_on c.args.self.now c.deactivate.new.core (e.answers c.args.self.now.volume m r) (λ quiet. ok_always c.deactivate.result _ e.went.came) e.cost);
      forced = λ revealed free. absurd (true≢false (sym revealed ∙ ap waits c.in-Deactivate.is));
      advised = λ free. rw c.in-Deactivate.is (of_pages (AreGone m.spaces (state c.deactivate.new.core).slots) m.spaces c.in-Deactivate.space c.deactivate.result (λ s at. c.deactivate.ensures.gone c.args.self.now.volume m s r at));
      resizes = λ id f is. resizes_none c.args.call.now id (ap resizes c.in-Deactivate.is) is;
      idle = λ resident. absurd (subst (λ (x : Call). IsResident x (kept c.args.self.now.core) (state c.args.self.now.core).slots) c.in-Deactivate.is resident);
    }

pub returns-in-Deactivate-clause-remains : goal.returns-in-Deactivate-clause-remains
returns-in-Deactivate-clause-remains g c = remains_on c.args.self.now c.deactivate.new.core c.requires.set_up.opened c.deactivate.ensures.went.moves.layout

pub returns-in-Deactivate-clause-writes : goal.returns-in-Deactivate-clause-writes
returns-in-Deactivate-clause-writes g c = rw c.in-Deactivate.is (writes_on c.args.self.now c.deactivate.new.core (call.Deactivate c.in-Deactivate.space) c.deactivate.result refl c.deactivate.ensures.went.wrote (λ ss s. c.deactivate.ensures.went.wrote) c.deactivate.ensures.went.moves.goes.makes)

pub returns-in-Deactivate-clause-reference : goal.returns-in-Deactivate-clause-reference
returns-in-Deactivate-clause-reference g c = λ revealed. absurd (true≢false (sym revealed ∙ ap is_reference c.in-Deactivate.is))

pub returns-in-Kill-clause-machine : goal.returns-in-Kill-clause-machine
returns-in-Kill-clause-machine g c = λ m r.
    let e = c.kill.ensures in
    record {
      answers = rw c.in-Kill.is (answers_on c.args.self.now c.kill.new.core (e.answers c.args.self.now.volume m r) (λ quiet. ok_always c.kill.result _ e.went.came) e.cost);
      forced = λ revealed free. absurd (true≢false (sym revealed ∙ ap waits c.in-Kill.is));
      advised = λ free. rw c.in-Kill.is (of_pages (AreWritableSo (is_absent (state c.kill.new.core).slots) m.spaces) m.spaces c.in-Kill.space c.kill.result (λ s at. c.kill.ensures.gone c.args.self.now.volume m s r at));
      resizes = λ id f is. resizes_none c.args.call.now id (ap resizes c.in-Kill.is) is;
      idle = λ resident. absurd (subst (λ (x : Call). IsResident x (kept c.args.self.now.core) (state c.args.self.now.core).slots) c.in-Kill.is resident);
    }

pub returns-in-Kill-clause-remains : goal.returns-in-Kill-clause-remains
returns-in-Kill-clause-remains g c = remains_on c.args.self.now c.kill.new.core c.requires.set_up.opened c.kill.ensures.went.moves.layout

pub returns-in-Kill-clause-writes : goal.returns-in-Kill-clause-writes
returns-in-Kill-clause-writes g c = rw c.in-Kill.is (writes_on c.args.self.now c.kill.new.core (call.Kill c.in-Kill.space) c.kill.result refl c.kill.ensures.went.wrote (λ ss s. c.kill.ensures.went.wrote) c.kill.ensures.went.moves.goes.makes)

pub returns-in-Kill-clause-reference : goal.returns-in-Kill-clause-reference
returns-in-Kill-clause-reference g c = λ revealed. absurd (true≢false (sym revealed ∙ ap is_reference c.in-Kill.is))

pub returns-in-ForceOut-clause-machine : goal.returns-in-ForceOut-clause-machine
returns-in-ForceOut-clause-machine g c = λ m r.
    let e = c.force_out.ensures in
    record {
      answers = rw c.in-ForceOut.is (answers_on c.args.self.now c.force_out.new.core (e.answers c.args.self.now.volume m r) (λ quiet. ok_always c.force_out.result _ e.went.came) e.cost);
      forced = λ revealed free. c.force_out.ensures.synced c.args.self.now.volume m r (sym (ap (refusal m) c.in-ForceOut.is) ∙ free);
      advised = λ free. rw c.in-ForceOut.is (of_pages (AreClean m.spaces (state c.force_out.new.core).slots) m.spaces c.in-ForceOut.space c.force_out.result (λ s at. c.force_out.ensures.clean c.args.self.now.volume m s r at));
      resizes = λ id f is. resizes_none c.args.call.now id (ap resizes c.in-ForceOut.is) is;
      idle = λ resident. absurd (subst (λ (x : Call). IsResident x (kept c.args.self.now.core) (state c.args.self.now.core).slots) c.in-ForceOut.is resident);
    }

pub returns-in-ForceOut-clause-remains : goal.returns-in-ForceOut-clause-remains
returns-in-ForceOut-clause-remains g c = remains_on c.args.self.now c.force_out.new.core c.requires.set_up.opened c.force_out.ensures.went.moves.layout

pub returns-in-ForceOut-clause-writes : goal.returns-in-ForceOut-clause-writes
returns-in-ForceOut-clause-writes g c = rw c.in-ForceOut.is (writes_on c.args.self.now c.force_out.new.core (call.ForceOut c.in-ForceOut.space) c.force_out.result refl c.force_out.ensures.went.wrote (λ ss s. c.force_out.ensures.went.wrote) c.force_out.ensures.went.moves.goes.makes)

pub returns-in-ForceOut-clause-reference : goal.returns-in-ForceOut-clause-reference
returns-in-ForceOut-clause-reference g c = λ revealed. absurd (true≢false (sym revealed ∙ ap is_reference c.in-ForceOut.is))

pub load-requires-clause-some : goal.load-requires-clause-some
load-requires-clause-some g c = (subst IsInForm c.in-Load.is c.requires.in_form).0

pub load-requires-clause-few : goal.load-requires-clause-few
load-requires-clause-few g c = (subst IsInForm c.in-Load.is c.requires.in_form).1

pub store-requires-clause-some : goal.store-requires-clause-some
store-requires-clause-some g c = subst (λ (bs : List ℕ). 1 ≤ length bs) (sym c.as_slice.ensures.bytes) (subst IsInForm c.in-Store.is c.requires.in_form).0

pub store-requires-clause-few : goal.store-requires-clause-few
store-requires-clause-few g c = subst (λ (bs : List ℕ). length bs ≤ 64) (sym c.as_slice.ensures.bytes) (subst IsInForm c.in-Store.is c.requires.in_form).1

pub unreachable-requires : goal.unreachable-requires
unreachable-requires g c = none_on_spaces c.args.call.now c.requires.on_spaces c.in_default.not-MakeSpace c.in_default.not-RemoveSpace c.in_default.not-Place c.in_default.not-Units c.in_default.not-Map c.in_default.not-MapAnonymous c.in_default.not-Unmap c.in_default.not-Protect c.in_default.not-Load c.in_default.not-Store c.in_default.not-Activate c.in_default.not-Deactivate c.in_default.not-Kill c.in_default.not-ForceOut

pub returns-in-MakeSpace-clause-halts : goal.returns-in-MakeSpace-clause-halts
returns-in-MakeSpace-clause-halts g c = record {
  fails = rw c.in-MakeSpace.is (halted c.make_space.ensures.fails);
  missing = (λ ss sees.
      let old = c.args.self.now.core in
      let count = old.intervals in
      rw c.in-MakeSpace.is (fails_missing_page (MakeSpaceHalts c.in-MakeSpace.parent c.in-MakeSpace.pages c.in-MakeSpace.first count) no_page (make_space_misses c.in-MakeSpace.parent c.in-MakeSpace.pages c.in-MakeSpace.first count no_page) (state old) (state c.make_space.new.core) c.make_space.result c.make_space.ensures.fails.cause));
}

pub returns-in-RemoveSpace-clause-halts : goal.returns-in-RemoveSpace-clause-halts
returns-in-RemoveSpace-clause-halts g c = record {
  fails = rw c.in-RemoveSpace.is (halted c.remove_space.ensures.fails);
  missing = (λ ss sees.
      let old = c.args.self.now.core in
      let count = old.intervals in
      rw c.in-RemoveSpace.is (fails_missing_page (RemoveSpaceHalts c.in-RemoveSpace.space count) no_page (remove_space_misses c.in-RemoveSpace.space count no_page) (state old) (state c.remove_space.new.core) c.remove_space.result c.remove_space.ensures.fails.cause));
}

pub returns-in-Place-clause-halts : goal.returns-in-Place-clause-halts
returns-in-Place-clause-halts g c = record {
  fails = rw c.in-Place.is (halted c.place.ensures.fails);
  missing = (λ ss sees.
      let old = c.args.self.now.core in
      let count = old.intervals in
      rw c.in-Place.is (fails_missing_page (PlaceHalts c.in-Place.page count) no_page (place_misses c.in-Place.page count no_page) (state old) (state c.place.new.core) c.place.result c.place.ensures.fails.cause));
}

pub returns-in-Units-clause-halts : goal.returns-in-Units-clause-halts
returns-in-Units-clause-halts g c = record {
  fails = rw c.in-Units.is (halted c.set_units.ensures.fails);
  missing = (λ ss sees.
      let old = c.args.self.now.core in
      let count = old.intervals in
      rw c.in-Units.is (fails_missing_page (ChangeHalts count) no_page (change_misses count no_page) (state old) (state c.set_units.new.core) c.set_units.result c.set_units.ensures.fails.cause));
}

pub returns-in-Map-clause-halts : goal.returns-in-Map-clause-halts
returns-in-Map-clause-halts g c = record {
  fails = rw c.in-Map.is (halted c.map.ensures.fails);
  missing = (λ ss sees.
      let old = c.args.self.now.core in
      let count = old.intervals in
      rw c.in-Map.is (fails_missing_page (MapFileHalts c.in-Map.space c.in-Map.id count) no_page (map_file_misses c.in-Map.space c.in-Map.id count no_page) (state old) (state c.map.new.core) c.map.result c.map.ensures.fails.cause));
}

pub returns-in-MapAnonymous-clause-halts : goal.returns-in-MapAnonymous-clause-halts
returns-in-MapAnonymous-clause-halts g c = record {
  fails = rw c.in-MapAnonymous.is c.map_anonymous.ensures.fails;
  missing = (λ ss sees.
      let old = c.args.self.now.core in
      let count = old.intervals in
      rw c.in-MapAnonymous.is (fails_missing_page (MapNewHalts (next_id c.args.self.now.volume.root) count) no_page (map_new_misses (next_id c.args.self.now.volume.root) count no_page) (state old) (state c.map_anonymous.new.self.core) c.map_anonymous.result (cause_in _ _ _ c.map_anonymous.result c.map_anonymous.ensures.fails)));
}

pub returns-in-Unmap-clause-halts : goal.returns-in-Unmap-clause-halts
returns-in-Unmap-clause-halts g c = record {
  fails = rw c.in-Unmap.is c.unmap.ensures.fails;
  missing = λ ss sees. rw c.in-Unmap.is (c.unmap.ensures.missing ss sees);
}

pub returns-in-Protect-clause-halts : goal.returns-in-Protect-clause-halts
returns-in-Protect-clause-halts g c = record {
  fails = rw c.in-Protect.is (halted c.protect.ensures.fails);
  missing = (λ ss sees.
      let old = c.args.self.now.core in
      let count = old.intervals in
      rw c.in-Protect.is (fails_missing_page (ProtectHalts c.in-Protect.space c.in-Protect.writable count) no_page (protect_misses c.in-Protect.space c.in-Protect.writable count no_page) (state old) (state c.protect.new.core) c.protect.result c.protect.ensures.fails.cause));
}

pub returns-in-Load-clause-halts : goal.returns-in-Load-clause-halts
returns-in-Load-clause-halts g c = record {
  fails = rw c.in-Load.is (halted_bringing c.load.ensures.fails);
  missing = λ ss sees. rw c.in-Load.is (c.load.ensures.fails.missing ss sees);
}

pub returns-in-Store-clause-halts : goal.returns-in-Store-clause-halts
returns-in-Store-clause-halts g c = record {
  fails = (if_fails _ _ _ c.store.result (rw c.in-Store.is
      (subst (λ (bs : List ℕ). IfErr c.store.result (StepHalts 0 (call.Store c.in-Store.address bs) c.args.self.now.core.intervals (state c.args.self.now.core) (state c.store.new.core))) c.as_slice.ensures.bytes c.store.ensures.fails.cause)) c.store.ensures.fails.counted c.store.ensures.fails.evidence_seen);
  missing = (λ ss sees.
      rw c.in-Store.is
      (subst (λ (bs : List ℕ). IfErr c.store.result (MissesPage (shown_units ss c.in-Store.address (length bs)))) c.as_slice.ensures.bytes (c.store.ensures.fails.missing ss sees)));
}

pub returns-in-Activate-clause-halts : goal.returns-in-Activate-clause-halts
returns-in-Activate-clause-halts g c = record {
  fails = rw c.in-Activate.is (halted_bringing c.activate.ensures.fails);
  missing = λ ss sees. rw c.in-Activate.is (c.activate.ensures.fails.missing ss sees);
}

pub returns-in-Deactivate-clause-halts : goal.returns-in-Deactivate-clause-halts
returns-in-Deactivate-clause-halts g c = record {
  fails = rw c.in-Deactivate.is (halted c.deactivate.ensures.fails);
  missing = (λ ss sees.
      let old = c.args.self.now.core in
      let count = old.intervals in
      rw c.in-Deactivate.is (fails_missing_page (λ v w e. ReachHalts (BreaksRange v count c.in-Deactivate.space) v w e) no_page (range_misses c.in-Deactivate.space count no_page) (state old) (state c.deactivate.new.core) c.deactivate.result c.deactivate.ensures.fails.cause));
}

pub returns-in-Kill-clause-halts : goal.returns-in-Kill-clause-halts
returns-in-Kill-clause-halts g c = record {
  fails = rw c.in-Kill.is (halted c.kill.ensures.fails);
  missing = (λ ss sees.
      let old = c.args.self.now.core in
      let count = old.intervals in
      rw c.in-Kill.is (fails_missing_page (λ v w e. ReachHalts (BreaksRange v count c.in-Kill.space) v w e) no_page (range_misses c.in-Kill.space count no_page) (state old) (state c.kill.new.core) c.kill.result c.kill.ensures.fails.cause));
}

pub returns-in-ForceOut-clause-halts : goal.returns-in-ForceOut-clause-halts
returns-in-ForceOut-clause-halts g c = record {
  fails = rw c.in-ForceOut.is (halted c.force_out.ensures.fails);
  missing = (λ ss sees.
      let old = c.args.self.now.core in
      let count = old.intervals in
      rw c.in-ForceOut.is (fails_missing_page (λ v w e. ReachHalts (BreaksRange v count c.in-ForceOut.space) v w e) no_page (range_misses c.in-ForceOut.space count no_page) (state old) (state c.force_out.new.core) c.force_out.result c.force_out.ensures.fails.cause));
}

-- ---- The initial state.

pub returns-in-MakeSpace-clause-accounts : goal.returns-in-MakeSpace-clause-accounts
returns-in-MakeSpace-clause-accounts g c =
    λ o k n.
    let count = c.args.self.now.core.intervals in
    let e = c.make_space.ensures in
    quiet_for c.args.self.now c.make_space.new.core (MakeSpaceHalts c.in-MakeSpace.parent c.in-MakeSpace.pages c.in-MakeSpace.first count) (make_space_reasons c.in-MakeSpace.parent c.in-MakeSpace.pages c.in-MakeSpace.first count) c.make_space.result e.went.moves e.sees o k n c.args.call.now (make_space_misses c.in-MakeSpace.parent c.in-MakeSpace.pages c.in-MakeSpace.first count no_page) e.fails

pub returns-in-RemoveSpace-clause-accounts : goal.returns-in-RemoveSpace-clause-accounts
returns-in-RemoveSpace-clause-accounts g c =
    λ o k n.
    let count = c.args.self.now.core.intervals in
    let e = c.remove_space.ensures in
    quiet_for c.args.self.now c.remove_space.new.core (RemoveSpaceHalts c.in-RemoveSpace.space count) (remove_space_reasons c.in-RemoveSpace.space count) c.remove_space.result e.went.moves e.sees o k n c.args.call.now (remove_space_misses c.in-RemoveSpace.space count no_page) e.fails

pub returns-in-Place-clause-accounts : goal.returns-in-Place-clause-accounts
returns-in-Place-clause-accounts g c =
    λ o k n.
    let count = c.args.self.now.core.intervals in
    let e = c.place.ensures in
    quiet_for c.args.self.now c.place.new.core (PlaceHalts c.in-Place.page count) (place_reasons c.in-Place.page count) c.place.result e.went.moves e.sees o k n c.args.call.now (place_misses c.in-Place.page count no_page) e.fails

pub returns-in-Units-clause-accounts : goal.returns-in-Units-clause-accounts
returns-in-Units-clause-accounts g c =
    λ o k n.
    let count = c.args.self.now.core.intervals in
    let e = c.set_units.ensures in
    quiet_for c.args.self.now c.set_units.new.core (ChangeHalts count) (change_reasons count) c.set_units.result e.went.moves e.sees o k n c.args.call.now (change_misses count no_page) e.fails

pub returns-in-Map-clause-accounts : goal.returns-in-Map-clause-accounts
returns-in-Map-clause-accounts g c = λ o k n.
    let old = c.args.self.now.core in
    let count = old.intervals in
    record {
      accounts = (record {
        keeps_to = (moving_ahead (state old) (state c.map.new.core) c.map.result (accepted old.filer) c.map.ensures.went.moves o c.args.self.now.volume.root k n);
        reasons = (moving_reasons (MapFileHalts c.in-Map.space c.in-Map.id count) (map_file_reasons c.in-Map.space c.in-Map.id count)
            (state old) (state c.map.new.core) c.map.result (accepted old.filer) c.map.ensures.went.moves c.map.ensures.fails.cause o k);
        sees = (λ seen. let old = c.args.self.now.core in
            let count = old.intervals in
            let reached = c.map.ensures.found seen.0 k.1.0.memory k.0 seen.1.0 k.1.0.stands k.1.0.map k.1.0.kept in
            map_or_blameless o old c.map.new.core c.map.ensures.went.moves.goes.makes c.in-Map.space c.in-Map.id c.in-Map.page c.map.result c.map.ensures.sees seen
            (ok_wider c.map.result (λ reply. reply ≡ answer.Done → ReachesOver seen.0 c.in-Map.space c.in-Map.id c.in-Map.page k.0) (λ reply. reply ≡ answer.Done → (last : ℕ) → IsLastFrom seen.0 c.in-Map.space c.in-Map.page last → WasBelow o (state old).disk c.in-Map.id last)
            (λ reply reaches is. reached_below k.1.0 seen.0 c.in-Map.space c.in-Map.id c.in-Map.page (reaches is)) reached)
            c.map.ensures.fails.right (fails_missing_page (MapFileHalts c.in-Map.space c.in-Map.id count) no_page (map_file_misses c.in-Map.space c.in-Map.id count no_page) (state old) (state c.map.new.core) c.map.result c.map.ensures.fails.cause));
      });
      windows = (map_or_more (mapped_by (next_id c.args.self.now.volume.root) c.args.call.now) c.in-Map.space c.in-Map.id c.in-Map.page c.map.result c.args.self.now.core c.map.new.core c.map.ensures.sees
          (λ ss file last same. ap (maps (next_id c.args.self.now.volume.root)) c.in-Map.is ∙ ap (λ (i : ℕ). Some i) (sym same)));
    }

pub returns-in-Unmap-clause-accounts : goal.returns-in-Unmap-clause-accounts
returns-in-Unmap-clause-accounts g c = λ o k n. record {
  accounts = (record {
    keeps_to = (not_older_on c.unmap.result o (state c.unmap.new.self.core) c.args.self.now.volume.root c.unmap.new.self.volume.root n c.unmap.ensures.remains.stays.monotone ((c.unmap.ensures.accounts o k).keeps_to));
    reasons = ((c.unmap.ensures.accounts o k).reasons);
    sees = (λ seen. (c.unmap.ensures.accounts o k).sees seen);
  });
  windows = on_or_more (mapped_by (next_id c.args.self.now.volume.root) c.args.call.now) c.unmap.result c.args.self.now.core c.unmap.new.self.core (c.unmap.ensures.windows o k);
}

pub returns-in-Protect-clause-accounts : goal.returns-in-Protect-clause-accounts
returns-in-Protect-clause-accounts g c =
    λ o k n.
    let count = c.args.self.now.core.intervals in
    let e = c.protect.ensures in
    quiet_for c.args.self.now c.protect.new.core (ProtectHalts c.in-Protect.space c.in-Protect.writable count) (protect_reasons c.in-Protect.space c.in-Protect.writable count) c.protect.result e.went.moves e.sees o k n c.args.call.now (protect_misses c.in-Protect.space c.in-Protect.writable count no_page) e.fails

pub returns-in-Load-clause-accounts : goal.returns-in-Load-clause-accounts
returns-in-Load-clause-accounts g c =
    λ o k n.
    let count = c.args.self.now.core.intervals in
    let e = c.load.ensures in
    bringing_for c.args.self.now c.load.new.core (λ v w e. TouchHalts (BreaksFor v count c.in-Load.address c.in-Load.count) v w e) (touched_reasons (λ v. BreaksFor v count c.in-Load.address c.in-Load.count)) c.load.result e.went.moves e.sees o k n c.args.call.now
    (λ ss. shown_units ss c.in-Load.address c.in-Load.count) e.fails (λ seen. units_on (WasBelow o (state c.args.self.now.core).disk) (have_lower o (state c.args.self.now.core).disk) seen.0 seen.1.1 c.in-Load.address c.in-Load.count)

pub returns-in-Store-clause-accounts : goal.returns-in-Store-clause-accounts
returns-in-Store-clause-accounts g c =
    λ o k n.
    let count = c.args.self.now.core.intervals in
    let e = c.store.ensures in
    bringing_for c.args.self.now c.store.new.core (λ v w e. TouchHalts (BreaksFor v count c.in-Store.address (length c.as_slice.result.now)) v w e) (touched_reasons (λ v. BreaksFor v count c.in-Store.address (length c.as_slice.result.now))) c.store.result e.went.moves e.sees o k n c.args.call.now
    (λ ss. shown_units ss c.in-Store.address (length c.as_slice.result.now)) e.fails (λ seen. units_on (WasBelow o (state c.args.self.now.core).disk) (have_lower o (state c.args.self.now.core).disk) seen.0 seen.1.1 c.in-Store.address (length c.as_slice.result.now))

pub returns-in-Activate-clause-accounts : goal.returns-in-Activate-clause-accounts
returns-in-Activate-clause-accounts g c =
    λ o k n.
    let count = c.args.self.now.core.intervals in
    let e = c.activate.ensures in
    bringing_for c.args.self.now c.activate.new.core (λ v w e. TouchHalts (BreaksRange v count c.in-Activate.space) v w e) (touched_reasons (λ v. BreaksRange v count c.in-Activate.space)) c.activate.result e.went.moves e.sees o k n c.args.call.now
    (λ ss. space_units ss c.in-Activate.space) e.fails (λ seen. space_on (WasBelow o (state c.args.self.now.core).disk) (have_lower o (state c.args.self.now.core).disk) seen.0 seen.1.1 c.in-Activate.space)

pub returns-in-Deactivate-clause-accounts : goal.returns-in-Deactivate-clause-accounts
returns-in-Deactivate-clause-accounts g c =
    λ o k n.
    let count = c.args.self.now.core.intervals in
    let e = c.deactivate.ensures in
    quiet_for c.args.self.now c.deactivate.new.core (λ v w e. ReachHalts (BreaksRange v count c.in-Deactivate.space) v w e) (reached_reasons (λ v. BreaksRange v count c.in-Deactivate.space)) c.deactivate.result e.went.moves e.sees o k n c.args.call.now (range_misses c.in-Deactivate.space count no_page) e.fails

pub returns-in-Kill-clause-accounts : goal.returns-in-Kill-clause-accounts
returns-in-Kill-clause-accounts g c =
    λ o k n.
    let count = c.args.self.now.core.intervals in
    let e = c.kill.ensures in
    quiet_for c.args.self.now c.kill.new.core (λ v w e. ReachHalts (BreaksRange v count c.in-Kill.space) v w e) (reached_reasons (λ v. BreaksRange v count c.in-Kill.space)) c.kill.result e.went.moves e.sees o k n c.args.call.now (range_misses c.in-Kill.space count no_page) e.fails

pub returns-in-ForceOut-clause-accounts : goal.returns-in-ForceOut-clause-accounts
returns-in-ForceOut-clause-accounts g c =
    λ o k n.
    let count = c.args.self.now.core.intervals in
    let e = c.force_out.ensures in
    quiet_for c.args.self.now c.force_out.new.core (λ v w e. ReachHalts (BreaksRange v count c.in-ForceOut.space) v w e) (reached_reasons (λ v. BreaksRange v count c.in-ForceOut.space)) c.force_out.result e.went.moves e.sees o k n c.args.call.now (range_misses c.in-ForceOut.space count no_page) e.fails

-- ---- The space tables are seen.

-- Labels that are not written.

-- ---- Which windows are seen.

pub returns-in-MapAnonymous-clause-accounts : goal.returns-in-MapAnonymous-clause-accounts
returns-in-MapAnonymous-clause-accounts g c = λ o k n. record {
  accounts = c.map_anonymous.ensures.accounts o k n;
  windows = rw c.in-MapAnonymous.is (c.map_anonymous.ensures.windows o k n);
}

-- ---- What is written.

pub returns-in-Unmap-clause-remains : goal.returns-in-Unmap-clause-remains
returns-in-Unmap-clause-remains g c = c.unmap.ensures.remains

pub returns-in-MapAnonymous-clause-remains : goal.returns-in-MapAnonymous-clause-remains
returns-in-MapAnonymous-clause-remains g c = c.map_anonymous.ensures.remains
