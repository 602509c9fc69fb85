use Rattle.std.proofs.Common.{rules, List, ℕ, ◌≡◌, ◌⊎◌, ◌^◌, ◌<◌, ◌≤◌, Result, Ok, Some, refl, sym, ap, subst, ◌∙◌, arith, inl, inr}
use Rattle.labelled_disk.specs.declared.layout.Layout.{Layout}
use Rattle.flat_machine.specs.declared.call.Call.TheVariants as call
use Rattle.flat_machine.specs.declared.call.Reply.{Reply}
use Rattle.flat_machine.specs.declared.call.Refusal.{Refusal}
use Rattle.flat_machine.specs.declared.space.Space.{Space}
use Rattle.flat_machine.specs.Refusal.{first_of}
use Rattle.flat_machine.specs.Space.{space_at}
use Rattle.projection_laws.specs.Tests.{map_row}
use Rattle.table_calls.specs.Answers.{Reveals}
use Rattle.running_words.specs.Running.{Carried}
use Rattle.space_calls.proofs.RunLemmas.{asked_runs, knows, reached_makes}
use Rattle.pilot_engine.proofs.BoundLemmas.{asked_inside, spent_around}
use Rattle.pilot_engine.proofs.LiftLemmas.{asked_passes, carried_out, refused_running, still_open}
use Rattle.pilot_engine.proofs.NewWindow.{can_be_mapped, created, created_alike, created_numbers, map_refused, mapped_alike, mapped_machine, mapped_numbers, few_pages, may_have, not_created, own_space, unmapped_yet, window_carried, window_fits}
use Rattle.pilot_engine.proofs.PassThen.{asked_then, quiet_then, then_quiet}
use Rattle.pilot_engine.proofs.WroteLemmas.{wrote_by, wrote_then}
use Rattle.filer_kernel.specs.EvidenceLaws.{fits}
use Rattle.fault_core.proofs.EvidenceLemmas.{shows_evidence}
use Rattle.fault_core.specs.Core.{state}
use Rattle.space_calls.specs.Halts.{ChangeHalts, PathHalts}
use Rattle.space_calls.proofs.HaltLemmas.{counted_change}
use Rattle.file_manager.specs.Creating.{counted, next_id}
use Rattle.file_manager.specs.Grounds.{IsNewPage}
use Rattle.file_manager.specs.Taking.{every_page}
use Rattle.file_manager.proofs.RoomStops.{create_wider}
use Rattle.pilot_engine.specs.Halting.{MapNewHalts}
use Rattle.space_calls.specs.ReasonLaws.{change_reasons, path_reasons}
use Rattle.pilot_engine.proofs.ReasonSteps.{given_on, given_reasons, moving_keeps, moving_reasons, reached_on, reasons_since, shows_after, shows_since}
use Rattle.running_words.specs.BlamelessLaws.{never_blames_form}
use Rattle.space_calls.specs.FilesLaws.{given_for_files, shown_or}
use Rattle.swapper_kernel.specs.Goes.{Pages, no_page}
use Rattle.file_manager.specs.Reasons.{WasBelow, giving}
use Rattle.space_calls.proofs.SeesLemmas.{are_seen, free_may, handle_so}
use Rattle.space_calls.proofs.TableAnswers.{map_revealed}
use Rattle.pilot_engine.proofs.HomeLemmas.{files_later, home_still, none_blameless}
use Rattle.pilot_engine.proofs.HomeSteps.{last_within, on_or_blameless}
use Rattle.pilot_engine.proofs.LackLemmas.{fails_missing_page}
use Rattle.pilot_engine.proofs.SpaceMisses.{change_misses, path_misses}
use Rattle.pilot_engine.proofs.SparedCalls.{all_but, but_then, spares_quiet}
use Rattle.space_calls.specs.Sees.{IsShown}
use Rattle.pilot_engine.specs.Showing.{mapped_by}
use Rattle.pilot_engine.proofs.WindowLemmas.{ok_for_each, sees_or}
use Rattle.swapper_kernel.specs.HaltLaws.{brings_then}
use Rattle.pilot_engine.proofs.ReferLemmas.{ok_always}
use Rattle.pilot_engine.proofs.WritingLemmas.{mapped_after, only_asked, only_then, where_ok}
use Rattle.pilot_engine.proofs.FailSteps.{fails_after, if_fails_after}
use Rattle.space_calls.specs.OutcomesLaws.{halted}
use Rattle.pilot_engine.proofs.SpaceSteps.{stays_on}
use Rattle.pilot_engine.proofs.session.Session.map_anonymous.Goals as goal
use Rattle.filer_kernel.specs.View.{accepted, disk_of, swapper_of, view_of}

pub returns-in-Ok-Err-clause-answers : goal.returns-in-Ok-Err-clause-answers
returns-in-Ok-Err-clause-answers g c = λ m r. record {
  carried = (refused_running _ _ m (call.MapAnonymous c.args.space) _ (asked_runs c.args.self.now.core (accepted c.args.self.now.core.filer) c.requires.set_up.size c.can_map.new.core c.args.self.now.volume m c.can_map.ensures.asked r) (map_refused m c.args.space _ (λ at. (s : Space) × (space_at m.spaces c.args.space ≡ Some s) × (at ≡ (s.first, s.pages))) (subst (λ (x : Result (ℕ × ℕ) Refusal). Reveals (first_of (map_row m.spaces c.args.space)) (λ at. (s : Space) × (space_at m.spaces c.args.space ≡ Some s) × (at ≡ (s.first, s.pages))) x) c.in-Ok-Err.field-0-is (c.in-Ok-Err.ensures.answer _ _ m.spaces (knows c.args.self.now.core (accepted c.args.self.now.core.filer) c.requires.set_up.size c.args.self.now.volume m r)))));
  sound = tt;
  passes = (asked_passes c.args.self.now.core c.args.self.now.volume m (call.MapAnonymous c.args.space) r (g.met.D.Disk.in_form (disk_of c.args.self.now.core.filer)) (reached_makes c.can_map.ensures.asked.reaches));
  came = λ quiet. c.can_map.ensures.asked.came;
  cost = (asked_inside (state c.args.self.now.core).disk (state c.can_map.new.core).disk 14364 (omega arith) c.can_map.ensures.cost);
}

pub returns-in-Ok-Err-clause-writes : goal.returns-in-Ok-Err-clause-writes
returns-in-Ok-Err-clause-writes g c =
    let root = c.args.self.now.volume.root in
    let what = call.MapAnonymous c.args.space in
    let makes = reached_makes c.can_map.ensures.asked.reaches in
    record {
      wrote = wrote_by (reached_makes c.can_map.ensures.asked.reaches) tt;
      own = ((only_asked (next_id root) (counted root) what makes), (only_asked (next_id root) root what makes));
      spares = all_but (spares_quiet (reached_makes c.can_map.ensures.asked.reaches));
    }

pub returns-in-Ok-Err-clause-remains : goal.returns-in-Ok-Err-clause-remains
returns-in-Ok-Err-clause-remains g c = record { stays = stays_on c.args.self.now c.can_map.new.core c.requires.set_up.opened c.can_map.ensures.asked.reaches.layout; running = refl }

pub returns-in-Err-clause-answers : goal.returns-in-Err-clause-answers
returns-in-Err-clause-answers g c = λ m r. record {
  carried = tt;
  sound = (c.in-Err.ensures.sound _ _ m.spaces (knows c.args.self.now.core (accepted c.args.self.now.core.filer) c.requires.set_up.size c.args.self.now.volume m r));
  passes = (asked_passes c.args.self.now.core c.args.self.now.volume m (call.MapAnonymous c.args.space) r (g.met.D.Disk.in_form (disk_of c.args.self.now.core.filer)) (reached_makes c.can_map.ensures.asked.reaches));
  came = λ quiet. tt;
  cost = (asked_inside (state c.args.self.now.core).disk (state c.can_map.new.core).disk 14364 (omega arith) c.can_map.ensures.cost);
}

pub returns-in-Err-clause-writes : goal.returns-in-Err-clause-writes
returns-in-Err-clause-writes g c =
    let root = c.args.self.now.volume.root in
    record {
      wrote = wrote_by (reached_makes c.can_map.ensures.asked.reaches) tt;
      own = ((only_asked (next_id root) (counted root) (call.MapAnonymous c.args.space) (reached_makes c.can_map.ensures.asked.reaches)), tt);
      spares = all_but (spares_quiet (reached_makes c.can_map.ensures.asked.reaches));
    }

pub returns-in-Err-clause-remains : goal.returns-in-Err-clause-remains
returns-in-Err-clause-remains g c = record { stays = stays_on c.args.self.now c.can_map.new.core c.requires.set_up.opened c.can_map.ensures.asked.reaches.layout; running = refl }

pub create-requires : goal.create-requires
create-requires g c = record { set_up = record { size = (reached_makes c.can_map.ensures.asked.reaches).went.sectors ∙ c.requires.set_up.size ∙ ap (λ (l : Layout). l.sectors) (sym c.can_map.ensures.asked.reaches.layout); opened = still_open _ _ _ _ c.requires.set_up.opened c.can_map.ensures.asked.reaches.layout refl } }

pub returns-in-Err-create-clause-answers : goal.returns-in-Err-create-clause-answers
returns-in-Err-create-clause-answers g c = λ m r. record {
  carried = tt;
  sound = (c.in-Err-create.ensures.sound _ m (asked_runs c.args.self.now.core (accepted c.args.self.now.core.filer) c.requires.set_up.size c.can_map.new.core c.args.self.now.volume m c.can_map.ensures.asked r).session);
  passes = (let can = can_be_mapped m c.args.space c.in-Ok-Ok.run' (subst (λ (x : Result (ℕ × ℕ) Refusal). Reveals (first_of (map_row m.spaces c.args.space)) (λ at. (s : Space) × (space_at m.spaces c.args.space ≡ Some s) × (at ≡ (s.first, s.pages))) x) c.in-Ok-Ok.field-0-is (c.in-Ok-Ok.ensures.answer _ _ m.spaces (knows c.args.self.now.core (accepted c.args.self.now.core.filer) c.requires.set_up.size c.args.self.now.volume m r))) in
      quiet_then m m (call.MapAnonymous c.args.space) (call.Create c.in-Ok-Ok.run'.1 0) (asked_passes c.args.self.now.core c.args.self.now.volume m call.Volume r (g.met.D.Disk.in_form (disk_of c.args.self.now.core.filer)) (reached_makes c.can_map.ensures.asked.reaches)) ((c.create.ensures.answers _ m (asked_runs c.args.self.now.core (accepted c.args.self.now.core.filer) c.requires.set_up.size c.can_map.new.core c.args.self.now.volume m c.can_map.ensures.asked r).session).passes) (omega arith) (created_alike m r.session.stands.is.by.machine c.args.space c.in-Ok-Ok.run' can) (created_numbers m r.session.stands.is.by.machine c.args.space c.in-Ok-Ok.run' can));
  came = λ quiet. tt;
  cost = (spent_around (state c.args.self.now.core).disk (state c.can_map.new.core).disk (state c.create.new.self.core).disk (state c.create.new.self.core).disk (reached_makes c.can_map.ensures.asked.reaches).went.sectors (let few = c.can_map.ensures.cost in omega (arith, few)) c.create.ensures.bounded (omega arith));
}

pub returns-in-Err-create-clause-writes : goal.returns-in-Err-create-clause-writes
returns-in-Err-create-clause-writes g c =
    let root = c.args.self.now.volume.root in
    record {
      wrote = wrote_then (wrote_by (reached_makes c.can_map.ensures.asked.reaches) tt) c.create.ensures.writes.wrote;
      own = ((mapped_after (next_id root) (counted root) c.in-Ok-Ok.run'.1 0 c.args.space (reached_makes c.can_map.ensures.asked.reaches) c.in-Err-create.ensures.writes.own.0), tt);
      spares = but_then (all_but (spares_quiet (reached_makes c.can_map.ensures.asked.reaches))) c.create.ensures.writes.spares;
    }

pub returns-in-Err-create-clause-remains : goal.returns-in-Err-create-clause-remains
returns-in-Err-create-clause-remains g c = record {
  stays = record {
    open_still = c.create.ensures.remains.stays.open_still;
    monotone = c.create.ensures.remains.stays.monotone;
    serial = c.create.ensures.remains.stays.serial;
    layout = (c.create.ensures.remains.stays.layout ∙ c.can_map.ensures.asked.reaches.layout);
  };
  running = c.create.ensures.remains.running;
}

pub returns-in_default-clause-answers : goal.returns-in_default-clause-answers
returns-in_default-clause-answers g c = λ m r.
    let can = can_be_mapped m c.args.space c.in-Ok-Ok.run' (subst (λ (x : Result (ℕ × ℕ) Refusal). Reveals (first_of (map_row m.spaces c.args.space)) (λ at. (s : Space) × (space_at m.spaces c.args.space ≡ Some s) × (at ≡ (s.first, s.pages))) x) c.in-Ok-Ok.field-0-is (c.in-Ok-Ok.ensures.answer _ _ m.spaces (knows c.args.self.now.core (accepted c.args.self.now.core.filer) c.requires.set_up.size c.args.self.now.volume m r))) in
    record {
      carried = (not_created m r.session.stands.is.by.machine c.args.space c.in-Ok-Ok.run' can c.create.new.self.core c.create.new.self.volume _ (carried_out c.can_map.new.core c.create.new.self.core c.args.self.now.volume c.create.new.self.volume m (call.Create c.in-Ok-Ok.run'.1 0) c.create.ensures.remains.kept c.create.ensures.remains.intervals refl (asked_runs c.args.self.now.core (accepted c.args.self.now.core.filer) c.requires.set_up.size c.can_map.new.core c.args.self.now.volume m c.can_map.ensures.asked r) (Ok c.in-Ok.made) (λ spaces_of s. (c.in-Ok.ensures.answers spaces_of m s).carried)) c.in_default.not-File);
      sound = tt;
      passes = (quiet_then m m (call.MapAnonymous c.args.space) (call.Create c.in-Ok-Ok.run'.1 0) (asked_passes c.args.self.now.core c.args.self.now.volume m call.Volume r (g.met.D.Disk.in_form (disk_of c.args.self.now.core.filer)) (reached_makes c.can_map.ensures.asked.reaches)) ((c.create.ensures.answers _ m (asked_runs c.args.self.now.core (accepted c.args.self.now.core.filer) c.requires.set_up.size c.can_map.new.core c.args.self.now.volume m c.can_map.ensures.asked r).session).passes) (omega arith) (created_alike m r.session.stands.is.by.machine c.args.space c.in-Ok-Ok.run' can) (created_numbers m r.session.stands.is.by.machine c.args.space c.in-Ok-Ok.run' can));
      came = λ quiet. brings_then c.can_map.ensures.asked.came ((c.in-Ok.ensures.answers _ m (asked_runs c.args.self.now.core (accepted c.args.self.now.core.filer) c.requires.set_up.size c.can_map.new.core c.args.self.now.volume m c.can_map.ensures.asked r).session).came);
      cost = (spent_around (state c.args.self.now.core).disk (state c.can_map.new.core).disk (state c.create.new.self.core).disk (state c.create.new.self.core).disk (reached_makes c.can_map.ensures.asked.reaches).went.sectors (let few = c.can_map.ensures.cost in omega (arith, few)) c.create.ensures.bounded (omega arith));
    }

pub returns-in_default-clause-writes : goal.returns-in_default-clause-writes
returns-in_default-clause-writes g c =
    let root = c.args.self.now.volume.root in
    record {
      wrote = wrote_then (wrote_by (reached_makes c.can_map.ensures.asked.reaches) tt) c.create.ensures.writes.wrote;
      own = (let looks = reached_makes c.can_map.ensures.asked.reaches in (
        (mapped_after (next_id root) (counted root) c.in-Ok-Ok.run'.1 0 c.args.space looks c.in-Ok.ensures.writes.own.0),
        (mapped_after (next_id root) c.create.new.self.volume.root c.in-Ok-Ok.run'.1 0 c.args.space looks c.in-Ok.ensures.writes.own.1),
      ));
      spares = but_then (all_but (spares_quiet (reached_makes c.can_map.ensures.asked.reaches))) c.create.ensures.writes.spares;
    }

pub returns-in_default-clause-remains : goal.returns-in_default-clause-remains
returns-in_default-clause-remains g c = record {
  stays = record {
    open_still = c.create.ensures.remains.stays.open_still;
    monotone = c.create.ensures.remains.stays.monotone;
    serial = c.create.ensures.remains.stays.serial;
    layout = (c.create.ensures.remains.stays.layout ∙ c.can_map.ensures.asked.reaches.layout);
  };
  running = c.create.ensures.remains.running;
}

pub give_window-requires : goal.give_window-requires
give_window-requires g c = record { size = c.create.ensures.writes.wrote.makes.went.sectors ∙ (reached_makes c.can_map.ensures.asked.reaches).went.sectors ∙ c.requires.set_up.size ∙ ap (λ (l : Layout). l.sectors) (sym (c.create.ensures.remains.stays.layout ∙ c.can_map.ensures.asked.reaches.layout)) }

pub returns-clause-answers : goal.returns-clause-answers
returns-clause-answers g c = λ m r. record {
  carried = (let can = can_be_mapped m c.args.space c.in-Ok-Ok.run' (subst (λ (x : Result (ℕ × ℕ) Refusal). Reveals (first_of (map_row m.spaces c.args.space)) (λ at. (s : Space) × (space_at m.spaces c.args.space ≡ Some s) × (at ≡ (s.first, s.pages))) x) c.in-Ok-Ok.field-0-is (c.in-Ok-Ok.ensures.answer _ _ m.spaces (knows c.args.self.now.core (accepted c.args.self.now.core.filer) c.requires.set_up.size c.args.self.now.volume m r))) in
      let made = created m r.session.stands.is.by.machine c.args.space c.in-Ok-Ok.run' can c.create.new.self.core c.create.new.self.volume c.in-File.id (subst (λ (a : Reply). Carried m (call.Create c.in-Ok-Ok.run'.1 0) c.create.new.self.core c.create.new.self.volume a) c.in-File.is (carried_out c.can_map.new.core c.create.new.self.core c.args.self.now.volume c.create.new.self.volume m (call.Create c.in-Ok-Ok.run'.1 0) c.create.ensures.remains.kept c.create.ensures.remains.intervals refl (asked_runs c.args.self.now.core (accepted c.args.self.now.core.filer) c.requires.set_up.size c.can_map.new.core c.args.self.now.volume m c.can_map.ensures.asked r) (Ok c.in-Ok.made) (λ spaces_of s. (c.in-Ok.ensures.answers spaces_of m s).carried))) in
      let few : can.s.pages ≤ 2 ^ 32 = few_pages c.in-Ok-Ok.run'.1 can.s.pages can.pages (search rules) in
      window_carried m r.session.stands.is.by.machine c.args.space c.in-Ok-Ok.run' can made.free c.in-File.id made.same_id c.give_window.new.core c.create.new.self.volume c.give_window.result (c.give_window.ensures.given c.create.new.self.volume _ can.s made.runs (may_have m r.session.stands.is.by.machine c.args.space c.in-Ok-Ok.run' can made.free) (own_space m r.session.stands.is.by.machine c.args.space c.in-Ok-Ok.run' can made.free) (unmapped_yet m r.session.stands.is.by.machine c.args.space c.in-Ok-Ok.run' can made.free) (window_fits m r.session.stands.is.by.machine c.args.space c.in-Ok-Ok.run' can made.free c.in-File.id made.same_id few) (mapped_machine m r.session.stands.is.by.machine c.args.space c.in-Ok-Ok.run' can made.free c.in-File.id made.same_id)));
  sound = (let can = can_be_mapped m c.args.space c.in-Ok-Ok.run' (subst (λ (x : Result (ℕ × ℕ) Refusal). Reveals (first_of (map_row m.spaces c.args.space)) (λ at. (s : Space) × (space_at m.spaces c.args.space ≡ Some s) × (at ≡ (s.first, s.pages))) x) c.in-Ok-Ok.field-0-is (c.in-Ok-Ok.ensures.answer _ _ m.spaces (knows c.args.self.now.core (accepted c.args.self.now.core.filer) c.requires.set_up.size c.args.self.now.volume m r))) in
      let made = created m r.session.stands.is.by.machine c.args.space c.in-Ok-Ok.run' can c.create.new.self.core c.create.new.self.volume c.in-File.id (subst (λ (a : Reply). Carried m (call.Create c.in-Ok-Ok.run'.1 0) c.create.new.self.core c.create.new.self.volume a) c.in-File.is (carried_out c.can_map.new.core c.create.new.self.core c.args.self.now.volume c.create.new.self.volume m (call.Create c.in-Ok-Ok.run'.1 0) c.create.ensures.remains.kept c.create.ensures.remains.intervals refl (asked_runs c.args.self.now.core (accepted c.args.self.now.core.filer) c.requires.set_up.size c.can_map.new.core c.args.self.now.volume m c.can_map.ensures.asked r) (Ok c.in-Ok.made) (λ spaces_of s. (c.in-Ok.ensures.answers spaces_of m s).carried))) in
      let few : can.s.pages ≤ 2 ^ 32 = few_pages c.in-Ok-Ok.run'.1 can.s.pages can.pages (search rules) in
      c.give_window.ensures.sound c.create.new.self.volume _ can.s made.runs (may_have m r.session.stands.is.by.machine c.args.space c.in-Ok-Ok.run' can made.free) (own_space m r.session.stands.is.by.machine c.args.space c.in-Ok-Ok.run' can made.free) (unmapped_yet m r.session.stands.is.by.machine c.args.space c.in-Ok-Ok.run' can made.free) (window_fits m r.session.stands.is.by.machine c.args.space c.in-Ok-Ok.run' can made.free c.in-File.id made.same_id few));
  passes = (let can = can_be_mapped m c.args.space c.in-Ok-Ok.run' (subst (λ (x : Result (ℕ × ℕ) Refusal). Reveals (first_of (map_row m.spaces c.args.space)) (λ at. (s : Space) × (space_at m.spaces c.args.space ≡ Some s) × (at ≡ (s.first, s.pages))) x) c.in-Ok-Ok.field-0-is (c.in-Ok-Ok.ensures.answer _ _ m.spaces (knows c.args.self.now.core (accepted c.args.self.now.core.filer) c.requires.set_up.size c.args.self.now.volume m r))) in
      let made = created m r.session.stands.is.by.machine c.args.space c.in-Ok-Ok.run' can c.create.new.self.core c.create.new.self.volume c.in-File.id (subst (λ (a : Reply). Carried m (call.Create c.in-Ok-Ok.run'.1 0) c.create.new.self.core c.create.new.self.volume a) c.in-File.is (carried_out c.can_map.new.core c.create.new.self.core c.args.self.now.volume c.create.new.self.volume m (call.Create c.in-Ok-Ok.run'.1 0) c.create.ensures.remains.kept c.create.ensures.remains.intervals refl (asked_runs c.args.self.now.core (accepted c.args.self.now.core.filer) c.requires.set_up.size c.can_map.new.core c.args.self.now.volume m c.can_map.ensures.asked r) (Ok c.in-Ok.made) (λ spaces_of s. (c.in-Ok.ensures.answers spaces_of m s).carried))) in
      asked_then m (call.MapAnonymous c.args.space) (asked_passes c.args.self.now.core c.args.self.now.volume m call.Volume r (g.met.D.Disk.in_form (disk_of c.args.self.now.core.filer)) (reached_makes c.can_map.ensures.asked.reaches))
      (then_quiet m _ (call.Create c.in-Ok-Ok.run'.1 0) (call.MapAnonymous c.args.space) ((c.create.ensures.answers _ m (asked_runs c.args.self.now.core (accepted c.args.self.now.core.filer) c.requires.set_up.size c.can_map.new.core c.args.self.now.volume m c.can_map.ensures.asked r).session).passes)
      (asked_passes c.create.new.self.core c.create.new.self.volume _ call.Volume made.runs (g.met.D.Disk.in_form (disk_of c.create.new.self.core.filer)) c.give_window.ensures.went.makes) refl refl (created_alike m r.session.stands.is.by.machine c.args.space c.in-Ok-Ok.run' can) (mapped_alike m r.session.stands.is.by.machine c.args.space c.in-Ok-Ok.run' can made.free)
      (created_numbers m r.session.stands.is.by.machine c.args.space c.in-Ok-Ok.run' can) (mapped_numbers m r.session.stands.is.by.machine c.args.space c.in-Ok-Ok.run' can made.free)));
  came = λ quiet. ok_always c.give_window.result _ (brings_then (brings_then c.can_map.ensures.asked.came ((c.in-Ok.ensures.answers _ m (asked_runs c.args.self.now.core (accepted c.args.self.now.core.filer) c.requires.set_up.size c.can_map.new.core c.args.self.now.volume m c.can_map.ensures.asked r).session).came)) c.give_window.ensures.went.came);
  cost = (spent_around (state c.args.self.now.core).disk (state c.can_map.new.core).disk (state c.create.new.self.core).disk (state c.give_window.new.core).disk (reached_makes c.can_map.ensures.asked.reaches).went.sectors (let few = c.can_map.ensures.cost in omega (arith, few)) c.create.ensures.bounded (let few = c.give_window.ensures.cost in omega (arith, few)));
}

pub returns-clause-writes : goal.returns-clause-writes
returns-clause-writes g c =
    let root = c.args.self.now.volume.root in
    let now = c.create.new.self.volume.root in
    let what = call.MapAnonymous c.args.space in
    let looks = reached_makes c.can_map.ensures.asked.reaches in
    record {
      wrote = wrote_then (wrote_by (reached_makes c.can_map.ensures.asked.reaches) tt) (wrote_then c.create.ensures.writes.wrote (wrote_by c.give_window.ensures.went.makes tt));
      own = (let pages = c.in-Ok-Ok.run'.1 in (
        only_then (mapped_after (next_id root) (counted root) pages 0 c.args.space looks c.in-Ok.ensures.writes.own.0) (only_asked (next_id root) (counted root) what c.give_window.ensures.went.makes),
        where_ok c.give_window.result (only_then (mapped_after (next_id root) now pages 0 c.args.space looks c.in-Ok.ensures.writes.own.1) (only_asked (next_id root) now what c.give_window.ensures.went.makes)),
      ));
      spares = but_then (all_but (spares_quiet (reached_makes c.can_map.ensures.asked.reaches))) (but_then c.create.ensures.writes.spares (all_but (spares_quiet c.give_window.ensures.went.makes)));
    }

pub returns-clause-remains : goal.returns-clause-remains
returns-clause-remains g c = record {
  stays = record {
    open_still = (still_open _ _ _ _ c.create.ensures.remains.stays.open_still c.give_window.ensures.went.moves.layout refl);
    monotone = c.create.ensures.remains.stays.monotone;
    serial = c.create.ensures.remains.stays.serial;
    layout = (c.give_window.ensures.went.moves.layout ∙ c.create.ensures.remains.stays.layout ∙ c.can_map.ensures.asked.reaches.layout);
  };
  running = c.create.ensures.remains.running;
}

-- ---- Why it failed.

pub returns-in-Err-clause-fails : goal.returns-in-Err-clause-fails
returns-in-Err-clause-fails g c =
    record {
      cause = inl c.in-Err.ensures.cause;
      counted = λ is. subst (PathHalts (state c.args.self.now.core) (state c.can_map.new.core)) is c.in-Err.ensures.cause;
      evidence_seen = shows_evidence _ (state c.args.self.now.core) (state c.can_map.new.core) (fits (swapper_of c.args.self.now.core.filer) c.requires.set_up.size) c.can_map.ensures.asked.reaches.goes.makes c.in-Err.halt c.in-Err.ensures.cause;
    }

pub returns-in-Err-create-clause-fails : goal.returns-in-Err-create-clause-fails
returns-in-Err-create-clause-fails g c = fails_after (reached_makes c.can_map.ensures.asked.reaches).went.faults (λ h. inr (state c.can_map.new.core, c.can_map.ensures.asked.reaches, inl (create_wider (state c.can_map.new.core).layout (next_id c.args.self.now.volume.root) (IsNewPage c.in-Ok-Ok.run'.1) every_page (λ p own. tt) (state c.can_map.new.core).disk (state c.create.new.self.core).disk (state c.can_map.new.core).slots (state c.create.new.self.core).slots c.in-Err-create.halt h))) c.in-Err-create.ensures.fails

pub returns-clause-fails : goal.returns-clause-fails
returns-clause-fails g c =
    let old = c.args.self.now.core in
    let u = c.can_map.new.core in
    let x = c.create.new.self.core in
    let w = state c.give_window.new.core in
    let asked = c.can_map.ensures.asked in
    let first = (reached_makes asked.reaches).went.faults in
    let second = c.create.ensures.writes.wrote.makes.went.faults in
    let later : (state old).disk.faults ≤ (state x).disk.faults = omega (arith, first, second) in
    if_fails_after c.give_window.result (ChangeHalts x.intervals (state x) w) (MapNewHalts (next_id c.args.self.now.volume.root) old.intervals (state old) w) (state old) (state x) w later
    (λ e h. inr (state u, asked.reaches, inr (state x, (c.create.ensures.writes.wrote, c.create.ensures.remains.stays.layout), counted_change (state x) w old.intervals x.intervals (c.create.ensures.remains.intervals ∙ asked.intervals) e h))) (halted c.give_window.ensures.fails)

-- ---- The initial state.

pub returns-in-Ok-Err-clause-accounts : goal.returns-in-Ok-Err-clause-accounts
returns-in-Ok-Err-clause-accounts g c = λ o k n. record {
  keeps_to = (let old = c.args.self.now.core in
      given_on o (state c.can_map.new.core) (next_id c.args.self.now.volume.root) n.next (reached_on o (state old) (state c.can_map.new.core) (accepted old.filer) c.can_map.ensures.asked.reaches k));
  reasons = tt;
  sees = (λ seen. home_still o c.args.self.now.core c.can_map.new.core (reached_makes c.can_map.ensures.asked.reaches) c.can_map.ensures.sees seen);
}

pub returns-in_default-clause-accounts : goal.returns-in_default-clause-accounts
returns-in_default-clause-accounts g c = λ o k n. record {
  keeps_to = (let old = c.args.self.now.core in
      (c.in-Ok.ensures.accounts o (reached_on o (state old) (state c.can_map.new.core) (accepted old.filer) c.can_map.ensures.asked.reaches k) n).keeps_to);
  reasons = tt;
  sees = (λ seen. let old = c.args.self.now.core in
      let u = c.can_map.new.core in
      let makes = reached_makes c.can_map.ensures.asked.reaches in
      let keeps = reached_on o (state old) (state u) (accepted old.filer) c.can_map.ensures.asked.reaches k in
      home_still o u c.create.new.self.core c.create.ensures.writes.wrote.makes ((c.in-Ok.ensures.accounts o keeps n).sees) (home_still o old u makes c.can_map.ensures.sees seen));
}

pub returns-clause-accounts : goal.returns-clause-accounts
returns-clause-accounts g c =
    let few : c.in-Ok-Ok.run'.1 < 2 ^ 32 = search rules in
    let small : c.in-File.id < 2 ^ 64 = search rules in
    let serial = c.requires.set_up.opened.valid.serial in
    let same_id : c.in-File.id ≡ next_id c.args.self.now.volume.root = c.in-Ok.ensures.next c.in-File.id c.in-File.is in
    λ o k n. record {
      keeps_to = (moving_keeps (state c.create.new.self.core) (state c.give_window.new.core) c.give_window.result (accepted c.create.new.self.core.filer) c.give_window.ensures.went.moves (giving o (next_id c.create.new.self.volume.root))
          ((c.in-Ok.ensures.accounts o (reached_on o (state c.args.self.now.core) (state c.can_map.new.core) (accepted c.args.self.now.core.filer) c.can_map.ensures.asked.reaches k) n).keeps_to));
      reasons = (let old = c.args.self.now.core in
          let count = c.create.new.self.core.intervals in
          let next = next_id c.create.new.self.volume.root in
          let disk = (state c.give_window.new.core).disk in
          reasons_since c.give_window.result o disk (c.create.ensures.remains.stays.layout ∙ c.can_map.ensures.asked.reaches.layout)
          (given_reasons c.give_window.result o next (state c.create.new.self.core).layout disk
          (moving_reasons (ChangeHalts count) (change_reasons count)
          (state c.create.new.self.core) (state c.give_window.new.core) c.give_window.result (accepted c.create.new.self.core.filer) c.give_window.ensures.went.moves c.give_window.ensures.fails.cause (giving o next)
          ((c.in-Ok.ensures.accounts o (reached_on o (state old) (state c.can_map.new.core) (accepted old.filer) c.can_map.ensures.asked.reaches k) n).keeps_to))));
      sees = (λ seen.
          let old = c.args.self.now.core in
          let u = c.can_map.new.core in
          let x = c.create.new.self.core in
          let files = WasBelow o (view_of x.filer).disk in
          let sees = seen.1.0 in
          let can = map_revealed seen.0 c.args.space c.in-Ok-Ok.field-0 c.in-Ok-Ok.run' c.in-Ok-Ok.field-0-is (c.in-Ok-Ok.ensures.seen seen.0 sees) in
          let s : Space = can.1.0 in
          let long : c.in-Ok-Ok.run'.1 ≡ s.pages = ap (λ (run : ℕ × ℕ). run.1) can.1.2 in
          let keeps = reached_on o (state old) (state u) (accepted old.filer) c.can_map.ensures.asked.reaches k in
          let made = (c.in-Ok.ensures.accounts o keeps n).sees seen.0 (c.can_map.ensures.sees seen.0 sees) in
          let on = files_later o c.create.ensures.writes.wrote.makes seen.0 (files_later o (reached_makes c.can_map.ensures.asked.reaches) seen.0 seen.1.1) in
          let given = c.give_window.ensures.sees seen.0 s made (free_may seen.0 c.args.space (are_seen sees) s can.1.1 can.0) (handle_so seen.0 c.args.space (are_seen sees) s can.1.1)
          (record { above_reserved = omega (arith, serial, same_id); small = small; pages_fit = omega (arith, few, long) }) in
          on_or_blameless o x c.give_window.new.core c.give_window.ensures.went.makes c.give_window.result
          (given_for_files c.give_window.new.core c.args.space c.in-File.id 0 c.give_window.result seen.0 given files on
          (λ last at. c.in-Ok.ensures.home o keeps c.in-File.id c.in-File.is last (last_within seen.0 (are_seen sees) c.args.space s can.1.1 c.in-Ok-Ok.run'.1 long last at)))
          (c.give_window.ensures.fails.right (seen.0, made)) no_page
          (fails_missing_page (ChangeHalts x.intervals) no_page (change_misses x.intervals no_page) (state x) (state c.give_window.new.core) c.give_window.result c.give_window.ensures.fails.cause) (λ id page none. absurd none));
    }

pub returns-in-Err-clause-accounts : goal.returns-in-Err-clause-accounts
returns-in-Err-clause-accounts g c = λ o k n. record {
  keeps_to = tt;
  reasons = (let old = c.args.self.now.core in
      shows_after PathHalts path_reasons o (state old) (state c.can_map.new.core) (accepted old.filer) c.can_map.ensures.asked.reaches.goes.makes k c.in-Err.halt c.in-Err.ensures.cause);
  sees = (λ seen. let u = c.can_map.new.core in
      none_blameless o (view_of u.filer).disk c.in-Err.halt (never_blames_form c.in-Err.halt (c.in-Err.ensures.right seen.0 seen.1.0)) (λ pages. path_misses pages (state c.args.self.now.core) (state u) c.in-Err.halt c.in-Err.ensures.cause));
}

pub returns-in-Err-create-clause-accounts : goal.returns-in-Err-create-clause-accounts
returns-in-Err-create-clause-accounts g c = λ o k n. record {
  keeps_to = tt;
  reasons = (shows_since o (state c.create.new.self.core).disk c.in-Err-create.halt c.can_map.ensures.asked.reaches.layout
      ((c.in-Err-create.ensures.accounts o (reached_on o (state c.args.self.now.core) (state c.can_map.new.core) (accepted c.args.self.now.core.filer) c.can_map.ensures.asked.reaches k) n).reasons));
  sees = (λ seen. let old = c.args.self.now.core in
      (c.in-Err-create.ensures.accounts o (reached_on o (state old) (state c.can_map.new.core) (accepted old.filer) c.can_map.ensures.asked.reaches k) n).sees (seen.0, c.can_map.ensures.sees seen.0 seen.1.0));
}

-- ---- Which windows are seen.

pub returns-in-Ok-Err-clause-windows : goal.returns-in-Ok-Err-clause-windows
returns-in-Ok-Err-clause-windows g c = λ o k n. sees_or (mapped_by (next_id c.args.self.now.volume.root) (call.MapAnonymous c.args.space)) c.args.self.now.core c.can_map.new.core c.can_map.ensures.sees

pub returns-in_default-clause-windows : goal.returns-in_default-clause-windows
returns-in_default-clause-windows g c = λ o k n.
    let old = c.args.self.now.core in
    let u = c.can_map.new.core in
    let keeps = reached_on o (state old) (state u) (accepted old.filer) c.can_map.ensures.asked.reaches k in
    sees_or (mapped_by (next_id c.args.self.now.volume.root) (call.MapAnonymous c.args.space)) old c.create.new.self.core (λ ss s. (c.in-Ok.ensures.accounts o keeps n).sees ss (c.can_map.ensures.sees ss s))

pub returns-clause-windows : goal.returns-clause-windows
returns-clause-windows g c =
    let few : c.in-Ok-Ok.run'.1 < 2 ^ 32 = search rules in
    let small : c.in-File.id < 2 ^ 64 = search rules in
    let serial = c.requires.set_up.opened.valid.serial in
    let same_id : c.in-File.id ≡ next_id c.args.self.now.volume.root = c.in-Ok.ensures.next c.in-File.id c.in-File.is in
    λ o k n.
    let old = c.args.self.now.core in
    let u = c.can_map.new.core in
    let keeps = reached_on o (state old) (state u) (accepted old.filer) c.can_map.ensures.asked.reaches k in
    let more : List Space → Pages = mapped_by (next_id c.args.self.now.volume.root) (call.MapAnonymous c.args.space) in
    ok_for_each more c.give_window.result old c.give_window.new.core (λ ss sees.
    let can = map_revealed ss c.args.space c.in-Ok-Ok.field-0 c.in-Ok-Ok.run' c.in-Ok-Ok.field-0-is (c.in-Ok-Ok.ensures.seen ss sees) in
    let s : Space = can.1.0 in
    let long : c.in-Ok-Ok.run'.1 ≡ s.pages = ap (λ (run : ℕ × ℕ). run.1) can.1.2 in
    let made = (c.in-Ok.ensures.accounts o keeps n).sees ss (c.can_map.ensures.sees ss sees) in
    let given = c.give_window.ensures.sees ss s made (free_may ss c.args.space (are_seen sees) s can.1.1 can.0) (handle_so ss c.args.space (are_seen sees) s can.1.1)
    (record { above_reserved = omega (arith, serial, same_id); small = small; pages_fit = omega (arith, few, long) }) in
    given_for_files c.give_window.new.core c.args.space c.in-File.id 0 c.give_window.result ss given (λ id page. IsShown ss id page ⊎ more ss id page) (shown_or (more ss) ss)
    (λ last at. inr (ap (λ (i : ℕ). Some i) (sym same_id))))
