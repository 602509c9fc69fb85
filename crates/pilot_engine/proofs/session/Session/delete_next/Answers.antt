use Rattle.std.proofs.Common.{ℕ, ◌<◌, ◌≤◌, Option, subst, arith, inl, inr, refl}
use Rattle.std.specs.Prelude.{IfSome}
use Rattle.session_words.specs.Parts.{shapes_of}
use Rattle.file_manager.specs.Answer.{IsNextFile}
use Rattle.running_words.specs.Bound.{room_above}
use Rattle.pilot_engine.proofs.EndCosts.{next_there, room_step, visited}
use Rattle.running_words.proofs.SessionLemmas.{session_books}
use Rattle.pilot_engine.proofs.ShedLemmas.{asked_alone, shed_last, shed_next}
use Rattle.pilot_engine.specs.Closing.{IsOpenStop}
use Rattle.pilot_engine.proofs.StopLemmas.{stops_quiet, throughout_then}
use Rattle.fault_core.specs.Core.{state}
use Rattle.space_calls.proofs.HaltLemmas.{look_reaches}
use Rattle.labelled_disk.specs.declared.layout.Layout.{Layout}
use Rattle.file_manager.specs.Reasons.{ShowsReason, telling}
use Rattle.filer_kernel.specs.View.{accepted, disk_of, view_of}
use Rattle.pilot_engine.proofs.EndNeverBlames.{end_blameless, search_no_table}
use Rattle.pilot_engine.proofs.HomeLemmas.{file_later, file_pages}
use Rattle.pilot_engine.proofs.LackLemmas.{search_misses}
use Rattle.pilot_engine.proofs.SeesLemmas.{seen_blameless, seen_still}
use Rattle.pilot_engine.proofs.FailSteps.{fails_after, fails_wider}
use Rattle.pilot_engine.proofs.EndSteps.{cleared_after, cleared_asked}
use Rattle.pilot_engine.proofs.session.Session.delete_next.Goals as goal

pub returns-in-Ok-None-clause-ends : goal.returns-in-Ok-None-clause-ends
returns-in-Ok-None-clause-ends g c = λ spaces_of m s.
    let books = session_books spaces_of _ _ _ _ _ m s.session in
    let f = c.next.ensures in
    let now = asked_alone spaces_of _ _ _ _ _ _ _ _ m s f.stays.makes f.stays.brings ((f.revealed s.session.stands.memory (shapes_of m.files) m.spaces books).1) _ f.stays.layout in
    record {
      gives = shed_last spaces_of _ _ _ _ _ m c.args.cursor (subst (IsNextFile (shapes_of m.files) c.args.cursor) c.in-Ok-None.field-0-is ((c.in-Ok-None.ensures.revealed s.session.stands.memory (shapes_of m.files) m.spaces books).0)) now;
      sound = tt;
      stops = stops_quiet spaces_of _ _ _ _ m s.session.stands (g.met.D.Disk.in_form (disk_of c.args.self.now.core.filer)) c.next.ensures.stays.makes;
    }

pub returns-in-Err-clause-ends : goal.returns-in-Err-clause-ends
returns-in-Err-clause-ends g c = λ spaces_of m s. record {
  gives = tt;
  sound = (c.in-Err.ensures.revealed s.session.stands.memory (shapes_of m.files) m.spaces (session_books spaces_of _ _ _ _ _ m s.session)).0;
  stops = stops_quiet spaces_of _ _ _ _ m s.session.stands (g.met.D.Disk.in_form (disk_of c.args.self.now.core.filer)) c.next.ensures.stays.makes;
}

pub returns-in-Ok-clause-ends : goal.returns-in-Ok-clause-ends
returns-in-Ok-clause-ends g c = λ spaces_of m s.
    let books = session_books spaces_of _ _ _ _ _ m s.session in
    let f = c.next.ensures in
    let now = asked_alone spaces_of _ _ _ _ _ _ _ _ m s f.stays.makes f.stays.brings ((f.revealed s.session.stands.memory (shapes_of m.files) m.spaces books).1) _ f.stays.layout in
    record {
      gives = shed_next spaces_of _ _ _ _ _ m c.args.cursor _ (subst (IsNextFile (shapes_of m.files) c.args.cursor) c.in-Ok-Some.field-0-is ((c.in-Ok-Some.ensures.revealed s.session.stands.memory (shapes_of m.files) m.spaces books).0)) ((c.in-Ok.ensures.ends spaces_of m now).gives);
      sound = tt;
      stops = throughout_then (IsOpenStop m) (stops_quiet spaces_of _ _ _ _ m s.session.stands (g.met.D.Disk.in_form (disk_of c.args.self.now.core.filer)) c.next.ensures.stays.makes) ((c.delete_unless_permanent.ensures.ends spaces_of m now).stops);
    }

pub returns-in-Ok-clause-clears : goal.returns-in-Ok-clause-clears
returns-in-Ok-clause-clears g c = cleared_after (cleared_asked c.args.self.now _ c.next.ensures.stays c.requires.set_up.opened refl) c.delete_unless_permanent.ensures.clears

pub returns-in-Err-delete_unless_permanent-clause-ends : goal.returns-in-Err-delete_unless_permanent-clause-ends
returns-in-Err-delete_unless_permanent-clause-ends g c = λ spaces_of m s.
    let books = session_books spaces_of _ _ _ _ _ m s.session in
    let f = c.next.ensures in
    let now = asked_alone spaces_of _ _ _ _ _ _ _ _ m s f.stays.makes f.stays.brings ((f.revealed s.session.stands.memory (shapes_of m.files) m.spaces books).1) _ f.stays.layout in
    record {
      gives = tt;
      sound = (c.in-Err-delete_unless_permanent.ensures.ends spaces_of m (asked_alone spaces_of _ _ _ _ _ _ _ _ m s f.stays.makes f.stays.brings ((f.revealed s.session.stands.memory (shapes_of m.files) m.spaces books).1) _ f.stays.layout)).sound;
      stops = throughout_then (IsOpenStop m) (stops_quiet spaces_of _ _ _ _ m s.session.stands (g.met.D.Disk.in_form (disk_of c.args.self.now.core.filer)) c.next.ensures.stays.makes) ((c.delete_unless_permanent.ensures.ends spaces_of m now).stops);
    }

pub returns-in-Err-delete_unless_permanent-clause-clears : goal.returns-in-Err-delete_unless_permanent-clause-clears
returns-in-Err-delete_unless_permanent-clause-clears g c = cleared_after (cleared_asked c.args.self.now _ c.next.ensures.stays c.requires.set_up.opened refl) c.delete_unless_permanent.ensures.clears

pub returns-in-Ok-clause-paid : goal.returns-in-Ok-clause-paid
returns-in-Ok-clause-paid g c = λ spaces_of m s.
    let books = session_books spaces_of _ _ _ _ _ m s.session in
    let f = c.next.ensures in
    let now = asked_alone spaces_of _ _ _ _ _ _ _ _ m s f.stays.makes f.stays.brings ((f.revealed s.session.stands.memory (shapes_of m.files) m.spaces books).1) _ f.stays.layout in
    let revealed = subst (IsNextFile (shapes_of m.files) c.args.cursor) c.in-Ok-Some.field-0-is ((c.in-Ok-Some.ensures.revealed s.session.stands.memory (shapes_of m.files) m.spaces books).0) in
    let there = next_there m c.args.cursor c.in-Ok-Some.id revealed in
    let step = room_step m.files c.args.cursor c.in-Ok-Some.id there.0 revealed.0 there.1 in
    let all = visited (state c.args.self.now.core).disk.transfers (view_of c.next.new.filer).disk.transfers (state c.delete_unless_permanent.new.self.core).disk.transfers (room_above c.args.cursor m.files) (room_above c.in-Ok-Some.id m.files) there.0 step f.cost
    (c.delete_unless_permanent.ensures.cost spaces_of m there.0 now there.1)
    in
    all

pub returns-in-Ok-clause-cost : goal.returns-in-Ok-clause-cost
returns-in-Ok-clause-cost g c = λ spaces_of m s.
    let books = session_books spaces_of _ _ _ _ _ m s.session in
    let f = c.next.ensures in
    let now = asked_alone spaces_of _ _ _ _ _ _ _ _ m s f.stays.makes f.stays.brings ((f.revealed s.session.stands.memory (shapes_of m.files) m.spaces books).1) _ f.stays.layout in
    let revealed = subst (IsNextFile (shapes_of m.files) c.args.cursor) c.in-Ok-Some.field-0-is ((c.in-Ok-Some.ensures.revealed s.session.stands.memory (shapes_of m.files) m.spaces books).0) in
    let there = next_there m c.args.cursor c.in-Ok-Some.id revealed in
    let step = room_step m.files c.args.cursor c.in-Ok-Some.id there.0 revealed.0 there.1 in
    let all = visited (state c.args.self.now.core).disk.transfers (view_of c.next.new.filer).disk.transfers (state c.delete_unless_permanent.new.self.core).disk.transfers (room_above c.args.cursor m.files) (room_above c.in-Ok-Some.id m.files) there.0 step f.cost
    (c.delete_unless_permanent.ensures.cost spaces_of m there.0 now there.1)
    in
    omega (arith, all)

pub returns-in-Err-delete_unless_permanent-clause-cost : goal.returns-in-Err-delete_unless_permanent-clause-cost
returns-in-Err-delete_unless_permanent-clause-cost g c = λ spaces_of m s.
    let books = session_books spaces_of _ _ _ _ _ m s.session in
    let f = c.next.ensures in
    let now = asked_alone spaces_of _ _ _ _ _ _ _ _ m s f.stays.makes f.stays.brings ((f.revealed s.session.stands.memory (shapes_of m.files) m.spaces books).1) _ f.stays.layout in
    let revealed = subst (IsNextFile (shapes_of m.files) c.args.cursor) c.in-Ok-Some.field-0-is ((c.in-Ok-Some.ensures.revealed s.session.stands.memory (shapes_of m.files) m.spaces books).0) in
    let there = next_there m c.args.cursor c.in-Ok-Some.id revealed in
    let step = room_step m.files c.args.cursor c.in-Ok-Some.id there.0 revealed.0 there.1 in
    let all = visited (state c.args.self.now.core).disk.transfers (view_of c.next.new.filer).disk.transfers (state c.delete_unless_permanent.new.self.core).disk.transfers (room_above c.args.cursor m.files) (room_above c.in-Ok-Some.id m.files) there.0 step f.cost
    (c.delete_unless_permanent.ensures.cost spaces_of m there.0 now there.1)
    in
    omega (arith, all)

pub returns-in-Ok-None-clause-cost : goal.returns-in-Ok-None-clause-cost
returns-in-Ok-None-clause-cost g c = λ spaces_of m s. let searched = c.next.ensures.cost in omega (arith, searched)

pub returns-in-Err-clause-cost : goal.returns-in-Err-clause-cost
returns-in-Err-clause-cost g c = λ spaces_of m s. let searched = c.next.ensures.cost in omega (arith, searched)

pub returns-in-Ok-clause-above : goal.returns-in-Ok-clause-above
returns-in-Ok-clause-above g c = (subst (λ (o : Option ℕ). IfSome o (λ id. (c.args.cursor < id) × (16 ≤ id))) c.in-Ok-Some.field-0-is c.in-Ok-Some.ensures.above).0

-- ---- Why it failed.

pub returns-in-Err-clause-fails : goal.returns-in-Err-clause-fails
returns-in-Err-clause-fails g c = fails_wider (λ h. inl h) c.in-Err.ensures.fails

pub returns-in-Err-delete_unless_permanent-clause-fails : goal.returns-in-Err-delete_unless_permanent-clause-fails
returns-in-Err-delete_unless_permanent-clause-fails g c = fails_after c.next.ensures.stays.makes.went.faults (λ h. inr (state (record c.args.self.now.core { filer = c.next.new.filer }), look_reaches (state c.args.self.now.core) (state (record c.args.self.now.core { filer = c.next.new.filer })) c.next.ensures.stays.looks c.next.ensures.stays.layout, (c.in-Ok-Some.id, h))) c.in-Err-delete_unless_permanent.ensures.fails

-- ---- What began stays a reason.

pub returns-in-Ok-None-clause-accounts : goal.returns-in-Ok-None-clause-accounts
returns-in-Ok-None-clause-accounts g c = λ o k. record {
  keeps_to = ((k.0, (c.in-Ok-None.ensures.accounts o k.0 k.1.0, k.1.1)));
  reasons = tt;
  sees = (λ seen. let old = c.args.self.now.core in
      seen_still o (state old) (accepted old.filer) k (view_of c.next.new.filer) (λ b. c.in-Ok-None.ensures.accounts (telling o b) k.0) (file_later o c.next.ensures.stays.makes) seen);
}

pub returns-in-Err-clause-accounts : goal.returns-in-Err-clause-accounts
returns-in-Err-clause-accounts g c = λ o k. record {
  keeps_to = tt;
  reasons = (c.in-Err.ensures.accounts o k.0 k.1.0);
  sees = (λ seen. let old = c.args.self.now.core in
      let disk = (view_of c.next.new.filer).disk in
      end_blameless o disk c.in-Err.halt (seen_blameless o (state old) (accepted old.filer) k (state old).layout disk c.in-Err.halt (λ b. c.in-Err.ensures.accounts (telling o b) k.0)
      (search_misses (file_pages o disk) (state old).layout (state old).disk (state old).slots disk c.in-Err.halt c.in-Err.ensures.fails.cause) (seen.0, seen.1.0))
      (search_no_table (state old).layout (state old).disk (state old).slots disk c.in-Err.halt c.in-Err.ensures.fails.cause));
}

pub returns-in-Ok-clause-accounts : goal.returns-in-Ok-clause-accounts
returns-in-Ok-clause-accounts g c = λ o k. record {
  keeps_to = ((c.in-Ok.ensures.accounts o (k.0, (c.in-Ok-Some.ensures.accounts o k.0 k.1.0, k.1.1))).keeps_to);
  reasons = tt;
  sees = (λ seen. let old = c.args.self.now.core in
      (c.in-Ok.ensures.accounts o (k.0, (c.in-Ok-Some.ensures.accounts o k.0 k.1.0, k.1.1))).sees
      (seen_still o (state old) (accepted old.filer) k (view_of c.next.new.filer) (λ b. c.in-Ok-Some.ensures.accounts (telling o b) k.0) (file_later o c.next.ensures.stays.makes) seen));
}

pub returns-in-Err-delete_unless_permanent-clause-accounts : goal.returns-in-Err-delete_unless_permanent-clause-accounts
returns-in-Err-delete_unless_permanent-clause-accounts g c = λ o k. record {
  keeps_to = tt;
  reasons = (subst (λ (l : Layout). ShowsReason o l (state c.delete_unless_permanent.new.self.core).disk c.in-Err-delete_unless_permanent.halt) c.next.ensures.stays.layout
      ((c.in-Err-delete_unless_permanent.ensures.accounts o (k.0, (c.in-Ok-Some.ensures.accounts o k.0 k.1.0, k.1.1))).reasons));
  sees = (λ seen. let old = c.args.self.now.core in
      (c.in-Err-delete_unless_permanent.ensures.accounts o (k.0, (c.in-Ok-Some.ensures.accounts o k.0 k.1.0, k.1.1))).sees
      (seen_still o (state old) (accepted old.filer) k (view_of c.next.new.filer) (λ b. c.in-Ok-Some.ensures.accounts (telling o b) k.0) (file_later o c.next.ensures.stays.makes) seen));
}

-- ---- Which files are spared.

pub returns-in-Ok-None-clause-clears : goal.returns-in-Ok-None-clause-clears
returns-in-Ok-None-clause-clears g c = cleared_asked c.args.self.now _ c.next.ensures.stays c.requires.set_up.opened refl

pub returns-in-Err-clause-clears : goal.returns-in-Err-clause-clears
returns-in-Err-clause-clears g c = cleared_asked c.args.self.now _ c.next.ensures.stays c.requires.set_up.opened refl
