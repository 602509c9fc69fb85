use Rattle.std.proofs.Common.{ap, inr, Option, subst, inl, ◌∙◌, rules, refl}
use Rattle.std.specs.Prelude.{IfSome}
use Rattle.file_manager.specs.declared.attributes.Attributes.{Attributes}
use Rattle.labelled_disk.specs.Label.{leader_page}
use Rattle.session_words.specs.Parts.{shapes_of}
use Rattle.file_manager.specs.Attributes.{IsAttributesOf}
use Rattle.pilot_engine.proofs.EndLemmas.{none_shown}
use Rattle.running_words.proofs.FlagLemmas.{freeing_open}
use Rattle.pilot_engine.proofs.EndCosts.{deleted_cost, looked_cost, pages_revealed}
use Rattle.running_words.proofs.SessionLemmas.{session_books}
use Rattle.pilot_engine.proofs.ShedLemmas.{shed_missing, shed_permanent, shed_deleted, books_now}
use Rattle.pilot_engine.proofs.WroteLemmas.{wrote_by, wrote_then}
use Rattle.pilot_engine.proofs.StopLemmas.{stops_deleted, stops_quiet}
use Rattle.fault_core.specs.Core.{state}
use Rattle.space_calls.proofs.HaltLemmas.{look_reaches}
use Rattle.labelled_disk.specs.declared.layout.Layout.{Layout}
use Rattle.file_manager.specs.Reasons.{ShowsReason, telling}
use Rattle.filer_kernel.specs.View.{accepted, disk_of, view_of}
use Rattle.pilot_engine.proofs.EndNeverBlames.{end_blameless, look_no_table, remove_no_table}
use Rattle.pilot_engine.proofs.HomeLemmas.{file_after, file_later, file_pages, found_file, misses_file}
use Rattle.pilot_engine.proofs.LackLemmas.{look_misses, remove_misses_own}
use Rattle.pilot_engine.proofs.SeesLemmas.{seen_from, seen_blameless, seen_still}
use Rattle.pilot_engine.proofs.SparedCalls.{all_then, spares_quiet}
use Rattle.pilot_engine.proofs.SparedFiles.{found_temporary, spares_going, spares_gone}
use Rattle.file_manager.specs.Attributes.{HasLeader}
use Rattle.pilot_engine.proofs.WritingLemmas.{frees_none, frees_run, only_then}
use Rattle.file_manager.specs.declared.volume.Volume.{Volume}
use Rattle.pilot_engine.proofs.FailSteps.{fails_after, fails_wider}
use Rattle.pilot_engine.proofs.EndSteps.{cleared_asked}
use Rattle.pilot_engine.proofs.session.Session.delete_unless_permanent.Goals as goal

pub returns-in-Ok-None-clause-ends : goal.returns-in-Ok-None-clause-ends
returns-in-Ok-None-clause-ends g c = λ spaces_of m s.
    let books = session_books spaces_of _ _ _ _ _ m s.session in
    let f = c.attributes_of.ensures in
    record {
      gives = shed_missing spaces_of _ _ _ _ _ _ _ _ _ m s f.stays.makes f.stays.brings ((f.revealed 96 s.session.stands.memory (shapes_of m.files) m.spaces books).1) f.stays.layout c.args.id (subst (IsAttributesOf (shapes_of m.files c.args.id)) c.in-Ok-None.field-0-is ((c.in-Ok-None.ensures.revealed 96 s.session.stands.memory (shapes_of m.files) m.spaces books).0));
      sound = tt;
      stops = stops_quiet spaces_of _ _ _ _ m s.session.stands (g.met.D.Disk.in_form (disk_of c.args.self.now.core.filer)) c.attributes_of.ensures.stays.makes;
    }

pub returns-in-Err-clause-ends : goal.returns-in-Err-clause-ends
returns-in-Err-clause-ends g c = λ spaces_of m s. record {
  gives = tt;
  sound = (c.in-Err.ensures.revealed 96 s.session.stands.memory (shapes_of m.files) m.spaces (session_books spaces_of _ _ _ _ _ m s.session)).0;
  stops = stops_quiet spaces_of _ _ _ _ m s.session.stands (g.met.D.Disk.in_form (disk_of c.args.self.now.core.filer)) c.attributes_of.ensures.stays.makes;
}

pub returns-then-found-clause-ends : goal.returns-then-found-clause-ends
returns-then-found-clause-ends g c = λ spaces_of m s.
    let books = session_books spaces_of _ _ _ _ _ m s.session in
    let f = c.attributes_of.ensures in
    record {
      gives = shed_permanent spaces_of _ _ _ _ _ _ _ _ _ m s f.stays.makes f.stays.brings ((f.revealed 96 s.session.stands.memory (shapes_of m.files) m.spaces books).1) f.stays.layout c.args.id _ (subst (IsAttributesOf (shapes_of m.files c.args.id)) c.in-Ok-Some.field-0-is ((c.in-Ok-Some.ensures.revealed 96 s.session.stands.memory (shapes_of m.files) m.spaces books).0)) c.if-found.true;
      sound = tt;
      stops = stops_quiet spaces_of _ _ _ _ m s.session.stands (g.met.D.Disk.in_form (disk_of c.args.self.now.core.filer)) c.attributes_of.ensures.stays.makes;
    }

pub returns-in-Ok-clause-ends : goal.returns-in-Ok-clause-ends
returns-in-Ok-clause-ends g c = λ spaces_of m s.
    let x = s.session.stands.memory in
    let books = session_books spaces_of _ _ _ _ _ m s.session in
    let f = c.attributes_of.ensures in
    let d = c.in-Ok.ensures in
    let revealed = subst (IsAttributesOf (shapes_of m.files c.args.id)) c.in-Ok-Some.field-0-is ((c.in-Ok-Some.ensures.revealed 96 x (shapes_of m.files) m.spaces books).0) in
    let now = books_now spaces_of _ _ _ _ _ _ _ _ _ m s f.stays.makes f.stays.brings ((f.revealed 96 x (shapes_of m.files) m.spaces books).1) f.stays.layout c.args.id _ revealed in
    let hidden = none_shown m.spaces s.alone c.args.id in
    record {
      gives = (shed_deleted spaces_of _ _ _ _ _ _ _ _ _ m s f.stays.makes f.stays.brings ((f.revealed 96 x (shapes_of m.files) m.spaces books).1) f.stays.layout c.args.id _ revealed _ _ _ _ _ c.if-found.false c.delete.ensures.volume.rest_of_volume
          (d.deleted x (shapes_of m.files) m.spaces _ now revealed).used c.delete.ensures.stays.layout ((d.deleted x (shapes_of m.files) m.spaces _ now revealed).deleted hidden));
      sound = tt;
      stops = (let x = s.session.stands.memory in
          let books = session_books spaces_of _ _ _ _ _ m s.session in
          let f = c.attributes_of.ensures in
          let revealed = subst (IsAttributesOf (shapes_of m.files c.args.id)) c.in-Ok-Some.field-0-is ((c.in-Ok-Some.ensures.revealed 96 x (shapes_of m.files) m.spaces books).0) in
          let now = books_now spaces_of _ _ _ _ _ _ _ _ _ m s f.stays.makes f.stays.brings ((f.revealed 96 x (shapes_of m.files) m.spaces books).1) f.stays.layout c.args.id _ revealed in
          let hidden = none_shown m.spaces s.alone c.args.id in
          let d = (c.in-Ok.ensures.deleted x (shapes_of m.files) m.spaces _ now revealed).deleted hidden in
          stops_deleted spaces_of _ _ _ _ m s.session.stands (g.met.D.Disk.in_form (disk_of c.args.self.now.core.filer)) _ _ c.args.id _ s.alone revealed c.if-found.false f.stays.makes (inr (record { leader = d.leader; sectors = d.sectors; makes = d.leads.goes.makes; stops = d.stops })));
    }

pub returns-in-Ok-clause-clears : goal.returns-in-Ok-clause-clears
returns-in-Ok-clause-clears g c = record {
  wrote = wrote_then (wrote_by c.attributes_of.ensures.stays.makes tt) (wrote_by c.in-Ok.ensures.writes.1.makes (freeing_open c.in-Ok.ensures.writes.1.sectors));
  spares = (record {
    spares =
        all_then (spares_quiet c.attributes_of.ensures.stays.makes) (spares_gone c.args.id (found_temporary (view_of c.attributes_of.new.filer).disk c.args.id c.in-Ok-Some.found.permanent (subst (λ (o : Option Attributes). IfSome o (λ a. HasLeader (view_of c.attributes_of.new.filer).disk c.args.id a.permanent)) c.in-Ok-Some.field-0-is c.in-Ok-Some.ensures.marked) c.if-found.false) c.in-Ok.ensures.writes.1 c.in-Ok.ensures.labels.own);
    frees = only_then (frees_none c.attributes_of.ensures.stays.makes) (frees_run c.in-Ok.ensures.writes.1.sectors c.in-Ok.ensures.writes.1.makes);
    root = ap (λ (v : Volume). v.root) c.delete.ensures.volume.rest_of_volume;
  });
  open_still = (search rules);
  layout = c.delete.ensures.stays.layout ∙ c.attributes_of.ensures.stays.layout;
}

pub returns-in-Err-delete-clause-ends : goal.returns-in-Err-delete-clause-ends
returns-in-Err-delete-clause-ends g c = λ spaces_of m s.
    let x = s.session.stands.memory in
    let books = session_books spaces_of _ _ _ _ _ m s.session in
    let f = c.attributes_of.ensures in
    let revealed = subst (IsAttributesOf (shapes_of m.files c.args.id)) c.in-Ok-Some.field-0-is ((c.in-Ok-Some.ensures.revealed 96 x (shapes_of m.files) m.spaces books).0) in
    let now = books_now spaces_of _ _ _ _ _ _ _ _ _ m s f.stays.makes f.stays.brings ((f.revealed 96 x (shapes_of m.files) m.spaces books).1) f.stays.layout c.args.id _ revealed in
    let hidden = none_shown m.spaces s.alone c.args.id in
    record {
      gives = tt;
      sound = ((c.in-Err-delete.ensures.deleted x (shapes_of m.files) m.spaces _ now revealed).deleted (none_shown m.spaces s.alone c.args.id)).0;
      stops = stops_deleted spaces_of _ _ _ _ m s.session.stands (g.met.D.Disk.in_form (disk_of c.args.self.now.core.filer)) _ _ c.args.id _ s.alone revealed c.if-found.false f.stays.makes (((c.in-Err-delete.ensures.deleted x (shapes_of m.files) m.spaces _ now revealed).deleted hidden).1);
    }

pub returns-in-Err-delete-clause-clears : goal.returns-in-Err-delete-clause-clears
returns-in-Err-delete-clause-clears g c = record {
  wrote = wrote_then (wrote_by c.attributes_of.ensures.stays.makes tt) (wrote_by c.in-Err-delete.ensures.writes.makes (freeing_open c.in-Err-delete.ensures.writes.sectors));
  spares = (record {
    spares =
        all_then (spares_quiet c.attributes_of.ensures.stays.makes) (spares_going c.args.id (found_temporary (view_of c.attributes_of.new.filer).disk c.args.id c.in-Ok-Some.found.permanent (subst (λ (o : Option Attributes). IfSome o (λ a. HasLeader (view_of c.attributes_of.new.filer).disk c.args.id a.permanent)) c.in-Ok-Some.field-0-is c.in-Ok-Some.ensures.marked) c.if-found.false) c.in-Err-delete.ensures.writes c.in-Err-delete.ensures.labels.own);
    frees = only_then (frees_none c.attributes_of.ensures.stays.makes) (frees_run c.in-Err-delete.ensures.writes.sectors c.in-Err-delete.ensures.writes.makes);
    root = ap (λ (v : Volume). v.root) c.delete.ensures.volume.rest_of_volume;
  });
  open_still = (search rules);
  layout = c.delete.ensures.stays.layout ∙ c.attributes_of.ensures.stays.layout;
}

pub returns-in-Ok-None-clause-cost : goal.returns-in-Ok-None-clause-cost
returns-in-Ok-None-clause-cost g c = λ spaces_of m f s found. looked_cost (state c.args.self.now.core).disk.transfers (view_of c.attributes_of.new.filer).disk.transfers f c.attributes_of.ensures.cost

pub returns-in-Err-clause-cost : goal.returns-in-Err-clause-cost
returns-in-Err-clause-cost g c = λ spaces_of m f s found. looked_cost (state c.args.self.now.core).disk.transfers (view_of c.attributes_of.new.filer).disk.transfers f c.attributes_of.ensures.cost

pub returns-then-found-clause-cost : goal.returns-then-found-clause-cost
returns-then-found-clause-cost g c = λ spaces_of m f s found. looked_cost (state c.args.self.now.core).disk.transfers (view_of c.attributes_of.new.filer).disk.transfers f c.attributes_of.ensures.cost

pub returns-in-Ok-clause-cost : goal.returns-in-Ok-clause-cost
returns-in-Ok-clause-cost g c = λ spaces_of m f s found.
    let x = s.session.stands.memory in
    let books = session_books spaces_of _ _ _ _ _ m s.session in
    let look = c.attributes_of.ensures in
    let revealed = subst (IsAttributesOf (shapes_of m.files c.args.id)) c.in-Ok-Some.field-0-is ((c.in-Ok-Some.ensures.revealed 96 x (shapes_of m.files) m.spaces books).0) in
    let now = books_now spaces_of _ _ _ _ _ _ _ _ _ m s look.stays.makes look.stays.brings ((look.revealed 96 x (shapes_of m.files) m.spaces books).1) look.stays.layout c.args.id _ revealed in
    let hidden = none_shown m.spaces s.alone c.args.id in
    deleted_cost (state c.args.self.now.core).layout (view_of c.attributes_of.new.filer).layout (accepted c.args.self.now.core.filer) look.stays.layout (state c.args.self.now.core).disk.transfers (view_of c.attributes_of.new.filer).disk.transfers (view_of c.delete.new.filer).disk.transfers
    c.in-Ok-Some.found.pages f (pages_revealed m c.args.id f c.in-Ok-Some.found found revealed) look.cost ((c.delete.ensures.deleted x (shapes_of m.files) m.spaces _ now revealed).cost_sized hidden)

pub returns-in-Err-delete-clause-cost : goal.returns-in-Err-delete-clause-cost
returns-in-Err-delete-clause-cost g c = λ spaces_of m f s found.
    let x = s.session.stands.memory in
    let books = session_books spaces_of _ _ _ _ _ m s.session in
    let look = c.attributes_of.ensures in
    let revealed = subst (IsAttributesOf (shapes_of m.files c.args.id)) c.in-Ok-Some.field-0-is ((c.in-Ok-Some.ensures.revealed 96 x (shapes_of m.files) m.spaces books).0) in
    let now = books_now spaces_of _ _ _ _ _ _ _ _ _ m s look.stays.makes look.stays.brings ((look.revealed 96 x (shapes_of m.files) m.spaces books).1) look.stays.layout c.args.id _ revealed in
    let hidden = none_shown m.spaces s.alone c.args.id in
    deleted_cost (state c.args.self.now.core).layout (view_of c.attributes_of.new.filer).layout (accepted c.args.self.now.core.filer) look.stays.layout (state c.args.self.now.core).disk.transfers (view_of c.attributes_of.new.filer).disk.transfers (view_of c.delete.new.filer).disk.transfers
    c.in-Ok-Some.found.pages f (pages_revealed m c.args.id f c.in-Ok-Some.found found revealed) look.cost ((c.delete.ensures.deleted x (shapes_of m.files) m.spaces _ now revealed).cost_sized hidden)

-- ---- Why it failed.

pub returns-in-Err-clause-fails : goal.returns-in-Err-clause-fails
returns-in-Err-clause-fails g c = fails_wider (λ h. inl h) c.in-Err.ensures.fails

pub returns-in-Err-delete-clause-fails : goal.returns-in-Err-delete-clause-fails
returns-in-Err-delete-clause-fails g c = fails_after c.attributes_of.ensures.stays.makes.went.faults (λ h. inr (state (record c.args.self.now.core { filer = c.attributes_of.new.filer }), look_reaches (state c.args.self.now.core) (state (record c.args.self.now.core { filer = c.attributes_of.new.filer })) c.attributes_of.ensures.stays.looks c.attributes_of.ensures.stays.layout, h)) c.in-Err-delete.ensures.fails

-- ---- What began stays a reason.

pub returns-in-Ok-None-clause-accounts : goal.returns-in-Ok-None-clause-accounts
returns-in-Ok-None-clause-accounts g c = λ o k. record {
  keeps_to = ((k.0, (c.in-Ok-None.ensures.accounts o k.0 k.1.0, k.1.1)));
  reasons = tt;
  sees = (λ seen. let old = c.args.self.now.core in
      seen_still o (state old) (accepted old.filer) k (view_of c.attributes_of.new.filer) (λ b. c.in-Ok-None.ensures.accounts (telling o b) k.0) (file_later o c.attributes_of.ensures.stays.makes) seen);
}

pub returns-then-found-clause-accounts : goal.returns-then-found-clause-accounts
returns-then-found-clause-accounts g c = λ o k. record {
  keeps_to = ((k.0, (c.in-Ok-Some.ensures.accounts o k.0 k.1.0, k.1.1)));
  reasons = tt;
  sees = (λ seen. let old = c.args.self.now.core in
      seen_still o (state old) (accepted old.filer) k (view_of c.attributes_of.new.filer) (λ b. c.in-Ok-Some.ensures.accounts (telling o b) k.0) (file_later o c.attributes_of.ensures.stays.makes) seen);
}

pub returns-in-Err-clause-accounts : goal.returns-in-Err-clause-accounts
returns-in-Err-clause-accounts g c = λ o k. record {
  keeps_to = tt;
  reasons = (c.in-Err.ensures.accounts o k.0 k.1.0);
  sees = (λ seen. let old = c.args.self.now.core in
      let disk = (view_of c.attributes_of.new.filer).disk in
      end_blameless o disk c.in-Err.halt (seen_blameless o (state old) (accepted old.filer) k (state old).layout disk c.in-Err.halt (λ b. c.in-Err.ensures.accounts (telling o b) k.0)
      (look_misses (file_pages o disk) c.args.id (state old) (view_of c.attributes_of.new.filer) c.in-Err.halt c.in-Err.ensures.fails.cause) (seen.0, seen.1.0))
      (look_no_table c.args.id (state old) (view_of c.attributes_of.new.filer) c.in-Err.halt c.in-Err.ensures.fails.cause));
}

pub returns-in-Ok-clause-accounts : goal.returns-in-Ok-clause-accounts
returns-in-Ok-clause-accounts g c = λ o k. record {
  keeps_to = (let from = c.in-Ok.ensures.accounts o k.0 (c.in-Ok-Some.ensures.accounts o k.0 k.1.0) in (from.0, (from.1, (from.2 k.1.1.0, k.1.1.1))));
  reasons = tt;
  sees = (λ seen. let old = c.args.self.now.core in
      seen_from o (state old) (accepted old.filer) k (view_of c.delete.new.filer) (λ b h. c.in-Ok.ensures.accounts (telling o b) k.0 (c.in-Ok-Some.ensures.accounts (telling o b) k.0 h))
      (file_after o ((returns-in-Ok-clause-clears g c).wrote)) seen);
}

pub returns-in-Err-delete-clause-accounts : goal.returns-in-Err-delete-clause-accounts
returns-in-Err-delete-clause-accounts g c = λ o k. record {
  keeps_to = tt;
  reasons = (subst (λ (l : Layout). ShowsReason o l (view_of c.delete.new.filer).disk c.in-Err-delete.halt) c.attributes_of.ensures.stays.layout
      (c.in-Err-delete.ensures.accounts o k.0 (c.in-Ok-Some.ensures.accounts o k.0 k.1.0)));
  sees = (λ seen. let old = c.args.self.now.core in
      let disk = (view_of c.delete.new.filer).disk in
      let was = found_file k.1.0 c.args.id _ _ c.in-Ok-Some.field-0-is (λ z0 z1 z2 z3. (c.in-Ok-Some.ensures.named z0 z1 z2 z3).1) in
      end_blameless o disk c.in-Err-delete.halt (seen_blameless o (state old) (accepted old.filer) k (view_of c.attributes_of.new.filer).layout disk c.in-Err-delete.halt (λ b h. c.in-Err-delete.ensures.accounts (telling o b) k.0 (c.in-Ok-Some.ensures.accounts (telling o b) k.0 h))
      (misses_file (c.in-Ok-Some.ensures.accounts o k.0 k.1.0) disk (file_later o c.in-Err-delete.ensures.writes.makes) c.args.id (file_after o ((returns-in-Err-delete-clause-clears g c).wrote) c.args.id leader_page was) c.in-Err-delete.halt
      (remove_misses_own c.args.id (view_of c.attributes_of.new.filer) (view_of c.delete.new.filer) c.in-Err-delete.halt c.in-Err-delete.ensures.fails.cause)) (seen.0, seen.1.0))
      (remove_no_table c.args.id c.requires.client (view_of c.attributes_of.new.filer) (view_of c.delete.new.filer) c.in-Err-delete.halt c.in-Err-delete.ensures.fails.cause));
}

-- ---- Which files are spared.

pub returns-in-Ok-None-clause-clears : goal.returns-in-Ok-None-clause-clears
returns-in-Ok-None-clause-clears g c = cleared_asked c.args.self.now _ c.attributes_of.ensures.stays c.requires.set_up.opened refl

pub returns-in-Err-clause-clears : goal.returns-in-Err-clause-clears
returns-in-Err-clause-clears g c = cleared_asked c.args.self.now _ c.attributes_of.ensures.stays c.requires.set_up.opened refl

pub returns-then-found-clause-clears : goal.returns-then-found-clause-clears
returns-then-found-clause-clears g c = cleared_asked c.args.self.now _ c.attributes_of.ensures.stays c.requires.set_up.opened refl
