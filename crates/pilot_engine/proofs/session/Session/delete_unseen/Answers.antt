use Rattle.std.proofs.Common.{ap, arith, inl, inr, Option, rules, subst, sym, ◌∙◌, false, true, refl}
use Rattle.std.specs.Prelude.{IfSome}
use Rattle.labelled_disk.specs.Label.{leader_page}
use Rattle.flat_machine.specs.declared.call.Call.TheVariants as call
use Rattle.file_manager.specs.declared.attributes.Attributes.{Attributes}
use Rattle.file_manager.specs.declared.volume.Volume.{Volume}
use Rattle.file_manager.specs.Attributes.{IsAttributesOf}
use Rattle.session_words.specs.Parts.{shapes_of}
use Rattle.pilot_engine.proofs.BoundLemmas.{inside, delete_revealed, inside_layout}
use Rattle.pilot_engine.proofs.CallLemmas.{delete_done, delete_passed, delete_broken, missing_after, file_revealed, books_at, carries_at, freed_wrote, some_freed_wrote}
use Rattle.pilot_engine.proofs.RefusalLemmas.{delete_gone, delete_free, no_file_missing}
use Rattle.pilot_engine.proofs.SeenLemmas.{unseen_named, unseen_pages}
use Rattle.running_words.proofs.SessionLemmas.{session_books}
use Rattle.running_words.proofs.StageLemmas.{no_step}
use Rattle.pilot_engine.proofs.WritingLemmas.{only_deleted, only_deleting, only_quiet, only_then}
use Rattle.fault_core.specs.Core.{state}
use Rattle.space_calls.proofs.HaltLemmas.{look_reaches}
use Rattle.pilot_engine.proofs.ReasonSteps.{shows_since}
use Rattle.file_manager.specs.Reasons.{telling}
use Rattle.filer_kernel.specs.View.{accepted, disk_of, view_of}
use Rattle.pilot_engine.proofs.HomeLemmas.{file_after, file_later, file_pages, found_file, misses_file}
use Rattle.pilot_engine.proofs.LackLemmas.{look_misses, remove_misses_own}
use Rattle.pilot_engine.proofs.SeesLemmas.{same_next, seen_from, seen_blameless}
use Rattle.pilot_engine.proofs.SparedCalls.{all_but, all_then, but_then, spares_quiet}
use Rattle.pilot_engine.proofs.SparedFiles.{found_temporary, kept_hidden, not_kept, spares_freed, spares_going, spares_gone, spares_some}
use Rattle.file_manager.specs.Attributes.{HasLeader}
use Rattle.label_calls.specs.SyncedLaws.{around_after, quiet_synced, syncs_around, wrote_synced}
use Rattle.pilot_engine.proofs.SeesLemmas.{same_from}
use Rattle.swapper_kernel.specs.HaltLaws.{brings_then}
use Rattle.pilot_engine.proofs.FailSteps.{fails_after, fails_wider}
use Rattle.pilot_engine.proofs.AskedSteps.{accounts_found, asked_writes, remains_files}
use Rattle.pilot_engine.proofs.session.Session.delete_unseen.Goals as goal

pub returns-in-Ok-None-clause-answers : goal.returns-in-Ok-None-clause-answers
returns-in-Ok-None-clause-answers g c = λ spaces_of m s unseen temporary.
    let books = session_books spaces_of _ _ _ _ _ m s in
    let revealed = subst (λ (o : Option Attributes). IsAttributesOf (shapes_of m.files c.args.id) o) c.in-Ok-None.field-0-is ((c.in-Ok-None.ensures.revealed 96 s.stands.memory (shapes_of m.files) m.spaces books).0) in
    record {
      carried = (missing_after spaces_of _ _ _ _ _ _ _ _ _ m s c.attributes_of.ensures.stays.makes c.attributes_of.ensures.stays.brings ((c.attributes_of.ensures.revealed 96 s.stands.memory (shapes_of m.files) m.spaces books).1) c.attributes_of.ensures.stays.layout
          c.args.id revealed (call.Delete c.args.id) (λ none. delete_gone m c.args.id (no_file_missing m c.args.id none)));
      passes = no_step spaces_of _ _ _ _ m (call.Delete c.args.id) s.stands c.attributes_of.ensures.stays.makes (g.met.D.Disk.in_form (disk_of c.args.self.now.core.filer));
      came = c.attributes_of.ensures.stays.brings;
    }

pub returns-in-Err-clause-sound : goal.returns-in-Err-clause-sound
returns-in-Err-clause-sound g c = λ spaces_of m s unseen temporary. (c.in-Err.ensures.revealed 96 s.stands.memory (shapes_of m.files) m.spaces (session_books spaces_of _ _ _ _ _ m s)).0

pub returns-in-Err-clause-answers : goal.returns-in-Err-clause-answers
returns-in-Err-clause-answers g c = λ spaces_of m s unseen temporary. record {
  carried = tt;
  passes = no_step spaces_of _ _ _ _ m (call.Delete c.args.id) s.stands c.attributes_of.ensures.stays.makes (g.met.D.Disk.in_form (disk_of c.args.self.now.core.filer));
  came = tt;
}

pub returns-in-Ok-clause-answers : goal.returns-in-Ok-clause-answers
returns-in-Ok-clause-answers g c = λ spaces_of m s unseen temporary.
    let books = session_books spaces_of _ _ _ _ _ m s in
    let revealed = subst (λ (o : Option Attributes). IsAttributesOf (shapes_of m.files c.args.id) o) c.in-Ok-Some.field-0-is ((c.in-Ok-Some.ensures.revealed 96 s.stands.memory (shapes_of m.files) m.spaces books).0) in
    let mid = (c.attributes_of.ensures.revealed 96 s.stands.memory (shapes_of m.files) m.spaces books).1 in
    let at = books_at _ _ _ _ _ _ _ _ mid c.attributes_of.ensures.stays.layout in
    let deleted = (c.in-Ok.ensures.deleted s.stands.memory (shapes_of m.files) m.spaces _ at revealed).deleted (unseen_pages m c.args.id unseen) in
    let less = (c.in-Ok.ensures.deleted s.stands.memory (shapes_of m.files) m.spaces _ at revealed).used in
    record {
      carried = (carries_at spaces_of m (call.Delete c.args.id) _ _ _ _ _ _ _
          (delete_done spaces_of _ _ _ _ _ _ _ _ _ m s c.attributes_of.ensures.stays.makes c.attributes_of.ensures.stays.brings mid c.attributes_of.ensures.stays.layout _ _ _ _ c.args.id _ revealed (let f = file_revealed m c.args.id _ revealed in delete_free m c.args.id f.0 f.1 (unseen_named m c.args.id unseen) unseen)
          (ap (λ (v : Volume). v.root.serial) c.delete.ensures.volume.rest_of_volume) (ap (λ (v : Volume). v.root.counter) c.delete.ensures.volume.rest_of_volume) less deleted) c.delete.ensures.stays.layout);
      passes = (delete_passed spaces_of _ _ _ _ _ _ _ _ _ m s c.attributes_of.ensures.stays.makes c.attributes_of.ensures.stays.brings mid c.attributes_of.ensures.stays.layout _ _ _ c.args.self.now.volume c.args.id _ revealed (let f = file_revealed m c.args.id _ revealed in delete_free m c.args.id f.0 f.1 (unseen_named m c.args.id unseen) unseen)
          (g.met.D.Disk.in_form (disk_of c.args.self.now.core.filer)) deleted);
      came = brings_then c.attributes_of.ensures.stays.brings ((c.in-Ok.ensures.deleted s.stands.memory (shapes_of m.files) m.spaces _ at revealed).deleted (unseen_pages m c.args.id unseen)).leads.brings;
    }

pub returns-in-Ok-clause-writes : goal.returns-in-Ok-clause-writes
returns-in-Ok-clause-writes g c = record {
  wrote = freed_wrote c.attributes_of.ensures.stays.makes c.in-Ok.ensures.writes;
  own = only_then (only_quiet (call.Delete c.args.id) c.attributes_of.ensures.stays.makes) (only_deleted c.args.id c.in-Ok.ensures.writes.1 c.in-Ok.ensures.labels.own);
  spares = but_then (all_but (spares_quiet c.attributes_of.ensures.stays.makes)) (spares_freed c.args.id c.in-Ok.ensures.writes.1 c.in-Ok.ensures.labels.own);
}

pub returns-in-Err-delete-clause-sound : goal.returns-in-Err-delete-clause-sound
returns-in-Err-delete-clause-sound g c = λ spaces_of m s unseen temporary.
    let books = session_books spaces_of _ _ _ _ _ m s in
    let revealed = subst (λ (o : Option Attributes). IsAttributesOf (shapes_of m.files c.args.id) o) c.in-Ok-Some.field-0-is ((c.in-Ok-Some.ensures.revealed 96 s.stands.memory (shapes_of m.files) m.spaces books).0) in
    let mid = (c.attributes_of.ensures.revealed 96 s.stands.memory (shapes_of m.files) m.spaces books).1 in
    ((c.in-Err-delete.ensures.deleted s.stands.memory (shapes_of m.files) m.spaces _ (books_at _ _ _ _ _ _ _ _ mid c.attributes_of.ensures.stays.layout) revealed).deleted (unseen_pages m c.args.id unseen)).0

pub returns-in-Err-delete-clause-answers : goal.returns-in-Err-delete-clause-answers
returns-in-Err-delete-clause-answers g c = λ spaces_of m s unseen temporary.
    let books = session_books spaces_of _ _ _ _ _ m s in
    let revealed = subst (λ (o : Option Attributes). IsAttributesOf (shapes_of m.files c.args.id) o) c.in-Ok-Some.field-0-is ((c.in-Ok-Some.ensures.revealed 96 s.stands.memory (shapes_of m.files) m.spaces books).0) in
    let mid = (c.attributes_of.ensures.revealed 96 s.stands.memory (shapes_of m.files) m.spaces books).1 in
    let first = ((c.in-Err-delete.ensures.deleted s.stands.memory (shapes_of m.files) m.spaces _ (books_at _ _ _ _ _ _ _ _ mid c.attributes_of.ensures.stays.layout) revealed).deleted (unseen_pages m c.args.id unseen)).1 in
    record {
      carried = tt;
      passes = (delete_broken spaces_of _ _ _ _ _ _ _ _ _ m s c.attributes_of.ensures.stays.makes c.attributes_of.ensures.stays.brings mid c.attributes_of.ensures.stays.layout _ _ c.args.self.now.core.filer.runs c.args.self.now.volume c.args.id _ revealed (let f = file_revealed m c.args.id _ revealed in delete_free m c.args.id f.0 f.1 (unseen_named m c.args.id unseen) unseen)
          (g.met.D.Disk.in_form (disk_of c.args.self.now.core.filer)) first);
      came = tt;
    }

pub returns-in-Err-delete-clause-writes : goal.returns-in-Err-delete-clause-writes
returns-in-Err-delete-clause-writes g c = record {
  wrote = some_freed_wrote c.attributes_of.ensures.stays.makes c.in-Err-delete.ensures.writes;
  own = only_then (only_quiet (call.Delete c.args.id) c.attributes_of.ensures.stays.makes) (only_deleting c.args.id c.in-Err-delete.ensures.writes c.in-Err-delete.ensures.labels.own);
  spares = but_then (all_but (spares_quiet c.attributes_of.ensures.stays.makes)) (spares_some c.args.id c.in-Err-delete.ensures.writes c.in-Err-delete.ensures.labels.own);
}

pub returns-in-Ok-None-clause-bounded : goal.returns-in-Ok-None-clause-bounded
returns-in-Ok-None-clause-bounded g c = λ spaces_of m s. inside_layout (state c.args.self.now.core).layout (state c.args.self.now.core).disk (view_of c.attributes_of.new.filer).disk c.requires.set_up.size (inside _ _ _ 29 (omega arith) c.attributes_of.ensures.cost)

pub returns-in-Err-clause-bounded : goal.returns-in-Err-clause-bounded
returns-in-Err-clause-bounded g c = λ spaces_of m s. inside_layout (state c.args.self.now.core).layout (state c.args.self.now.core).disk (view_of c.attributes_of.new.filer).disk c.requires.set_up.size (inside _ _ _ 29 (omega arith) c.attributes_of.ensures.cost)

pub returns-in-Ok-clause-bounded : goal.returns-in-Ok-clause-bounded
returns-in-Ok-clause-bounded g c = λ spaces_of m s.
    let layout = (state c.args.self.now.core).layout in
    let books = session_books spaces_of _ _ _ _ _ m s in
    let revealed = subst (λ (o : Option Attributes). IsAttributesOf (shapes_of m.files c.args.id) o) c.in-Ok-Some.field-0-is ((c.in-Ok-Some.ensures.revealed 96 s.stands.memory (shapes_of m.files) m.spaces books).0) in
    let mid = (c.attributes_of.ensures.revealed 96 s.stands.memory (shapes_of m.files) m.spaces books).1 in
    let at = books_at _ _ _ _ _ _ _ _ mid c.attributes_of.ensures.stays.layout in
    let paid = (c.delete.ensures.deleted s.stands.memory (shapes_of m.files) m.spaces _ at revealed).cost in
    delete_revealed spaces_of (state c.args.self.now.core).disk _ layout _ _ m s c.requires.set_up.opened (accepted c.args.self.now.core.filer) (view_of c.attributes_of.new.filer).layout c.attributes_of.ensures.stays.layout
    (view_of c.attributes_of.new.filer).disk (view_of c.delete.new.filer).disk c.args.id _ revealed c.requires.set_up.size c.attributes_of.ensures.cost paid

pub returns-in-Err-delete-clause-bounded : goal.returns-in-Err-delete-clause-bounded
returns-in-Err-delete-clause-bounded g c = λ spaces_of m s.
    let layout = (state c.args.self.now.core).layout in
    let books = session_books spaces_of _ _ _ _ _ m s in
    let revealed = subst (λ (o : Option Attributes). IsAttributesOf (shapes_of m.files c.args.id) o) c.in-Ok-Some.field-0-is ((c.in-Ok-Some.ensures.revealed 96 s.stands.memory (shapes_of m.files) m.spaces books).0) in
    let mid = (c.attributes_of.ensures.revealed 96 s.stands.memory (shapes_of m.files) m.spaces books).1 in
    let at = books_at _ _ _ _ _ _ _ _ mid c.attributes_of.ensures.stays.layout in
    let paid = (c.delete.ensures.deleted s.stands.memory (shapes_of m.files) m.spaces _ at revealed).cost in
    delete_revealed spaces_of (state c.args.self.now.core).disk _ layout _ _ m s c.requires.set_up.opened (accepted c.args.self.now.core.filer) (view_of c.attributes_of.new.filer).layout c.attributes_of.ensures.stays.layout
    (view_of c.attributes_of.new.filer).disk (view_of c.delete.new.filer).disk c.args.id _ revealed c.requires.set_up.size c.attributes_of.ensures.cost paid

pub returns-in-Ok-None-clause-writes : goal.returns-in-Ok-None-clause-writes
returns-in-Ok-None-clause-writes g c = asked_writes (call.Delete c.args.id) c.attributes_of.ensures.stays.makes

pub returns-in-Err-clause-writes : goal.returns-in-Err-clause-writes
returns-in-Err-clause-writes g c = asked_writes (call.Delete c.args.id) c.attributes_of.ensures.stays.makes

-- ---- Why it failed.

pub returns-in-Err-clause-fails : goal.returns-in-Err-clause-fails
returns-in-Err-clause-fails g c = fails_wider (λ h. inl h) c.in-Err.ensures.fails

pub returns-in-Err-delete-clause-fails : goal.returns-in-Err-delete-clause-fails
returns-in-Err-delete-clause-fails g c = fails_after c.attributes_of.ensures.stays.makes.went.faults (λ h. inr (state (record c.args.self.now.core { filer = c.attributes_of.new.filer }), look_reaches (state c.args.self.now.core) (state (record c.args.self.now.core { filer = c.attributes_of.new.filer })) c.attributes_of.ensures.stays.looks c.attributes_of.ensures.stays.layout, h)) c.in-Err-delete.ensures.fails

-- ---- The initial state.

pub returns-in-Ok-None-clause-accounts : goal.returns-in-Ok-None-clause-accounts
returns-in-Ok-None-clause-accounts g c = accounts_found c.args.self.now _ c.in-Ok-None.ensures.accounts c.attributes_of.ensures.stays.makes refl refl

pub returns-in-Ok-clause-accounts : goal.returns-in-Ok-clause-accounts
returns-in-Ok-clause-accounts g c = λ o k. record {
  keeps_to = (let from = c.in-Ok.ensures.accounts o k.0 (c.in-Ok-Some.ensures.accounts o k.0 k.1.0) in (from.0, (from.1, (from.2 k.1.1.0, k.1.1.1))));
  reasons = tt;
  sees = (λ seen. let old = c.args.self.now.core in
      seen_from o (state old) (accepted old.filer) k (view_of c.delete.new.filer) (λ b h. c.in-Ok.ensures.accounts (telling o b) k.0 (c.in-Ok-Some.ensures.accounts (telling o b) k.0 h))
      (file_after o ((returns-in-Ok-clause-writes g c).wrote)) seen);
  windows = (let old = c.args.self.now.core in
      same_from o (state old) (accepted old.filer) k (view_of c.delete.new.filer) (λ b h. c.in-Ok.ensures.accounts (telling o b) k.0 (c.in-Ok-Some.ensures.accounts (telling o b) k.0 h)));
}

pub returns-in-Err-clause-accounts : goal.returns-in-Err-clause-accounts
returns-in-Err-clause-accounts g c = λ o k. record {
  keeps_to = tt;
  reasons = (c.in-Err.ensures.accounts o k.0 k.1.0);
  sees = (λ seen. let old = c.args.self.now.core in
      let disk = (view_of c.attributes_of.new.filer).disk in
      seen_blameless o (state old) (accepted old.filer) k (state old).layout disk c.in-Err.halt (λ b. c.in-Err.ensures.accounts (telling o b) k.0)
      (look_misses (file_pages o disk) c.args.id (state old) (view_of c.attributes_of.new.filer) c.in-Err.halt c.in-Err.ensures.fails.cause) (seen.0, seen.1.0));
  windows = tt;
}

pub returns-in-Err-delete-clause-accounts : goal.returns-in-Err-delete-clause-accounts
returns-in-Err-delete-clause-accounts g c = λ o k. record {
  keeps_to = tt;
  reasons = (shows_since o (view_of c.delete.new.filer).disk c.in-Err-delete.halt c.attributes_of.ensures.stays.layout
      (c.in-Err-delete.ensures.accounts o k.0 (c.in-Ok-Some.ensures.accounts o k.0 k.1.0)));
  sees = (λ seen. let old = c.args.self.now.core in
      let disk = (view_of c.delete.new.filer).disk in
      let was = found_file k.1.0 c.args.id _ _ c.in-Ok-Some.field-0-is (λ z0 z1 z2 z3. (c.in-Ok-Some.ensures.named z0 z1 z2 z3).1) in
      seen_blameless o (state old) (accepted old.filer) k (view_of c.attributes_of.new.filer).layout disk c.in-Err-delete.halt (λ b h. c.in-Err-delete.ensures.accounts (telling o b) k.0 (c.in-Ok-Some.ensures.accounts (telling o b) k.0 h))
      (misses_file (c.in-Ok-Some.ensures.accounts o k.0 k.1.0) disk (file_later o c.in-Err-delete.ensures.writes.makes) c.args.id (file_after o ((returns-in-Err-delete-clause-writes g c).wrote) c.args.id leader_page was) c.in-Err-delete.halt
      (remove_misses_own c.args.id (view_of c.attributes_of.new.filer) (view_of c.delete.new.filer) c.in-Err-delete.halt c.in-Err-delete.ensures.fails.cause)) (seen.0, seen.1.0));
  windows = tt;
}

-- ---- The next identifier.

pub returns-in-Ok-clause-remains : goal.returns-in-Ok-clause-remains
returns-in-Ok-clause-remains g c = record {
  stays = record {
    open_still = (search rules);
    monotone = (same_next c.args.self.now.volume.root c.delete.new.volume.root (ap (λ (v : Volume). v.root) c.delete.ensures.volume.rest_of_volume));
    serial = (ap (λ (v : Volume). v.root.serial) c.delete.ensures.volume.rest_of_volume);
    layout = (search rules);
  };
  running = refl;
  kept = refl;
  intervals = refl;
}

pub returns-in-Err-delete-clause-remains : goal.returns-in-Err-delete-clause-remains
returns-in-Err-delete-clause-remains g c = record {
  stays = record {
    open_still = (search rules);
    monotone = (same_next c.args.self.now.volume.root c.delete.new.volume.root (ap (λ (v : Volume). v.root) c.delete.ensures.volume.rest_of_volume));
    serial = (ap (λ (v : Volume). v.root.serial) c.delete.ensures.volume.rest_of_volume);
    layout = (search rules);
  };
  running = refl;
  kept = refl;
  intervals = refl;
}

-- ---- Which files are spared.

pub returns-in-Ok-None-clause-lasting : goal.returns-in-Ok-None-clause-lasting
returns-in-Ok-None-clause-lasting g c = λ is. spares_quiet c.attributes_of.ensures.stays.makes

pub returns-in-Err-clause-lasting : goal.returns-in-Err-clause-lasting
returns-in-Err-clause-lasting g c = λ is. spares_quiet c.attributes_of.ensures.stays.makes

pub returns-then-is_kept-clause-lasting : goal.returns-then-is_kept-clause-lasting
returns-then-is_kept-clause-lasting g c = λ is. spares_quiet c.attributes_of.ensures.stays.makes

pub returns-in-Ok-clause-lasting : goal.returns-in-Ok-clause-lasting
returns-in-Ok-clause-lasting g c = λ is.
    all_then (spares_quiet c.attributes_of.ensures.stays.makes) (spares_gone c.args.id (found_temporary (view_of c.attributes_of.new.filer).disk c.args.id c.in-Ok-Some.found.permanent (subst (λ (o : Option Attributes). IfSome o (λ a. HasLeader (view_of c.attributes_of.new.filer).disk c.args.id a.permanent)) c.in-Ok-Some.field-0-is c.in-Ok-Some.ensures.marked) (not_kept c.args.anonymous c.in-Ok-Some.found.permanent is (sym c.is_kept.ensures ∙ c.if-is_kept.false))) c.in-Ok.ensures.writes.1 c.in-Ok.ensures.labels.own)

pub returns-in-Err-delete-clause-lasting : goal.returns-in-Err-delete-clause-lasting
returns-in-Err-delete-clause-lasting g c = λ is.
    all_then (spares_quiet c.attributes_of.ensures.stays.makes) (spares_going c.args.id (found_temporary (view_of c.attributes_of.new.filer).disk c.args.id c.in-Ok-Some.found.permanent (subst (λ (o : Option Attributes). IfSome o (λ a. HasLeader (view_of c.attributes_of.new.filer).disk c.args.id a.permanent)) c.in-Ok-Some.field-0-is c.in-Ok-Some.ensures.marked) (not_kept c.args.anonymous c.in-Ok-Some.found.permanent is (sym c.is_kept.ensures ∙ c.if-is_kept.false))) c.in-Err-delete.ensures.writes c.in-Err-delete.ensures.labels.own)

pub returns-then-is_kept-clause-answers : goal.returns-then-is_kept-clause-answers
returns-then-is_kept-clause-answers g c = λ spaces_of m s unseen temporary.
    let books = session_books spaces_of _ _ _ _ _ m s in
    let revealed = subst (λ (o : Option Attributes). IsAttributesOf (shapes_of m.files c.args.id) o) c.in-Ok-Some.field-0-is ((c.in-Ok-Some.ensures.revealed 96 s.stands.memory (shapes_of m.files) m.spaces books).0) in
    record {
      carried = absurd (kept_hidden m c.args.id c.in-Ok-Some.found c.args.anonymous revealed temporary (sym c.is_kept.ensures ∙ c.if-is_kept.true));
      passes = no_step spaces_of _ _ _ _ m (call.Delete c.args.id) s.stands c.attributes_of.ensures.stays.makes (g.met.D.Disk.in_form (disk_of c.args.self.now.core.filer));
      came = c.attributes_of.ensures.stays.brings;
    }

pub returns-then-is_kept-clause-bounded : goal.returns-then-is_kept-clause-bounded
returns-then-is_kept-clause-bounded g c = λ spaces_of m s. inside_layout (state c.args.self.now.core).layout (state c.args.self.now.core).disk (view_of c.attributes_of.new.filer).disk c.requires.set_up.size (inside _ _ _ 29 (omega arith) c.attributes_of.ensures.cost)

pub returns-then-is_kept-clause-writes : goal.returns-then-is_kept-clause-writes
returns-then-is_kept-clause-writes g c = asked_writes (call.Delete c.args.id) c.attributes_of.ensures.stays.makes

pub returns-then-is_kept-clause-accounts : goal.returns-then-is_kept-clause-accounts
returns-then-is_kept-clause-accounts g c = accounts_found c.args.self.now _ c.in-Ok-Some.ensures.accounts c.attributes_of.ensures.stays.makes refl refl

-- ---- The syncs around leaders.

pub returns-in-Ok-None-clause-around : goal.returns-in-Ok-None-clause-around
returns-in-Ok-None-clause-around g c = syncs_around (quiet_synced false c.attributes_of.ensures.stays.makes)

pub returns-in-Err-clause-around : goal.returns-in-Err-clause-around
returns-in-Err-clause-around g c = syncs_around (quiet_synced true c.attributes_of.ensures.stays.makes)

pub returns-then-is_kept-clause-around : goal.returns-then-is_kept-clause-around
returns-then-is_kept-clause-around g c = syncs_around (quiet_synced false c.attributes_of.ensures.stays.makes)

pub returns-in-Ok-clause-around : goal.returns-in-Ok-clause-around
returns-in-Ok-clause-around g c = around_after (quiet_synced false c.attributes_of.ensures.stays.makes) (wrote_synced c.in-Ok.ensures.writes.1.makes c.in-Ok.ensures.labels.around)

pub returns-in-Err-delete-clause-around : goal.returns-in-Err-delete-clause-around
returns-in-Err-delete-clause-around g c = around_after (quiet_synced false c.attributes_of.ensures.stays.makes) (wrote_synced c.in-Err-delete.ensures.writes.makes c.in-Err-delete.ensures.labels.around)

-- ---- Which pages came.

pub returns-in-Ok-None-clause-remains : goal.returns-in-Ok-None-clause-remains
returns-in-Ok-None-clause-remains g c = remains_files c.args.self.now _ c.attributes_of.ensures.stays.layout c.requires.set_up.opened refl refl refl refl

pub returns-in-Err-clause-remains : goal.returns-in-Err-clause-remains
returns-in-Err-clause-remains g c = remains_files c.args.self.now _ c.attributes_of.ensures.stays.layout c.requires.set_up.opened refl refl refl refl

pub returns-then-is_kept-clause-remains : goal.returns-then-is_kept-clause-remains
returns-then-is_kept-clause-remains g c = remains_files c.args.self.now _ c.attributes_of.ensures.stays.layout c.requires.set_up.opened refl refl refl refl
