use Rattle.std.proofs.Common.{ap, arith, inl, inr, Option, rules, subst, sym, ◌∙◌, refl}
use Rattle.std.specs.Prelude.{option_map}
use Rattle.labelled_disk.specs.Label.{leader_page}
use Rattle.flat_machine.specs.declared.call.Call.TheVariants as call
use Rattle.flat_machine.specs.declared.call.Refusal.TheVariants as why
use Rattle.swapper_kernel.specs.GoesLaws.{makes_nothing}
use Rattle.session_words.specs.Parts.{shape_of, shapes_of}
use Rattle.session_words.specs.Volume.{volume_page}
use Rattle.file_manager.specs.declared.attributes.Attributes.{Attributes}
use Rattle.file_manager.specs.Attributes.{IsAttributesOf}
use Rattle.volume_root.specs.declared.root.Root.{Root}
use Rattle.pilot_engine.proofs.BoundLemmas.{inside, resize_revealed, inside_layout}
use Rattle.pilot_engine.proofs.CallLemmas.{missing_after, books_at, carries_at}
use Rattle.pilot_engine.proofs.CreateLemmas.{create_refused}
use Rattle.pilot_engine.proofs.RefusalLemmas.{no_file_missing, size_gone}
use Rattle.running_words.proofs.SessionLemmas.{session_books}
use Rattle.pilot_engine.proofs.SetSizeLemmas.{within_room, never_file, immutable_refused, cut_held, cut_refused, full_refused, size_sound, size_done, size_passed, size_broken, resized_wrote, some_resized_wrote}
use Rattle.running_words.proofs.StageLemmas.{no_step}
use Rattle.pilot_engine.proofs.WroteLemmas.{wrote_nothing}
use Rattle.file_manager.proofs.NextLemmas.{file_id}
use Rattle.pilot_engine.proofs.WritingLemmas.{only_itself, only_quiet, only_resized, only_resizing, only_then}
use Rattle.fault_core.specs.Core.{state}
use Rattle.space_calls.proofs.HaltLemmas.{look_reaches}
use Rattle.pilot_engine.proofs.ReasonSteps.{shows_since}
use Rattle.file_manager.specs.Reasons.{telling}
use Rattle.filer_kernel.specs.View.{accepted, disk_of, view_of}
use Rattle.pilot_engine.proofs.HomeLemmas.{file_after, file_pages, found_file, misses_file}
use Rattle.pilot_engine.proofs.LackLemmas.{look_misses, size_misses_own}
use Rattle.pilot_engine.proofs.SeesLemmas.{same_next, seen_from, seen_blameless}
use Rattle.pilot_engine.proofs.SparedCalls.{all_but, but_then, spares_itself, spares_quiet}
use Rattle.pilot_engine.proofs.SparedFiles.{spares_resized, spares_resizing}
use Rattle.pilot_engine.proofs.SeesLemmas.{same_from}
use Rattle.swapper_kernel.specs.HaltLaws.{brings_then}
use Rattle.pilot_engine.proofs.CameOwn.{own_itself}
use Rattle.label_calls.specs.ClearedLaws.{later_after_sync, quiet_after}
use Rattle.pilot_engine.proofs.FailSteps.{fails_after, fails_wider}
use Rattle.pilot_engine.proofs.AskedSteps.{accounts_found, asked_writes, remains_files, accounts_itself, remains_itself}
use Rattle.pilot_engine.proofs.session.Session.resize.Goals as goal

pub returns-then-not-may_be_file-clause-answers : goal.returns-then-not-may_be_file-clause-answers
returns-then-not-may_be_file-clause-answers g c = λ spaces_of m s by.
    let other = sym c.may_be_file.ensures ∙ c.if-not-may_be_file.true in
    record {
      carried = create_refused spaces_of _ _ _ _ _ m s (call.SetSize c.args.id c.args.pages) why.File (size_gone m c.args.id (no_file_missing m c.args.id (never_file spaces_of _ _ _ _ _ m s c.args.id other)) c.args.pages);
      passes = no_step spaces_of _ _ _ _ m (call.SetSize c.args.id c.args.pages) s.stands (makes_nothing volume_page _ _) (g.met.D.Disk.in_form (disk_of c.args.self.now.core.filer));
      came = own_itself (state c.args.self.now.core).slots;
    }

pub returns-then-not-may_be_file-clause-writes : goal.returns-then-not-may_be_file-clause-writes
returns-then-not-may_be_file-clause-writes g c = record {
  wrote = wrote_nothing _ _;
  own = only_itself (call.SetSize c.args.id c.args.pages) (state c.args.self.now.core).disk;
  spares = all_but (spares_itself (state c.args.self.now.core).disk);
}

pub returns-in-Ok-None-clause-answers : goal.returns-in-Ok-None-clause-answers
returns-in-Ok-None-clause-answers g c = λ spaces_of m s by.
    let books = session_books spaces_of _ _ _ _ _ m s in
    let revealed = subst (λ (o : Option Attributes). IsAttributesOf (shapes_of m.files c.args.id) o) c.in-Ok-None.field-0-is ((c.in-Ok-None.ensures.revealed 96 s.stands.memory (shapes_of m.files) m.spaces books).0) in
    record {
      carried = (missing_after spaces_of _ _ _ _ _ _ _ _ _ m s c.attributes_of.ensures.stays.makes c.attributes_of.ensures.stays.brings ((c.attributes_of.ensures.revealed 96 s.stands.memory (shapes_of m.files) m.spaces books).1) c.attributes_of.ensures.stays.layout
          c.args.id revealed (call.SetSize c.args.id c.args.pages) (λ none. size_gone m c.args.id (no_file_missing m c.args.id none) c.args.pages));
      passes = no_step spaces_of _ _ _ _ m (call.SetSize c.args.id c.args.pages) s.stands c.attributes_of.ensures.stays.makes (g.met.D.Disk.in_form (disk_of c.args.self.now.core.filer));
      came = c.attributes_of.ensures.stays.brings;
    }

pub returns-in-Err-clause-sound : goal.returns-in-Err-clause-sound
returns-in-Err-clause-sound g c = λ spaces_of m s by. (c.in-Err.ensures.revealed 96 s.stands.memory (shapes_of m.files) m.spaces (session_books spaces_of _ _ _ _ _ m s)).0

pub returns-in-Err-clause-answers : goal.returns-in-Err-clause-answers
returns-in-Err-clause-answers g c = λ spaces_of m s by. record {
  carried = tt;
  passes = no_step spaces_of _ _ _ _ m (call.SetSize c.args.id c.args.pages) s.stands c.attributes_of.ensures.stays.makes (g.met.D.Disk.in_form (disk_of c.args.self.now.core.filer));
  came = tt;
}

pub returns-then-found-clause-answers : goal.returns-then-found-clause-answers
returns-then-found-clause-answers g c = λ spaces_of m s by.
    let books = session_books spaces_of _ _ _ _ _ m s in
    let revealed = subst (λ (o : Option Attributes). IsAttributesOf (shapes_of m.files c.args.id) o) c.in-Ok-Some.field-0-is ((c.in-Ok-Some.ensures.revealed 96 s.stands.memory (shapes_of m.files) m.spaces books).0) in
    let mid = (c.attributes_of.ensures.revealed 96 s.stands.memory (shapes_of m.files) m.spaces books).1 in
    record {
      carried = immutable_refused spaces_of _ _ _ _ _ m s _ _ _ _ c.attributes_of.ensures.stays.makes c.attributes_of.ensures.stays.brings mid c.attributes_of.ensures.stays.layout c.args.id c.args.pages c.args.seen by c.in-Ok-Some.found revealed c.if-found.true;
      passes = no_step spaces_of _ _ _ _ m (call.SetSize c.args.id c.args.pages) s.stands c.attributes_of.ensures.stays.makes (g.met.D.Disk.in_form (disk_of c.args.self.now.core.filer));
      came = c.attributes_of.ensures.stays.brings;
    }

pub returns-then-not-has_room-clause-answers : goal.returns-then-not-has_room-clause-answers
returns-then-not-has_room-clause-answers g c = λ spaces_of m s by.
    let books = session_books spaces_of _ _ _ _ _ m s in
    let revealed = subst (λ (o : Option Attributes). IsAttributesOf (shapes_of m.files c.args.id) o) c.in-Ok-Some.field-0-is ((c.in-Ok-Some.ensures.revealed 96 s.stands.memory (shapes_of m.files) m.spaces books).0) in
    let mid = (c.attributes_of.ensures.revealed 96 s.stands.memory (shapes_of m.files) m.spaces books).1 in
    record {
      carried = full_refused spaces_of _ _ _ _ _ m s _ _ _ _ c.attributes_of.ensures.stays.makes c.attributes_of.ensures.stays.brings mid c.attributes_of.ensures.stays.layout c.args.id c.args.pages c.args.seen by c.in-Ok-Some.found revealed c.if-found.false (accepted c.args.self.now.core.filer) c.requires.set_up.opened.same_layout (λ fewer. sym (c.held.ensures.cut fewer) ∙ c.in-None.is) c.has_room.result c.has_room.ensures c.if-not-has_room.true;
      passes = no_step spaces_of _ _ _ _ m (call.SetSize c.args.id c.args.pages) s.stands c.attributes_of.ensures.stays.makes (g.met.D.Disk.in_form (disk_of c.args.self.now.core.filer));
      came = c.attributes_of.ensures.stays.brings;
    }

pub returns-in-Ok-clause-answers : goal.returns-in-Ok-clause-answers
returns-in-Ok-clause-answers g c = λ spaces_of m s by.
    let books = session_books spaces_of _ _ _ _ _ m s in
    let revealed = subst (λ (o : Option Attributes). IsAttributesOf (shapes_of m.files c.args.id) o) c.in-Ok-Some.field-0-is ((c.in-Ok-Some.ensures.revealed 96 s.stands.memory (shapes_of m.files) m.spaces books).0) in
    let mid = (c.attributes_of.ensures.revealed 96 s.stands.memory (shapes_of m.files) m.spaces books).1 in
    record {
      carried = (carries_at spaces_of m (call.SetSize c.args.id c.args.pages) _ _ _ _ _ _ _
          (size_done spaces_of _ _ _ _ _ m s _ _ _ _ c.attributes_of.ensures.stays.makes c.attributes_of.ensures.stays.brings mid c.attributes_of.ensures.stays.layout c.args.id c.args.pages c.args.seen by c.in-Ok-Some.found revealed c.if-found.false (accepted c.args.self.now.core.filer) c.requires.set_up.opened.same_layout (λ fewer. sym (c.held.ensures.cut fewer) ∙ c.in-None.is) c.has_room.result c.has_room.ensures c.if-not-has_room.false _ _ _ _ c.set_size.ensures.volume.same_numbers.0 (λ x shapes spaces f may few. ((c.in-Ok.ensures.resized x shapes spaces f may.books may.found).grown may few).0) (λ x shapes spaces f may few. ((c.in-Ok.ensures.resized x shapes spaces f may.books may.found).grown may few).1) (λ x shapes spaces f may. ((c.in-Ok.ensures.resized x shapes spaces f may.books may.found).shrunk may).0) (λ x shapes spaces f may. ((c.in-Ok.ensures.resized x shapes spaces f may.books may.found).shrunk may).1)) c.set_size.ensures.stays.layout);
      passes = size_passed spaces_of _ _ _ _ _ m s _ _ _ _ c.attributes_of.ensures.stays.makes c.attributes_of.ensures.stays.brings mid c.attributes_of.ensures.stays.layout c.args.id c.args.pages c.args.seen by c.in-Ok-Some.found revealed c.if-found.false (accepted c.args.self.now.core.filer) c.requires.set_up.opened.same_layout (λ fewer. sym (c.held.ensures.cut fewer) ∙ c.in-None.is) c.has_room.result c.has_room.ensures c.if-not-has_room.false _ _ c.set_size.new.filer.runs (g.met.D.Disk.in_form (disk_of c.args.self.now.core.filer)) (λ x shapes spaces f may few. ((c.in-Ok.ensures.resized x shapes spaces f may.books may.found).grown may few).0) (λ x shapes spaces f may. ((c.in-Ok.ensures.resized x shapes spaces f may.books may.found).shrunk may).0);
      came = (size_sound spaces_of _ _ _ _ _ m s _ _ _ _ c.attributes_of.ensures.stays.makes c.attributes_of.ensures.stays.brings mid c.attributes_of.ensures.stays.layout c.args.id c.args.pages c.args.seen by c.in-Ok-Some.found revealed c.if-found.false (accepted c.args.self.now.core.filer) c.requires.set_up.opened.same_layout (λ fewer. sym (c.held.ensures.cut fewer) ∙ c.in-None.is) c.has_room.result c.has_room.ensures c.if-not-has_room.false _
          (λ x shapes spaces f may few. brings_then c.attributes_of.ensures.stays.brings ((c.in-Ok.ensures.resized x shapes spaces f may.books may.found).grown may few).0.leads.brings)
          (λ x shapes spaces f may. brings_then c.attributes_of.ensures.stays.brings ((c.in-Ok.ensures.resized x shapes spaces f may.books may.found).shrunk may).0.leads.brings));
    }

pub returns-in-Ok-clause-writes : goal.returns-in-Ok-clause-writes
returns-in-Ok-clause-writes g c = record {
  wrote = resized_wrote c.args.id c.args.pages c.attributes_of.ensures.stays.makes c.in-Ok.ensures.writes;
  own = only_then (only_quiet (call.SetSize c.args.id c.args.pages) c.attributes_of.ensures.stays.makes) (only_resized c.args.id c.args.pages (file_id c.args.id (sym c.may_be_file.ensures ∙ c.if-not-may_be_file.false)) c.in-Ok.ensures.writes c.in-Ok.ensures.own);
  spares = but_then (all_but (spares_quiet c.attributes_of.ensures.stays.makes)) (spares_resized c.args.id c.args.pages c.in-Ok.ensures.writes c.in-Ok.ensures.own);
}

pub returns-in-Err-set_size-clause-sound : goal.returns-in-Err-set_size-clause-sound
returns-in-Err-set_size-clause-sound g c = λ spaces_of m s by.
    let books = session_books spaces_of _ _ _ _ _ m s in
    let revealed = subst (λ (o : Option Attributes). IsAttributesOf (shapes_of m.files c.args.id) o) c.in-Ok-Some.field-0-is ((c.in-Ok-Some.ensures.revealed 96 s.stands.memory (shapes_of m.files) m.spaces books).0) in
    let mid = (c.attributes_of.ensures.revealed 96 s.stands.memory (shapes_of m.files) m.spaces books).1 in
    size_sound spaces_of _ _ _ _ _ m s _ _ _ _ c.attributes_of.ensures.stays.makes c.attributes_of.ensures.stays.brings mid c.attributes_of.ensures.stays.layout c.args.id c.args.pages c.args.seen by c.in-Ok-Some.found revealed c.if-found.false (accepted c.args.self.now.core.filer) c.requires.set_up.opened.same_layout (λ fewer. sym (c.held.ensures.cut fewer) ∙ c.in-None.is) c.has_room.result c.has_room.ensures c.if-not-has_room.false _ (λ x shapes spaces f may few. ((c.in-Err-set_size.ensures.resized x shapes spaces f may.books may.found).grown may few).0) (λ x shapes spaces f may. ((c.in-Err-set_size.ensures.resized x shapes spaces f may.books may.found).shrunk may).0)

pub returns-in-Err-set_size-clause-answers : goal.returns-in-Err-set_size-clause-answers
returns-in-Err-set_size-clause-answers g c = λ spaces_of m s by.
    let books = session_books spaces_of _ _ _ _ _ m s in
    let revealed = subst (λ (o : Option Attributes). IsAttributesOf (shapes_of m.files c.args.id) o) c.in-Ok-Some.field-0-is ((c.in-Ok-Some.ensures.revealed 96 s.stands.memory (shapes_of m.files) m.spaces books).0) in
    let mid = (c.attributes_of.ensures.revealed 96 s.stands.memory (shapes_of m.files) m.spaces books).1 in
    record {
      carried = tt;
      passes = size_broken spaces_of _ _ _ _ _ m s _ _ _ _ c.attributes_of.ensures.stays.makes c.attributes_of.ensures.stays.brings mid c.attributes_of.ensures.stays.layout c.args.id c.args.pages c.args.seen by c.in-Ok-Some.found revealed c.if-found.false (accepted c.args.self.now.core.filer) c.requires.set_up.opened.same_layout (λ fewer. sym (c.held.ensures.cut fewer) ∙ c.in-None.is) c.has_room.result c.has_room.ensures c.if-not-has_room.false _ _ c.args.self.now.core.filer.runs (g.met.D.Disk.in_form (disk_of c.args.self.now.core.filer)) (λ x shapes spaces f may few. ((c.in-Err-set_size.ensures.resized x shapes spaces f may.books may.found).grown may few).1) (λ x shapes spaces f may. ((c.in-Err-set_size.ensures.resized x shapes spaces f may.books may.found).shrunk may).1);
      came = tt;
    }

pub returns-in-Err-set_size-clause-writes : goal.returns-in-Err-set_size-clause-writes
returns-in-Err-set_size-clause-writes g c = record {
  wrote = some_resized_wrote c.args.id c.args.pages c.attributes_of.ensures.stays.makes c.in-Err-set_size.ensures.writes;
  own = only_then (only_quiet (call.SetSize c.args.id c.args.pages) c.attributes_of.ensures.stays.makes) (only_resizing c.args.id c.args.pages (file_id c.args.id (sym c.may_be_file.ensures ∙ c.if-not-may_be_file.false)) c.in-Err-set_size.ensures.writes c.in-Err-set_size.ensures.own);
  spares = but_then (all_but (spares_quiet c.attributes_of.ensures.stays.makes)) (spares_resizing c.args.id c.args.pages c.in-Err-set_size.ensures.writes c.in-Err-set_size.ensures.own);
}

pub returns-then-not-may_be_file-clause-bounded : goal.returns-then-not-may_be_file-clause-bounded
returns-then-not-may_be_file-clause-bounded g c = λ spaces_of m s. inside_layout (state c.args.self.now.core).layout (state c.args.self.now.core).disk (state c.args.self.now.core).disk c.requires.set_up.size (inside _ _ _ 0 (omega arith) (omega arith))

pub returns-in-Ok-None-clause-bounded : goal.returns-in-Ok-None-clause-bounded
returns-in-Ok-None-clause-bounded g c = λ spaces_of m s. inside_layout (state c.args.self.now.core).layout (state c.args.self.now.core).disk (view_of c.attributes_of.new.filer).disk c.requires.set_up.size (inside _ _ _ 29 (omega arith) c.attributes_of.ensures.cost)

pub returns-in-Err-clause-bounded : goal.returns-in-Err-clause-bounded
returns-in-Err-clause-bounded g c = λ spaces_of m s. inside_layout (state c.args.self.now.core).layout (state c.args.self.now.core).disk (view_of c.attributes_of.new.filer).disk c.requires.set_up.size (inside _ _ _ 29 (omega arith) c.attributes_of.ensures.cost)

pub returns-then-found-clause-bounded : goal.returns-then-found-clause-bounded
returns-then-found-clause-bounded g c = λ spaces_of m s. inside_layout (state c.args.self.now.core).layout (state c.args.self.now.core).disk (view_of c.attributes_of.new.filer).disk c.requires.set_up.size (inside _ _ _ 29 (omega arith) c.attributes_of.ensures.cost)

pub returns-then-not-has_room-clause-bounded : goal.returns-then-not-has_room-clause-bounded
returns-then-not-has_room-clause-bounded g c = λ spaces_of m s. inside_layout (state c.args.self.now.core).layout (state c.args.self.now.core).disk (view_of c.attributes_of.new.filer).disk c.requires.set_up.size (inside _ _ _ 29 (omega arith) c.attributes_of.ensures.cost)

pub returns-in-Ok-clause-bounded : goal.returns-in-Ok-clause-bounded
returns-in-Ok-clause-bounded g c = λ spaces_of m s.
    let layout = (state c.args.self.now.core).layout in
    let books = session_books spaces_of _ _ _ _ _ m s in
    let revealed = subst (λ (o : Option Attributes). IsAttributesOf (shapes_of m.files c.args.id) o) c.in-Ok-Some.field-0-is ((c.in-Ok-Some.ensures.revealed 96 s.stands.memory (shapes_of m.files) m.spaces books).0) in
    let mid = (c.attributes_of.ensures.revealed 96 s.stands.memory (shapes_of m.files) m.spaces books).1 in
    let at = books_at _ _ _ _ _ _ _ _ mid c.attributes_of.ensures.stays.layout in
    let paid = (c.set_size.ensures.resized s.stands.memory (shapes_of m.files) m.spaces _ at revealed).cost in
    let within = within_room layout c.args.self.now.volume c.requires.set_up.opened.same_layout c.in-Ok-Some.found.pages c.args.pages c.has_room.result c.has_room.ensures c.if-not-has_room.false in
    resize_revealed spaces_of (state c.args.self.now.core).disk _ layout _ _ m s c.requires.set_up.opened (accepted c.args.self.now.core.filer) (view_of c.attributes_of.new.filer).layout c.attributes_of.ensures.stays.layout
    (view_of c.attributes_of.new.filer).disk (view_of c.set_size.new.filer).disk c.args.id _ revealed c.args.pages within c.requires.set_up.size c.attributes_of.ensures.cost paid

pub returns-in-Err-set_size-clause-bounded : goal.returns-in-Err-set_size-clause-bounded
returns-in-Err-set_size-clause-bounded g c = λ spaces_of m s.
    let layout = (state c.args.self.now.core).layout in
    let books = session_books spaces_of _ _ _ _ _ m s in
    let revealed = subst (λ (o : Option Attributes). IsAttributesOf (shapes_of m.files c.args.id) o) c.in-Ok-Some.field-0-is ((c.in-Ok-Some.ensures.revealed 96 s.stands.memory (shapes_of m.files) m.spaces books).0) in
    let mid = (c.attributes_of.ensures.revealed 96 s.stands.memory (shapes_of m.files) m.spaces books).1 in
    let at = books_at _ _ _ _ _ _ _ _ mid c.attributes_of.ensures.stays.layout in
    let paid = (c.set_size.ensures.resized s.stands.memory (shapes_of m.files) m.spaces _ at revealed).cost in
    let within = within_room layout c.args.self.now.volume c.requires.set_up.opened.same_layout c.in-Ok-Some.found.pages c.args.pages c.has_room.result c.has_room.ensures c.if-not-has_room.false in
    resize_revealed spaces_of (state c.args.self.now.core).disk _ layout _ _ m s c.requires.set_up.opened (accepted c.args.self.now.core.filer) (view_of c.attributes_of.new.filer).layout c.attributes_of.ensures.stays.layout
    (view_of c.attributes_of.new.filer).disk (view_of c.set_size.new.filer).disk c.args.id _ revealed c.args.pages within c.requires.set_up.size c.attributes_of.ensures.cost paid

pub returns-in-Some-clause-answers : goal.returns-in-Some-clause-answers
returns-in-Some-clause-answers g c = λ spaces_of m s by.
    let books = session_books spaces_of _ _ _ _ _ m s in
    let revealed = subst (λ (o : Option Attributes). IsAttributesOf (shapes_of m.files c.args.id) o) c.in-Ok-Some.field-0-is ((c.in-Ok-Some.ensures.revealed 96 s.stands.memory (shapes_of m.files) m.spaces books).0) in
    let mid = (c.attributes_of.ensures.revealed 96 s.stands.memory (shapes_of m.files) m.spaces books).1 in
    let cut = cut_held c.in-Ok-Some.found.pages c.args.pages c.held.result c.args.seen _ c.held.ensures.cut c.held.ensures.grown c.in-Some.is in
    record {
      carried = cut_refused spaces_of _ _ _ _ _ m s _ _ _ _ c.attributes_of.ensures.stays.makes c.attributes_of.ensures.stays.brings mid c.attributes_of.ensures.stays.layout c.args.id c.args.pages c.args.seen by c.in-Ok-Some.found revealed c.if-found.false cut.0 _ cut.1;
      passes = no_step spaces_of _ _ _ _ m (call.SetSize c.args.id c.args.pages) s.stands c.attributes_of.ensures.stays.makes (g.met.D.Disk.in_form (disk_of c.args.self.now.core.filer));
      came = c.attributes_of.ensures.stays.brings;
    }

pub returns-in-Some-clause-bounded : goal.returns-in-Some-clause-bounded
returns-in-Some-clause-bounded g c = λ spaces_of m s. inside_layout (state c.args.self.now.core).layout (state c.args.self.now.core).disk (view_of c.attributes_of.new.filer).disk c.requires.set_up.size (inside _ _ _ 29 (omega arith) c.attributes_of.ensures.cost)

pub returns-in-Ok-None-clause-writes : goal.returns-in-Ok-None-clause-writes
returns-in-Ok-None-clause-writes g c = asked_writes (call.SetSize c.args.id c.args.pages) c.attributes_of.ensures.stays.makes

pub returns-in-Err-clause-writes : goal.returns-in-Err-clause-writes
returns-in-Err-clause-writes g c = asked_writes (call.SetSize c.args.id c.args.pages) c.attributes_of.ensures.stays.makes

pub returns-then-found-clause-writes : goal.returns-then-found-clause-writes
returns-then-found-clause-writes g c = asked_writes (call.SetSize c.args.id c.args.pages) c.attributes_of.ensures.stays.makes

pub returns-in-Some-clause-writes : goal.returns-in-Some-clause-writes
returns-in-Some-clause-writes g c = asked_writes (call.SetSize c.args.id c.args.pages) c.attributes_of.ensures.stays.makes

pub returns-then-not-has_room-clause-writes : goal.returns-then-not-has_room-clause-writes
returns-then-not-has_room-clause-writes g c = asked_writes (call.SetSize c.args.id c.args.pages) c.attributes_of.ensures.stays.makes

-- ---- Why it failed.

pub returns-in-Err-clause-fails : goal.returns-in-Err-clause-fails
returns-in-Err-clause-fails g c = fails_wider (λ h. inl h) c.in-Err.ensures.fails

pub returns-in-Err-set_size-clause-fails : goal.returns-in-Err-set_size-clause-fails
returns-in-Err-set_size-clause-fails g c = fails_after c.attributes_of.ensures.stays.makes.went.faults (λ h. inr (state (record c.args.self.now.core { filer = c.attributes_of.new.filer }), look_reaches (state c.args.self.now.core) (state (record c.args.self.now.core { filer = c.attributes_of.new.filer })) c.attributes_of.ensures.stays.looks c.attributes_of.ensures.stays.layout, h)) c.in-Err-set_size.ensures.fails

-- ---- The initial state.

pub returns-in-Ok-None-clause-accounts : goal.returns-in-Ok-None-clause-accounts
returns-in-Ok-None-clause-accounts g c = accounts_found c.args.self.now _ c.in-Ok-None.ensures.accounts c.attributes_of.ensures.stays.makes refl refl

pub returns-then-found-clause-accounts : goal.returns-then-found-clause-accounts
returns-then-found-clause-accounts g c = accounts_found c.args.self.now _ c.in-Ok-Some.ensures.accounts c.attributes_of.ensures.stays.makes refl refl

pub returns-in-Some-clause-accounts : goal.returns-in-Some-clause-accounts
returns-in-Some-clause-accounts g c = accounts_found c.args.self.now _ c.in-Ok-Some.ensures.accounts c.attributes_of.ensures.stays.makes refl refl

pub returns-then-not-has_room-clause-accounts : goal.returns-then-not-has_room-clause-accounts
returns-then-not-has_room-clause-accounts g c = accounts_found c.args.self.now _ c.in-Ok-Some.ensures.accounts c.attributes_of.ensures.stays.makes refl refl

pub returns-in-Ok-clause-accounts : goal.returns-in-Ok-clause-accounts
returns-in-Ok-clause-accounts g c = λ o k. record {
  keeps_to = (let from = c.in-Ok.ensures.accounts o k.0 (c.in-Ok-Some.ensures.accounts o k.0 k.1.0) in (from.0, (from.1, (from.2 k.1.1.0, k.1.1.1))));
  reasons = tt;
  sees = (λ seen. let old = c.args.self.now.core in
      seen_from o (state old) (accepted old.filer) k (view_of c.set_size.new.filer) (λ b h. c.in-Ok.ensures.accounts (telling o b) k.0 (c.in-Ok-Some.ensures.accounts (telling o b) k.0 h))
      (file_after o ((returns-in-Ok-clause-writes g c).wrote)) seen);
  windows = (let old = c.args.self.now.core in
      same_from o (state old) (accepted old.filer) k (view_of c.set_size.new.filer) (λ b h. c.in-Ok.ensures.accounts (telling o b) k.0 (c.in-Ok-Some.ensures.accounts (telling o b) k.0 h)));
}

pub returns-in-Err-clause-accounts : goal.returns-in-Err-clause-accounts
returns-in-Err-clause-accounts g c = λ o k. record {
  keeps_to = tt;
  reasons = (c.in-Err.ensures.accounts o k.0 k.1.0);
  sees = (λ seen. let old = c.args.self.now.core in
      let disk = (view_of c.attributes_of.new.filer).disk in
      seen_blameless o (state old) (accepted old.filer) k (state old).layout disk c.in-Err.halt (λ b. c.in-Err.ensures.accounts (telling o b) k.0)
      (look_misses (file_pages o disk) c.args.id (state old) (view_of c.attributes_of.new.filer) c.in-Err.halt c.in-Err.ensures.fails.cause) (seen.0, seen.1.0));
  windows = tt;
}

pub returns-in-Err-set_size-clause-accounts : goal.returns-in-Err-set_size-clause-accounts
returns-in-Err-set_size-clause-accounts g c = λ o k. record {
  keeps_to = tt;
  reasons = (shows_since o (view_of c.set_size.new.filer).disk c.in-Err-set_size.halt c.attributes_of.ensures.stays.layout
      (c.in-Err-set_size.ensures.accounts o k.0 (c.in-Ok-Some.ensures.accounts o k.0 k.1.0)));
  sees = (λ seen. let old = c.args.self.now.core in
      let disk = (view_of c.set_size.new.filer).disk in
      let was = found_file k.1.0 c.args.id _ _ c.in-Ok-Some.field-0-is (λ z0 z1 z2 z3. (c.in-Ok-Some.ensures.named z0 z1 z2 z3).1) in
      seen_blameless o (state old) (accepted old.filer) k (view_of c.attributes_of.new.filer).layout disk c.in-Err-set_size.halt (λ b h. c.in-Err-set_size.ensures.accounts (telling o b) k.0 (c.in-Ok-Some.ensures.accounts (telling o b) k.0 h))
      (misses_file (c.in-Ok-Some.ensures.accounts o k.0 k.1.0) disk
      (file_after o (some_resized_wrote c.args.id c.args.pages (makes_nothing volume_page (view_of c.attributes_of.new.filer).disk (view_of c.attributes_of.new.filer).slots) c.in-Err-set_size.ensures.writes)) c.args.id
      (file_after o ((returns-in-Err-set_size-clause-writes g c).wrote) c.args.id leader_page was) c.in-Err-set_size.halt
      (size_misses_own c.args.id c.args.pages (view_of c.attributes_of.new.filer) (view_of c.set_size.new.filer) c.in-Err-set_size.halt c.in-Err-set_size.ensures.fails.cause)) (seen.0, seen.1.0));
  windows = tt;
}

-- ---- The next identifier.

pub returns-in-Ok-clause-remains : goal.returns-in-Ok-clause-remains
returns-in-Ok-clause-remains g c = record {
  stays = record {
    open_still = (search rules);
    monotone = (same_next c.args.self.now.volume.root c.set_size.new.volume.root c.set_size.ensures.volume.same_numbers.0);
    serial = (ap (λ (r : Root). r.serial) c.set_size.ensures.volume.same_numbers.0);
    layout = (search rules);
  };
  running = refl;
  kept = refl;
  intervals = refl;
}

pub returns-in-Err-set_size-clause-remains : goal.returns-in-Err-set_size-clause-remains
returns-in-Err-set_size-clause-remains g c = record {
  stays = record {
    open_still = (search rules);
    monotone = (same_next c.args.self.now.volume.root c.set_size.new.volume.root c.set_size.ensures.volume.same_numbers.0);
    serial = (ap (λ (r : Root). r.serial) c.set_size.ensures.volume.same_numbers.0);
    layout = (search rules);
  };
  running = refl;
  kept = refl;
  intervals = refl;
}

-- ---- Which windows are seen.

pub returns-then-not-may_be_file-clause-accounts : goal.returns-then-not-may_be_file-clause-accounts
returns-then-not-may_be_file-clause-accounts g c = accounts_itself

-- ---- The syncs before its labels.

pub returns-then-not-may_be_file-clause-after_sync : goal.returns-then-not-may_be_file-clause-after_sync
returns-then-not-may_be_file-clause-after_sync g c = λ spaces_of m f s found permanent. quiet_after (makes_nothing volume_page (state c.args.self.now.core).disk (state c.args.self.now.core).slots)

pub returns-in-Ok-None-clause-after_sync : goal.returns-in-Ok-None-clause-after_sync
returns-in-Ok-None-clause-after_sync g c = λ spaces_of m f s found permanent. quiet_after c.attributes_of.ensures.stays.makes

pub returns-in-Err-clause-after_sync : goal.returns-in-Err-clause-after_sync
returns-in-Err-clause-after_sync g c = λ spaces_of m f s found permanent. quiet_after c.attributes_of.ensures.stays.makes

pub returns-then-found-clause-after_sync : goal.returns-then-found-clause-after_sync
returns-then-found-clause-after_sync g c = λ spaces_of m f s found permanent. quiet_after c.attributes_of.ensures.stays.makes

pub returns-in-Some-clause-after_sync : goal.returns-in-Some-clause-after_sync
returns-in-Some-clause-after_sync g c = λ spaces_of m f s found permanent. quiet_after c.attributes_of.ensures.stays.makes

pub returns-then-not-has_room-clause-after_sync : goal.returns-then-not-has_room-clause-after_sync
returns-then-not-has_room-clause-after_sync g c = λ spaces_of m f s found permanent. quiet_after c.attributes_of.ensures.stays.makes

pub returns-in-Ok-clause-after_sync : goal.returns-in-Ok-clause-after_sync
returns-in-Ok-clause-after_sync g c = λ spaces_of m f s found permanent.
    let books = session_books spaces_of _ _ _ _ _ m s in
    let mid = (c.attributes_of.ensures.revealed 96 s.stands.memory (shapes_of m.files) m.spaces books).1 in
    let at = books_at _ _ _ _ _ _ _ _ mid c.attributes_of.ensures.stays.layout in
    let made = resized_wrote c.args.id c.args.pages (makes_nothing volume_page (view_of c.attributes_of.new.filer).disk (view_of c.attributes_of.new.filer).slots) c.in-Ok.ensures.writes in
    later_after_sync c.attributes_of.ensures.stays.makes made.makes ((c.set_size.ensures.resized s.stands.memory (shapes_of m.files) m.spaces (shape_of f) at (ap (option_map shape_of) found)).after_sync permanent)

pub returns-in-Err-set_size-clause-after_sync : goal.returns-in-Err-set_size-clause-after_sync
returns-in-Err-set_size-clause-after_sync g c = λ spaces_of m f s found permanent.
    let books = session_books spaces_of _ _ _ _ _ m s in
    let mid = (c.attributes_of.ensures.revealed 96 s.stands.memory (shapes_of m.files) m.spaces books).1 in
    let at = books_at _ _ _ _ _ _ _ _ mid c.attributes_of.ensures.stays.layout in
    let made = some_resized_wrote c.args.id c.args.pages (makes_nothing volume_page (view_of c.attributes_of.new.filer).disk (view_of c.attributes_of.new.filer).slots) c.in-Err-set_size.ensures.writes in
    later_after_sync c.attributes_of.ensures.stays.makes made.makes ((c.set_size.ensures.resized s.stands.memory (shapes_of m.files) m.spaces (shape_of f) at (ap (option_map shape_of) found)).after_sync permanent)

pub returns-in-Ok-None-clause-remains : goal.returns-in-Ok-None-clause-remains
returns-in-Ok-None-clause-remains g c = remains_files c.args.self.now _ c.attributes_of.ensures.stays.layout c.requires.set_up.opened refl refl refl refl

pub returns-in-Err-clause-remains : goal.returns-in-Err-clause-remains
returns-in-Err-clause-remains g c = remains_files c.args.self.now _ c.attributes_of.ensures.stays.layout c.requires.set_up.opened refl refl refl refl

pub returns-then-found-clause-remains : goal.returns-then-found-clause-remains
returns-then-found-clause-remains g c = remains_files c.args.self.now _ c.attributes_of.ensures.stays.layout c.requires.set_up.opened refl refl refl refl

pub returns-in-Some-clause-remains : goal.returns-in-Some-clause-remains
returns-in-Some-clause-remains g c = remains_files c.args.self.now _ c.attributes_of.ensures.stays.layout c.requires.set_up.opened refl refl refl refl

pub returns-then-not-has_room-clause-remains : goal.returns-then-not-has_room-clause-remains
returns-then-not-has_room-clause-remains g c = remains_files c.args.self.now _ c.attributes_of.ensures.stays.layout c.requires.set_up.opened refl refl refl refl

pub returns-then-not-may_be_file-clause-remains : goal.returns-then-not-may_be_file-clause-remains
returns-then-not-may_be_file-clause-remains g c = remains_itself c.requires.set_up.opened
