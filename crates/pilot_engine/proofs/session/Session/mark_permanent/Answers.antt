use Rattle.std.proofs.Common.{Option, refl, subst, inl, inr, false, true, ◌∙◌}
use Rattle.labelled_disk.specs.Label.{leader_page}
use Rattle.session_words.specs.Volume.{volume_page}
use Rattle.swapper_kernel.specs.GoesLaws.{makes_nothing}
use Rattle.flat_machine.specs.declared.call.Call.TheVariants as call
use Rattle.file_manager.specs.declared.attributes.Attributes.{Attributes}
use Rattle.file_manager.specs.Attributes.{IsAttributesOf}
use Rattle.session_words.specs.Parts.{shapes_of}
use Rattle.label_calls.specs.declared.page.Mark.TheVariants.{Permanent}
use Rattle.pilot_engine.proofs.CallLemmas.{permanent_done, permanent_passed, permanent_broken, missing_after, file_revealed, leader_hidden, books_at, carries_at, mark_wrote}
use Rattle.pilot_engine.proofs.RefusalLemmas.{permanent_gone, permanent_free, no_file_missing}
use Rattle.running_words.proofs.SessionLemmas.{session_books}
use Rattle.running_words.proofs.StageLemmas.{no_step}
use Rattle.pilot_engine.proofs.WritingLemmas.{only_permanent, only_quiet, only_then}
use Rattle.fault_core.specs.Core.{state}
use Rattle.space_calls.proofs.HaltLemmas.{look_reaches}
use Rattle.pilot_engine.proofs.ReasonSteps.{shows_since}
use Rattle.file_manager.specs.Reasons.{telling}
use Rattle.filer_kernel.specs.View.{accepted, disk_of, view_of}
use Rattle.pilot_engine.proofs.HomeLemmas.{file_after, file_pages, found_file, misses_file}
use Rattle.pilot_engine.proofs.LackLemmas.{look_misses, mark_misses_own}
use Rattle.pilot_engine.proofs.SeesLemmas.{seen_blameless, seen_still}
use Rattle.pilot_engine.proofs.SparedCalls.{all_but, but_then, spares_quiet}
use Rattle.pilot_engine.proofs.SparedFiles.{spares_marked}
use Rattle.label_calls.specs.SyncedLaws.{around_after, quiet_synced, syncs_around}
use Rattle.pilot_engine.proofs.OwnLemmas.{marked_synced}
use Rattle.pilot_engine.proofs.SeesLemmas.{same_still}
use Rattle.swapper_kernel.specs.HaltLaws.{brings_then}
use Rattle.pilot_engine.proofs.FailSteps.{fails_after, fails_wider}
use Rattle.pilot_engine.proofs.AskedSteps.{accounts_found, asked_writes, remains_files}
use Rattle.pilot_engine.proofs.session.Session.mark_permanent.Goals as goal

pub returns-in-Ok-None-clause-answers : goal.returns-in-Ok-None-clause-answers
returns-in-Ok-None-clause-answers g c = λ spaces_of m s named.
    let books = session_books spaces_of _ _ _ _ _ m s in
    let revealed = subst (λ (o : Option Attributes). IsAttributesOf (shapes_of m.files c.args.id) o) c.in-Ok-None.field-0-is ((c.in-Ok-None.ensures.revealed 96 s.stands.memory (shapes_of m.files) m.spaces books).0) in
    record {
      carried = (missing_after spaces_of _ _ _ _ _ _ _ _ _ m s c.attributes_of.ensures.stays.makes c.attributes_of.ensures.stays.brings ((c.attributes_of.ensures.revealed 96 s.stands.memory (shapes_of m.files) m.spaces books).1) c.attributes_of.ensures.stays.layout
          c.args.id revealed (call.MakePermanent c.args.id) (λ none. permanent_gone m c.args.id (no_file_missing m c.args.id none)));
      passes = no_step spaces_of _ _ _ _ m (call.MakePermanent c.args.id) s.stands c.attributes_of.ensures.stays.makes (g.met.D.Disk.in_form (disk_of c.args.self.now.core.filer));
      came = c.attributes_of.ensures.stays.brings;
    }

pub returns-in-Err-clause-sound : goal.returns-in-Err-clause-sound
returns-in-Err-clause-sound g c = λ spaces_of m s. (c.in-Err.ensures.revealed 96 s.stands.memory (shapes_of m.files) m.spaces (session_books spaces_of _ _ _ _ _ m s)).0

pub returns-in-Err-clause-answers : goal.returns-in-Err-clause-answers
returns-in-Err-clause-answers g c = λ spaces_of m s named. record {
  carried = tt;
  passes = no_step spaces_of _ _ _ _ m (call.MakePermanent c.args.id) s.stands c.attributes_of.ensures.stays.makes (g.met.D.Disk.in_form (disk_of c.args.self.now.core.filer));
  came = tt;
}

pub returns-in-Ok-clause-answers : goal.returns-in-Ok-clause-answers
returns-in-Ok-clause-answers g c = λ spaces_of m s named.
    let books = session_books spaces_of _ _ _ _ _ m s in
    let revealed = subst (λ (o : Option Attributes). IsAttributesOf (shapes_of m.files c.args.id) o) c.in-Ok-Some.field-0-is ((c.in-Ok-Some.ensures.revealed 96 s.stands.memory (shapes_of m.files) m.spaces books).0) in
    let mid = (c.attributes_of.ensures.revealed 96 s.stands.memory (shapes_of m.files) m.spaces books).1 in
    let marked = c.in-Ok.ensures.revealed 96 s.stands.memory (shapes_of m.files) m.spaces _ (books_at _ _ _ _ _ _ _ _ mid c.attributes_of.ensures.stays.layout) revealed (leader_hidden spaces_of _ _ m s.stands c.args.id) in
    record {
      carried = (carries_at spaces_of m (call.MakePermanent c.args.id) _ _ _ _ _ _ _
          (permanent_done spaces_of _ _ _ _ _ _ _ _ _ m s c.attributes_of.ensures.stays.makes c.attributes_of.ensures.stays.brings mid c.attributes_of.ensures.stays.layout _ _ _ _ refl c.args.id _ revealed (let f = file_revealed m c.args.id _ revealed in permanent_free m c.args.id f.0 f.1 named) marked) c.make_permanent.ensures.stays.layout);
      passes = (permanent_passed spaces_of _ _ _ _ _ _ _ _ c.args.self.now.volume m s c.attributes_of.ensures.stays.makes c.attributes_of.ensures.stays.brings mid c.attributes_of.ensures.stays.layout _ _ _ c.args.self.now.volume refl c.args.id _ revealed (let f = file_revealed m c.args.id _ revealed in permanent_free m c.args.id f.0 f.1 named)
          (g.met.D.Disk.in_form (disk_of c.args.self.now.core.filer)) marked);
      came = brings_then c.attributes_of.ensures.stays.brings (c.in-Ok.ensures.revealed 96 s.stands.memory (shapes_of m.files) m.spaces _ (books_at _ _ _ _ _ _ _ _ mid c.attributes_of.ensures.stays.layout) revealed (leader_hidden spaces_of _ _ m s.stands c.args.id)).leads.brings;
    }

pub returns-in-Ok-clause-writes : goal.returns-in-Ok-clause-writes
returns-in-Ok-clause-writes g c = record {
  wrote = mark_wrote Permanent c.attributes_of.ensures.stays.makes c.make_permanent.ensures.makes;
  own = only_then (only_quiet (call.MakePermanent c.args.id) c.attributes_of.ensures.stays.makes) (only_permanent c.args.id c.make_permanent.ensures.makes c.make_permanent.ensures.labels.own);
  spares = but_then (all_but (spares_quiet c.attributes_of.ensures.stays.makes)) (spares_marked c.args.id Permanent c.make_permanent.ensures.makes c.make_permanent.ensures.labels.own);
}

pub returns-in-Err-make_permanent-clause-sound : goal.returns-in-Err-make_permanent-clause-sound
returns-in-Err-make_permanent-clause-sound g c = λ spaces_of m s.
    let books = session_books spaces_of _ _ _ _ _ m s in
    let revealed = subst (λ (o : Option Attributes). IsAttributesOf (shapes_of m.files c.args.id) o) c.in-Ok-Some.field-0-is ((c.in-Ok-Some.ensures.revealed 96 s.stands.memory (shapes_of m.files) m.spaces books).0) in
    let mid = (c.attributes_of.ensures.revealed 96 s.stands.memory (shapes_of m.files) m.spaces books).1 in
    (c.in-Err-make_permanent.ensures.revealed 96 s.stands.memory (shapes_of m.files) m.spaces _ (books_at _ _ _ _ _ _ _ _ mid c.attributes_of.ensures.stays.layout) revealed).0

pub returns-in-Err-make_permanent-clause-writes : goal.returns-in-Err-make_permanent-clause-writes
returns-in-Err-make_permanent-clause-writes g c = record {
  wrote = mark_wrote Permanent c.attributes_of.ensures.stays.makes c.make_permanent.ensures.makes;
  own = only_then (only_quiet (call.MakePermanent c.args.id) c.attributes_of.ensures.stays.makes) (only_permanent c.args.id c.make_permanent.ensures.makes c.make_permanent.ensures.labels.own);
  spares = but_then (all_but (spares_quiet c.attributes_of.ensures.stays.makes)) (spares_marked c.args.id Permanent c.make_permanent.ensures.makes c.make_permanent.ensures.labels.own);
}

pub returns-in-Err-make_permanent-clause-answers : goal.returns-in-Err-make_permanent-clause-answers
returns-in-Err-make_permanent-clause-answers g c = λ spaces_of m s named.
    let books = session_books spaces_of _ _ _ _ _ m s in
    let revealed = subst (λ (o : Option Attributes). IsAttributesOf (shapes_of m.files c.args.id) o) c.in-Ok-Some.field-0-is ((c.in-Ok-Some.ensures.revealed 96 s.stands.memory (shapes_of m.files) m.spaces books).0) in
    let mid = (c.attributes_of.ensures.revealed 96 s.stands.memory (shapes_of m.files) m.spaces books).1 in
    let broken = (c.in-Err-make_permanent.ensures.revealed 96 s.stands.memory (shapes_of m.files) m.spaces _ (books_at _ _ _ _ _ _ _ _ mid c.attributes_of.ensures.stays.layout) revealed).1 in
    record {
      carried = tt;
      passes = (permanent_broken spaces_of _ _ _ _ _ _ _ _ c.args.self.now.volume m s c.attributes_of.ensures.stays.makes c.attributes_of.ensures.stays.brings mid c.attributes_of.ensures.stays.layout _ _ c.args.self.now.core.filer.runs c.args.self.now.volume refl c.args.id _ revealed (let f = file_revealed m c.args.id _ revealed in permanent_free m c.args.id f.0 f.1 named)
          (g.met.D.Disk.in_form (disk_of c.args.self.now.core.filer)) broken);
      came = tt;
    }

pub returns-in-Ok-None-clause-writes : goal.returns-in-Ok-None-clause-writes
returns-in-Ok-None-clause-writes g c = asked_writes (call.MakePermanent c.args.id) c.attributes_of.ensures.stays.makes

pub returns-in-Err-clause-writes : goal.returns-in-Err-clause-writes
returns-in-Err-clause-writes g c = asked_writes (call.MakePermanent c.args.id) c.attributes_of.ensures.stays.makes

-- ---- Why it failed.

pub returns-in-Err-clause-fails : goal.returns-in-Err-clause-fails
returns-in-Err-clause-fails g c = fails_wider (λ h. inl h) c.in-Err.ensures.fails

pub returns-in-Err-make_permanent-clause-fails : goal.returns-in-Err-make_permanent-clause-fails
returns-in-Err-make_permanent-clause-fails g c = fails_after c.attributes_of.ensures.stays.makes.went.faults (λ h. inr (state (record c.args.self.now.core { filer = c.attributes_of.new.filer }), look_reaches (state c.args.self.now.core) (state (record c.args.self.now.core { filer = c.attributes_of.new.filer })) c.attributes_of.ensures.stays.looks c.attributes_of.ensures.stays.layout, h)) c.in-Err-make_permanent.ensures.fails

-- ---- The initial state.

pub returns-in-Ok-None-clause-accounts : goal.returns-in-Ok-None-clause-accounts
returns-in-Ok-None-clause-accounts g c = accounts_found c.args.self.now _ c.in-Ok-None.ensures.accounts c.attributes_of.ensures.stays.makes refl refl

pub returns-in-Ok-clause-accounts : goal.returns-in-Ok-clause-accounts
returns-in-Ok-clause-accounts g c = λ o k. record {
  keeps_to = ((k.0, (c.in-Ok.ensures.accounts o k.0 (c.in-Ok-Some.ensures.accounts o k.0 k.1.0), k.1.1)));
  reasons = tt;
  sees = (λ seen. let old = c.args.self.now.core in
      seen_still o (state old) (accepted old.filer) k (view_of c.make_permanent.new.filer) (λ b h. c.in-Ok.ensures.accounts (telling o b) k.0 (c.in-Ok-Some.ensures.accounts (telling o b) k.0 h))
      (file_after o ((returns-in-Ok-clause-writes g c).wrote)) seen);
  windows = (let old = c.args.self.now.core in
      same_still o (state old) (accepted old.filer) k (view_of c.make_permanent.new.filer) (λ b h. c.in-Ok.ensures.accounts (telling o b) k.0 (c.in-Ok-Some.ensures.accounts (telling o b) k.0 h)));
}

pub returns-in-Err-clause-accounts : goal.returns-in-Err-clause-accounts
returns-in-Err-clause-accounts g c = λ o k. record {
  keeps_to = tt;
  reasons = (c.in-Err.ensures.accounts o k.0 k.1.0);
  sees = (λ seen. let old = c.args.self.now.core in
      let disk = (view_of c.attributes_of.new.filer).disk in
      seen_blameless o (state old) (accepted old.filer) k (state old).layout disk c.in-Err.halt (λ b. c.in-Err.ensures.accounts (telling o b) k.0)
      (look_misses (file_pages o disk) c.args.id (state old) (view_of c.attributes_of.new.filer) c.in-Err.halt c.in-Err.ensures.fails.cause) (seen.0, seen.1.0));
  windows = tt;
}

pub returns-in-Err-make_permanent-clause-accounts : goal.returns-in-Err-make_permanent-clause-accounts
returns-in-Err-make_permanent-clause-accounts g c = λ o k. record {
  keeps_to = tt;
  reasons = (shows_since o (view_of c.make_permanent.new.filer).disk c.in-Err-make_permanent.halt c.attributes_of.ensures.stays.layout
      (c.in-Err-make_permanent.ensures.accounts o k.0 (c.in-Ok-Some.ensures.accounts o k.0 k.1.0)));
  sees = (λ seen. let old = c.args.self.now.core in
      let disk = (view_of c.make_permanent.new.filer).disk in
      let was = found_file k.1.0 c.args.id _ _ c.in-Ok-Some.field-0-is (λ z0 z1 z2 z3. (c.in-Ok-Some.ensures.named z0 z1 z2 z3).1) in
      seen_blameless o (state old) (accepted old.filer) k (view_of c.attributes_of.new.filer).layout disk c.in-Err-make_permanent.halt (λ b h. c.in-Err-make_permanent.ensures.accounts (telling o b) k.0 (c.in-Ok-Some.ensures.accounts (telling o b) k.0 h))
      (misses_file (c.in-Ok-Some.ensures.accounts o k.0 k.1.0) disk
      (file_after o (mark_wrote Permanent (makes_nothing volume_page (view_of c.attributes_of.new.filer).disk (view_of c.attributes_of.new.filer).slots) c.make_permanent.ensures.makes)) c.args.id
      (file_after o ((returns-in-Err-make_permanent-clause-writes g c).wrote) c.args.id leader_page was) c.in-Err-make_permanent.halt
      (mark_misses_own c.args.id (view_of c.attributes_of.new.filer) (view_of c.make_permanent.new.filer) c.in-Err-make_permanent.halt c.in-Err-make_permanent.ensures.fails.cause)) (seen.0, seen.1.0));
  windows = tt;
}

-- ---- The syncs around leaders.

pub returns-in-Ok-None-clause-around : goal.returns-in-Ok-None-clause-around
returns-in-Ok-None-clause-around g c = syncs_around (quiet_synced false c.attributes_of.ensures.stays.makes)

pub returns-in-Err-clause-around : goal.returns-in-Err-clause-around
returns-in-Err-clause-around g c = syncs_around (quiet_synced true c.attributes_of.ensures.stays.makes)

pub returns-in-Ok-clause-around : goal.returns-in-Ok-clause-around
returns-in-Ok-clause-around g c = around_after (quiet_synced false c.attributes_of.ensures.stays.makes) (marked_synced Permanent c.make_permanent.ensures.makes c.in-Ok.ensures.labels.around)

pub returns-in-Err-make_permanent-clause-around : goal.returns-in-Err-make_permanent-clause-around
returns-in-Err-make_permanent-clause-around g c = around_after (quiet_synced false c.attributes_of.ensures.stays.makes) (marked_synced Permanent c.make_permanent.ensures.makes c.in-Err-make_permanent.ensures.labels.around)

-- ---- Which pages came.

pub returns-in-Ok-None-clause-remains : goal.returns-in-Ok-None-clause-remains
returns-in-Ok-None-clause-remains g c = remains_files c.args.self.now _ c.attributes_of.ensures.stays.layout c.requires.set_up.opened refl refl refl refl

pub returns-in-Err-clause-remains : goal.returns-in-Err-clause-remains
returns-in-Err-clause-remains g c = remains_files c.args.self.now _ c.attributes_of.ensures.stays.layout c.requires.set_up.opened refl refl refl refl

pub returns-in-Ok-clause-remains : goal.returns-in-Ok-clause-remains
returns-in-Ok-clause-remains g c = remains_files c.args.self.now _ (c.make_permanent.ensures.stays.layout ∙ c.attributes_of.ensures.stays.layout) c.requires.set_up.opened refl refl refl refl

pub returns-in-Err-make_permanent-clause-remains : goal.returns-in-Err-make_permanent-clause-remains
returns-in-Err-make_permanent-clause-remains g c = remains_files c.args.self.now _ (c.make_permanent.ensures.stays.layout ∙ c.attributes_of.ensures.stays.layout) c.requires.set_up.opened refl refl refl refl
