-- A call on a file that is done: the reply is allowed, and the session stands for the next machine.
use Rattle.std.proofs.Common.{◌≡◌, ℕ, ◌+◌, ◌-◌, ◌≤◌, true, List, length, Some, None, refl, sym, ◌∙◌, subst, arith}
use Rattle.labelled_disk.specs.declared.layout.Layout.{Layout}
use Rattle.labelled_disk.specs.declared.disk.DiskWrite.{DiskWrite}
use Rattle.labelled_disk.specs.File.{File, size, file_at}
use Rattle.labelled_disk.specs.State.{DiskState}
use Rattle.label_laws.specs.Marks.{permanent_label, immutable_label}
use Rattle.frame_pool.specs.Frames.{Slots}
use Rattle.flat_machine.specs.declared.call.Call.{Call}
use Rattle.flat_machine.specs.declared.call.Call.TheVariants as call
use Rattle.flat_machine.specs.declared.call.Reply.{Reply}
use Rattle.flat_machine.specs.declared.call.Reply.TheVariants as reply
use Rattle.flat_machine.specs.declared.call.Refusal.{Refusal}
use Rattle.flat_machine.specs.Allows.{Allows, Answers}
use Rattle.flat_machine.specs.Machine.{Machine}
use Rattle.flat_machine.specs.Next.{next, change}
use Rattle.flat_machine.specs.Refusal.{refusal}
use Rattle.flat_machine.proofs.StoreLemmas.{unrefused}
use Rattle.filer_kernel.specs.declared.cached.CachedRuns.{CachedRuns}
use Rattle.session_words.specs.FreeLaws.{Frees, cut_pages}
use Rattle.session_words.specs.GrowLaws.{Grows}
use Rattle.session_words.specs.DeleteLaws.{all_pages}
use Rattle.session_words.specs.MarkLaws.{Marks}
use Rattle.session_words.specs.Parts.{TablesMeaning}
use Rattle.session_words.specs.StandsFor.{StandsFor}
use Rattle.session_words.proofs.DeleteLemmas.{delete_stands}
use Rattle.session_words.proofs.MarkLemmas.{mark_laws}
use Rattle.session_words.proofs.SizeLemmas.{size_laws}
use Rattle.file_manager.specs.declared.volume.Volume.{Volume}
use Rattle.file_manager.specs.Book.{Leads}
use Rattle.running_words.specs.Session.{IsSession, Carries}
use Rattle.pilot_engine.proofs.LeadLemmas.{led, marks_long, frees_long, grows_long}
use Rattle.pilot_engine.proofs.RoomLemmas.{used_without, used_resized, used_marked}
use Rattle.running_words.proofs.SessionLemmas.{known_brought}

-- a reply to a call that is not refused
pub answers : (m : Machine) (c : Call) (r : Reply) → refusal m c ≡ None → Answers m c r → Allows m c r
answers m c r free is = rw free is

-- the one reply to a refused call
pub refuses : (m : Machine) (c : Call) (word : Refusal) → refusal m c ≡ Some word → Allows m c (reply.Refused word)
refuses m c word is = rw is refl

-- a refused call changes nothing
pub stays_refused : (m : Machine) (c : Call) (word : Refusal) → refusal m c ≡ Some word → m ≡ next m c
stays_refused m c word is = rw is refl

module _ (spaces_of : TablesMeaning) (old new : DiskState) (before after : Slots) (layout : Layout) (runs later : CachedRuns) (volume now : Volume) (m : Machine) (s : IsSession spaces_of old before layout runs volume m)
    (serial : now.root.serial ≡ volume.root.serial) where
  -- a call that is not refused, with a machine after it whose numbers are known
  carried : (c : Call) (r : Reply) → refusal m c ≡ None → Answers m c r → IsSession spaces_of new after layout later now (change m c) → Carries spaces_of m c r new after layout later now
  carried c r free is session = record {
    allowed = answers m c r free is;
    stands = subst (λ (n : Machine). IsSession spaces_of new after layout later now n) (sym (unrefused m c free)) session;
  }

  module _ (counter : now.root.counter ≡ volume.root.counter) where
    module _ (same_used : now.used ≡ volume.used) (id : ℕ) (run : List DiskWrite) where
      pub permanent_carried : refusal m (call.MakePermanent id) ≡ None → Leads (Marks id permanent_label) run old before layout new after later → Carries spaces_of m (call.MakePermanent id) reply.Done new after layout later now
      permanent_carried free leads =
          let stands = (mark_laws spaces_of).permanent id run old new before after m free leads.goes (known_brought spaces_of m before after leads.brings) s.stands in
          carried (call.MakePermanent id) reply.Done free refl
          (led (Marks id permanent_label) run spaces_of old new before after layout runs later volume now m (change m (call.MakePermanent id)) s leads (marks_long id permanent_label)
          (subst (λ (n : Machine). StandsFor spaces_of new after n) (unrefused m (call.MakePermanent id) free) stands) (serial ∙ s.same_serial) (counter ∙ s.same_counter)
          (same_used ∙ s.same_used ∙ sym (used_marked m id (λ f. record f { permanent = true }) (λ x. refl))))

      pub immutable_carried : refusal m (call.MakeImmutable id) ≡ None → Leads (Marks id immutable_label) run old before layout new after later → Carries spaces_of m (call.MakeImmutable id) reply.Done new after layout later now
      immutable_carried free leads =
          let stands = (mark_laws spaces_of).immutable id run old new before after m free leads.goes (known_brought spaces_of m before after leads.brings) s.stands in
          carried (call.MakeImmutable id) reply.Done free refl
          (led (Marks id immutable_label) run spaces_of old new before after layout runs later volume now m (change m (call.MakeImmutable id)) s leads (marks_long id immutable_label)
          (subst (λ (n : Machine). StandsFor spaces_of new after n) (unrefused m (call.MakeImmutable id) free) stands) (serial ∙ s.same_serial) (counter ∙ s.same_counter)
          (same_used ∙ s.same_used ∙ sym (used_marked m id (λ f. record f { immutable = true }) (λ x. refl))))

    module _ (id : ℕ) (f : File) (found : file_at m.files id ≡ Some f) (run : List DiskWrite) where
      pub delete_carried : refusal m (call.Delete id) ≡ None → now.used ≡ volume.used - (size f + 1) → Leads (Frees (all_pages id)) run old before layout new after later → Carries spaces_of m (call.Delete id) reply.Done new after layout later now
      delete_carried free less leads =
          let stands = delete_stands spaces_of id run old new before after m free leads.goes (known_brought spaces_of m before after leads.brings) s.stands in
          let room = used_without m s.stands.is.by.machine.ids_rise id f found in
          carried (call.Delete id) reply.Done free refl
          (led (Frees (all_pages id)) run spaces_of old new before after layout runs later volume now m (change m (call.Delete id)) s leads (frees_long (all_pages id))
          (subst (λ (n : Machine). StandsFor spaces_of new after n) (unrefused m (call.Delete id) free) stands) (serial ∙ s.same_serial) (counter ∙ s.same_counter)
          (omega (arith, less, s.same_used, room)))

      pub grow_carried : (pages : ℕ) (is : List ℕ) → refusal m (call.SetSize id pages) ≡ None → size f + length is ≡ pages → now.used ≡ volume.used + (pages - size f) → Leads (Grows id f.kind (size f) is) run old before layout new after later
          → Carries spaces_of m (call.SetSize id pages) reply.Done new after layout later now
      grow_carried pages is free long more leads =
          let stands = (size_laws spaces_of).lengthens id pages f is run old new before after m free found long leads.goes (known_brought spaces_of m before after leads.brings) s.stands in
          let room = used_resized m s.stands.is.by.machine.ids_rise id f found pages in
          carried (call.SetSize id pages) reply.Done free refl
          (led (Grows id f.kind (size f) is) run spaces_of old new before after layout runs later volume now m (change m (call.SetSize id pages)) s leads (grows_long id f.kind (size f) is)
          (subst (λ (n : Machine). StandsFor spaces_of new after n) (unrefused m (call.SetSize id pages) free) stands) (serial ∙ s.same_serial) (counter ∙ s.same_counter)
          (omega (arith, more, s.same_used, room, long)))

      pub shrink_carried : (pages : ℕ) → refusal m (call.SetSize id pages) ≡ None → pages ≤ size f → now.used ≡ volume.used - (size f - pages) → Leads (Frees (cut_pages id pages)) run old before layout new after later
          → Carries spaces_of m (call.SetSize id pages) reply.Done new after layout later now
      shrink_carried pages free few less leads =
          let stands = (size_laws spaces_of).shortens id pages f run old new before after m free found few leads.goes (known_brought spaces_of m before after leads.brings) s.stands in
          let room = used_resized m s.stands.is.by.machine.ids_rise id f found pages in
          let whole = used_without m s.stands.is.by.machine.ids_rise id f found in
          carried (call.SetSize id pages) reply.Done free refl
          (led (Frees (cut_pages id pages)) run spaces_of old new before after layout runs later volume now m (change m (call.SetSize id pages)) s leads (frees_long (cut_pages id pages))
          (subst (λ (n : Machine). StandsFor spaces_of new after n) (unrefused m (call.SetSize id pages) free) stands) (serial ∙ s.same_serial) (counter ∙ s.same_counter)
          (omega (arith, less, s.same_used, room, few, whole)))
