-- Calls that look at a file before they change it.
use Rattle.std.proofs.Common.{◌≡◌, inl, inr, ℕ, ◌+◌, ◌-◌, ◌≤◌, true, false, List, [], ◌∷◌, length, Option, Some, None, refl, sym, ◌∙◌, ap, subst, arith}
use Rattle.std.specs.Prelude.{slice_get, option_map}
use Rattle.std.proofs.lemmas.Option.{none-some}
use Rattle.labelled_disk.specs.declared.layout.Layout.{Layout}
use Rattle.labelled_disk.specs.declared.disk.DiskWrite.TheVariants.{LabelOnly}
use Rattle.labelled_disk.specs.File.{File, size, file_at}
use Rattle.labelled_disk.specs.Label.{names, leader_page, is_file_id}
use Rattle.labelled_disk.specs.Sectors.{Sector}
use Rattle.labelled_disk.specs.State.{DiskState}
use Rattle.label_laws.specs.Marks.{permanent_label, immutable_label}
use Rattle.frame_pool.specs.Frames.{Slots}
use Rattle.flat_machine.specs.declared.call.Call.{Call}
use Rattle.flat_machine.specs.declared.call.Call.TheVariants as call
use Rattle.flat_machine.specs.declared.call.Reply.{Reply}
use Rattle.flat_machine.specs.declared.call.Reply.TheVariants as reply
use Rattle.flat_machine.specs.declared.call.Refusal.{Refusal}
use Rattle.flat_machine.specs.declared.call.Refusal.TheVariants as why
use Rattle.flat_machine.specs.declared.space.Space.{Space}
use Rattle.flat_machine.specs.Machine.{Machine}
use Rattle.flat_machine.specs.Refusal.{refusal}
use Rattle.flat_machine.specs.Space.{root}
use Rattle.swapper_kernel.specs.DiffersLaws.{names_id}
use Rattle.swapper_kernel.specs.Goes.{Makes}
use Rattle.swapper_kernel.specs.GoesLaws.{makes_then}
use Rattle.filer_kernel.specs.declared.cached.CachedRuns.{CachedRuns}
use Rattle.session_words.specs.FrameLaws.{is_shown}
use Rattle.session_words.specs.Parts.{TablesMeaning, Shape, Shapes, shape_of, shapes_of}
use Rattle.session_words.specs.StandsFor.{StandsFor}
use Rattle.session_words.specs.Volume.{volume_page}
use Rattle.session_words.proofs.FoundLemmas.{above_reserved}
use Rattle.session_words.proofs.SettledLemmas.{shape_at, machine_shapes}
use Rattle.file_manager.specs.declared.attributes.Attributes.{Attributes}
use Rattle.file_manager.specs.declared.volume.Volume.{Volume}
use Rattle.file_manager.specs.Answer.{IsMarked, WritesMark}
use Rattle.label_calls.specs.declared.page.Mark.{Mark}
use Rattle.file_manager.specs.Attributes.{IsAttributesOf, shape_revealed}
use Rattle.file_manager.specs.Book.{Books, BringsOwn}
use Rattle.file_manager.specs.Broken.{MarksFirst}
use Rattle.file_manager.specs.Deleting.{DeletedBy, DeletesFirst, MakesOneFree}
use Rattle.file_manager.specs.Freeing.{MakesSomeFree}
use Rattle.running_words.specs.Session.{AreInForm, Carries, IsSession, Wrote}
use Rattle.running_words.specs.Stages.{Passes}
use Rattle.pilot_engine.proofs.CarryLemmas.{refuses, stays_refused, permanent_carried, immutable_carried, delete_carried}
use Rattle.running_words.proofs.FlagLemmas.{freeing_open}
use Rattle.running_words.proofs.PassLemmas.{permanent_passes, immutable_passes, delete_passes}
use Rattle.pilot_engine.proofs.SeenLemmas.{pages_past}
use Rattle.running_words.proofs.SessionLemmas.{asked_at}
use Rattle.running_words.proofs.StageLemmas.{no_step}

-- no window shows a page where there is no space but the root
pub none_shown : (spaces : List Space) → spaces ≡ root ∷ [] → (id page : ℕ) → is_shown spaces id page ≡ false
none_shown spaces alone id page = rw alone refl

-- what is revealed of a file is revealed of the machine's
pub file_revealed : (m : Machine) (id : ℕ) (a : Attributes) → IsAttributesOf (shapes_of m.files id) (Some a) → (f : File) × (file_at m.files id ≡ Some f) × (shape_of f ≡ shape_revealed a)
file_revealed m id a revealed = shape_at m.files id (shape_revealed a) revealed

pub none_revealed : (m : Machine) (id : ℕ) → IsAttributesOf (shapes_of m.files id) None → file_at m.files id ≡ None
none_revealed m id revealed = either (file_at m.files id) refl
  where
    either : (o : Option File) → file_at m.files id ≡ o → o ≡ None
    either None is = refl
    either (Some f) is = absurd (none-some (shape_of f) (sym revealed ∙ ap (option_map shape_of) is))

-- no window shows the page of a leader
pub leader_hidden : (spaces_of : TablesMeaning) (disk : DiskState) (slots : Slots) (m : Machine) → StandsFor spaces_of disk slots m → (id : ℕ) → is_shown m.spaces id leader_page ≡ false
leader_hidden spaces_of disk slots m stands id =
    pages_past m stands.is.by.machine id leader_page
    (λ f is. let less = (machine_shapes m stands.is.by.machine (length stands.memory) (slice_get stands.memory 0) stands.is.by.root).short id (shape_of f) (ap (option_map shape_of) is) in omega (arith, less))

-- the book with the layout said otherwise
pub books_at : (disk : DiskState) (slots : Slots) (layout now : Layout) (runs : CachedRuns) (shapes : Shapes) (spaces : List Space) (x : List Sector) → Books disk slots layout runs shapes spaces x → now ≡ layout → Books disk slots now runs shapes spaces x
books_at disk slots layout now runs shapes spaces x books same = subst (λ (l : Layout). Books disk slots l runs shapes spaces x) (sym same) books

-- the reply with the layout said otherwise
pub carries_at : (spaces_of : TablesMeaning) (m : Machine) (c : Call) (r : Reply) (disk : DiskState) (slots : Slots) (layout now : Layout) (runs : CachedRuns) (volume : Volume) → Carries spaces_of m c r disk slots layout runs volume → now ≡ layout
    → Carries spaces_of m c r disk slots now runs volume
carries_at spaces_of m c r disk slots layout now runs volume carries same = subst (λ (l : Layout). Carries spaces_of m c r disk slots l runs volume) (sym same) carries

module _ (spaces_of : TablesMeaning) (old mid : DiskState) (before between : Slots) (layout now : Layout) (runs kept : CachedRuns) (volume : Volume) (m : Machine) (s : IsSession spaces_of old before layout runs volume m)
    (makes : Makes volume_page [] old before mid between) (brings : BringsOwn before between) (books : Books mid between layout kept (shapes_of m.files) m.spaces s.stands.memory) (same : now ≡ layout) where
  -- the session after a look at a file
  pub looked : IsSession spaces_of mid between now kept volume m
  looked = asked_at spaces_of old mid before between layout runs kept volume m s makes brings books now same

  -- the call is refused after it
  pub refused_after : (c : Call) (word : Refusal) → refusal m c ≡ Some word → Carries spaces_of m c (reply.Refused word) mid between now kept volume
  refused_after c word is = record { allowed = refuses m c word is; stands = subst (λ (n : Machine). IsSession spaces_of mid between now kept volume n) (stays_refused m c word is) looked }

  -- what no file is revealed of
  pub missing_after : (id : ℕ) → IsAttributesOf (shapes_of m.files id) None → (c : Call) → (file_at m.files id ≡ None → refusal m c ≡ Some why.File) → Carries spaces_of m c (reply.Refused why.File) mid between now kept volume
  missing_after id revealed c refused = refused_after c why.File (refused (none_revealed m id revealed))

  -- a file with a mark
  module _ (new : DiskState) (after : Slots) (later : CachedRuns) (next_volume : Volume) (same_volume : next_volume ≡ volume) (id : ℕ) (a : Attributes) (revealed : IsAttributesOf (shapes_of m.files id) (Some a)) where
    file : (f : File) × (file_at m.files id ≡ Some f) × (shape_of f ≡ shape_revealed a)
    file = file_revealed m id a revealed

    of_file : is_file_id id ≡ true
    of_file = (machine_shapes m s.stands.is.by.machine (length s.stands.memory) (slice_get s.stands.memory 0) s.stands.is.by.root).given id (shape_revealed a) revealed

    module _ (x : List Sector) (at : x ≡ s.stands.memory) (leader : ℕ) (t : Sector) (here : slice_get x leader ≡ Some t) (named : names t.0 (record { id = id; page = leader_page }) ≡ true) where
      there : slice_get s.stands.memory leader ≡ Some t
      there = subst (λ (y : List Sector). slice_get y leader ≡ Some t) at here

      leader_id : t.0.id ≡ id
      leader_id = names_id t.0 (record { id = id; page = leader_page }) named

      client : 16 ≤ t.0.id
      client = let high = above_reserved id of_file in omega (arith, leader_id, high)

      permanent_stops : refusal m (call.MakePermanent id) ≡ None → (form : AreInForm old) → Makes volume_page (LabelOnly leader (permanent_label t.0) ∷ []) mid between new after → Passes m (call.MakePermanent id) old new
      permanent_stops free form more =
          permanent_passes spaces_of old new before after m s.stands form id leader file.0 t file.1 of_file leader_id client there named free (makes_then makes more)

      immutable_stops : refusal m (call.MakeImmutable id) ≡ None → (form : AreInForm old) → Makes volume_page (LabelOnly leader (immutable_label t.0) ∷ []) mid between new after → Passes m (call.MakeImmutable id) old new
      immutable_stops free form more =
          immutable_passes spaces_of old new before after m s.stands form id leader file.0 t file.1 of_file leader_id client there named free (makes_then makes more)

    pub permanent_done : refusal m (call.MakePermanent id) ≡ None → IsMarked id permanent_label s.stands.memory mid between now new after later → Carries spaces_of m (call.MakePermanent id) reply.Done new after now later next_volume
    permanent_done free marked =
        permanent_carried spaces_of mid new between after now kept later volume next_volume m looked (ap (λ (v : Volume). v.root.serial) same_volume) (ap (λ (v : Volume). v.root.counter) same_volume) (ap (λ (v : Volume). v.used) same_volume)
        id _ free marked.leads

    pub permanent_passed : refusal m (call.MakePermanent id) ≡ None → AreInForm old → IsMarked id permanent_label s.stands.memory mid between now new after later → Passes m (call.MakePermanent id) old new
    permanent_passed free form marked = permanent_stops s.stands.memory refl marked.leader marked.s marked.here marked.named free form marked.leads.goes.makes

    pub permanent_broken : refusal m (call.MakePermanent id) ≡ None → AreInForm old → MarksFirst id permanent_label s.stands.memory mid between new after → Passes m (call.MakePermanent id) old new
    permanent_broken free form (inl none) = no_step spaces_of old new before after m (call.MakePermanent id) s.stands (makes_then makes none) form
    permanent_broken free form (inr some) = permanent_stops s.stands.memory refl some.leader some.s some.here some.named free form some.makes

    pub immutable_done : refusal m (call.MakeImmutable id) ≡ None → IsMarked id immutable_label s.stands.memory mid between now new after later → Carries spaces_of m (call.MakeImmutable id) reply.Done new after now later next_volume
    immutable_done free marked =
        immutable_carried spaces_of mid new between after now kept later volume next_volume m looked (ap (λ (v : Volume). v.root.serial) same_volume) (ap (λ (v : Volume). v.root.counter) same_volume) (ap (λ (v : Volume). v.used) same_volume)
        id _ free marked.leads

    pub immutable_passed : refusal m (call.MakeImmutable id) ≡ None → AreInForm old → IsMarked id immutable_label s.stands.memory mid between now new after later → Passes m (call.MakeImmutable id) old new
    immutable_passed free form marked = immutable_stops s.stands.memory refl marked.leader marked.s marked.here marked.named free form marked.leads.goes.makes

    pub immutable_broken : refusal m (call.MakeImmutable id) ≡ None → AreInForm old → MarksFirst id immutable_label s.stands.memory mid between new after → Passes m (call.MakeImmutable id) old new
    immutable_broken free form (inl none) = no_step spaces_of old new before after m (call.MakeImmutable id) s.stands (makes_then makes none) form
    immutable_broken free form (inr some) = immutable_stops s.stands.memory refl some.leader some.s some.here some.named free form some.makes

  -- a file that is gone
  module _ (new : DiskState) (after : Slots) (later : CachedRuns) (next_volume : Volume) (id : ℕ) (a : Attributes) (revealed : IsAttributesOf (shapes_of m.files id) (Some a)) where
    pub delete_done : refusal m (call.Delete id) ≡ None → next_volume.root.serial ≡ volume.root.serial → next_volume.root.counter ≡ volume.root.counter → next_volume.used ≡ volume.used - (a.pages + 1)
        → DeletedBy id a.pages s.stands.memory mid between now new after later → Carries spaces_of m (call.Delete id) reply.Done new after now later next_volume
    delete_done free serial counter less deleted =
        let f = file_revealed m id a revealed in
        let long : size f.0 ≡ a.pages = ap (λ (g : Shape). g.size) f.2 in
        delete_carried spaces_of mid new between after now kept later volume next_volume m looked serial counter id f.0 f.1 _ free (omega (arith, less, long)) deleted.leads

    pub delete_passed : refusal m (call.Delete id) ≡ None → AreInForm old → DeletedBy id a.pages s.stands.memory mid between now new after later → Passes m (call.Delete id) old new
    delete_passed free form deleted =
        let f = file_revealed m id a revealed in
        delete_passes spaces_of old new before after m s.stands form id deleted.leader f.0 deleted.sectors f.1 free deleted.stops (makes_then makes deleted.leads.goes.makes)

    pub delete_broken : refusal m (call.Delete id) ≡ None → AreInForm old → DeletesFirst id s.stands.memory mid between new after → Passes m (call.Delete id) old new
    delete_broken free form (inl none) = no_step spaces_of old new before after m (call.Delete id) s.stands (makes_then makes none) form
    delete_broken free form (inr some) =
        let f = file_revealed m id a revealed in
        delete_passes spaces_of old new before after m s.stands form id some.leader f.0 some.sectors f.1 free some.stops (makes_then makes some.makes)

-- after a look at the file, no label or one with a mark more was written
pub mark_wrote : (mark : Mark) {a b d : DiskState} {s t u : Slots} → Makes volume_page [] a s b t → WritesMark mark b t d u → Wrote a s d u
mark_wrote mark first (inl none) = record { labels = []; makes = makes_then first none; opens = tt }
mark_wrote mark first (inr (sector, label, some)) = record { labels = _; makes = makes_then first some; opens = tt }

-- after a look at the file, labels were freed
pub freed_wrote : {a b d : DiskState} {s t u : Slots} → Makes volume_page [] a s b t → MakesOneFree b t d u → Wrote a s d u
freed_wrote first (more, some) = record { labels = _; makes = makes_then first some.makes; opens = freeing_open some.sectors }

pub some_freed_wrote : {a b d : DiskState} {s t u : Slots} → Makes volume_page [] a s b t → MakesSomeFree b t d u → Wrote a s d u
some_freed_wrote first some = record { labels = _; makes = makes_then first some.makes; opens = freeing_open some.sectors }
