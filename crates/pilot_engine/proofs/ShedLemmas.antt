-- Temporary files go, one after the other.
use Rattle.std.proofs.Common.{◌≡◌, ◌≢◌, ◌⊎◌, inl, inr, ℕ, ◌+◌, ◌-◌, ◌≤◌, Bool, true, false, List, [], ◌∷◌, Some, None, refl, sym, ◌∙◌, ap, subst, arith}
use Rattle.std.specs.Prelude.{option_map, ◌==◌, if◌then◌else◌}
use Rattle.std.proofs.lemmas.Option.{same_Some, none-some}
use Rattle.std.proofs.lemmas.Bool.{eq-eqb, eqb-true, cases_lt}
use Rattle.labelled_disk.specs.declared.layout.Layout.{Layout}
use Rattle.labelled_disk.specs.File.{File, file_at, size}
use Rattle.labelled_disk.specs.Ascending.{AreAscending}
use Rattle.labelled_disk.specs.State.{DiskState}
use Rattle.labelled_disk.proofs.AscendingLemmas.{same_by_look_up}
use Rattle.label_laws.specs.AllPermanent.{if_permanent}
use Rattle.label_laws.proofs.PermanentLemmas.{at_permanents, ascending_permanents}
use Rattle.frame_pool.specs.Frames.{Slots}
use Rattle.flat_machine.specs.declared.call.Call.TheVariants as call
use Rattle.flat_machine.specs.declared.call.Reply.TheVariants as reply
use Rattle.flat_machine.specs.IsMachine.{IsMachine}
use Rattle.flat_machine.specs.Machine.{Machine}
use Rattle.flat_machine.specs.Next.{next, without_file}
use Rattle.flat_machine.specs.Space.{root}
use Rattle.flat_machine.specs.Refusal.{refusal}
use Rattle.flat_machine.proofs.NextLemmas.{next_keeps_machine}
use Rattle.flat_machine.proofs.StoreLemmas.{unrefused}
use Rattle.swapper_kernel.specs.Goes.{Makes}
use Rattle.filer_kernel.specs.declared.cached.CachedRuns.{CachedRuns}
use Rattle.session_words.specs.Parts.{TablesMeaning, Shape, shape_of, shapes_of}
use Rattle.session_words.specs.Volume.{volume_page}
use Rattle.session_words.proofs.FilesLemmas.{at_without}
use Rattle.file_manager.specs.declared.volume.Volume.{Volume}
use Rattle.file_manager.specs.declared.attributes.Attributes.{Attributes}
use Rattle.file_manager.specs.Answer.{IsNextFile}
use Rattle.file_manager.specs.Attributes.{IsAttributesOf}
use Rattle.file_manager.specs.Book.{Books, BringsOwn}
use Rattle.file_manager.specs.Deleting.{DeletedBy}
use Rattle.pilot_engine.specs.Closing.{Shed, Sheds, permanents, up_to_next}
use Rattle.running_words.specs.Session.{IsAlone, IsSession}
use Rattle.running_words.proofs.SessionLemmas.{asked_at}
use Rattle.pilot_engine.proofs.AloneLemmas.{delete_alone}
use Rattle.pilot_engine.proofs.CallLemmas.{books_at, carries_at, file_revealed, looked, none_revealed}
use Rattle.pilot_engine.proofs.CarryLemmas.{delete_carried}
use Rattle.pilot_engine.proofs.EndCosts.{room_without}

-- without a temporary file the permanent ones are the same
pub without_permanents : (fs : List File) (id : ℕ) (f : File) → AreAscending fs → AreAscending (without_file id fs) → file_at fs id ≡ Some f → f.permanent ≡ false → permanents (without_file id fs) ≡ permanents fs
without_permanents fs id f rise rises found temporary =
    same_by_look_up (permanents (without_file id fs)) (permanents fs) (ascending_permanents (without_file id fs) rises) (ascending_permanents fs rise)
    (λ j. at_permanents (without_file id fs) rises j ∙ ap if_permanent (at_without id fs j) ∙ by j (j == id) refl ∙ sym (at_permanents fs rise j))
  where
    gone : if_permanent (Some f) ≡ None
    gone = ap (λ (b : Bool). if b then Some f else None) temporary

    by : (j : ℕ) (b : Bool) → (j == id) ≡ b → if_permanent (if b then None else file_at fs j) ≡ if_permanent (file_at fs j)
    by j true e = sym (ap (λ (k : ℕ). if_permanent (file_at fs k)) (eqb-true j id e) ∙ ap if_permanent found ∙ gone)
    by j false e = refl

pub without_itself : (fs : List File) (id : ℕ) (f : File) → file_at (without_file id fs) id ≡ Some f → ⊥
without_itself fs id f found = none-some f (sym (at_without id fs id ∙ ap (λ (b : Bool). if b then None else file_at fs id) (eq-eqb id id refl)) ∙ found)

pub without_fewer : (fs : List File) (id j : ℕ) (f : File) → file_at (without_file id fs) j ≡ Some f → file_at fs j ≡ Some f
without_fewer fs id j f found = by (j == id) (sym (at_without id fs j) ∙ found)
  where
    by : (b : Bool) → (if b then None else file_at fs j) ≡ Some f → file_at fs j ≡ Some f
    by true e = absurd (none-some f e)
    by false e = e

pub sheds_itself : (m : Machine) → Sheds m m
sheds_itself m = record { rest = refl; permanent = refl; fewer = λ id f found. found; room = λ cursor. omega arith }

pub sheds_then : (m n o : Machine) → Sheds m n → Sheds n o → Sheds m o
sheds_then m n o h k = record {
  rest = k.rest ∙ ap (λ (w : Machine). record w { files = o.files }) h.rest;
  permanent = k.permanent ∙ h.permanent;
  fewer = λ id f found. h.fewer id f (k.fewer id f found);
  room = λ cursor. let first = h.room cursor in let second = k.room cursor in omega (arith, first, second);
}

pub sheds_one : (m : Machine) (id : ℕ) (f : File) → AreAscending m.files → AreAscending (without_file id m.files) → file_at m.files id ≡ Some f → f.permanent ≡ false → Sheds m (record m { files = without_file id m.files })
sheds_one m id f rise rises found temporary = record {
  rest = refl;
  permanent = without_permanents m.files id f rise rises found temporary;
  fewer = λ j g. without_fewer m.files id j g;
  room = λ cursor. room_without cursor id m.files;
}

module _ (spaces_of : TablesMeaning) (disk : DiskState) (slots : Slots) (layout : Layout) (runs : CachedRuns) (volume : Volume) (m : Machine) where
  -- nothing goes, since nothing that is temporary is among these
  abbrev pub shed_nothing : (gone : ℕ → Type 0) → IsAlone spaces_of disk slots layout runs volume m → ((id : ℕ) (f : File) → gone id → file_at m.files id ≡ Some f → f.permanent ≡ true) → Shed spaces_of gone m disk slots layout runs volume
  shed_nothing gone s permanent = record { left = m; stands = s; sheds = sheds_itself m; permanent = permanent }

  -- a file goes
  pub shed_file : (id : ℕ) (f : File) → IsMachine m → m.spaces ≡ root ∷ [] → file_at m.files id ≡ Some f → f.permanent ≡ false → refusal m (call.Delete id) ≡ None → IsSession spaces_of disk slots layout runs volume (next m (call.Delete id))
      → Shed spaces_of (λ other. other ≡ id) m disk slots layout runs volume
  shed_file id f machine alone found temporary free s =
      let becomes : next m (call.Delete id) ≡ record m { files = without_file id m.files } = unrefused m (call.Delete id) free in
      let now : IsSession spaces_of disk slots layout runs volume (record m { files = without_file id m.files }) = subst (λ (n : Machine). IsSession spaces_of disk slots layout runs volume n) becomes s in
      record {
        left = record m { files = without_file id m.files };
        stands = record { session = now; alone = alone };
        sheds = sheds_one m id f machine.ids_rise now.stands.is.by.machine.ids_rise found temporary;
        permanent = λ j g same is. absurd (without_itself m.files id g (subst (λ (k : ℕ). file_at (without_file id m.files) k ≡ Some g) same is));
      }

  -- the next file is looked at
  pub shed_next : (cursor id : ℕ) → IsNextFile (shapes_of m.files) cursor (Some id) → Shed spaces_of (λ other. other ≡ id) m disk slots layout runs volume → Shed spaces_of (up_to_next cursor (Some id)) m disk slots layout runs volume
  shed_next cursor id is h = record {
    left = h.left;
    stands = h.stands;
    sheds = h.sheds;
    permanent = λ j f within found. elim (cases_lt j id) [
      | inl low ↦ absurd (let least : id ≤ j = is.2 j within.0 (there j f (h.sheds.fewer j f found)) in omega (arith, least, low))
      | inr high ↦ h.permanent j f (let e : j ≡ id = omega (arith, high, within.1) in e) found
    ];
  }
    where
      there : (j : ℕ) (f : File) → file_at m.files j ≡ Some f → shapes_of m.files j ≢ None
      there j f found none = none-some (shape_of f) (sym none ∙ ap (option_map shape_of) found)

  -- there is none
  pub shed_last : (cursor : ℕ) → IsNextFile (shapes_of m.files) cursor None → IsAlone spaces_of disk slots layout runs volume m → Shed spaces_of (up_to_next cursor None) m disk slots layout runs volume
  shed_last cursor is s = shed_nothing (up_to_next cursor None) s (λ j f above found. absurd (none-some (shape_of f) (sym (is j above) ∙ ap (option_map shape_of) found)))

-- pages came and went
pub asked_alone : (spaces_of : TablesMeaning) (old new : DiskState) (before after : Slots) (layout : Layout) (runs later : CachedRuns) (volume : Volume) (m : Machine) (s : IsAlone spaces_of old before layout runs volume m) → Makes volume_page [] old before new after
    → BringsOwn before after → Books new after layout later (shapes_of m.files) m.spaces s.session.stands.memory → (now : Layout) → now ≡ layout → IsAlone spaces_of new after now later volume m
asked_alone spaces_of old new before after layout runs later volume m s makes brings books now same = record {
  session = asked_at spaces_of old new before after layout runs later volume m s.session makes brings books now same;
  alone = s.alone;
}

-- A look at a file, and its deletion.
module _ (spaces_of : TablesMeaning) (old mid : DiskState) (before between : Slots) (layout now : Layout) (runs kept : CachedRuns) (volume : Volume) (m : Machine) (s : IsAlone spaces_of old before layout runs volume m)
    (makes : Makes volume_page [] old before mid between) (brings : BringsOwn before between) (books : Books mid between layout kept (shapes_of m.files) m.spaces s.session.stands.memory) (same : now ≡ layout) (id : ℕ) where
  -- it was looked at
  pub looked_at : IsAlone spaces_of mid between now kept volume m
  looked_at = record { session = looked spaces_of old mid before between layout now runs kept volume m s.session makes brings books same; alone = s.alone }

  -- there is no such file
  pub shed_missing : IsAttributesOf (shapes_of m.files id) None → Shed spaces_of (λ other. other ≡ id) m mid between now kept volume
  shed_missing revealed =
      shed_nothing spaces_of mid between now kept volume m (λ other. other ≡ id) looked_at
      (λ j f is found. absurd (none-some f (sym (none_revealed m id revealed) ∙ subst (λ (k : ℕ). file_at m.files k ≡ Some f) is found)))

  module _ (a : Attributes) (revealed : IsAttributesOf (shapes_of m.files id) (Some a)) where
    mark_of : (f : File) → file_at m.files id ≡ Some f → f.permanent ≡ a.permanent
    mark_of f found =
        let g = file_revealed m id a revealed in
        ap (λ (w : File). w.permanent) (same_Some f g.0 (sym found ∙ g.1)) ∙ ap (λ (w : Shape). w.permanent) g.2

    -- it is permanent
    pub shed_permanent : a.permanent ≡ true → Shed spaces_of (λ other. other ≡ id) m mid between now kept volume
    shed_permanent permanent =
        shed_nothing spaces_of mid between now kept volume m (λ other. other ≡ id) looked_at
        (λ j f is found. mark_of f (subst (λ (k : ℕ). file_at m.files k ≡ Some f) is found) ∙ permanent)

    -- the book for its deletion
    pub books_now : Books mid between now kept (shapes_of m.files) m.spaces s.session.stands.memory
    books_now = books_at mid between layout now kept (shapes_of m.files) m.spaces s.session.stands.memory books same

    -- it is deleted
    pub shed_deleted : (new : DiskState) (after : Slots) (last : Layout) (later : CachedRuns) (next_volume : Volume) → a.permanent ≡ false → next_volume ≡ record volume { used = next_volume.used }
        → next_volume.used ≡ volume.used - (a.pages + 1) → last ≡ now → DeletedBy id a.pages s.session.stands.memory mid between now new after later → Shed spaces_of (λ other. other ≡ id) m new after last later next_volume
    shed_deleted new after last later next_volume temporary rest less at deleted =
        let f = file_revealed m id a revealed in
        let long : size f.0 ≡ a.pages = ap (λ (w : Shape). w.size) f.2 in
        let free = delete_alone m s.alone id f.0 f.1 in
        let carries = delete_carried spaces_of mid new between after now kept later volume next_volume m looked_at.session (ap (λ (v : Volume). v.root.serial) rest) (ap (λ (v : Volume). v.root.counter) rest) id f.0 f.1 _ free (omega (arith, less, long)) deleted.leads in
        shed_file spaces_of new after last later next_volume m id f.0 s.session.stands.is.by.machine s.alone f.1 (mark_of f.0 f.1 ∙ temporary) free
        (carries_at spaces_of m (call.Delete id) reply.Done new after now last later next_volume carries at).stands

-- what went is gone
abbrev pub shed_then : (spaces_of : TablesMeaning) (gone more all : ℕ → Type 0) (m : Machine) (d0 : DiskState) (s0 : Slots) (l0 : Layout) (r0 : CachedRuns) (v0 : Volume) (disk : DiskState) (slots : Slots) (layout : Layout) (runs : CachedRuns) (volume : Volume)
    → (h : Shed spaces_of gone m d0 s0 l0 r0 v0) → Shed spaces_of more h.left disk slots layout runs volume → ((id : ℕ) → all id → gone id ⊎ more id) → Shed spaces_of all m disk slots layout runs volume
shed_then spaces_of gone more all m d0 s0 l0 r0 v0 disk slots layout runs volume h k each = record {
  left = k.left;
  stands = k.stands;
  sheds = sheds_then m h.left k.left h.sheds k.sheds;
  permanent = λ id f is found. elim (each id is) [
    | inl was ↦ h.permanent id f was (k.sheds.fewer id f found)
    | inr new ↦ k.permanent id f new found
  ];
}

-- a deletion of a temporary file
pub sheds_deleted : (m : Machine) (id : ℕ) (f : File) → IsMachine m → refusal m (call.Delete id) ≡ None → file_at m.files id ≡ Some f → f.permanent ≡ false → Sheds m (record m { files = without_file id m.files })
sheds_deleted m id f machine free found temporary =
    let becomes : next m (call.Delete id) ≡ record m { files = without_file id m.files } = unrefused m (call.Delete id) free in
    let now : IsMachine (record m { files = without_file id m.files }) = subst IsMachine becomes (next_keeps_machine m (call.Delete id) tt machine) in
    sheds_one m id f machine.ids_rise now.ids_rise found temporary
