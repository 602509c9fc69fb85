-- What a session knows of its files, and what calls leave of it.
use Rattle.std.proofs.Common.{◌≡◌, inl, inr, ℕ, zero, suc, List, [], ◌∷◌, length, Option, Some, None, refl, sym, ◌∙◌, ap, subst}
use Rattle.std.specs.Prelude.{IsSomeAnd, IsTrue, option_map, slice_get}
use Rattle.std.proofs.lemmas.Option.{slice_get-map, same_Some, none-some}
use Rattle.labelled_disk.specs.declared.label.Label.{Label}
use Rattle.labelled_disk.specs.declared.label.Wanted.{Wanted}
use Rattle.labelled_disk.specs.declared.layout.Layout.{Layout}
use Rattle.labelled_disk.specs.Label.{names}
use Rattle.labelled_disk.specs.Layout.{capacity}
use Rattle.labelled_disk.specs.Sectors.{Sector}
use Rattle.labelled_disk.specs.State.{DiskState}
use Rattle.frame_pool.specs.Frames.{Slots}
use Rattle.flat_machine.specs.Machine.{Machine}
use Rattle.swapper_kernel.specs.Homes.{IsLayout}
use Rattle.swapper_kernel.specs.Goes.{Makes}
use Rattle.swapper_kernel.specs.OnceLaws.{stands_once}
use Rattle.swapper_kernel.specs.Stands.{Stands}
use Rattle.filer_kernel.specs.declared.cached.CachedRuns.{CachedRuns}
use Rattle.session_words.specs.FrameLaws.{BringsKnown}
use Rattle.session_words.specs.Parts.{TablesMeaning, shapes_of}
use Rattle.session_words.specs.Volume.{volume_page, Searches}
use Rattle.session_words.proofs.LooseLemmas.{swap_stands}
use Rattle.session_words.proofs.SettledLemmas.{machine_shapes}
use Rattle.file_manager.specs.declared.volume.Volume.{Volume}
use Rattle.file_manager.specs.Book.{Books, BringsOwn}
use Rattle.running_words.specs.Session.{IsKept, IsSession}

same_elements : {X : Type 0} (xs ys : List X) → ((i : ℕ) → slice_get xs i ≡ slice_get ys i) → xs ≡ ys
same_elements [] [] same = refl
same_elements [] (y ∷ ys) same = absurd (none-some y (same zero))
same_elements (x ∷ xs) [] same = absurd (none-some x (sym (same zero)))
same_elements {X} (x ∷ xs) (y ∷ ys) same =
    ap (λ (a : X). a ∷ xs) (same_Some x y (same zero)) ∙ ap (λ (l : List X). y ∷ l) (same_elements xs ys (λ i. same (suc i)))

-- the label of a sector that is revealed
label_revealed : (o : Option Sector) (w : Wanted) → IsSomeAnd o (λ s. IsTrue (names s.0 w)) → IsSomeAnd (option_map (λ s. s.0) o) (λ l. IsTrue (names l w))
label_revealed (Some s) w is = is
label_revealed None w is = is

module _ (spaces_of : TablesMeaning) (disk : DiskState) (slots : Slots) (layout : Layout) (runs : CachedRuns) (volume : Volume) (m : Machine) (s : IsSession spaces_of disk slots layout runs volume m) where
  -- what the calls on files know
  pub session_books : Books disk slots layout runs (shapes_of m.files) m.spaces s.stands.memory
  session_books =
      let x = s.stands.memory in
      let kept = s.kept x s.stands.stands in
      let by = s.stands.is.by in
      record {
        stands = s.stands.stands;
        booked = record {
          sectors = by.sectors;
          long = kept.long;
          files = machine_shapes m by.machine (length x) (slice_get x 0) by.root;
          root_label = subst (λ (o : Option Label). IsSomeAnd o (λ l. IsTrue (names l (record { id = 4; page = 0 })))) (sym (slice_get-map (λ (t : Sector). t.0) x 0)) (label_revealed (slice_get x 0) (record { id = 4; page = 0 }) by.root.valid.label);
          map_labels = by.map_labels;
          labels = by.labels;
          bits = by.bits;
          named = s.stands.is.named;
          map = s.stands.is.map;
          triples = by.triples;
          kept = kept.true_runs;
        };
        frames = s.stands.frames;
      }

  -- the volume's room is the machine's
  pub room_is : IsLayout layout → volume.layout ≡ layout → volume.layout.capacity ≡ m.capacity
  room_is is same =
      let x = s.stands.memory in
      ap (λ (l : Layout). l.capacity) (same ∙ is.1) ∙ ap capacity (sym (s.kept x s.stands.stands).long) ∙ s.stands.is.by.root.has_room

-- what is the volume's own is known
pub known_brought : (spaces_of : TablesMeaning) (m : Machine) (before after : Slots) → BringsOwn before after → BringsKnown m.spaces before after
known_brought spaces_of m before after brings = record { homes = λ home held. elim (brings.homes home held) [ inl was ↦ inl was | inr own ↦ inr (inl own) ] }

-- one memory stands
pub one_memory : (disk : DiskState) (slots : Slots) (x y : List Sector) → Stands disk slots x → Stands disk slots y → x ≡ y
one_memory disk slots x y first second = same_elements x y (stands_once disk slots x y first second)

module _ (spaces_of : TablesMeaning) (old new : DiskState) (before after : Slots) (layout : Layout) (runs later : CachedRuns) (volume : Volume) (m : Machine) (s : IsSession spaces_of old before layout runs volume m)
    (makes : Makes volume_page [] old before new after) (brings : BringsOwn before after) (books : Books new after layout later (shapes_of m.files) m.spaces s.stands.memory) where
  -- pages came and went, and the memory is the same
  pub searched : Searches old before new after
  searched = record {
    makes = makes;
    memory = λ x stands. (s.stands.memory, books.stands, one_memory old before s.stands.memory x s.stands.stands stands);
  }

  -- so the session stands for the same machine
  pub asked : IsSession spaces_of new after layout later volume m
  asked = record {
    stands = swap_stands spaces_of old new before after m searched (known_brought spaces_of m before after brings) s.stands;
    kept = λ y stands. subst (λ (z : List Sector). IsKept layout later z) (one_memory new after s.stands.memory y books.stands stands) (record { long = books.booked.long; true_runs = books.booked.kept });
    same_serial = s.same_serial;
    same_counter = s.same_counter;
    same_used = s.same_used;
  }

  -- the layout said otherwise
  pub asked_at : (now : Layout) → now ≡ layout → IsSession spaces_of new after now later volume m
  asked_at now same = subst (λ (l : Layout). IsSession spaces_of new after l later volume m) (sym same) asked
