-- A file that gets another size, after a look at it.
use Rattle.std.proofs.Common.{◌≡◌, inl, inr, ℕ, ◌+◌, ◌-◌, ◌<◌, ◌≤◌, min, Bool, true, false, List, [], length, take, Option, Some, None, refl, sym, ◌∙◌, ap, subst, arith}
use Rattle.std.specs.Prelude.{slice_get, option_map, nat_le, ◌&&◌}
use Rattle.std.proofs.Math.Nat.{min-eq_left}
use Rattle.std.proofs.lemmas.Option.{none-some}
use Rattle.std.proofs.lemmas.Bool.{and_parts, and_from, leb-true, le-leb, cases_lt, true≢false}
use Rattle.labelled_disk.specs.declared.disk.DiskWrite.{DiskWrite}
use Rattle.labelled_disk.specs.declared.layout.Layout.{Layout}
use Rattle.labelled_disk.specs.File.{File, size, file_at}
use Rattle.labelled_disk.specs.Label.{is_file_id}
use Rattle.labelled_disk.specs.Runs.{AreUnused, growth}
use Rattle.labelled_disk.specs.Sectors.{Sector}
use Rattle.labelled_disk.specs.State.{DiskState}
use Rattle.volume_root.specs.declared.root.Root.{Root}
use Rattle.frame_pool.specs.Frames.{Slots}
use Rattle.flat_machine.specs.declared.call.Call.TheVariants as call
use Rattle.flat_machine.specs.declared.call.Reply.TheVariants as reply
use Rattle.flat_machine.specs.declared.call.Refusal.{Refusal}
use Rattle.flat_machine.specs.declared.call.Refusal.TheVariants as why
use Rattle.flat_machine.specs.declared.space.Space.{Space}
use Rattle.flat_machine.specs.Machine.{Machine, used, is_anonymous}
use Rattle.flat_machine.specs.Refusal.{refusal, file_mapped}
use Rattle.swapper_kernel.specs.Goes.{Makes}
use Rattle.swapper_kernel.specs.GoesLaws.{makes_then}
use Rattle.swapper_kernel.specs.Homes.{IsLayout}
use Rattle.swapper_kernel.specs.Stands.{labels_of}
use Rattle.filer_kernel.specs.declared.cached.CachedRuns.{CachedRuns}
use Rattle.session_words.specs.Found.{AreShapes}
use Rattle.session_words.specs.GrowLaws.{AreFree}
use Rattle.session_words.specs.Parts.{TablesMeaning, Shape, Shapes, shape_of, shapes_of}
use Rattle.session_words.specs.Volume.{volume_page}
use Rattle.session_words.proofs.FoundLemmas.{above_reserved}
use Rattle.session_words.proofs.SettledLemmas.{machine_shapes}
use Rattle.file_manager.specs.declared.attributes.Attributes.{Attributes}
use Rattle.file_manager.specs.declared.volume.Volume.{Volume}
use Rattle.file_manager.specs.Attributes.{IsAttributesOf, shape_revealed}
use Rattle.file_manager.specs.Book.{Books, BringsOwn}
use Rattle.file_manager.specs.Broken.{GrewSome}
use Rattle.file_manager.specs.Making.{MayGrow, GrownBy, free_count}
use Rattle.file_manager.specs.Resizing.{Resizes, ResizesSome}
use Rattle.file_manager.specs.Shrinking.{MayShrink, ShrunkBy, ShrunkSome}
use Rattle.file_manager.proofs.DownLemmas.{take_few}
use Rattle.file_manager.proofs.GrowBroken.{free_are_unused}
use Rattle.running_words.specs.Session.{AreInForm, Carries, IsSession, Wrote}
use Rattle.running_words.specs.Stages.{Passes}
use Rattle.pilot_engine.proofs.CallLemmas.{file_revealed, books_at, looked, refused_after}
use Rattle.pilot_engine.proofs.CarryLemmas.{grow_carried, shrink_carried}
use Rattle.running_words.proofs.FlagLemmas.{freeing_open, growth_open, take_open}
use Rattle.pilot_engine.proofs.GrowthLemmas.{take_growth, take_unused}
use Rattle.running_words.proofs.PassLemmas.{grow_passes, shrink_passes}
use Rattle.pilot_engine.proofs.RefusalLemmas.{size_immutable, size_cut, size_full, size_free}
use Rattle.pilot_engine.proofs.RoomLemmas.{used_without}
use Rattle.running_words.proofs.SessionLemmas.{room_is}
use Rattle.pilot_engine.proofs.SeenLemmas.{missing_pages, nobody, unseen_pages}
use Rattle.pilot_engine.proofs.SpaceLeft.{room}
use Rattle.pilot_engine.specs.Seen.{IsSeenBy}

-- Two bounds at once.

and_within : (a b most : ℕ) → (nat_le a most && nat_le b most) ≡ true → (a ≤ most) × (b ≤ most)
and_within a b most both = let parts = and_parts (nat_le a most) (nat_le b most) both in (leb-true a most parts.0, leb-true b most parts.1)

and_beyond : (a b most : ℕ) → a ≤ most → (nat_le a most && nat_le b most) ≡ false → most < b
and_beyond a b most within none = elim (cases_lt most b) [
  | inl past ↦ past
  | inr low ↦ absurd (true≢false (sym (and_from (nat_le a most) (nat_le b most) (le-leb a most within) (le-leb b most low)) ∙ none))
]

-- so many pages are no more than files may have
pub within_room : (layout : Layout) (volume : Volume) → volume.layout ≡ layout → (found pages : ℕ) (fitting : Bool) → fitting ≡ (nat_le pages volume.layout.capacity && nat_le (volume.used + pages - found) volume.layout.capacity) → fitting ≡ true
    → pages ≤ layout.capacity
within_room layout volume same found pages fitting tested under = subst (λ (l : Layout). pages ≤ l.capacity) same (and_within pages (volume.used + pages - found) volume.layout.capacity (sym tested ∙ under)).0

-- a space that keeps a file from being cut
pub cut_held : (found pages : ℕ) (answer seen : Option ℕ) (handle : ℕ) → (pages < found → answer ≡ seen) → (found ≤ pages → answer ≡ None) → answer ≡ Some handle → (pages < found) × (seen ≡ Some handle)
cut_held found pages answer seen handle cut grown is = elim (cases_lt pages found) [
  | inl fewer ↦ (fewer, sym (cut fewer) ∙ is)
  | inr more ↦ absurd (none-some handle (sym (grown more) ∙ is))
]

-- Over any contents.

-- after a look at the file, labels of pages were made or freed
pub resized_wrote : (id pages : ℕ) {a b d : DiskState} {s t u : Slots} → Makes volume_page [] a s b t → Resizes id pages b t d u → Wrote a s d u
resized_wrote id pages first (inl (kind, size, few, made)) = record { labels = _; makes = makes_then first made.makes; opens = growth_open id kind size made.sectors }
resized_wrote id pages first (inr (size, more, freed)) = record { labels = _; makes = makes_then first freed.makes; opens = freeing_open freed.sectors }

-- or some of them
pub some_resized_wrote : (id pages : ℕ) {a b d : DiskState} {s t u : Slots} → Makes volume_page [] a s b t → ResizesSome id pages b t d u → Wrote a s d u
some_resized_wrote id pages first (inl (kind, size, made)) =
    record { labels = _; makes = makes_then first made.makes; opens = take_open made.count (growth id kind size made.sectors) (growth_open id kind size made.sectors) }
some_resized_wrote id pages first (inr freed) = record { labels = _; makes = makes_then first freed.makes; opens = freeing_open freed.sectors }

module _ (spaces_of : TablesMeaning) (old : DiskState) (before : Slots) (layout : Layout) (runs : CachedRuns) (volume : Volume) (m : Machine) (s : IsSession spaces_of old before layout runs volume m) where
  are : AreShapes (shapes_of m.files)
  are = machine_shapes m s.stands.is.by.machine (length s.stands.memory) (slice_get s.stands.memory 0) s.stands.is.by.root

  -- what is no file's identifier is that of none
  pub never_file : (id : ℕ) → is_file_id id ≡ false → file_at m.files id ≡ None
  never_file id other = either (file_at m.files id) refl
    where
      either : (o : Option File) → file_at m.files id ≡ o → o ≡ None
      either None is = refl
      either (Some f) is = absurd (true≢false (sym (are.given id (shape_of f) (ap (option_map shape_of) is)) ∙ other))

  module _ (is : IsLayout layout) (same_layout : volume.layout ≡ layout) (id pages : ℕ) (f : File) (found : file_at m.files id ≡ Some f) where
    room_same : volume.layout.capacity ≡ m.capacity
    room_same = room_is spaces_of old before layout runs volume m s is same_layout

    -- the volume's numbers say that there is no room
    pub size_too_long : (nat_le pages volume.layout.capacity && nat_le (volume.used + pages - size f) volume.layout.capacity) ≡ false → m.capacity < used m + pages - size f
    size_too_long over =
        let whole = used_without m s.stands.is.by.machine.ids_rise id f found in
        let room = room_same in
        let same = s.same_used in
        elim (cases_lt volume.layout.capacity pages) [
          | inl past ↦ omega (arith, whole, room, past)
          | inr within ↦
              let more : volume.layout.capacity < volume.used + pages - size f = and_beyond pages (volume.used + pages - size f) volume.layout.capacity within over in
              omega (arith, more, room, same)
        ]

    -- or that there is
    pub size_has_room : (nat_le pages volume.layout.capacity && nat_le (volume.used + pages - size f) volume.layout.capacity) ≡ true → used m + pages - size f ≤ m.capacity
    size_has_room under =
        let room = room_same in
        let same = s.same_used in
        let most = (and_within pages (volume.used + pages - size f) volume.layout.capacity under).1 in
        omega (arith, most, room, same)

    module _ (mid : DiskState) (between : Slots) (now : Layout) (kept : CachedRuns) (makes : Makes volume_page [] old before mid between) (brings : BringsOwn before between)
        (books : Books mid between layout kept (shapes_of m.files) m.spaces s.stands.memory) (same : now ≡ layout) (named : is_anonymous m.spaces id ≡ false) (unseen : pages < size f → file_mapped m id (λ w. true) ≡ None) (mutable : f.immutable ≡ false) (fits : used m + pages - size f ≤ m.capacity) where
      books_now : Books mid between now kept (shapes_of m.files) m.spaces s.stands.memory
      books_now = books_at mid between layout now kept (shapes_of m.files) m.spaces s.stands.memory books same

      shape_found : shapes_of m.files id ≡ Some (shape_of f)
      shape_found = ap (option_map shape_of) found

      high : 16 ≤ id
      high = above_reserved id (are.given id (shape_of f) shape_found)

      abbrev Grows : Type 0
      Grows = MayGrow mid between now kept (shapes_of m.files) m.spaces id (shape_of f) pages s.stands.memory

      abbrev Shrinks : Type 0
      Shrinks = MayShrink mid between now kept (shapes_of m.files) m.spaces id (shape_of f) pages s.stands.memory

      may_grow : size f ≤ pages → Grows
      may_grow more = record {
        books = books_now;
        hidden = λ page. missing_pages m s.stands.is.by.machine 0 page (nobody m s.stands.is.by.machine);
        are = are;
        found = shape_found;
        enough =
            let left = room spaces_of old before layout runs volume m is s in
            let own : volume.layout.capacity ≡ layout.capacity = ap (λ (l : Layout). l.capacity) same_layout in
            let capacity = room_same in
            subst (λ (l : Layout). pages - size f ≤ free_count l s.stands.memory) (sym same) (omega (arith, fits, more, left, own, capacity));
      }

      may_shrink : pages < size f → Shrinks
      may_shrink fewer = record { books = books_now; found = shape_found; fewer = fewer; hidden = unseen_pages m id (unseen fewer) }

      -- the file grows, or it shrinks
      pub either_way : (P : Type 0) → (Grows → size f ≤ pages → P) → (Shrinks → pages < size f → P) → P
      either_way P grows shrinks = elim (cases_lt pages (size f)) [
        | inl fewer ↦ shrinks (may_shrink fewer) fewer
        | inr more ↦ grows (may_grow more) more
      ]

      free : refusal m (call.SetSize id pages) ≡ None
      free = size_free m id f found named pages mutable unseen fits

      session : IsSession spaces_of mid between now kept volume m
      session = looked spaces_of old mid before between layout now runs kept volume m s makes brings books same

      module _ (new : DiskState) (after : Slots) (later : CachedRuns) where
        module _ (next_volume : Volume) (serial : next_volume.root.serial ≡ volume.root.serial) (counter : next_volume.root.counter ≡ volume.root.counter) where
          pub grow_done : size f ≤ pages → next_volume ≡ record volume { used = min (volume.used + (pages - size f)) volume.layout.capacity }
              → GrownBy id f.kind (size f) (pages - size f) mid between now new after later → Carries spaces_of m (call.SetSize id pages) reply.Done new after now later next_volume
          grow_done more changed grown =
              let long = grown.long in
              let capacity = room_same in
              let used_same = s.same_used in
              let within : volume.used + (pages - size f) ≤ volume.layout.capacity = omega (arith, fits, more, capacity, used_same) in
              let now_used : next_volume.used ≡ volume.used + (pages - size f) = ap (λ (v : Volume). v.used) changed ∙ min-eq_left within in
              grow_carried spaces_of mid new between after now kept later volume next_volume m session serial counter id f found _ pages grown.sectors free (omega (arith, more, long)) now_used grown.leads

          pub shrink_done : pages < size f → next_volume ≡ record volume { used = volume.used - (size f - pages) } → ShrunkBy id pages (size f) s.stands.memory mid between now new after later
              → Carries spaces_of m (call.SetSize id pages) reply.Done new after now later next_volume
          shrink_done fewer changed shrunk =
              shrink_carried spaces_of mid new between after now kept later volume next_volume m session serial counter id f found _ pages free (omega (arith, fewer)) (ap (λ (v : Volume). v.used) changed) shrunk.leads

        module _ (form : AreInForm old) where
          unused : (is : List ℕ) → AreFree id f.kind (size f) is (labels_of s.stands.memory) → (d : List Sector) → labels_of d ≡ labels_of s.stands.memory → AreUnused d is
          unused is were d labels = free_are_unused id f.kind (size f) is d high (subst (AreFree id f.kind (size f) is) (sym labels) were)

          pub grow_passed : size f ≤ pages → GrownBy id f.kind (size f) (pages - size f) mid between now new after later → Passes m (call.SetSize id pages) old new
          grow_passed more grown =
              let long = grown.long in
              let y = grown.leads.goes.memory s.stands.memory books_now.stands in
              grow_passes spaces_of old new before after m s.stands form id pages f found free grown.sectors more (omega (arith, more, long)) (omega (arith, fits, more, long))
              (unused grown.sectors y.2.grown.free) (makes_then makes grown.leads.goes.makes)

          pub grow_broken : size f ≤ pages → GrewSome id f.kind (size f) (pages - size f) s.stands.memory mid between new after → Passes m (call.SetSize id pages) old new
          grow_broken more some =
              let fewer = take_few some.count some.sectors in
              let few = some.few in
              grow_passes spaces_of old new before after m s.stands form id pages f found free (take some.count some.sectors) more (omega (arith, more, few, fewer)) (omega (arith, fits, more, few, fewer))
              (λ d labels. take_unused some.count d some.sectors (unused some.sectors some.free d labels))
              (makes_then makes (subst (λ (ws : List DiskWrite). Makes volume_page ws mid between new after) (take_growth some.count id f.kind (size f) some.sectors) some.makes))

          pub shrink_passed : pages < size f → ShrunkBy id pages (size f) s.stands.memory mid between now new after later → Passes m (call.SetSize id pages) old new
          shrink_passed fewer shrunk =
              let long = shrunk.long in
              shrink_passes spaces_of old new before after m s.stands form id pages f found free shrunk.sectors fewer (omega (arith, long)) shrunk.last (makes_then makes shrunk.leads.goes.makes)

          pub shrink_broken : pages < size f → ShrunkSome id pages (size f) s.stands.memory mid between new after → Passes m (call.SetSize id pages) old new
          shrink_broken fewer some = shrink_passes spaces_of old new before after m s.stands form id pages f found free some.sectors fewer some.few some.last (makes_then makes some.makes)

-- ---- In the words of what was revealed of the file, and of the call that gives it its size.
module _ (spaces_of : TablesMeaning) (old : DiskState) (before : Slots) (layout : Layout) (runs : CachedRuns) (volume : Volume) (m : Machine) (s : IsSession spaces_of old before layout runs volume m)
    (mid : DiskState) (between : Slots) (now : Layout) (kept : CachedRuns) (makes : Makes volume_page [] old before mid between) (brings : BringsOwn before between)
    (books : Books mid between layout kept (shapes_of m.files) m.spaces s.stands.memory) (same : now ≡ layout) (id pages : ℕ) (seen : Option ℕ) (by : IsSeenBy m id seen) (a : Attributes) (revealed : IsAttributesOf (shapes_of m.files id) (Some a)) where
  file : (f : File) × (file_at m.files id ≡ Some f) × (shape_of f ≡ shape_revealed a)
  file = file_revealed m id a revealed

  refused : (word : Refusal) → refusal m (call.SetSize id pages) ≡ Some word → Carries spaces_of m (call.SetSize id pages) (reply.Refused word) mid between now kept volume
  refused word is = refused_after spaces_of old mid before between layout now runs kept volume m s makes brings books same (call.SetSize id pages) word is

  pub immutable_refused : a.immutable ≡ true → Carries spaces_of m (call.SetSize id pages) (reply.Refused why.Immutable) mid between now kept volume
  immutable_refused marked = refused why.Immutable (size_immutable m id file.0 file.1 by.named pages (ap (λ (w : Shape). w.immutable) file.2 ∙ marked))

  module _ (mutable : a.immutable ≡ false) where
    is_mutable : file.0.immutable ≡ false
    is_mutable = ap (λ (w : Shape). w.immutable) file.2 ∙ mutable

    long : size file.0 ≡ a.pages
    long = ap (λ (w : Shape). w.size) file.2

    pub cut_refused : pages < a.pages → (handle : ℕ) → seen ≡ Some handle → Carries spaces_of m (call.SetSize id pages) (reply.Refused (why.FileMapped handle)) mid between now kept volume
    cut_refused fewer handle is =
        refused (why.FileMapped handle) (size_cut m id file.0 file.1 by.named pages is_mutable (omega (arith, fewer, long)) (why.FileMapped handle) (by.mapped ∙ ap (option_map why.FileMapped) is))

    module _ (is : IsLayout layout) (same_layout : volume.layout ≡ layout) (uncut : pages < a.pages → seen ≡ None) where
      unseen : pages < size file.0 → file_mapped m id (λ w. true) ≡ None
      unseen fewer = by.mapped ∙ ap (option_map why.FileMapped) (uncut (omega (arith, fewer, long)))

      of_size : (b : Bool) → (nat_le pages volume.layout.capacity && nat_le (volume.used + pages - a.pages) volume.layout.capacity) ≡ b
          → (nat_le pages volume.layout.capacity && nat_le (volume.used + pages - size file.0) volume.layout.capacity) ≡ b
      of_size b is_so = ap (λ (w : Shape). nat_le pages volume.layout.capacity && nat_le (volume.used + pages - w.size) volume.layout.capacity) file.2 ∙ is_so

      pub full_refused : (fitting : Bool) → fitting ≡ (nat_le pages volume.layout.capacity && nat_le (volume.used + pages - a.pages) volume.layout.capacity) → fitting ≡ false
          → Carries spaces_of m (call.SetSize id pages) (reply.Refused why.Full) mid between now kept volume
      full_refused fitting tested over =
          refused why.Full (size_full m id file.0 file.1 by.named pages is_mutable unseen
          (size_too_long spaces_of old before layout runs volume m s is same_layout id pages file.0 file.1 (of_size false (sym tested ∙ over))))

      module _ (fitting : Bool) (tested : fitting ≡ (nat_le pages volume.layout.capacity && nat_le (volume.used + pages - a.pages) volume.layout.capacity)) (under : fitting ≡ true) where
        fits : used m + pages - size file.0 ≤ m.capacity
        fits = size_has_room spaces_of old before layout runs volume m s is same_layout id pages file.0 file.1 (of_size true (sym tested ∙ under))

        -- what the call says of a file that may grow, and of one that may shrink
        abbrev pub OfGrowing : (List Sector → Shape → Type 0) → Type 0
        OfGrowing P = (x : List Sector) (shapes : Shapes) (spaces : List Space) (g : Shape) → MayGrow mid between now kept shapes spaces id g pages x → g.size ≤ pages → P x g

        abbrev pub OfShrinking : (List Sector → Shape → Type 0) → Type 0
        OfShrinking P = (x : List Sector) (shapes : Shapes) (spaces : List Space) (g : Shape) → MayShrink mid between now kept shapes spaces id g pages x → P x g

        either : (P : Type 0) → (MayGrow mid between now kept (shapes_of m.files) m.spaces id (shape_of file.0) pages s.stands.memory → size file.0 ≤ pages → P)
            → (MayShrink mid between now kept (shapes_of m.files) m.spaces id (shape_of file.0) pages s.stands.memory → pages < size file.0 → P) → P
        either P grows shrinks = either_way spaces_of old before layout runs volume m s is same_layout id pages file.0 file.1 mid between now kept makes brings books same by.named unseen is_mutable fits P grows shrinks

        pub size_sound : (P : Type 0) → OfGrowing (λ x g. P) → OfShrinking (λ x g. P) → P
        size_sound P grown shrunk =
            either P (λ may more. grown s.stands.memory (shapes_of m.files) m.spaces (shape_of file.0) may more) (λ may fewer. shrunk s.stands.memory (shapes_of m.files) m.spaces (shape_of file.0) may)

        module _ (new : DiskState) (after : Slots) (later : CachedRuns) where
          pub size_done : (next_volume : Volume) → next_volume.root ≡ volume.root
              → OfGrowing (λ x g. GrownBy id g.kind g.size (pages - g.size) mid between now new after later) → OfGrowing (λ x g. next_volume ≡ record volume { used = min (volume.used + (pages - g.size)) volume.layout.capacity })
              → OfShrinking (λ x g. ShrunkBy id pages g.size x mid between now new after later) → OfShrinking (λ x g. next_volume ≡ record volume { used = volume.used - (g.size - pages) })
              → Carries spaces_of m (call.SetSize id pages) reply.Done new after now later next_volume
          size_done next_volume root grown used_grown shrunk used_shrunk =
              let serial = ap (λ (r : Root). r.serial) root in
              let counter = ap (λ (r : Root). r.counter) root in
              either (Carries spaces_of m (call.SetSize id pages) reply.Done new after now later next_volume)
              (λ may more.
              grow_done spaces_of old before layout runs volume m s is same_layout id pages file.0 file.1 mid between now kept makes brings books same by.named unseen is_mutable fits new after later next_volume serial counter more
              (used_grown s.stands.memory (shapes_of m.files) m.spaces (shape_of file.0) may more) (grown s.stands.memory (shapes_of m.files) m.spaces (shape_of file.0) may more))
              (λ may fewer.
              shrink_done spaces_of old before layout runs volume m s is same_layout id pages file.0 file.1 mid between now kept makes brings books same by.named unseen is_mutable fits new after later next_volume serial counter fewer
              (used_shrunk s.stands.memory (shapes_of m.files) m.spaces (shape_of file.0) may) (shrunk s.stands.memory (shapes_of m.files) m.spaces (shape_of file.0) may))

          pub size_passed : AreInForm old → OfGrowing (λ x g. GrownBy id g.kind g.size (pages - g.size) mid between now new after later) → OfShrinking (λ x g. ShrunkBy id pages g.size x mid between now new after later)
              → Passes m (call.SetSize id pages) old new
          size_passed form grown shrunk =
              either (Passes m (call.SetSize id pages) old new)
              (λ may more.
              grow_passed spaces_of old before layout runs volume m s is same_layout id pages file.0 file.1 mid between now kept makes brings books same by.named unseen is_mutable fits new after later form more
              (grown s.stands.memory (shapes_of m.files) m.spaces (shape_of file.0) may more))
              (λ may fewer.
              shrink_passed spaces_of old before layout runs volume m s is same_layout id pages file.0 file.1 mid between now kept makes brings books same by.named unseen is_mutable fits new after later form fewer
              (shrunk s.stands.memory (shapes_of m.files) m.spaces (shape_of file.0) may))

          pub size_broken : AreInForm old → OfGrowing (λ x g. GrewSome id g.kind g.size (pages - g.size) x mid between new after) → OfShrinking (λ x g. ShrunkSome id pages g.size x mid between new after)
              → Passes m (call.SetSize id pages) old new
          size_broken form grown shrunk =
              either (Passes m (call.SetSize id pages) old new)
              (λ may more.
              grow_broken spaces_of old before layout runs volume m s is same_layout id pages file.0 file.1 mid between now kept makes brings books same by.named unseen is_mutable fits new after later form more
              (grown s.stands.memory (shapes_of m.files) m.spaces (shape_of file.0) may more))
              (λ may fewer.
              shrink_broken spaces_of old before layout runs volume m s is same_layout id pages file.0 file.1 mid between now kept makes brings books same by.named unseen is_mutable fits new after later form fewer
              (shrunk s.stands.memory (shapes_of m.files) m.spaces (shape_of file.0) may))
