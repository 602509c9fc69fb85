-- A copy begins where there is room, and both volumes stand for the lists with it once it is done.
use Rattle.std.proofs.Common.{◌≡◌, ℕ, zero, suc, ◌+◌, ◌/◌, ◌^◌, ◌<◌, ◌≤◌, true, false, List, [], length, Option, Some, None, Ok, refl, sym, ◌∙◌, ap, subst, arith}
use Rattle.std.specs.Prelude.{slice_get, option_map}
use Rattle.std.specs.Option.{option_map_or}
use Rattle.std.proofs.lemmas.Option.{none-some}
use Rattle.labelled_disk.specs.declared.layout.Layout.{Layout}
use Rattle.labelled_disk.specs.File.{File, file_at, room_of, size, total_room}
use Rattle.labelled_disk.specs.FilesOn.{files_on, put_file}
use Rattle.labelled_disk.specs.Label.{is_file_id, leader_page}
use Rattle.labelled_disk.specs.Layout.{capacity}
use Rattle.labelled_disk.specs.Root.{counter_of, serial_of}
use Rattle.labelled_disk.specs.Sectors.{Sector}
use Rattle.labelled_disk.proofs.AscendingLemmas.{at_id, each_at}
use Rattle.flat_machine.specs.Machine.{IsFile, IsFileId}
use Rattle.flat_machine.proofs.FileLemmas.{room_put}
use Rattle.flat_machine.proofs.StartMachine.{start_is_machine}
use Rattle.pair_machine.specs.declared.call.PairRefusal.TheVariants as why
use Rattle.pair_machine.specs.Exact.{HasBytes}
use Rattle.pair_machine.specs.Pair.{Pair, with_copy}
use Rattle.swapper_kernel.specs.Homes.{IsLayout}
use Rattle.filer_kernel.specs.Cached.{runs_of}
use Rattle.filer_kernel.specs.View.{View}
use Rattle.session_words.specs.OpenLaws.{FlagCleared}
use Rattle.session_words.specs.Parts.{HasRoot, Shape, shape_of, shapes_of}
use Rattle.session_words.specs.PlaceLaws.{with_shape}
use Rattle.file_manager.specs.declared.attributes.Attributes.{Attributes}
use Rattle.file_manager.specs.declared.volume.Volume.{Volume}
use Rattle.file_manager.specs.Book.{IsBookedUpto}
use Rattle.file_manager.specs.Making.{CreatedBy, MayCreateUpto, free_count}
use Rattle.volume_pair.specs.Copied.{HasCopy, IsCopying, IsSealing, shape_with}
use Rattle.volume_pair.specs.Copying.{IsOriginal, Takes, refusal_in, room_refusal}
use Rattle.volume_pair.specs.CrashStates.{HasFilesInUse, KeepsVolume, list_after}
use Rattle.volume_pair.specs.Pairs.{IsPaired}
use Rattle.volume_pair.specs.Sides.{IsSide}
use Rattle.volume_pair.proofs.CopiedLemmas.{files_have_bytes, files_permanent, files_put, opens_put}
use Rattle.volume_pair.proofs.KeepLemmas.{keeps_in_use, loose_keeps, volume_then}
use Rattle.volume_pair.proofs.SideLemmas.{side_books}
use Rattle.volume_pair.proofs.StepLemmas.{made_copying}
use Rattle.volume_pair.proofs.StartLemmas.{free_and_files, parts}

-- the second list has no such file where nothing is refused
pub none_there : (gs : List File) (volume : Volume) (id pages : ℕ) → refusal_in gs volume id pages ≡ None → file_at gs id ≡ None
none_there gs volume id pages none = either (file_at gs id) refl
  where
    either : (o : Option File) → file_at gs id ≡ o → file_at gs id ≡ None
    either None e = e
    either (Some g) e = absurd (none-some why.Exists (sym none ∙ ap (λ (q : Option File). option_map_or (λ g. Some why.Exists) q (room_refusal volume id pages)) e))

module _ (from to : View) (volume : Volume) (p : Pair) (h : IsPaired from to volume p) where
  x : List Sector
  x = h.second

  abbrev unset : HasRoot (length h.second) (slice_get h.second 0) (serial_of h.second) (counter_of h.second) (capacity (length h.second))
  unset = record { valid = h.root.valid; has_serial = refl; has_counter = refl; has_room = refl; open_flag = h.root.open_flag }

  cleared : FlagCleared h.second h.second
  cleared = record { long = refl; others = λ k other. refl; root_open = unset }

  -- so many sectors are free
  pub room_free : (is : IsLayout to.layout) (id pages : ℕ) → Takes volume id pages → pages + 1 ≤ free_count to.layout h.second
  room_free is id pages takes =
      let all = free_and_files to.layout is h.second h.second h.to_is.can_open cleared h.to_is.long in
      let of = parts to.layout is h.second h.second h.to_is.can_open cleared h.to_is.long in
      let first = of.0 in
      let size = of.1 in
      let used = h.used in
      let files : total_room (files_on h.second) ≡ total_room p.to = ap total_room h.to_is.files_are in
      let room = takes.room in
      let same = h.capacity in
      let least = h.root.has_room in
      let own : capacity (length h.second) ≡ to.layout.capacity = ap capacity h.to_is.long ∙ sym (ap (λ (l : Layout). l.capacity) is.1) in
      omega (arith, all, first, size, used, files, room, same, least, own)

  -- a disk that keeps the second volume has its list
  pub kept_in_use : (e : List Sector) → KeepsVolume h.second e → HasFilesInUse p.to volume.root.serial volume.root.counter e
  kept_in_use e k = keeps_in_use h.second e p.to (length h.second) volume.root.serial volume.root.counter p.capacity h.to_is.files_are h.root k

  pub may_create : (is : IsLayout to.layout) (id pages : ℕ) → Takes volume id pages → file_at p.to id ≡ None → MayCreateUpto 0 to.disk to.slots to.layout to.runs (shapes_of p.to) [] id pages h.second
  may_create is id pages takes none =
      let books = side_books to p.to h.second h.to_is in
      record {
        books = books;
        hidden = λ page. refl;
        are = books.booked.files;
        none = ap (λ (o : Option File). option_map shape_of o) none;
        enough = room_free is id pages takes;
      }

  module _ (id : ℕ) (file : Attributes) (original : IsOriginal p.from id (Ok file)) (none : file_at p.to id ≡ None) (takes : Takes volume id file.pages) where
    abbrev f : File
    f = original.0

    pub same_id : original.0.id ≡ id
    same_id = at_id p.from id original.0 original.1

    there : file_at (files_on h.first) id ≡ Some original.0
    there = ap (λ (fs : List File). file_at fs id) h.from_is.files_are ∙ original.1

    lasting : original.0.permanent ≡ true
    lasting = each_at (λ g. g.permanent ≡ true) (files_on h.first) (files_permanent h.first) id original.0 there

    bytes : HasBytes original.0
    bytes = each_at HasBytes (files_on h.first) (files_have_bytes h.first) id original.0 there

    form : IsFile original.0
    form = each_at IsFile (files_on h.first) (start_is_machine h.first h.from_is.can_open.sectors h.from_is.can_open.right).whole_files id original.0 there

    given : IsFileId (serial_of h.second) (counter_of h.second) original.0.id
    given =
        let was = each_at (λ g. IsFileId (serial_of h.first) (counter_of h.first) g.id) (files_on h.first) (start_is_machine h.first h.from_is.can_open.sectors h.from_is.can_open.right).ids_given id original.0 there in
        record {
          above_reserved = was.above_reserved;
          fits = was.fits;
          low_half = was.low_half;
          given_out = λ same. absurd (takes.other (ap (λ (n : ℕ). n / 2 ^ 32) (sym same_id) ∙ same ∙ h.root.has_serial));
        }

    none_second : file_at (files_on h.second) original.0.id ≡ None
    none_second = ap (file_at (files_on h.second)) same_id ∙ ap (λ (gs : List File). file_at gs id) h.to_is.files_are ∙ none

    room : total_room (files_on h.second) + room_of original.0 ≤ capacity (length h.second)
    room =
        let used = h.used in
        let files : total_room (files_on h.second) ≡ total_room p.to = ap total_room h.to_is.files_are in
        let fits = takes.room in
        let pages = original.3 in
        let same = h.capacity in
        let least = h.root.has_room in
        omega (arith, used, files, fits, pages, same, least)

    -- the file is made, without cells
    pub begun : (w : View) → IsLayout to.layout → w.layout ≡ to.layout → is_file_id id ≡ true → CreatedBy id file.kind file.pages to.disk to.slots to.layout w.disk w.slots w.runs → IsCopying w h.second p.to original.0 false false 0
    begun w is layout of_file created =
        let books = side_books to p.to h.second h.to_is in
        let from_books = side_books from p.from h.first h.from_is in
        let short = from_books.booked.files.short id (shape_of original.0) (ap (λ (o : Option File). option_map shape_of o) original.1) in
        let absent : shapes_of p.to original.0.id ≡ None = ap (shapes_of p.to) same_id ∙ ap (λ (o : Option File). option_map shape_of o) none in
        made_copying to w p.to h.second original.0 is layout books (ap is_file_id same_id ∙ of_file) absent short
        (subst (λ (i : ℕ). CreatedBy i original.0.kind (size original.0) to.disk to.slots to.layout w.disk w.slots w.runs) (sym same_id)
        (subst (λ (k : ℕ). CreatedBy id k (size original.0) to.disk to.slots to.layout w.disk w.slots w.runs) (sym original.4)
        (subst (λ (n : ℕ). CreatedBy id file.kind n to.disk to.slots to.layout w.disk w.slots w.runs) (sym original.3) created)))

    sealed_shape : shape_with original.0 true true ≡ shape_of original.0
    sealed_shape = λ i. record { kind = original.0.kind; permanent = sym lasting i; immutable = sym original.2 i; size = size original.0 }

    copied : with_copy p id ≡ record p { to = put_file original.0 p.to }
    copied = ap (λ (o : Option File). option_map_or (λ g. record p { to = put_file g p.to }) o p) original.1

    -- a disk that has the copy has the list with it
    pub copy_in_use : (layout : Layout) (e : List Sector) → HasCopy h.second p.to original.0 layout e → HasFilesInUse (with_copy p id).to volume.root.serial volume.root.counter e
    copy_in_use layout e copy =
        let booked : IsBookedUpto 0 layout [] (with_shape (shapes_of (files_on h.second)) original.0.id (shape_of original.0)) copy.memory =
        subst (λ (s : Shape). IsBookedUpto 0 layout [] (with_shape (shapes_of (files_on h.second)) original.0.id s) copy.memory) sealed_shape
        (subst (λ (gs : List File). IsBookedUpto 0 layout [] (with_shape (shapes_of gs) original.0.id (shape_with original.0 true true)) copy.memory) (sym h.to_is.files_are) copy.booked) in
        let long = sym copy.keeps.long ∙ copy.booked.long in
        let files = files_put h.second h.to_is.can_open layout long unset original.0 lasting form bytes given none_second room copy.memory booked copy.keeps copy.cells ∙ ap (put_file original.0) h.to_is.files_are in
        let opens = opens_put h.second h.to_is.can_open layout long unset original.0 lasting form bytes given none_second room copy.memory booked copy.keeps copy.cells in
        let root : HasRoot (length copy.memory) (slice_get copy.memory 0) volume.root.serial volume.root.counter p.capacity =
        subst (λ (n : ℕ). HasRoot n (slice_get copy.memory 0) volume.root.serial volume.root.counter p.capacity) (sym copy.keeps.long)
        (subst (λ (q : Option Sector). HasRoot (length h.second) q volume.root.serial volume.root.counter p.capacity) (sym copy.keeps.root) h.root) in
        subst (λ (q : Pair). HasFilesInUse q.to volume.root.serial volume.root.counter e) (sym copied)
        (keeps_in_use copy.memory e (put_file original.0 p.to) (length copy.memory) volume.root.serial volume.root.counter p.capacity files root (loose_keeps copy.memory e copy.differs opens.right))

    -- so has one that gets its marks, before and after
    pub sealing_in_use : (layout : Layout) (d e : List Sector) (k : ℕ) → KeepsVolume h.second d → IsSealing h.second p.to original.0 layout d k e → HasFilesInUse (list_after p.to (with_copy p id).to k) volume.root.serial volume.root.counter e
    sealing_in_use layout d e zero below keeps = kept_in_use e (volume_then below keeps)
    sealing_in_use layout d e (suc k) below copy = copy_in_use layout e copy

    -- its pages are few
    pub few_pages : file.pages < leader_page
    few_pages =
        let from_books = side_books from p.from h.first h.from_is in
        subst (λ (n : ℕ). n < leader_page) original.3 (from_books.booked.files.short id (shape_of original.0) (ap (λ (o : Option File). option_map shape_of o) original.1))

    module _ (v w : View) (first : IsSide v p.from h.first) (c : IsCopying w h.second p.to original.0 true true (size original.0)) where
      shape_is : shape_with original.0 true true ≡ shape_of original.0
      shape_is = λ i. record { kind = original.0.kind; permanent = sym lasting i; immutable = sym original.2 i; size = size original.0 }

      b : IsBookedUpto 0 w.layout (runs_of w.layout.sectors w.runs) (with_shape (shapes_of (files_on h.second)) original.0.id (shape_of original.0)) c.memory
      b = subst (λ (s : Shape). IsBookedUpto 0 w.layout (runs_of w.layout.sectors w.runs) (with_shape (shapes_of (files_on h.second)) original.0.id s) c.memory) shape_is
          (subst (λ (gs : List File). IsBookedUpto 0 w.layout (runs_of w.layout.sectors w.runs) (with_shape (shapes_of gs) original.0.id (shape_with original.0 true true)) c.memory) (sym h.to_is.files_are) c.books.booked)

      second : IsSide w (put_file original.0 p.to) c.memory
      second = record {
        stands = c.books.stands;
        long = c.books.booked.long;
        can_open = opens_put h.second h.to_is.can_open w.layout (sym c.keeps.long ∙ c.books.booked.long) unset original.0 lasting form bytes given none_second room c.memory b c.keeps c.cells;
        files_are = files_put h.second h.to_is.can_open w.layout (sym c.keeps.long ∙ c.books.booked.long) unset original.0 lasting form bytes given none_second room c.memory b c.keeps c.cells ∙ ap (put_file original.0) h.to_is.files_are;
        frames = c.books.frames;
        kept = c.books.booked.kept;
      }

      rise : total_room (put_file original.0 p.to) ≡ total_room p.to + room_of original.0
      rise =
          let s = start_is_machine h.second h.to_is.can_open.sectors h.to_is.can_open.right in
          subst (λ (gs : List File). total_room (put_file original.0 gs) ≡ total_room gs + room_of original.0) h.to_is.files_are (room_put original.0 (files_on h.second) s.ids_rise none_second)

      -- both volumes stand for the lists with the copy
      pub copy_done : (later : Volume) → later ≡ record volume { used = volume.used + file.pages + 1 } → IsPaired v w later (with_copy p id)
      copy_done later is =
          let copied : with_copy p id ≡ record p { to = put_file original.0 p.to } = ap (λ (o : Option File). option_map_or (λ g. record p { to = put_file g p.to }) o p) original.1 in
          let used = h.used in
          let more = rise in
          let pages = original.3 in
          subst (IsPaired v w later) (sym copied) (subst (λ (u : Volume). IsPaired v w u (record p { to = put_file original.0 p.to })) (sym is) (record {
            first = h.first;
            second = c.memory;
            from_is = first;
            to_is = second;
            root = subst (λ (n : ℕ). HasRoot n (slice_get c.memory 0) volume.root.serial volume.root.counter p.capacity) (sym c.keeps.long)
                (subst (λ (q : Option Sector). HasRoot (length h.second) q volume.root.serial volume.root.counter p.capacity) (sym c.keeps.root) h.root);
            serial = h.serial;
            used = omega (arith, used, more, pages);
            capacity = h.capacity;
          }))
