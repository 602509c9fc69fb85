-- A file that is copied, from call to call.
use Rattle.std.proofs.Common.{◌≡◌, ℕ, ◌+◌, ◌<◌, ◌≤◌, Bool, true, false, List, [], ◌∷◌, map, length, Some, None, refl, sym, ◌∙◌, ap, subst, arith}
use Rattle.std.specs.Prelude.{slice_get, All, ◌==◌, if◌then◌else◌, IsTrue}
use Rattle.std.proofs.lemmas.List.{length-map}
use Rattle.std.proofs.lemmas.Option.{none-some}
use Rattle.labelled_disk.specs.declared.label.Label.{Label}
use Rattle.labelled_disk.specs.declared.label.Wanted.{Wanted}
use Rattle.labelled_disk.specs.declared.layout.Layout.{Layout}
use Rattle.labelled_disk.specs.Calls.{RevealsSame}
use Rattle.labelled_disk.specs.File.{File, byte, size}
use Rattle.labelled_disk.specs.Label.{is_file, is_file_id, leader_page, names}
use Rattle.labelled_disk.specs.Layout.{first_data}
use Rattle.labelled_disk.specs.Sectors.{AreSectors, IsSector, Sector}
use Rattle.file_map.specs.declared.run.Run.{Run}
use Rattle.frame_pool.specs.Frames.{Slots}
use Rattle.label_calls.specs.Bytes.{WritesPage}
use Rattle.label_laws.specs.Marks.{immutable_label, permanent_label}
use Rattle.swapper_kernel.specs.DiffersLaws.{names_id, names_page}
use Rattle.swapper_kernel.specs.Homes.{IsLayout}
use Rattle.swapper_kernel.specs.Stands.{Stands, labels_of}
use Rattle.filer_kernel.specs.declared.cached.CachedRuns.{CachedRuns}
use Rattle.filer_kernel.specs.Cached.{runs_of}
use Rattle.filer_kernel.specs.View.{View}
use Rattle.session_words.specs.FrameLaws.{HasFrames}
use Rattle.session_words.specs.MarkLaws.{Marks}
use Rattle.session_words.specs.Parts.{IsLeader, IsTriple, Shape, Shapes, shapes_of}
use Rattle.session_words.specs.PlaceLaws.{sized, with_shape}
use Rattle.session_words.proofs.FoundLemmas.{above_reserved, file_label}
use Rattle.session_words.proofs.GrownLemmas.{with_here}
use Rattle.session_words.proofs.PageLemmas.{set_sectors}
use Rattle.session_words.proofs.MarkedLabelLemmas.{IsMark, is_immutable_mark, is_permanent_mark}
use Rattle.file_manager.specs.Answer.{IsMarked}
use Rattle.file_manager.specs.Book.{BooksUpto, IsBookedUpto}
use Rattle.file_manager.specs.Making.{CreatedBy, LedAndGrown}
use Rattle.file_manager.specs.Stays.{FramesStay}
use Rattle.file_manager.proofs.BookLemmas.{known_after, label_in}
use Rattle.volume_pair.specs.Copied.{IsCopying, KeepsOthers, PutsInFile, shape_with}
use Rattle.volume_pair.specs.Sides.{HasBooks, HasPageBytes}
use Rattle.volume_pair.proofs.CopyingLemmas.{cells_marked, cells_put, keeps_grown, keeps_marked, keeps_put, keeps_then}
use Rattle.volume_pair.proofs.MadeLemmas.{grown_booked, led_booked, led_shape}
use Rattle.volume_pair.proofs.MarkedLemmas.{marked_booked}
use Rattle.volume_pair.proofs.PageLemmas.{uncovered}
use Rattle.volume_pair.proofs.PutLemmas.{put_booked}
use Rattle.volume_pair.proofs.SideLemmas.{books_read}

-- kind and marks are the same
abbrev pub IsSameShape : File → Shape → Type 0
IsSameShape g s = (g.kind ≡ s.kind) × (g.permanent ≡ s.permanent) × (g.immutable ≡ s.immutable)

-- whatever runs are kept
without_runs : {layout : Layout} {runs : List Run} {shapes : Shapes} {x : List Sector} → IsBookedUpto 0 layout runs shapes x → IsBookedUpto 0 layout [] shapes x
without_runs b = record {
  sectors = b.sectors;
  long = b.long;
  files = b.files;
  root_label = b.root_label;
  map_labels = b.map_labels;
  labels = b.labels;
  bits = b.bits;
  named = b.named;
  map = b.map;
  triples = b.triples;
  kept = λ k r here. absurd (none-some r here);
}

-- ---- The file is made.

-- the leader and the pages, without cells of the file's own
pub keeps_made : (id kind leader : ℕ) (is : List ℕ) (x y : List Sector) → 1 ≤ length x → LedAndGrown id kind leader is x y → KeepsOthers id x y
keeps_made id kind leader is x y some made =
    let first = keeps_grown id kind leader_page (leader ∷ []) x made.middle some made.led in
    keeps_then first (keeps_grown id kind 0 is made.middle y (let long = first.long in omega (arith, long, some)) made.grown)

-- two shapes of one file, of which the second counts
with_twice : (shapes : Shapes) (id : ℕ) (f g : Shape) → with_shape (with_shape shapes id f) id g ≡ with_shape shapes id g
with_twice shapes id f g = λ i j. each j (j == id) i
  where
    each : (j : ℕ) (b : Bool) → (if b then Some g else (if b then Some f else shapes j)) ≡ (if b then Some g else shapes j)
    each j true = refl
    each j false = refl

pub made_copying : (v w : View) (fs : List File) (x : List Sector) (f : File) (is_layout : IsLayout v.layout) → w.layout ≡ v.layout → HasBooks v (shapes_of fs) x → is_file_id f.id ≡ true → shapes_of fs f.id ≡ None → size f < leader_page
    → CreatedBy f.id f.kind (size f) v.disk v.slots v.layout w.disk w.slots w.runs → IsCopying w x fs f false false 0
made_copying v w fs x f is_layout layout books of_file none short created =
    let after = created.leads.goes.memory x books.stands in
    let y = after.0 in
    let made = after.2 in
    let shapes = shapes_of fs in
    let booked : IsBookedUpto 0 v.layout [] shapes x = without_runs books.booked in
    let first = led_booked v.layout is_layout shapes x booked f.id f.kind of_file none created.leader made.middle made.led in
    let there = with_here shapes f.id (led_shape f.id f.kind) in
    let long = created.long in
    let all = grown_booked v.layout is_layout (with_shape shapes f.id (led_shape f.id f.kind)) made.middle first f.id f.kind (led_shape f.id f.kind) there created.sectors y made.grown (omega (arith, long, short)) (runs_of v.layout.sectors w.runs) (created.leads.true_runs y after.1) in
    let size_is : 0 + length created.sectors ≡ size f = omega (arith, long) in
    let shape : sized (0 + length created.sectors) (led_shape f.id f.kind) ≡ shape_with f false false = λ i. record { kind = f.kind; permanent = false; immutable = false; size = size_is i } in
    let same : with_shape (with_shape shapes f.id (led_shape f.id f.kind)) f.id (sized (0 + length created.sectors) (led_shape f.id f.kind)) ≡ with_shape shapes f.id (shape_with f false false) =
    with_twice shapes f.id (led_shape f.id f.kind) (sized (0 + length created.sectors) (led_shape f.id f.kind)) ∙ ap (λ (s : Shape). with_shape shapes f.id s) shape in
    let now = subst (λ (s : Shapes). IsBookedUpto 0 v.layout (runs_of v.layout.sectors w.runs) s y) same all in
    record {
      memory = y;
      books = subst (λ (l : Layout). BooksUpto 0 w.disk w.slots l w.runs (with_shape shapes f.id (shape_with f false false)) [] y) (sym layout) (record { stands = after.1; booked = now; frames = known_after v.slots w.slots [] created.leads.brings books.frames });
      keeps = keeps_made f.id f.kind created.leader created.sectors x y (let size = books.booked.long in let least = is_layout.0.0 in omega (arith, size, least)) made;
      cells = λ page bytes there below. absurd (omega (arith, below));
    }

-- ---- Its pages get their bytes.

-- the memory that such a write makes
pub put_books : (v w : View) (shapes : Shapes) (y z : List Sector) (id page : ℕ) (bytes : List ℕ) → 16 ≤ id → is_file_id id ≡ true → HasBooks v shapes y → PutsInFile id page bytes y z → Stands w.disk w.slots z → AreSectors z → w.slots ≡ v.slots → w.layout ≡ v.layout → w.runs ≡ v.runs → HasBooks w shapes z
put_books v w shapes y z id page bytes client of_file b p stands sectors frames layout runs =
    let above : first_data (length y) ≤ p.sector = subst (λ (n : ℕ). first_data n ≤ p.sector) (length-map y (λ s. s.0)) p.triple.there.is_data in
    let booked = put_booked v.layout shapes y z b.booked id page p.sector client (λ l named. named_file l id page of_file named) bytes above p.put sectors in
    subst (λ (r : CachedRuns). BooksUpto 0 w.disk w.slots w.layout r shapes [] z) (sym runs)
    (subst (λ (l : Layout). BooksUpto 0 w.disk w.slots l v.runs shapes [] z) (sym layout) (record { stands = stands; booked = booked; frames = subst (λ (s : Slots). HasFrames s []) (sym frames) b.frames }))
  where
    named_file : (l : Label) (id page : ℕ) → is_file_id id ≡ true → names l (record { id = id; page = page }) ≡ true → is_file l ≡ true
    named_file l id page of_file named =
        let own : l.id ≡ id = names_id l (record { id = id; page = page }) named in
        let number : l.page ≡ page = names_page l (record { id = id; page = page }) named in
        file_label l (ap is_file_id own ∙ of_file) (subst (λ (w : Wanted). names l w ≡ true) (λ i. record { id = sym own i; page = sym number i }) named)

-- the memory that this write makes
pub put_after : (v w : View) (shapes : Shapes) (x : List Sector) (id page sector : ℕ) (bytes : List ℕ) → 16 ≤ id → (f : Shape) → shapes id ≡ Some f → (books : HasBooks v shapes x) → IsTriple (labels_of x) id page sector → (length bytes ≡ 512) × All (λ b. b < 256) bytes
    → WritesPage sector (record { id = id; page = page }) bytes v.disk v.slots w.disk → w.slots ≡ v.slots → w.layout ≡ v.layout → w.runs ≡ v.runs → (n : List Sector) × HasBooks w shapes n × PutsInFile id page bytes x n
put_after v w shapes x id page sector bytes client f found books triple form written frames layout runs =
    let after = (written.goes (uncovered v shapes x books id page sector client triple)).memory x books.stands in
    let z = after.0 in
    let put = after.2 in
    let was = books.booked.sectors sector put.0 put.1 in
    let is : IsSector (put.0.0, bytes) = record {
      id_fits = was.id_fits;
      page_fits = was.page_fits;
      kind_fits = was.kind_fits;
      flags_fit = was.flags_fit;
      last_fits = was.last_fits;
      whole_page = form.0;
      bytes = form.1;
    } in
    let sectors : AreSectors z = subst AreSectors (sym put.3) (set_sectors x sector (put.0.0, bytes) books.booked.sectors is) in
    let p : PutsInFile id page bytes x z = record { sector = sector; triple = triple; put = put } in
    (z, put_books v w shapes x z id page bytes client (books.booked.files.given id f found) books p (subst (λ (s : Slots). Stands w.disk s z) (sym frames) after.1) sectors frames layout runs, p)

-- one page more has its cells
pub put_copying : (v w : View) (fs : List File) (x : List Sector) (f : File) (page : ℕ) (bytes : List ℕ) → (c : IsCopying v x fs f false false page) → slice_get f.pages page ≡ Some (map byte bytes)
    → (n : List Sector) × HasBooks w (with_shape (shapes_of fs) f.id (shape_with f false false)) n × PutsInFile f.id page bytes c.memory n → IsCopying w x fs f false false (page + 1)
put_copying v w fs x f page bytes c own (n, books, put) = record {
  memory = n;
  books = books;
  keeps = keeps_then c.keeps (keeps_put v.layout _ c.memory n c.books.booked f.id page bytes put);
  cells = cells_put v.layout _ c.memory n c.books.booked f.id page bytes put f c.cells own;
}

-- ---- It gets its marks.

-- a leader's label with a mark more
shape_leads : (mark : Label → Label) (change : File → File) (is : IsMark mark change) (f : Shape) (marked : Shape) → ((g : File) → g.kind ≡ f.kind → g.permanent ≡ f.permanent → g.immutable ≡ f.immutable → IsSameShape (change g) marked) → (l : Label) → is_file l ≡ true → IsLeader l f → IsLeader (mark l) marked
shape_leads mark change is f marked same l file leads =
    let g : File = record { id = 0; kind = f.kind; permanent = f.permanent; immutable = f.immutable; pages = [] } in
    let now = is.leads l g file (record { kind = leads.kind; permanent = leads.permanent; immutable = leads.immutable }) in
    let shape = same g refl refl refl in
    record { kind = now.kind ∙ shape.0; permanent = now.permanent ∙ shape.1; immutable = now.immutable ∙ shape.2 }

pub marked_copying : (v w : View) (fs : List File) (x : List Sector) (f : File) (mark : Label → Label) (change : File → File) (is : IsMark mark change) (p q r s : Bool)
    → ((g : File) → g.kind ≡ f.kind → g.permanent ≡ p → g.immutable ≡ q → IsSameShape (change g) (shape_with f r s)) → w.layout ≡ v.layout → (c : IsCopying v x fs f p q (size f)) → IsMarked f.id mark c.memory v.disk v.slots v.layout w.disk w.slots w.runs
    → IsCopying w x fs f r s (size f)
marked_copying v w fs x f mark change is p q r s same layout c made =
    let after = made.leads.goes.memory c.memory c.books.stands in
    let z = after.0 in
    let b = c.books.booked in
    let shapes = with_shape (shapes_of fs) f.id (shape_with f p q) in
    let found = with_here (shapes_of fs) f.id (shape_with f p q) in
    let given = b.files.given f.id (shape_with f p q) found in
    let short = b.files.short f.id (shape_with f p q) found in
    let high = above_reserved f.id given in
    let now = marked_booked v.layout shapes c.memory z b f.id mark change is given (shape_with f p q) (shape_with f r s) found refl (shape_leads mark change is (shape_with f p q) (shape_with f r s) same) after.2 (made.leads.true_runs z after.1) in
    let twice = with_twice (shapes_of fs) f.id (shape_with f p q) (shape_with f r s) in
    let root = label_in (slice_get (labels_of c.memory) 0) (λ l. IsTrue (names l (record { id = 4; page = 0 }))) b.root_label in
    let four = names_id root.0 (record { id = 4; page = 0 }) root.2 in
    record {
      memory = z;
      books = subst (λ (l : Layout). BooksUpto 0 w.disk w.slots l w.runs (with_shape (shapes_of fs) f.id (shape_with f r s)) [] z) (sym layout) (record {
        stands = after.1;
        booked = subst (λ (t : Shapes). IsBookedUpto 0 v.layout (runs_of v.layout.sectors w.runs) t z) twice now;
        frames = known_after v.slots w.slots [] made.leads.brings c.books.frames;
      });
      keeps = keeps_then c.keeps (keeps_marked c.memory z f.id mark change is given after.2 root.0 root.1 (λ e. omega (arith, e, four, high)));
      cells = λ page bytes there below. c.cells page bytes (cells_marked c.memory z f.id mark change is given after.2 page bytes (λ e. omega (arith, e, below, short)) there) below;
    }

-- the memory with the permanent mark too
pub permanent_memory : (layout : Layout) (fs : List File) (x : List Sector) (f : File) (m n : List Sector) {runs : List Run} → IsBookedUpto 0 layout runs (with_shape (shapes_of fs) f.id (shape_with f false true)) m → KeepsOthers f.id x m
    → ((page : ℕ) (bytes : List ℕ) → HasPageBytes m f.id page bytes → page < size f → slice_get f.pages page ≡ Some (map byte bytes)) → Marks f.id permanent_label m n
    → IsBookedUpto 0 layout [] (with_shape (shapes_of fs) f.id (shape_with f true true)) n × KeepsOthers f.id x n × ((page : ℕ) (bytes : List ℕ) → HasPageBytes n f.id page bytes → page < size f → slice_get f.pages page ≡ Some (map byte bytes))
permanent_memory layout fs x f m n b keeps cells made =
    let change : File → File = λ g. record g { permanent = true } in
    let found = with_here (shapes_of fs) f.id (shape_with f false true) in
    let given = b.files.given f.id (shape_with f false true) found in
    let short = b.files.short f.id (shape_with f false true) found in
    let high = above_reserved f.id given in
    let root = label_in (slice_get (labels_of m) 0) (λ l. IsTrue (names l (record { id = 4; page = 0 }))) b.root_label in
    let four = names_id root.0 (record { id = 4; page = 0 }) root.2 in
    let now = marked_booked layout (with_shape (shapes_of fs) f.id (shape_with f false true)) m n b f.id permanent_label change is_permanent_mark given (shape_with f false true) (shape_with f true true) found refl
    (shape_leads permanent_label change is_permanent_mark (shape_with f false true) (shape_with f true true) (λ g kind permanent immutable. (kind, refl, immutable))) made {later = []} (λ k r here. absurd (none-some r here)) in (
      subst (λ (t : Shapes). IsBookedUpto 0 layout [] t n) (with_twice (shapes_of fs) f.id (shape_with f false true) (shape_with f true true)) now,
      keeps_then keeps (keeps_marked m n f.id permanent_label change is_permanent_mark given made root.0 root.1 (λ e. omega (arith, e, four, high))),
      λ page bytes there below. cells page bytes (cells_marked m n f.id permanent_label change is_permanent_mark given made page bytes (λ e. omega (arith, e, below, short)) there) below,
    )

pub immutable_copying : (v w : View) (fs : List File) (x : List Sector) (f : File) → w.layout ≡ v.layout → (c : IsCopying v x fs f false false (size f)) → IsMarked f.id immutable_label c.memory v.disk v.slots v.layout w.disk w.slots w.runs → IsCopying w x fs f false true (size f)
immutable_copying v w fs x f layout c made = marked_copying v w fs x f immutable_label (λ g. record g { immutable = true }) is_immutable_mark false false false true (λ g kind permanent immutable. (kind, permanent, refl)) layout c made

pub permanent_copying : (v w : View) (fs : List File) (x : List Sector) (f : File) → w.layout ≡ v.layout → (c : IsCopying v x fs f false true (size f)) → IsMarked f.id permanent_label c.memory v.disk v.slots v.layout w.disk w.slots w.runs → IsCopying w x fs f true true (size f)
permanent_copying v w fs x f layout c made = marked_copying v w fs x f permanent_label (λ g. record g { permanent = true }) is_permanent_mark false true true true (λ g kind permanent immutable. (kind, refl, immutable)) layout c made

-- the disk has all that it had
pub swapped_copying : (v w : View) (fs : List File) (x : List Sector) (f : File) (p q : Bool) (done : ℕ) → IsCopying v x fs f p q done → RevealsSame v.disk w.disk → FramesStay v w → IsCopying w x fs f p q done
swapped_copying v w fs x f p q done c same stays = record {
  memory = c.memory;
  books = books_read v w _ c.memory c.books same stays.frames stays.layout stays.runs;
  keeps = c.keeps;
  cells = c.cells;
}

-- ---- As the calls say it, which name the identifier.

-- the file that is copied has its shape
pub copied_here : (fs : List File) (f : File) (id : ℕ) (p q : Bool) → f.id ≡ id → with_shape (shapes_of fs) f.id (shape_with f p q) id ≡ Some (shape_with f p q)
copied_here fs f id p q same = subst (λ (i : ℕ). with_shape (shapes_of fs) f.id (shape_with f p q) i ≡ Some (shape_with f p q)) same (with_here (shapes_of fs) f.id (shape_with f p q))

pub page_copied : (v w : View) (fs : List File) (x : List Sector) (f : File) (id page : ℕ) (bytes : List ℕ) → f.id ≡ id → (c : IsCopying v x fs f false false page) → slice_get f.pages page ≡ Some (map byte bytes)
    → (n : List Sector) × HasBooks w (with_shape (shapes_of fs) f.id (shape_with f false false)) n × PutsInFile id page bytes c.memory n → IsCopying w x fs f false false (page + 1)
page_copied v w fs x f id page bytes same c own made =
    put_copying v w fs x f page bytes c own (subst (λ (i : ℕ). (n : List Sector) × HasBooks w (with_shape (shapes_of fs) f.id (shape_with f false false)) n × PutsInFile i page bytes c.memory n) (sym same) made)

pub immutable_made : (v w : View) (fs : List File) (x : List Sector) (f : File) (id : ℕ) → f.id ≡ id → w.layout ≡ v.layout → (c : IsCopying v x fs f false false (size f)) → IsMarked id immutable_label c.memory v.disk v.slots v.layout w.disk w.slots w.runs → IsCopying w x fs f false true (size f)
immutable_made v w fs x f id same layout c made =
    immutable_copying v w fs x f layout c (subst (λ (i : ℕ). IsMarked i immutable_label c.memory v.disk v.slots v.layout w.disk w.slots w.runs) (sym same) made)

pub permanent_made : (v w : View) (fs : List File) (x : List Sector) (f : File) (id : ℕ) → f.id ≡ id → w.layout ≡ v.layout → (c : IsCopying v x fs f false true (size f)) → IsMarked id permanent_label c.memory v.disk v.slots v.layout w.disk w.slots w.runs → IsCopying w x fs f true true (size f)
permanent_made v w fs x f id same layout c made =
    permanent_copying v w fs x f layout c (subst (λ (i : ℕ). IsMarked i permanent_label c.memory v.disk v.slots v.layout w.disk w.slots w.runs) (sym same) made)
