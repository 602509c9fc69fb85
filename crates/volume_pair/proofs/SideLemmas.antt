-- One side of a pair: what a volume that can be opened says of its files, and what calls that look leave of it.
use Rattle.std.proofs.Common.{◌≡◌, inl, inr, ℕ, ◌+◌, ◌<◌, ◌≤◌, true, false, ◌&&◌, not, List, [], ◌∷◌, ◌++◌, append-nil, map, length, Option, Some, None, refl, sym, ◌∙◌, ap, subst, arith}
use Rattle.std.specs.Prelude.{slice_get, option_map, filter, ◌==◌, IsTrue, IsSomeAnd}
use Rattle.std.proofs.lemmas.Option.{slice_get-map, same_Some, none-some}
use Rattle.std.proofs.lemmas.List.{length-map}
use Rattle.std.proofs.lemmas.Bool.{and_from, eq-eqb}
use Rattle.labelled_disk.specs.declared.disk.DiskWrite.{DiskWrite}
use Rattle.labelled_disk.specs.declared.disk.DiskWrite.TheVariants as write
use Rattle.labelled_disk.specs.declared.evidence.Halt.{Halt}
use Rattle.labelled_disk.specs.declared.label.Label.{Label}
use Rattle.labelled_disk.specs.declared.label.Wanted.{Wanted}
use Rattle.labelled_disk.specs.declared.layout.Layout.{Layout}
use Rattle.labelled_disk.specs.Calls.{RevealsSame, Rose}
use Rattle.labelled_disk.specs.File.{File, byte, file_at, size}
use Rattle.labelled_disk.specs.FilesOn.{disk_file, files_on, is_page}
use Rattle.labelled_disk.specs.Label.{is_file, is_file_id, names}
use Rattle.labelled_disk.specs.Layout.{first_data, vam, vfm}
use Rattle.labelled_disk.specs.Root.{counter_of, serial_of}
use Rattle.labelled_disk.specs.Sectors.{Sector}
use Rattle.labelled_disk.specs.State.{DiskState}
use Rattle.labelled_disk.specs.WriteLaws.{HasData}
use Rattle.labelled_disk.specs.WriteRuns.{Appended, after_writes}
use Rattle.labelled_disk.proofs.WriteLemmas as laws
use Rattle.file_map.specs.declared.run.Run.{Run}
use Rattle.flat_machine.specs.Start.{start}
use Rattle.flat_machine.proofs.StartMachine.{start_is_machine}
use Rattle.label_laws.proofs.MixedLemmas.{page_stands}
use Rattle.frame_pool.specs.Frames.{Slots}
use Rattle.swapper_kernel.specs.DiffersLaws.{label_here}
use Rattle.swapper_kernel.specs.Goes.{is_page_write, no_page}
use Rattle.swapper_kernel.specs.GoesLaws.{makes_then, makes_nothing}
use Rattle.swapper_kernel.specs.Stands.{labels_of}
use Rattle.filer_kernel.specs.declared.cached.CachedRuns.{CachedRuns}
use Rattle.filer_kernel.specs.Cached.{runs_of}
use Rattle.filer_kernel.specs.Fails.{Fails}
use Rattle.filer_kernel.specs.Triples.{AreOf}
use Rattle.filer_kernel.specs.View.{FitsLayout, HasMemory, View, kept_by}
use Rattle.session_words.specs.OpenLaws.{CanOpen}
use Rattle.session_words.specs.Parts.{HasMapLabels, Shapes, shape_of, shapes_of}
use Rattle.session_words.proofs.FoundLemmas.{file_label}
use Rattle.session_words.proofs.SettledLemmas.{machine_shapes}
use Rattle.session_words.proofs.SoundLemmas.{sound_laws}
use Rattle.session_words.proofs.StartLemmas.{start_laws}
use Rattle.volume_root.specs.Flag.{with_flag}
use Rattle.file_manager.specs.Book.{AreTrue, BooksUpto, BringsOwn, IsBookedUpto}
use Rattle.file_manager.specs.Stays.{LooksAlone}
use Rattle.file_manager.proofs.BookLemmas.{books_stay}
use Rattle.volume_pair.specs.declared.fault.PairHalt.{PairHalt}
use Rattle.volume_pair.specs.declared.fault.PairHalt.TheVariants as on
use Rattle.volume_pair.specs.Pairs.{ShowsSide}
use Rattle.volume_pair.specs.Sides.{AreClean, HasBooks, HasPageBytes, IsLookedAt, IsSide, ShowsWhy}

-- ---- A volume that can be opened is booked.

module _ (d : List Sector) (o : CanOpen d) where
  long : length (labels_of d) ≡ length d
  long = length-map d (λ s. s.0)

  label_at : (k : ℕ) (w : Wanted) → IsSomeAnd (slice_get d k) (λ s. IsTrue (names s.0 w)) → IsSomeAnd (slice_get (labels_of d) k) (λ l. IsTrue (names l w))
  label_at k w named = subst (λ (q : Option Label). IsSomeAnd q (λ l. IsTrue (names l w))) (sym (slice_get-map (λ (s : Sector). s.0) d k)) (either (slice_get d k) named)
    where
      either : (q : Option Sector) → IsSomeAnd q (λ s. IsTrue (names s.0 w)) → IsSomeAnd (option_map (λ (s : Sector). s.0) q) (λ l. IsTrue (names l w))
      either (Some s) is = is
      either None is = absurd is

  map_labels : HasMapLabels (labels_of d)
  map_labels = record {
    allocation = λ k below. label_at (1 + k) (record { id = 1; page = k }) (o.right.has_maps.allocation k (subst (λ (n : ℕ). k < vam n) long below));
    file_map = λ k below.
        subst (λ (n : ℕ). IsSomeAnd (slice_get (labels_of d) (1 + vam n + k)) (λ l. IsTrue (names l (record { id = 2; page = k })))) (sym long)
        (label_at (1 + vam (length d) + k) (record { id = 2; page = k }) (o.right.has_maps.file_map k (subst (λ (n : ℕ). k < vfm n) long below)));
  }

  pub is_booked : (layout : Layout) (runs : List Run) → length d ≡ layout.sectors → AreTrue (labels_of d) runs → IsBookedUpto 0 layout runs (shapes_of (files_on d)) d
  is_booked layout runs size kept =
      let cleared = sound_laws.cleared d o in
      let files = start_laws.files d o.right o.free_or_needed in
      record {
        sectors = o.sectors;
        long = size;
        files = machine_shapes (start d) (start_is_machine d o.sectors o.right) (length (with_flag false d)) (slice_get (with_flag false d) 0) cleared.root_open;
        root_label = label_at 0 (record { id = 4; page = 0 }) o.right.has_root.label;
        map_labels = map_labels;
        labels = record { pages = files.pages; leaders = files.leaders };
        bits = o.bits;
        named = o.named;
        map = o.map;
        triples = o.triples;
        kept = kept;
      }

  -- the cells of a page are the bytes that stand there
  pub cells_on : (layout : Layout) (id page : ℕ) (bytes : List ℕ) (f : File) → length d ≡ layout.sectors → file_at (files_on d) id ≡ Some f → page < size f → HasPageBytes d id page bytes → slice_get f.pages page ≡ Some (map byte bytes)
  cells_on layout id page bytes f size found below has =
      let b = is_booked layout [] size (λ k r here. absurd (none-some r here)) in
      let shape : shapes_of (files_on d) id ≡ Some (shape_of f) = ap (λ (q : Option File). option_map shape_of q) found in
      let of_file : is_file_id id ≡ true = b.files.given id (shape_of f) shape in
      let short = b.files.short id (shape_of f) shape in
      let t = has.triple in
      let same : t.label ≡ has.label = same_Some t.label has.label (sym t.there.here ∙ label_here d has.sector (has.label, bytes) has.here) in
      let own : has.label.id ≡ id = ap (λ (l : Label). l.id) (sym same) ∙ t.same_id in
      let at : has.label.page ≡ page = ap (λ (l : Label). l.page) (sym same) ∙ t.same_page in
      let owned = b.labels.pages.only has.sector t.label t.there t.taken in
      let named : names has.label (record { id = has.label.id; page = has.label.page }) ≡ true = subst (λ (l : Label). names l (record { id = l.id; page = l.page }) ≡ true) same owned.named in
      let file : is_file has.label ≡ true = file_label has.label (ap is_file_id own ∙ of_file) named in
      let is : is_page id page (has.label, bytes) ≡ true =
      and_from (is_file has.label && has.label.id == id) (has.label.page == page) (and_from (is_file has.label) (has.label.id == id) file (eq-eqb has.label.id id own)) (eq-eqb has.label.page page at) in
      let on : disk_file false d id ≡ Some f = sym (laws.look_up false 0 0 d id) ∙ found in
      let place : HasData d has.sector (has.label, bytes) = record { is_data = subst (λ (n : ℕ). first_data n ≤ has.sector) long t.there.is_data; here = has.here } in
      page_stands false (serial_of d) (counter_of d) d has.sector (has.label, bytes) id page f o.right.files place is (λ e. omega (arith, e, below, short)) on

-- ---- Books and sides.

-- the same memory stands, and runs that are the map's are kept
pub books_then : (v w : View) (shapes : Shapes) (x : List Sector) (books : HasBooks v shapes x) → HasMemory w x → BringsOwn v.slots w.slots → AreOf books.booked.named (runs_of v.layout.sectors w.runs) → w.layout ≡ v.layout
    → HasBooks w shapes x
books_then v w shapes x books stands brings are layout =
    subst (λ (l : Layout). BooksUpto 0 w.disk w.slots l w.runs shapes [] x) (sym layout) (books_stay v.layout v.disk w.disk v.slots w.slots v.runs w.runs shapes [] x books stands brings are)

pub side_books : (v : View) (fs : List File) (x : List Sector) → IsSide v fs x → HasBooks v (shapes_of fs) x
side_books v fs x s = record {
  stands = s.stands;
  booked = subst (λ (gs : List File). IsBookedUpto 0 v.layout (kept_by v) (shapes_of gs) x) s.files_are (is_booked x s.can_open v.layout (kept_by v) s.long s.kept);
  frames = s.frames;
}

pub side_then : (v w : View) (fs : List File) (x : List Sector) → IsSide v fs x → HasBooks w (shapes_of fs) x → IsSide w fs x
side_then v w fs x s b = record {
  stands = b.stands;
  long = b.booked.long;
  can_open = s.can_open;
  files_are = s.files_are;
  frames = b.frames;
  kept = b.booked.kept;
}

-- the cells of a file that a side has
pub side_cells : (v : View) (fs : List File) (x : List Sector) (id page : ℕ) (bytes : List ℕ) (f : File) → IsSide v fs x → file_at fs id ≡ Some f → page < size f → HasPageBytes x id page bytes → slice_get f.pages page ≡ Some (map byte bytes)
side_cells v fs x id page bytes f s found below has =
    cells_on x s.can_open v.layout id page bytes f s.long (ap (λ (gs : List File). file_at gs id) s.files_are ∙ found) below has

-- a file of a side has its shape
pub shape_of_file : (fs : List File) (id : ℕ) (f : File) → file_at fs id ≡ Some f → shapes_of fs id ≡ Some (shape_of f)
shape_of_file fs id f found = ap (λ (q : Option File). option_map shape_of q) found

-- ---- Over any contents.

pub looked_nothing : (v : View) → IsLookedAt v v
looked_nothing v = record { makes = makes_nothing no_page v.disk v.slots; layout = refl }

pub looked_then : {u v w : View} → IsLookedAt u v → IsLookedAt v w → IsLookedAt u w
looked_then h k = record { makes = makes_then h.makes k.makes; layout = k.layout ∙ h.layout }

pub looked_alone : {v w : View} → LooksAlone v w → IsLookedAt v w
looked_alone h = record { makes = h.looks.goes.makes; layout = h.layout }

pub why_of : {why : Halt → Type 0} {v w : View} {e : Halt} → Fails why v w e → ShowsWhy v w e
why_of f = record { counted = f.counted; evidence_seen = f.evidence_seen }

-- calls that came before
pub why_after : {u v w : View} {e : Halt} → u.disk.faults ≤ v.disk.faults → ShowsWhy v w e → ShowsWhy u w e
why_after {u = u} {v = v} {w = w} less h = record { counted = λ is. rose u.disk.faults v.disk.faults w.disk.faults less (h.counted is); evidence_seen = h.evidence_seen }
  where
    rose : (a b c : ℕ) → a ≤ b → Rose b c → Rose a c
    rose a b c less more = omega (arith, less, more)

-- a volume that was looked at has no dirty frame still
pub clean_still : {v w : View} → AreClean v.slots → IsLookedAt v w → AreClean w.slots
clean_still clean h id page dirty = elim (h.makes.dirty id page dirty) [ inl was ↦ clean id page was | inr none ↦ none ]

-- a page that is read past the frames leaves the books
pub books_read : (v w : View) (shapes : Shapes) (x : List Sector) → HasBooks v shapes x → RevealsSame v.disk w.disk → w.slots ≡ v.slots → w.layout ≡ v.layout → w.runs ≡ v.runs → HasBooks w shapes x
books_read v w shapes x b same frames layout runs =
    let moved = subst (λ (r : CachedRuns). BooksUpto 0 v.disk w.slots w.layout r shapes [] x) (sym runs)
    (subst (λ (l : Layout). BooksUpto 0 v.disk w.slots l v.runs shapes [] x) (sym layout) (subst (λ (s : Slots). BooksUpto 0 v.disk s v.layout v.runs shapes [] x) (sym frames) b)) in
    record {
      stands = record { sectors = moved.stands.sectors; revealed = same.contents ∙ moved.stands.revealed; merged = moved.stands.merged };
      booked = moved.booked;
      frames = moved.frames;
    }

-- a call that asks for a file leaves the side
pub asked_side : (v w : View) (fs : List File) (x : List Sector) {P : Type 0} → IsSide v fs x → w.layout ≡ v.layout → P × BooksUpto 0 w.disk w.slots v.layout w.runs (shapes_of fs) [] x → P × IsSide w fs x
asked_side v w fs x s layout asked = (asked.0, side_then v w fs x s (subst (λ (l : Layout). BooksUpto 0 w.disk w.slots l w.runs (shapes_of fs) [] x) (sym layout) asked.1))

-- its disk has the layout's sectors still
pub fits_still : {v w : View} → IsLookedAt v w → FitsLayout v → FitsLayout w
fits_still h size = h.makes.went.sectors ∙ size ∙ ap (λ (l : Layout). l.sectors) (sym h.layout)

-- a halt on one of both sides, which were looked at before
pub side_after : {from0 to0 from to : View} (from1 to1 : View) → IsLookedAt from0 from → IsLookedAt to0 to → (e : PairHalt) → ShowsSide from to from1 to1 e → ShowsSide from0 to0 from1 to1 e
side_after from1 to1 first second (on.From e) why = why_after first.makes.went.faults why
side_after from1 to1 first second (on.To e) why = why_after second.makes.went.faults why

-- no label was written, and no page
nothing_written : (ws : List DiskWrite) → filter (λ w. not (is_page_write w)) ws ≡ [] → ((k sector : ℕ) (wanted : Wanted) (bytes : List ℕ) → slice_get ws k ≡ Some (write.Page sector wanted bytes) → ⊥) → ws ≡ []
nothing_written [] none pages = refl
nothing_written (write.Whole sector label bytes ∷ ws) none pages = absurd (none-some (write.Whole sector label bytes) (sym (ap (λ (l : List DiskWrite). slice_get l 0) none)))
nothing_written (write.LabelOnly sector label ∷ ws) none pages = absurd (none-some (write.LabelOnly sector label) (sym (ap (λ (l : List DiskWrite). slice_get l 0) none)))
nothing_written (write.Page sector wanted bytes ∷ ws) none pages = absurd (pages 0 sector wanted bytes refl)

pub appended_nothing : {a b : DiskState} → Appended [] a b → RevealsSame a b
appended_nothing {a = a} h = record { contents = h.contents ∙ contents_same a.contents; writes = h.revealed ∙ writes_same a.writes }
  where
    contents_same : (o : Option (List Sector)) → option_map (after_writes []) o ≡ o
    contents_same None = refl
    contents_same (Some d) = refl

    writes_same : (o : Option (List DiskWrite)) → option_map (λ (earlier : List DiskWrite). earlier ++ []) o ≡ o
    writes_same None = refl
    writes_same (Some ws) = ap (λ (l : List DiskWrite). Some l) (append-nil ws)

-- a volume with no dirty frame is not written where it is looked at
pub looked_same : {v w : View} → AreClean v.slots → IsLookedAt v w → RevealsSame v.disk w.disk
looked_same {v = v} {w = w} clean h =
    let wrote = h.makes.wrote in
    let none = nothing_written wrote.writes wrote.labels (λ k sector wanted bytes at. elim (wrote.of_dirty k sector wanted bytes at) [ inl was ↦ clean wanted.id wanted.page was | inr no_page ↦ no_page ]) in
    appended_nothing (subst (λ (ws : List DiskWrite). Appended ws v.disk w.disk) none wrote.appended)
