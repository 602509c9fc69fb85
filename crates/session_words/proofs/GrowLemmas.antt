-- A file grows.
use Rattle.std.proofs.Common.{◌≡◌, ◌≢◌, ◌⊎◌, inl, inr, ⊎_elim, ℕ, zero, suc, ◌+◌, ◌*◌, ◌<◌, ◌≤◌, Bool, true, false, List, [], ◌∷◌, ◌++◌, map, length, replicate, Option, Some, None, refl, sym, ◌∙◌, ap, subst, arith}
use Rattle.std.specs.Prelude.{slice_get, option_map, ◌==◌, if◌then◌else◌}
use Rattle.std.specs.List.{AllZip}
use Rattle.std.proofs.lemmas.Option.{same_Some, none-some, slice_get_within}
use Rattle.std.proofs.lemmas.Bool.{eqb-true, eqb-false, true≢false, cases_eq}
use Rattle.std.proofs.lemmas.List.{length-map, length-append, length-replicate}
use Rattle.labelled_disk.specs.declared.label.Label.{Label}
use Rattle.labelled_disk.specs.Label.{leader_page, page_label}
use Rattle.labelled_disk.specs.Layout.{first_data, vam}
use Rattle.labelled_disk.specs.Sectors.{Sector}
use Rattle.labelled_disk.specs.File.{File, Page, byte, zero_page, size, file_at}
use Rattle.labelled_disk.specs.Runs.{zero_bytes, lengthened}
use Rattle.labelled_disk.proofs.WriteLemmas.{first_positive}
use Rattle.labelled_disk.proofs.AscendingLemmas.{at_id}
use Rattle.file_map.specs.FileMap.{Triples}
use Rattle.flat_machine.specs.Machine.{Machine}
use Rattle.flat_machine.specs.IsMachine.{IsMachine}
use Rattle.flat_machine.specs.Next.{change_file}
use Rattle.flat_machine.specs.Settled.{PageAgrees, CellAgrees}
use Rattle.flat_machine.proofs.FileLemmas.{look_up_changed, one_id, changed_here, unchanged}
use Rattle.swapper_kernel.specs.Stands.{labels_of}
use Rattle.swapper_kernel.specs.Kinds.{Kind, kind_of, HasKind, the_tables, a_file, files_alone, maps_alone}
use Rattle.session_words.specs.Parts.{Shape, Shapes, shape_of, shapes_of, HasRoot, HasLabel, HasLabels, HasMapLabels, MarksFit, HasTriples, HasCells, TablesMeaning, is_marked, but_none}
use Rattle.session_words.specs.Found.{AreShapes}
use Rattle.session_words.specs.PlaceLaws.{with_shape, sized}
use Rattle.session_words.specs.GrowLaws.{grown_labels, grown_marks, grown_names, GrowsPages, GrowLaws}
use Rattle.session_words.specs.StandsFor.{IsForBy}
use Rattle.swapper_kernel.specs.DiffersLaws.{label_here, sector_of_label}
use Rattle.swapper_kernel.proofs.KindLemmas.{root_kind, kind_is_data}
use Rattle.session_words.proofs.BitLemmas.{bits_alike}
use Rattle.session_words.proofs.FoundLemmas.{owner, above_reserved, file_id_of, file_not_free}
use Rattle.session_words.proofs.LooseLemmas.{kind_file}
use Rattle.session_words.proofs.ShapeLemmas.{changed_from}
use Rattle.session_words.proofs.CallLemmas.{kind_tables}
use Rattle.session_words.proofs.SettledLemmas.{machine_shapes}
use Rattle.session_words.proofs.GrownLemmas.{book_grown, free_are_data, grown_get, grown_long, map_labels_grown, with_here}

-- pages with zero pages after them
pub get_longer : (ps : List Page) (n k : ℕ) (p : Page) → slice_get (ps ++ replicate n zero_page) k ≡ Some p → ((k < length ps) × (slice_get ps k ≡ Some p)) ⊎ (p ≡ zero_page)
get_longer [] zero k p at = absurd (none-some p at)
get_longer [] (suc n) zero p at = inr (sym (same_Some zero_page p at))
get_longer [] (suc n) (suc k) p at = elim (get_longer [] n k p at) [ inl (below, here) ↦ absurd (none-some p here) | inr is ↦ inr is ]
get_longer (q ∷ ps) n zero p at = inl (omega arith, at)
get_longer (q ∷ ps) n (suc k) p at = elim (get_longer ps n k p at) [ inl (below, here) ↦ inl (omega arith, here) | inr is ↦ inr is ]

zeros_agree : PageAgrees (map byte zero_bytes) zero_page
unfolding zero_bytes zero_page
zeros_agree = same 512
  where
    same : (n : ℕ) → AllZip CellAgrees (map byte (replicate n 0)) (replicate n (byte 0))
    same zero = tt
    same (suc n) = (refl, same n)

module _ (spaces_of : TablesMeaning) (marks later : ℕ → Bool) (named : Triples) (x y : List Sector) (m : Machine) (id : ℕ) (f : File) (is : List ℕ) (found : file_at m.files id ≡ Some f)
    (g : GrowsPages id f.kind (size f) is x y) (says_bits : (k : ℕ) → k < 4096 * vam (length x) → later k ≡ grown_marks is marks k)
    (h : IsForBy spaces_of marks named x m) (after_machine : IsMachine (record m { files = change_file id (lengthened (length is)) m.files })) where
  longer : File → File
  longer w = if w.id == id then lengthened (length is) w else w

  long_y : length y ≡ length x
  long_y = sym (length-map y (λ s. s.0)) ∙ ap (λ (l : List Label). length l) g.labels ∙ grown_long id f.kind (size f) is (labels_of x) ∙ length-map x (λ s. s.0)

  -- a sector that isn't new, nor of a map, is as before
  sector_kept : (kind : Kind) → maps_alone kind ≡ false → (k : ℕ) (t : Sector) → HasKind y k t kind
      → HasKind x k t kind ⊎ ((j : ℕ) × (slice_get is j ≡ Some k) × (t.0 ≡ page_label id f.kind (size f + j)))
  sector_kept kind other k t has = elim (grown_get id f.kind (size f) is (labels_of x) k t.0 (ap (λ (l : List Label). slice_get l k) (sym g.labels) ∙ label_here y k t has.here)) [
    | inr new ↦ inr new
    | inl (was, none) ↦
        let s = sector_of_label x k t.0 was in
        let kind_is : kind_of (length x) k t.0 ≡ kind = ap (λ (n : ℕ). kind_of n k t.0) (sym long_y) ∙ has.is in
        let same : s.0 ≡ t = same_Some s.0 t (sym (g.pages k s.0 s.1 none (ap (λ (l : Label). maps_alone (kind_of (length x) k l)) s.2 ∙ ap maps_alone kind_is ∙ other)) ∙ has.here) in
        inl (record { here = s.1 ∙ ap (λ (z : Sector). Some z) same; is = kind_is })
  ]

  id_high : 16 ≤ id
  id_high = above_reserved id ((machine_shapes m h.machine (length x) (slice_get x 0) h.root).given id (shape_of f) (ap (λ (o : Option File). option_map shape_of o) found))

  root_kept : HasRoot (length y) (slice_get y 0) m.serial m.counter m.capacity
  root_kept = subst (λ (n : ℕ). HasRoot n (slice_get y 0) m.serial m.counter m.capacity) (sym long_y) (either (slice_get x 0) refl h.root)
    where
      either : (o : Option Sector) → slice_get x 0 ≡ o → HasRoot (length x) o m.serial m.counter m.capacity → HasRoot (length x) (slice_get y 0) m.serial m.counter m.capacity
      either None e r = absurd r.valid.label
      either (Some s) e r =
          let none : (j : ℕ) → slice_get is j ≢ Some 0 = λ j at.
          let above : first_data (length (labels_of x)) ≤ 0 = free_are_data id f.kind (size f) is (labels_of x) j 0 g.free at in
          let some = first_positive false 0 0 (length (labels_of x)) in omega (arith, above, some) in
          subst (λ (o : Option Sector). HasRoot (length x) o m.serial m.counter m.capacity) (sym (g.pages 0 s e none (ap maps_alone (root_kind (length x) s.0)))) r

  map_labels_kept : HasMapLabels (labels_of y)
  map_labels_kept = subst HasMapLabels (sym g.labels) (map_labels_grown id f.kind (size f) is (labels_of x) g.free h.map_labels)

  shapes_grown : shapes_of (map longer m.files) ≡ with_shape (shapes_of m.files) id (sized (size f + length is) (shape_of f))
  unfolding longer
  shapes_grown = λ i j. each j (j == id) refl i
    where
      long_size : (w : File) → size (lengthened (length is) w) ≡ size w + length is
      long_size w = length-append w.pages (replicate (length is) zero_page) ∙ ap (λ (n : ℕ). size w + n) (length-replicate (length is) zero_page)

      each : (j : ℕ) (b : Bool) → (j == id) ≡ b → shapes_of (map (λ w. if w.id == id then lengthened (length is) w else w) m.files) j ≡ (if b then Some (sized (size f + length is) (shape_of f)) else shapes_of m.files j)
      each j true e =
          let own : f.id ≡ id = at_id m.files id f found in
          let here : file_at m.files j ≡ Some f = ap (file_at m.files) (eqb-true j id e) ∙ found in
          ap (λ (o : Option File). option_map shape_of o) (look_up_changed (λ w. if w.id == id then lengthened (length is) w else w) (one_id id (lengthened (length is)) (λ w. refl)) m.files j
          ∙ ap (option_map (λ w. if w.id == id then lengthened (length is) w else w)) here)
          ∙ ap (λ (w : File). Some (shape_of w)) (changed_here id (lengthened (length is)) f own)
          ∙ (λ i. Some (record { kind = f.kind; permanent = f.permanent; immutable = f.immutable; size = long_size f i }))
      each j false e = ap (λ (o : Option File). option_map shape_of o) (look_up_changed (λ w. if w.id == id then lengthened (length is) w else w) (one_id id (lengthened (length is)) (λ w. refl)) m.files j) ∙ other (file_at m.files j) refl
        where
          other : (o : Option File) → file_at m.files j ≡ o → option_map shape_of (option_map (λ w. if w.id == id then lengthened (length is) w else w) o) ≡ option_map shape_of o
          other None q = refl
          other (Some w) q = ap (λ (v : File). Some (shape_of v)) (unchanged id (lengthened (length is)) w (λ r. eqb-false j id e (sym (at_id m.files j w q) ∙ r)))

  after_shapes : AreShapes (shapes_of (map longer m.files))
  unfolding longer
  after_shapes = machine_shapes (record m { files = change_file id (lengthened (length is)) m.files }) after_machine (length x) (slice_get x 0) h.root

  cells_grown : HasCells but_none y (map longer m.files)
  unfolding longer
  cells_grown = record {
    agrees = λ k t w p has now page none. elim (sector_kept a_file refl k t has) [
      | inr (j, at, label) ↦ new k t w p has now page j at label
      | inl was ↦ old k t w p was now page
    ];
  }
    where
      -- the file before
      before : (i : ℕ) (w : File) → file_at (map (λ w. if w.id == id then lengthened (length is) w else w) m.files) i ≡ Some w
          → (v : File) × (file_at m.files i ≡ Some v) × (w ≡ (if v.id == id then lengthened (length is) v else v))
      before i w now = changed_from (λ w. if w.id == id then lengthened (length is) w else w) (one_id id (lengthened (length is)) (λ v. refl)) m.files i w now

      new : (k : ℕ) (t : Sector) (w : File) (p : Page) → HasKind y k t a_file → file_at (map (λ w. if w.id == id then lengthened (length is) w else w) m.files) t.0.id ≡ Some w → slice_get w.pages t.0.page ≡ Some p
          → (j : ℕ) → slice_get is j ≡ Some k → t.0 ≡ page_label id f.kind (size f + j) → PageAgrees (map byte t.1) p
      new k t w p has now page j at label =
          let v = before t.0.id w now in
          let own : t.0.id ≡ id = ap (λ (l : Label). l.id) label in
          let same : v.0 ≡ f = same_Some v.0 f (sym v.1 ∙ ap (file_at m.files) own ∙ found) in
          let is_longer : w ≡ lengthened (length is) f = v.2 ∙ changed_here id (lengthened (length is)) v.0 (at_id m.files t.0.id v.0 v.1 ∙ own) ∙ ap (lengthened (length is)) same in
          let number : t.0.page ≡ size f + j = ap (λ (l : Label). l.page) label in
          elim (get_longer f.pages (length is) t.0.page p (ap (λ (u : File). slice_get u.pages t.0.page) (sym is_longer) ∙ page)) [
            | inl (below, here) ↦ absurd (omega (arith, below, number))
            | inr zeros ↦ subst (PageAgrees (map byte t.1)) (sym zeros) (subst (λ (b : List ℕ). PageAgrees (map byte b) zero_page) (sym (g.fresh j k t at has.here)) zeros_agree)
          ]

      get_below : (ps qs : List Page) (n : ℕ) → n < length ps → slice_get (ps ++ qs) n ≡ slice_get ps n
      get_below [] qs n below = absurd (omega arith)
      get_below (q ∷ ps) qs zero below = refl
      get_below (q ∷ ps) qs (suc n) below = get_below ps qs n (omega arith)

      old : (k : ℕ) (t : Sector) (w : File) (p : Page) → HasKind x k t a_file → file_at (map (λ w. if w.id == id then lengthened (length is) w else w) m.files) t.0.id ≡ Some w → slice_get w.pages t.0.page ≡ Some p
          → PageAgrees (map byte t.1) p
      old k t w p has now page =
          let v = before t.0.id w now in
          -- a label of before names a page of the file as it was, and no page is a leader's
          let file = kind_file (length x) k t.0 has.is in
          let low = above_reserved t.0.id (file_id_of t.0 file) in
          let label : HasLabel (labels_of x) k t.0 = record {
            is_data = subst (λ (n : ℕ). first_data n ≤ k) (sym (length-map x (λ s. s.0))) (kind_is_data (length x) k t.0 a_file (λ e. true≢false (ap files_alone e)) (λ e. true≢false (ap files_alone e)) (λ e. true≢false (ap files_alone e)) has.is);
            here = label_here x k t has.here;
          } in
          let o = owner (shapes_of m.files) t.0.id t.0.page (omega (arith, low)) (h.labels.pages.only k t.0 label (file_not_free t.0 file)).is in
          let shape : o.0 ≡ shape_of v.0 = same_Some o.0 (shape_of v.0) (sym o.1 ∙ ap (λ (u : Option File). option_map shape_of u) v.1) in
          let sizes : o.0.size ≡ size v.0 = ap (λ (s : Shape). s.size) shape in
          let short : size w < leader_page = after_shapes.short t.0.id (shape_of w) (ap (λ (u : Option File). option_map shape_of u) now) in
          let within : t.0.page < size w = slice_get_within w.pages t.0.page p page in
          let below : t.0.page < size v.0 = ⊎_elim (λ (q : t.0.page ≡ leader_page). absurd (omega (arith, q, within, short))) (λ (q : t.0.page < o.0.size). omega (arith, q, sizes)) o.2 in
          h.cells.agrees k t v.0 p has v.1 (⊎_elim
          (λ (q : v.0.id ≡ id).
          let is_longer : w ≡ lengthened (length is) v.0 = v.2 ∙ changed_here id (lengthened (length is)) v.0 q in
          sym (get_below v.0.pages (replicate (length is) zero_page) t.0.page below) ∙ ap (λ (u : File). slice_get u.pages t.0.page) (sym is_longer) ∙ page)
          (λ (q : v.0.id ≢ id). ap (λ (u : File). slice_get u.pages t.0.page) (sym (v.2 ∙ unchanged id (lengthened (length is)) v.0 q)) ∙ page)
          (cases_eq v.0.id id)) refl

  -- the labels are as many as the sectors, and some
  long_labels : length (grown_labels id f.kind (size f) is (labels_of x)) ≡ length x
  long_labels = grown_long id f.kind (size f) is (labels_of x) ∙ length-map x (λ s. s.0)

  bits_grown : MarksFit (grown_marks is marks) (grown_labels id f.kind (size f) is (labels_of x)) → MarksFit later (grown_labels id f.kind (size f) is (labels_of x))
  bits_grown = bits_alike (grown_labels id f.kind (size f) is (labels_of x)) (grown_marks is marks) later (omega (arith, long_labels, h.root.valid.accepted))
      (λ k below. says_bits k (subst (λ (n : ℕ). k < 4096 * vam n) long_labels below))

  pub all_grown : IsForBy spaces_of later (grown_names id (size f) is named) y (record m { files = change_file id (lengthened (length is)) m.files })
  unfolding longer
  all_grown =
      let are = machine_shapes m h.machine (length x) (slice_get x 0) h.root in
      let here : shapes_of m.files id ≡ Some (shape_of f) = ap (λ (o : Option File). option_map shape_of o) found in
      let short : size f + length is < leader_page = after_shapes.short id (sized (size f + length is) (shape_of f)) (ap (λ (s : Shapes). s id) shapes_grown ∙ with_here (shapes_of m.files) id (sized (size f + length is) (shape_of f))) in
      let book = book_grown {tables = 96} id f.kind is (labels_of x) (shapes_of m.files) marks named (shape_of f) (size f) refl are here short g.free
      (record { labels_right = h.labels; bits = h.bits; triples = h.triples }) in
      record {
        machine = after_machine;
        sectors = g.sectors;
        root = root_kept;
        map_labels = map_labels_kept;
        labels = subst (λ (s : Shapes). HasLabels (labels_of y) s) (sym shapes_grown)
            (subst (λ (l : List Label). HasLabels l (with_shape (shapes_of m.files) id (sized (size f + length is) (shape_of f)))) (sym g.labels) book.labels_right);
        bits = subst (MarksFit later) (sym g.labels) (bits_grown book.bits);
        triples = subst (HasTriples (grown_names id (size f) is named)) (sym g.labels) book.triples;
        cells = cells_grown;
        tables = record {
          pages = h.tables.pages;
          revealed = h.tables.revealed;
          count = h.tables.count;
          each = λ k t has. elim (sector_kept the_tables refl k t has) [
            | inl was ↦ h.tables.each k t was
            | inr (j, at, label) ↦
                let three = kind_tables (length y) k t.0 has.is in
                let own : t.0.id ≡ id = ap (λ (l : Label). l.id) label in
                let high = id_high in
                absurd (omega (arith, three, own, high))
          ];
        };
      }

pub grow_laws : (spaces_of : TablesMeaning) → GrowLaws spaces_of
grow_laws spaces_of = record {
  book = λ id kind is labels shapes marks named f are found short free h. book_grown {tables = 96} id kind is labels shapes marks named f f.size refl are found short free h;
  grown = λ x y m id f is found grows after h. record {
    named = grown_names id (size f) is h.named;
    map = grows.triples h.named h.map;
    by = all_grown spaces_of (is_marked x) (is_marked y) h.named x y m id f is found grows.grown grows.bits h.by after;
  };
}
