-- A file that is made: the volume's labels and maps are those of its files and of this one.
use Rattle.std.proofs.Common.{◌≡◌, ℕ, ◌+◌, ◌*◌, ◌<◌, ◌≤◌, Bool, true, false, not, ◌||◌, ◌&&◌, List, [], ◌∷◌, length, Some, None, refl, sym, ◌∙◌, ap, subst, arith}
use Rattle.std.specs.Prelude.{slice_get, ◌==◌, if◌then◌else◌, IsSomeAnd, IsTrue}
use Rattle.std.proofs.lemmas.Option.{same_Some, none-some}
use Rattle.std.proofs.lemmas.Bool.{eq-eqb, ne_eqb, eqb-true}
use Rattle.std.proofs.lemmas.List.{length-map}
use Rattle.labelled_disk.specs.declared.label.Label.{Label}
use Rattle.labelled_disk.specs.declared.layout.Layout.{Layout}
use Rattle.labelled_disk.specs.Label.{is_free, is_file_id, names, leader_page, page_label}
use Rattle.labelled_disk.specs.Layout.{vam}
use Rattle.labelled_disk.specs.Sectors.{Sector}
use Rattle.file_map.specs.declared.run.Run.{Run}
use Rattle.swapper_kernel.specs.Homes.{IsLayout}
use Rattle.swapper_kernel.specs.Stands.{labels_of}
use Rattle.session_words.specs.Parts.{Shape, Shapes, HasLabelsUpto, HasMapLabels, MarksFit, HasTriples, is_owned_upto, is_marked}
use Rattle.session_words.specs.Found.{AreShapes}
use Rattle.session_words.specs.PlaceLaws.{IsMade, with_shape, shape_by, sized}
use Rattle.session_words.specs.GrowLaws.{Grows, IsBookUpto, grown_labels, grown_marks, grown_names}
use Rattle.session_words.proofs.BitLemmas.{bits_alike}
use Rattle.session_words.proofs.BookLemmas.{bits_set, triples_made}
use Rattle.session_words.proofs.FoundLemmas.{above_reserved}
use Rattle.session_words.proofs.GrownLemmas.{book_grown, page_label_named, grown_long, map_labels_grown}
use Rattle.session_words.proofs.PlaceLemmas.{labels_created}
use Rattle.file_manager.specs.Book.{AreTrue, IsBookedUpto}
use Rattle.file_manager.proofs.BookLemmas.{root_label_grown}
use Rattle.file_manager.proofs.GrowSteps.{long_grown}
use Rattle.file_manager.proofs.LeaderLemmas.{unowned_file}

-- the shape of a leader that was just made
abbrev pub led_shape : ℕ → ℕ → Shape
led_shape id kind = shape_by (page_label id kind leader_page)

-- its leader is made
module _ (layout : Layout) (is_layout : IsLayout layout) (shapes : Shapes) (x : List Sector) (booked : IsBookedUpto 0 layout [] shapes x) (id kind : ℕ) (of_file : is_file_id id ≡ true) (none : shapes id ≡ None)
    (leader : ℕ) (y : List Sector) (g : Grows id kind leader_page (leader ∷ []) x y) where
  led_shapes_are : AreShapes (with_shape shapes id (led_shape id kind))
  led_shapes_are = record {
    given = λ i h found. given i h (i == id) refl found;
    short = λ i h found. short i h (i == id) found;
  }
    where
      given : (i : ℕ) (h : Shape) (b : Bool) → (i == id) ≡ b → (if b then Some (led_shape id kind) else shapes i) ≡ Some h → is_file_id i ≡ true
      given i h true e found = ap is_file_id (eqb-true i id e) ∙ of_file
      given i h false e found = booked.files.given i h found

      short : (i : ℕ) (h : Shape) (b : Bool) → (if b then Some (led_shape id kind) else shapes i) ≡ Some h → h.size < leader_page
      short i h true found = let size : 0 ≡ h.size = ap (λ (w : Shape). w.size) (same_Some (led_shape id kind) h found) in omega (arith, size)
      short i h false found = booked.files.short i h found

  pub led_booked : IsBookedUpto 0 layout [] (with_shape shapes id (led_shape id kind)) y
  led_booked =
      let high = above_reserved id of_file in
      let free = g.grown.free.0 in
      let taken : is_free (page_label id kind leader_page) ≡ false = ne_eqb id 0 (omega (arith, high)) in
      let made : IsMade (labels_of x) leader (page_label id kind leader_page) (is_owned_upto 0 shapes) = record {
        old = free.label;
        there = free.there;
        free = free.free;
        taken = taken;
        named = page_label_named id kind leader_page;
        fresh = unowned_file 0 shapes id leader_page 1 high none leader_page (omega arith) (omega arith);
      } in
      let long : length (grown_labels id kind leader_page (leader ∷ []) (labels_of x)) ≡ length x = grown_long id kind leader_page (leader ∷ []) (labels_of x) ∙ length-map x (λ s. s.0) in
      let some : 1 ≤ length (grown_labels id kind leader_page (leader ∷ []) (labels_of x)) = let b = booked.long in let c = is_layout.0.0 in omega (arith, long, b, c) in
      let bits : MarksFit (grown_marks (leader ∷ []) (is_marked x)) (grown_labels id kind leader_page (leader ∷ []) (labels_of x)) =
      bits_set (labels_of x) (is_marked x) (λ k. k == leader || is_marked x k) leader (page_label id kind leader_page) free.label booked.bits free.there
      (ap (λ (b : Bool). b || is_marked x leader) (eq-eqb leader leader refl) ∙ ap not (sym taken))
      (λ k below other. ap (λ (b : Bool). b || is_marked x k) (ne_eqb k leader other)) in
      let triples : HasTriples (grown_names id leader_page (leader ∷ []) booked.named) (grown_labels id kind leader_page (leader ∷ []) (labels_of x)) =
      triples_made (labels_of x) booked.named (λ j p s. (j == id && p == leader_page && s == leader) || booked.named j p s) leader free.label (page_label id kind leader_page) booked.triples free.there free.free taken (λ j p s. refl) in
      record {
        sectors = g.grown.sectors;
        long = long_grown id kind leader_page (leader ∷ []) x y g.grown.labels ∙ booked.long;
        files = led_shapes_are;
        root_label = subst (λ (l : List Label). IsSomeAnd (slice_get l 0) (λ m. IsTrue (names m (record { id = 4; page = 0 })))) (sym g.grown.labels)
            (root_label_grown id kind leader_page (leader ∷ []) (labels_of x) g.grown.free booked.root_label);
        map_labels = subst HasMapLabels (sym g.grown.labels) (map_labels_grown id kind leader_page (leader ∷ []) (labels_of x) g.grown.free booked.map_labels);
        labels = subst (λ (l : List Label). HasLabelsUpto 0 l (with_shape shapes id (led_shape id kind))) (sym g.grown.labels)
            (labels_created (labels_of x) leader (page_label id kind leader_page) shapes booked.labels made (λ q. omega (arith, q, high)) none refl);
        bits = subst (MarksFit (is_marked y)) (sym g.grown.labels) (bits_alike (grown_labels id kind leader_page (leader ∷ []) (labels_of x)) (grown_marks (leader ∷ []) (is_marked x)) (is_marked y) some
            (λ k below. g.bits k (subst (λ (n : ℕ). k < 4096 * vam n) long below)) bits);
        named = grown_names id leader_page (leader ∷ []) booked.named;
        map = g.triples booked.named booked.map;
        triples = subst (HasTriples (grown_names id leader_page (leader ∷ []) booked.named)) (sym g.grown.labels) triples;
        kept = λ k r here. absurd (none-some r here);
      }

-- then its pages are
module _ (layout : Layout) (is_layout : IsLayout layout) (shapes : Shapes) (x : List Sector) (booked : IsBookedUpto 0 layout [] shapes x) (id kind : ℕ) (f : Shape) (found : shapes id ≡ Some f)
    (is : List ℕ) (y : List Sector) (g : Grows id kind f.size is x y) (short : f.size + length is < leader_page) where
  abbrev pages : ℕ
  pages = f.size + length is

  grown_book : IsBookUpto 0 (grown_labels id kind f.size is (labels_of x)) (with_shape shapes id (sized (f.size + length is) f)) (grown_marks is (is_marked x)) (grown_names id f.size is booked.named)
  grown_book = book_grown id kind is (labels_of x) shapes (is_marked x) booked.named f f.size refl booked.files found short g.grown.free (record { labels_right = booked.labels; bits = booked.bits; triples = booked.triples })

  grown_shapes_are : AreShapes (with_shape shapes id (sized (f.size + length is) f))
  grown_shapes_are = record {
    given = λ i h there. given i h (i == id) refl there;
    short = λ i h there. short_of i h (i == id) there;
  }
    where
      given : (i : ℕ) (h : Shape) (b : Bool) → (i == id) ≡ b → (if b then Some (sized (f.size + length is) f) else shapes i) ≡ Some h → is_file_id i ≡ true
      given i h true e there = ap is_file_id (eqb-true i id e) ∙ booked.files.given id f found
      given i h false e there = booked.files.given i h there

      short_of : (i : ℕ) (h : Shape) (b : Bool) → (if b then Some (sized (f.size + length is) f) else shapes i) ≡ Some h → h.size < leader_page
      short_of i h true there = let size : f.size + length is ≡ h.size = ap (λ (w : Shape). w.size) (same_Some (sized (f.size + length is) f) h there) in omega (arith, size, short)
      short_of i h false there = booked.files.short i h there

  pub grown_booked : (runs : List Run) → AreTrue (labels_of y) runs → IsBookedUpto 0 layout runs (with_shape shapes id (sized (f.size + length is) f)) y
  grown_booked runs kept =
      let long : length (grown_labels id kind f.size is (labels_of x)) ≡ length x = grown_long id kind f.size is (labels_of x) ∙ length-map x (λ s. s.0) in
      let some : 1 ≤ length (grown_labels id kind f.size is (labels_of x)) = let b = booked.long in let c = is_layout.0.0 in omega (arith, long, b, c) in
      record {
        sectors = g.grown.sectors;
        long = long_grown id kind f.size is x y g.grown.labels ∙ booked.long;
        files = grown_shapes_are;
        root_label = subst (λ (l : List Label). IsSomeAnd (slice_get l 0) (λ m. IsTrue (names m (record { id = 4; page = 0 })))) (sym g.grown.labels)
            (root_label_grown id kind f.size is (labels_of x) g.grown.free booked.root_label);
        map_labels = subst HasMapLabels (sym g.grown.labels) (map_labels_grown id kind f.size is (labels_of x) g.grown.free booked.map_labels);
        labels = subst (λ (l : List Label). HasLabelsUpto 0 l (with_shape shapes id (sized (f.size + length is) f))) (sym g.grown.labels) grown_book.labels_right;
        bits = subst (MarksFit (is_marked y)) (sym g.grown.labels) (bits_alike (grown_labels id kind f.size is (labels_of x)) (grown_marks is (is_marked x)) (is_marked y) some
            (λ k below. g.bits k (subst (λ (n : ℕ). k < 4096 * vam n) long below)) grown_book.bits);
        named = grown_names id f.size is booked.named;
        map = g.triples booked.named booked.map;
        triples = subst (HasTriples (grown_names id f.size is booked.named)) (sym g.grown.labels) grown_book.triples;
        kept = kept;
      }
