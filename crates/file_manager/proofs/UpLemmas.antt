-- Run after run, up to a page.
use Rattle.std.proofs.Common.{◌≡◌, ◌≢◌, ◌⊎◌, inl, inr, ⊎_elim, ℕ, zero, suc, ◌+◌, ◌-◌, ◌*◌, ◌<◌, ◌≤◌, Bool, true, false, not, cond, ◌||◌, List, [], ◌∷◌, ◌++◌, length, Some, refl, sym, ◌∙◌, ap, subst, arith, length-set}
use Rattle.std.specs.Prelude.{slice_get, slice_set, ◌==◌, if◌then◌else◌, count_by, IsSomeAnd, IsTrue}
use Rattle.std.specs.List.{range_with_len}
use Rattle.std.proofs.lemmas.Option.{same_Some, slice_get_within}
use Rattle.std.proofs.lemmas.Bool.{eq-eqb, ne_eqb, eqb-true, cases_eq}
use Rattle.std.proofs.lemmas.List.{length-map, length-append}
use Rattle.std.proofs.lemmas.List.Sums.{sum_by-cons}
use Rattle.std.proofs.lemmas.List.FromFn.{length-range_with_len}
use Rattle.labelled_disk.specs.declared.disk.DiskWrite.{DiskWrite}
use Rattle.labelled_disk.specs.declared.label.Label.{Label}
use Rattle.labelled_disk.specs.declared.layout.Layout.{Layout}
use Rattle.labelled_disk.specs.Label.{is_free, is_file_id, names, leader_page, page_label}
use Rattle.labelled_disk.specs.Layout.{first_data, vam}
use Rattle.labelled_disk.specs.Runs.{growth}
use Rattle.labelled_disk.specs.Sectors.{Sector}
use Rattle.labelled_disk.specs.State.{DiskState}
use Rattle.labelled_disk.proofs.Finds.{get_set_same, get_set_other}
use Rattle.frame_pool.specs.Frames.{Slots}
use Rattle.file_map.specs.declared.run.Run.{Run}
use Rattle.swapper_kernel.specs.Homes.{IsLayout}
use Rattle.swapper_kernel.specs.Stands.{Stands, labels_of}
use Rattle.swapper_kernel.specs.Goes.{Goes}
use Rattle.swapper_kernel.specs.GoesLaws.{goes_then}
use Rattle.swapper_kernel.specs.HaltLaws.{brings_then}
use Rattle.filer_kernel.specs.declared.cached.CachedRuns.{CachedRuns}
use Rattle.filer_kernel.specs.Cached.{runs_of}
use Rattle.flat_machine.specs.declared.space.Space.{Space}
use Rattle.session_words.specs.Parts.{Shape, Shapes, HasLabel, HasLabelsUpto, HasMapLabels, MarksFit, HasTriples, is_owned_upto, is_marked}
use Rattle.session_words.specs.PlaceLaws.{with_shape, sized}
use Rattle.session_words.specs.GrowLaws.{IsBookUpto, AreFree, Grows, grown_labels, grown_marks, grown_names}
use Rattle.session_words.specs.Volume.{volume_page}
use Rattle.session_words.proofs.BitLemmas.{bits_alike}
use Rattle.session_words.proofs.FoundLemmas.{owner_upto, above_reserved}
use Rattle.session_words.proofs.GrownLemmas.{book_grown, grown_long, map_labels_grown, with_here}
use Rattle.session_words.specs.Found.{AreShapes}
use Rattle.file_manager.proofs.BookLemmas.{root_label_grown}
use Rattle.file_manager.specs.Book.{BooksUpto, Leads}
use Rattle.file_manager.specs.Making.{AreUnownedUpto, MayGrowUpto, free_count, sectors_of}
use Rattle.file_manager.proofs.GrowSteps.{growth_append, grows_then, long_grown}
use Rattle.file_manager.proofs.RunStages.{first_is, vam_is, in_bits}
use Rattle.file_manager.proofs.RunLeads.{own_known}

-- Free sectors that become fewer.

abbrev one : Bool → ℕ
one b = cond b 1 0

count_more : (p : ℕ → Bool) (y : ℕ) (ys : List ℕ) → count_by p (y ∷ ys) ≡ one (p y) + count_by p ys
count_more p y ys = sum_by-cons (λ x. one (p x)) y ys

pub count_same : (p q : ℕ → Bool) (a n : ℕ) → ((k : ℕ) → a ≤ k → k < a + n → p k ≡ q k) → count_by p (range_with_len a n) ≡ count_by q (range_with_len a n)
count_same p q a zero same = refl
count_same p q a (suc n) same =
    let x = count_more p a (range_with_len (a + 1) n) in
    let y = count_more q a (range_with_len (a + 1) n) in
    let here : one (p a) ≡ one (q a) = ap one (same a (omega arith) (omega arith)) in
    let rest = count_same p q (a + 1) n (λ k above below. same k (omega (arith, above)) (omega (arith, below))) in
    omega (arith, x, y, here, rest)

count_less : (marks : ℕ → Bool) (i a n : ℕ) → a ≤ i → i < a + n → marks i ≡ false → count_by (λ k. not (k == i || marks k)) (range_with_len a n) + 1 ≡ count_by (λ k. not (marks k)) (range_with_len a n)
count_less marks i a zero above below free = absurd (omega (arith, above, below))
count_less marks i a (suc n) above below free = either (cases_eq a i) (λ b c. count_less marks i (a + 1) n b c free)
  where
    either : (a ≡ i) ⊎ (a ≢ i) → (a + 1 ≤ i → i < a + 1 + n → count_by (λ k. not (k == i || marks k)) (range_with_len (a + 1) n) + 1 ≡ count_by (λ k. not (marks k)) (range_with_len (a + 1) n))
        → count_by (λ k. not (k == i || marks k)) (range_with_len a (suc n)) + 1 ≡ count_by (λ k. not (marks k)) (range_with_len a (suc n))
    either (inl here) beyond =
        let x = count_more (λ k. not (k == i || marks k)) a (range_with_len (a + 1) n) in
        let y = count_more (λ k. not (marks k)) a (range_with_len (a + 1) n) in
        let p : ◌≡◌ {A = ℕ} (one (not (a == i || marks a))) 0 = ap (λ (b : Bool). one (not (b || marks a))) (eq-eqb a i here) in
        let q : ◌≡◌ {A = ℕ} (one (not (marks a))) 1 = ap (λ (b : Bool). one (not b)) (ap marks here ∙ free) in
        let rest = count_same (λ k. not (k == i || marks k)) (λ k. not (marks k)) (a + 1) n (λ k up down. ap (λ (b : Bool). not (b || marks k)) (ne_eqb k i (λ z. omega (arith, z, up, here)))) in
        omega (arith, x, y, p, q, rest)
    either (inr other) beyond =
        let x = count_more (λ k. not (k == i || marks k)) a (range_with_len (a + 1) n) in
        let y = count_more (λ k. not (marks k)) a (range_with_len (a + 1) n) in
        let p : one (not (a == i || marks a)) ≡ one (not (marks a)) = ap (λ (b : Bool). one (not (b || marks a))) (ne_eqb a i other) in
        let rest = beyond (omega (arith, above, other)) (omega (arith, below)) in
        omega (arith, x, y, p, rest)

-- bits of data sectors say whether their labels are free
abbrev SayFree : (ℕ → Bool) → List Label → Type 0
SayFree marks labels = (k : ℕ) (l : Label) → HasLabel labels k l → marks k ≡ not (is_free l)

free_falls : (id kind page : ℕ) (is : List ℕ) (labels : List Label) (marks : ℕ → Bool) → 0 < id → AreFree id kind page is labels → SayFree marks labels
    → count_by (λ k. not (grown_marks is marks k)) (range_with_len (first_data (length labels)) (length labels - first_data (length labels))) + length is ≡ count_by (λ k. not (marks k)) (range_with_len (first_data (length labels)) (length labels - first_data (length labels)))
free_falls id kind page [] labels marks some free say = omega arith
free_falls id kind page (i ∷ is) labels marks some free say =
    let within = slice_get_within labels i free.0.label free.0.there.here in
    let above = free.0.there.is_data in
    let unmarked : marks i ≡ false = say i free.0.label free.0.there ∙ ap not free.0.free in
    let less = count_less marks i (first_data (length labels)) (length labels - first_data (length labels)) above (omega (arith, within, above)) unmarked in
    let long : length (slice_set labels i (page_label id kind page)) ≡ length labels = length-set labels i (page_label id kind page) in
    let rest = free_falls id kind (page + 1) is (slice_set labels i (page_label id kind page)) (λ k. k == i || marks k) some free.1 (still i free.0.there.here) in
    let same = subst (λ (n : ℕ). count_by (λ k. not (grown_marks is (λ k. k == i || marks k) k)) (range_with_len (first_data n) (n - first_data n)) + length is ≡ count_by (λ k. not (k == i || marks k)) (range_with_len (first_data n) (n - first_data n))) long rest in
    omega (arith, less, same)
  where
    still : (i : ℕ) {old : Label} → slice_get labels i ≡ Some old → SayFree (λ k. k == i || marks k) (slice_set labels i (page_label id kind page))
    still i here k l has = ⊎_elim
        (λ (q : k ≡ i).
        let inside = slice_get_within labels i _ here in
        let own : page_label id kind page ≡ l = same_Some (page_label id kind page) l (sym (get_set_same labels i (page_label id kind page) inside) ∙ ap (slice_get (slice_set labels i (page_label id kind page))) (sym q) ∙ has.here) in
        let taken : is_free l ≡ false = ap is_free (sym own) ∙ ne_eqb id 0 (omega (arith, some)) in
        ap (λ (b : Bool). b || marks k) (eq-eqb k i q) ∙ sym (ap not taken))
        (λ (q : k ≢ i). ap (λ (b : Bool). b || marks k) (ne_eqb k i q)
        ∙ say k l (record { is_data = subst (λ (n : ℕ). first_data n ≤ k) (length-set labels i (page_label id kind page)) has.is_data; here = sym (get_set_other labels i k (page_label id kind page) q) ∙ has.here }))
        (cases_eq k i)

-- the memory has so many free sectors fewer
pub free_left : {tables : ℕ} (layout : Layout) (is_layout : IsLayout layout) (kept : CachedRuns) (shapes : Shapes) (spaces : List Space) (x : List Sector) (d0 : DiskState) (s0 : Slots) (books : BooksUpto tables d0 s0 layout kept shapes spaces x)
    (id kind page : ℕ) (is : List ℕ) → 0 < id → (y : List Sector) → Grows id kind page is x y → free_count layout y + length is ≡ free_count layout x
free_left layout is_layout kept shapes spaces x d0 s0 books id kind page is some y grows =
    let booked = books.booked in
    let runs = runs_of layout.sectors kept in
    let falls = free_falls id kind page is (labels_of x) (is_marked x) some grows.grown.free booked.bits.bits in
    let long : length (labels_of x) ≡ layout.sectors = length-map x (λ s. s.0) ∙ booked.long in
    let first : first_data layout.sectors ≡ layout.first = sym (first_is layout is_layout runs shapes x booked ∙ ap first_data booked.long) in
    let all = subst (λ (a : ℕ). count_by (λ k. not (grown_marks is (is_marked x) k)) (range_with_len a (layout.sectors - a)) + length is ≡ count_by (λ k. not (is_marked x k)) (range_with_len a (layout.sectors - a))) first
    (subst (λ (n : ℕ). count_by (λ k. not (grown_marks is (is_marked x) k)) (range_with_len (first_data n) (n - first_data n)) + length is ≡ count_by (λ k. not (is_marked x k)) (range_with_len (first_data n) (n - first_data n))) long falls) in
    let same = count_same (λ k. not (is_marked y k)) (λ k. not (grown_marks is (is_marked x) k)) layout.first (layout.sectors - layout.first) (λ k above below.
    ap not (grows.bits k (subst (λ (v : ℕ). k < 4096 * v) (vam_is layout is_layout runs shapes x booked) (in_bits layout is_layout runs shapes x booked k (omega (arith, above, below)))))) in
    omega (arith, all, same)

module _ {tables : ℕ} (layout : Layout) (is_layout : IsLayout layout) (kept : CachedRuns) (shapes : Shapes) (spaces : List Space) (x : List Sector) (d0 : DiskState) (s0 : Slots)
    (id kind : ℕ) (f : Shape) (end : ℕ) (may : MayGrowUpto tables d0 s0 layout kept shapes spaces id f end x) (short : end < leader_page)
    (is : List ℕ) (page : ℕ) (reached : f.size + length is ≡ page) (within : page ≤ end) (d : DiskState) (s : Slots)
    (leads : Leads (Grows id kind f.size is) (growth id kind f.size is) d0 s0 layout d s kept) where
  -- the memory that is made
  pub after : (y : List Sector) × Stands d s y × Grows id kind f.size is x y
  after = leads.goes.memory x may.books.stands

  pub shapes_then : Shapes
  shapes_then = with_shape shapes id (sized page f)

  high : 16 ≤ id
  high = above_reserved id (may.are.given id f may.found)

  grown_book : IsBookUpto tables (grown_labels id kind f.size is (labels_of x)) (with_shape shapes id (sized (f.size + length is) f)) (grown_marks is (is_marked x)) (grown_names id f.size is may.books.booked.named)
  grown_book = book_grown id kind is (labels_of x) shapes (is_marked x) may.books.booked.named f f.size refl may.are may.found (omega (arith, reached, within, short)) after.2.grown.free
      (record { labels_right = may.books.booked.labels; bits = may.books.booked.bits; triples = may.books.booked.triples })

  long_then : length after.0 ≡ length x
  long_then = long_grown id kind f.size is x after.0 after.2.grown.labels

  long_labels : length (grown_labels id kind f.size is (labels_of x)) ≡ length x
  long_labels = grown_long id kind f.size is (labels_of x) ∙ length-map x (λ s. s.0)

  sized_are : AreShapes (with_shape shapes id (sized page f))
  sized_are = record {
    given = λ i h found. given i h (i == id) refl found;
    short = λ i h found. short_of i h (i == id) found;
  }
    where
      given : (i : ℕ) (h : Shape) (b : Bool) → (i == id) ≡ b → (if b then Some (sized page f) else shapes i) ≡ Some h → is_file_id i ≡ true
      given i h true e found = ap is_file_id (eqb-true i id e) ∙ may.are.given id f may.found
      given i h false e found = may.are.given i h found

      short_of : (i : ℕ) (h : Shape) (b : Bool) → (if b then Some (sized page f) else shapes i) ≡ Some h → h.size < leader_page
      short_of i h true found = let size : page ≡ h.size = ap (λ (w : Shape). w.size) (same_Some (sized page f) h found) in omega (arith, size, within, short)
      short_of i h false found = may.are.short i h found

  pub books_then : BooksUpto tables d s layout kept (with_shape shapes id (sized page f)) spaces after.0
  books_then =
      let booked = may.books.booked in
      let some : 1 ≤ length (grown_labels id kind f.size is (labels_of x)) = let a = long_labels in let b = booked.long in let c = is_layout.0.0 in omega (arith, a, b, c) in
      record {
        stands = after.1;
        booked = record {
          sectors = after.2.grown.sectors;
          long = long_then ∙ booked.long;
          files = sized_are;
          root_label = subst (λ (l : List Label). IsSomeAnd (slice_get l 0) (λ m. IsTrue (names m (record { id = 4; page = 0 })))) (sym after.2.grown.labels)
              (root_label_grown id kind f.size is (labels_of x) after.2.grown.free booked.root_label);
          map_labels = subst HasMapLabels (sym after.2.grown.labels) (map_labels_grown id kind f.size is (labels_of x) after.2.grown.free booked.map_labels);
          labels = subst (λ (l : List Label). HasLabelsUpto tables l (with_shape shapes id (sized page f))) (sym after.2.grown.labels)
              (subst (λ (n : ℕ). HasLabelsUpto tables (grown_labels id kind f.size is (labels_of x)) (with_shape shapes id (sized n f))) reached grown_book.labels_right);
          bits = subst (MarksFit (is_marked after.0)) (sym after.2.grown.labels) (bits_alike (grown_labels id kind f.size is (labels_of x)) (grown_marks is (is_marked x)) (is_marked after.0) some
              (λ k below. after.2.bits k (subst (λ (n : ℕ). k < 4096 * vam n) long_labels below)) grown_book.bits);
          named = grown_names id f.size is booked.named;
          map = after.2.triples booked.named booked.map;
          triples = subst (HasTriples (grown_names id f.size is booked.named)) (sym after.2.grown.labels) grown_book.triples;
          kept = leads.true_runs after.0 after.1;
        };
        frames = own_known s0 s spaces leads.brings may.books.frames;
      }

  pub unowned_then : AreUnownedUpto tables (with_shape shapes id (sized page f)) id page (end - page)
  unowned_then p above below = either (is_owned_upto tables (with_shape shapes id (sized page f)) id p) refl
    where
      either : (b : Bool) → is_owned_upto tables (with_shape shapes id (sized page f)) id p ≡ b → is_owned_upto tables (with_shape shapes id (sized page f)) id p ≡ false
      either false e = e
      either true e =
          let h = high in
          let g = owner_upto tables (with_shape shapes id (sized page f)) id p (λ q. omega (arith, q, h)) e in
          let same : g.0 ≡ sized page f = same_Some g.0 (sized page f) (sym g.1 ∙ with_here shapes id (sized page f)) in
          let size : g.0.size ≡ page = ap (λ (w : Shape). w.size) same in
          absurd (⊎_elim (λ (q : p ≡ leader_page). omega (arith, q, below, within, short)) (λ (q : p < g.0.size). omega (arith, q, size, above)) g.2)

  pub free_then : free_count layout after.0 + length is ≡ free_count layout x
  free_then = let h = high in free_left layout is_layout kept shapes spaces x d0 s0 may.books id kind f.size is (omega (arith, h)) after.0 after.2

  pub some_then : page < end → 1 ≤ free_count layout after.0
  some_then below = let falls = free_then in let enough = may.enough in omega (arith, falls, enough, reached, below)

  -- a run more
  pub run_then : (run : Run) (d2 : DiskState) (s2 : Slots) → Leads (Grows id kind page (sectors_of run)) (growth id kind page (sectors_of run)) d s layout d2 s2 kept
      → Leads (Grows id kind f.size (is ++ sectors_of run)) (growth id kind f.size (is ++ sectors_of run)) d0 s0 layout d2 s2 kept
  run_then run d2 s2 next =
      let here = subst (λ (n : ℕ). Leads (Grows id kind n (sectors_of run)) (growth id kind n (sectors_of run)) d s layout d2 s2 kept) (sym reached) next in
      record {
        goes = subst (λ (ws : List DiskWrite). Goes (Grows id kind f.size (is ++ sectors_of run)) volume_page ws d0 s0 d2 s2) (sym (growth_append id kind f.size is (sectors_of run)))
            (goes_then (Grows id kind f.size is) (Grows id kind (f.size + length is) (sectors_of run)) (Grows id kind f.size (is ++ sectors_of run)) (λ m n o g h. grows_then id kind f.size is (sectors_of run) m n o g h) leads.goes here.goes);
        brings = brings_then leads.brings here.brings;
        true_runs = here.true_runs;
      }

pub longer : (is : List ℕ) (run : Run) (from page : ℕ) → from + length is ≡ page → from + length (is ++ sectors_of run) ≡ page + run.pages
longer is run from page reached =
    let a = length-append is (sectors_of run) in
    let b = length-range_with_len run.sector run.pages in
    omega (arith, a, b, reached)
