-- A leader that gets a mark: the volume's labels and maps are those of its files, of which this one has the mark.
use Rattle.std.proofs.Common.{◌≡◌, ◌≢◌, inl, inr, ℕ, ◌+◌, ◌/◌, ◌%◌, ◌<◌, ◌≤◌, Bool, true, false, ◌||◌, ◌&&◌, List, [], ◌∷◌, ◌++◌, length, drop, take, Option, Some, None, refl, sym, ◌∙◌, ap, subst, arith}
use Rattle.std.specs.Prelude.{slice_get, option_map, nat_lt, ◌==◌, if◌then◌else◌, IsSomeAnd, IsTrue}
use Rattle.std.specs.List.{flat_map}
use Rattle.std.specs.Option.{option_map_or}
use Rattle.std.proofs.lemmas.Option.{same_Some, slice_get-map}
use Rattle.std.proofs.lemmas.Bool.{and_from, and_left, cases_eq, eq-eqb, eqb-true, ne_eqb}
use Rattle.std.proofs.lemmas.List.{length-map, drop-map, take-map}
use Rattle.labelled_disk.specs.declared.label.Label.{Label}
use Rattle.labelled_disk.specs.declared.layout.Layout.{Layout}
use Rattle.labelled_disk.specs.File.{File}
use Rattle.labelled_disk.specs.Label.{is_file, is_file_id, leader_page, names}
use Rattle.labelled_disk.specs.Layout.{vam, vfm}
use Rattle.labelled_disk.specs.Root.{page_in}
use Rattle.labelled_disk.specs.Sectors.{Sector}
use Rattle.alloc_map.specs.Bits.{is_used}
use Rattle.file_map.specs.declared.run.Run.{Run}
use Rattle.file_map.specs.InSectors.{map_bytes}
use Rattle.swapper_kernel.specs.DiffersLaws.{names_id}
use Rattle.swapper_kernel.specs.Stands.{labels_of}
use Rattle.session_words.specs.Found.{AreShapes}
use Rattle.session_words.specs.MarkLaws.{Marks, marked_label, pages_of}
use Rattle.session_words.specs.Parts.{HasLabel, HasLabelsUpto, HasMapLabels, HasTriples, IsLeader, MarksFit, Shape, Shapes, is_marked, is_owned_upto}
use Rattle.session_words.specs.PlaceLaws.{with_shape}
use Rattle.session_words.proofs.FoundLemmas.{above_reserved}
use Rattle.session_words.proofs.MapLemmas.{names_alike}
use Rattle.session_words.proofs.MarkedLabelLemmas.{IsMark, bits_marked, either_label, has_from, leader_file, map_labels_marked, pages_marked, triples_marked}
use Rattle.file_manager.specs.Book.{AreTrue, IsBookedUpto}

-- ---- Sectors with the same pages.

page_in_pages : (xs : List Sector) (k : ℕ) → page_in (slice_get xs k) ≡ option_map_or (λ p. p) (slice_get (pages_of xs) k) []
page_in_pages xs k = either (slice_get xs k) ∙ sym (ap (λ (o : Option (List ℕ)). option_map_or (λ p. p) o []) (slice_get-map (λ (t : Sector). t.1) xs k))
  where
    either : (o : Option Sector) → page_in o ≡ option_map_or (λ p. p) (option_map (λ t. t.1) o) []
    either None = refl
    either (Some s) = refl

pub same_marks : (x y : List Sector) → pages_of y ≡ pages_of x → (i : ℕ) → is_marked y i ≡ is_marked x i
same_marks x y same i =
    ap (λ (p : List ℕ). is_used p (i % 4096))
    (page_in_pages y (1 + i / 4096) ∙ ap (λ (l : List (List ℕ)). option_map_or (λ p. p) (slice_get l (1 + i / 4096)) []) same ∙ sym (page_in_pages x (1 + i / 4096)))

pub same_long : (x y : List Sector) → pages_of y ≡ pages_of x → length y ≡ length x
same_long x y same = sym (length-map y (λ s. s.1)) ∙ ap (λ (l : List (List ℕ)). length l) same ∙ length-map x (λ s. s.1)

same_map_bytes : (x y : List Sector) → pages_of y ≡ pages_of x → map_bytes y ≡ map_bytes x
same_map_bytes x y same =
    taken y ∙ ap (λ (n : ℕ). flat_map (λ (p : List ℕ). p) (take (vfm n) (drop (1 + vam n) (pages_of y)))) (same_long x y same)
    ∙ ap (λ (l : List (List ℕ)). flat_map (λ (p : List ℕ). p) (take (vfm (length x)) (drop (1 + vam (length x)) l))) same ∙ sym (taken x)
  where
    joined : (ss : List Sector) → flat_map (λ (s : Sector). s.1) ss ≡ flat_map (λ (p : List ℕ). p) (pages_of ss)
    joined [] = refl
    joined (s ∷ ss) = ap (λ (l : List ℕ). s.1 ++ l) (joined ss)

    taken : (xs : List Sector) → map_bytes xs ≡ flat_map (λ (p : List ℕ). p) (take (vfm (length xs)) (drop (1 + vam (length xs)) (pages_of xs)))
    taken xs =
        joined (take (vfm (length xs)) (drop (1 + vam (length xs)) xs))
        ∙ ap (flat_map (λ (p : List ℕ). p))
        (sym (take-map (λ (s : Sector). s.1) (vfm (length xs)) (drop (1 + vam (length xs)) xs))
        ∙ ap (take (vfm (length xs))) (sym (drop-map (λ (s : Sector). s.1) (1 + vam (length xs)) xs)))

-- ---- The mark.

module _ (layout : Layout) (shapes : Shapes) (x y : List Sector) {runs : List Run} (b : IsBookedUpto 0 layout runs shapes x) (id : ℕ) (mark : Label → Label) (change : File → File) (is : IsMark mark change) (given : is_file_id id ≡ true)
    (f marked : Shape) (found : shapes id ≡ Some f) (same_size : marked.size ≡ f.size) (leads : (l : Label) → is_file l ≡ true → IsLeader l f → IsLeader (mark l) marked) (d : Marks id mark x y) where
  high : 16 ≤ id
  high = above_reserved id given

  marked_shapes_are : AreShapes (with_shape shapes id marked)
  marked_shapes_are = record {
    given = λ i h there. given_of i h (i == id) refl there;
    short = λ i h there. short_of i h (i == id) there;
  }
    where
      given_of : (i : ℕ) (h : Shape) (c : Bool) → (i == id) ≡ c → (if c then Some marked else shapes i) ≡ Some h → is_file_id i ≡ true
      given_of i h true e there = ap is_file_id (eqb-true i id e) ∙ given
      given_of i h false e there = b.files.given i h there

      short_of : (i : ℕ) (h : Shape) (c : Bool) → (if c then Some marked else shapes i) ≡ Some h → h.size < leader_page
      short_of i h true there = let size : marked.size ≡ h.size = ap (λ (w : Shape). w.size) (same_Some marked h there) in let short = b.files.short id f found in omega (arith, size, same_size, short)
      short_of i h false there = b.files.short i h there

  same_owned : (i p : ℕ) → is_owned_upto 0 (with_shape shapes id marked) i p ≡ is_owned_upto 0 shapes i p
  same_owned i p = by (i == id) refl
    where
      size_too : option_map_or (λ (g : Shape). p == leader_page || nat_lt p g.size) (Some marked) false ≡ option_map_or (λ (g : Shape). p == leader_page || nat_lt p g.size) (Some f) false
      size_too = ap (λ (n : ℕ). p == leader_page || nat_lt p n) same_size

      by : (c : Bool) → (i == id) ≡ c → ((i == 3 && nat_lt p 0) || option_map_or (λ (g : Shape). p == leader_page || nat_lt p g.size) (if c then Some marked else shapes i) false) ≡ is_owned_upto 0 shapes i p
      by true e =
          ap (λ (o : Bool). (i == 3 && nat_lt p 0) || o) size_too
          ∙ ap (λ (o : Option Shape). (i == 3 && nat_lt p 0) || option_map_or (λ (g : Shape). p == leader_page || nat_lt p g.size) o false) (sym found ∙ ap shapes (sym (eqb-true i id e)))
      by false e = refl

  marked_leader : (k : ℕ) (l : Label) (g : Shape) → (w : Label) → HasLabel (labels_of x) k w → marked_label id mark w ≡ l → with_shape shapes id marked l.id ≡ Some g → l.page ≡ leader_page → IsLeader l g
  marked_leader k l g w has is_l there leader = elim (either_label id mark change is given w) [
    | inr (own, first, new) ↦
        let made : mark w ≡ l = sym new ∙ is_l in
        let owned = b.labels.pages.only k w has (ne_eqb w.id 0 (λ z. let h = high in omega (arith, z, own, h))) in
        let file = leader_file id mark change is given w own owned.named in
        let was = b.labels.leaders.reveal k w f has (ap shapes own ∙ found) first in
        let same : l.id ≡ id = ap (λ (v : Label). v.id) (sym made) ∙ is.same_id w ∙ own in
        let shape : marked ≡ g = same_Some marked g (sym (ap (λ (c : Bool). if c then Some marked else shapes l.id) (eq-eqb l.id id same)) ∙ there) in
        subst (λ (s : Shape). IsLeader l s) shape (subst (λ (v : Label). IsLeader v marked) made (leads w file was))
    | inl same ↦
        let l_is : w ≡ l = sym same ∙ is_l in
        elim (cases_eq w.id id) [
          | inl own ↦
              let first : w.page ≡ leader_page = ap (λ (v : Label). v.page) l_is ∙ leader in
              let both : (w.id == id && w.page == leader_page) ≡ true = and_from (w.id == id) (w.page == leader_page) (eq-eqb w.id id own) (eq-eqb w.page leader_page first) in
              let made : mark w ≡ l = sym (ap (λ (c : Bool). if c then mark w else w) both) ∙ is_l in
              let owned = b.labels.pages.only k w has (ne_eqb w.id 0 (λ z. let h = high in omega (arith, z, own, h))) in
              let file = leader_file id mark change is given w own owned.named in
              let was = b.labels.leaders.reveal k w f has (ap shapes own ∙ found) first in
              let same_id : l.id ≡ id = ap (λ (v : Label). v.id) (sym l_is) ∙ own in
              let shape : marked ≡ g = same_Some marked g (sym (ap (λ (c : Bool). if c then Some marked else shapes l.id) (eq-eqb l.id id same_id)) ∙ there) in
              subst (λ (s : Shape). IsLeader l s) shape (subst (λ (v : Label). IsLeader v marked) made (leads w file was))
          | inr other ↦
              let apart : l.id ≢ id = λ q. other (ap (λ (v : Label). v.id) l_is ∙ q) in
              let shape : shapes l.id ≡ Some g = sym (ap (λ (c : Bool). if c then Some marked else shapes l.id) (ne_eqb l.id id apart)) ∙ there in
              b.labels.leaders.reveal k l g (subst (λ (v : Label). HasLabel (labels_of x) k v) l_is has) shape leader
        ]
  ]

  root_label_still : IsSomeAnd (slice_get (labels_of y) 0) (λ l. IsTrue (names l (record { id = 4; page = 0 })))
  root_label_still = subst (λ (o : Option Label). IsSomeAnd o (λ l. IsTrue (names l (record { id = 4; page = 0 })))) (sym (ap (λ (ls : List Label). slice_get ls 0) d.labels ∙ slice_get-map (marked_label id mark) (labels_of x) 0)) (either (slice_get (labels_of x) 0) b.root_label)
    where
      either : (o : Option Label) → IsSomeAnd o (λ l. IsTrue (names l (record { id = 4; page = 0 }))) → IsSomeAnd (option_map (marked_label id mark) o) (λ l. IsTrue (names l (record { id = 4; page = 0 })))
      either None root = absurd root
      either (Some l) root =
          let four = names_id l (record { id = 4; page = 0 }) root in
          let stays : marked_label id mark l ≡ l = ap (λ (c : Bool). if c then mark l else l) (and_left (l.id == id) (l.page == leader_page) (ne_eqb l.id id (λ e. let h = high in omega (arith, e, four, h)))) in
          subst (λ (v : Label). names v (record { id = 4; page = 0 }) ≡ true) (sym stays) root

  pub marked_booked : {later : List Run} → AreTrue (labels_of y) later → IsBookedUpto 0 layout later (with_shape shapes id marked) y
  marked_booked kept = record {
    sectors = d.sectors;
    long = same_long x y d.pages ∙ b.long;
    files = marked_shapes_are;
    root_label = root_label_still;
    map_labels = subst HasMapLabels (sym d.labels) (map_labels_marked id mark change is given (labels_of x) b.map_labels);
    labels = subst (λ (ls : List Label). HasLabelsUpto 0 ls (with_shape shapes id marked)) (sym d.labels) (record {
      pages = pages_marked id mark change is given (labels_of x) (is_owned_upto 0 shapes) (is_owned_upto 0 (with_shape shapes id marked)) same_owned b.labels.pages;
      leaders = record { reveal = λ k l g has there leader. let w = has_from id mark change is given (labels_of x) k l has in marked_leader k l g w.0 w.1 w.2 there leader };
    });
    bits = subst (λ (m : ℕ → Bool). MarksFit m (labels_of y)) (λ j i. sym (same_marks x y d.pages i) j) (subst (MarksFit (is_marked x)) (sym d.labels) (bits_marked id mark change is given (labels_of x) (is_marked x) b.bits));
    named = b.named;
    map = names_alike x y (same_long x y d.pages) (same_map_bytes x y d.pages) b.named b.map;
    triples = subst (HasTriples b.named) (sym d.labels) (triples_marked id mark change is given (labels_of x) b.named b.triples);
    kept = kept;
  }
