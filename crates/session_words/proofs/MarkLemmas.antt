-- A leader gets a mark.
use Rattle.std.proofs.Common.{◌≡◌, ◌≢◌, ◌⊎◌, inl, inr, ⊎_elim, ℕ, ◌+◌, ◌/◌, ◌%◌, ◌<◌, Bool, true, false, ◌&&◌, ◌||◌, List, [], ◌∷◌, ◌++◌, map, length, drop, take, Option, Some, None, refl, sym, ◌∙◌, ap, subst, arith}
use Rattle.std.specs.Prelude.{slice_get, option_map, nat_lt, ◌==◌, if◌then◌else◌}
use Rattle.std.specs.List.{flat_map}
use Rattle.std.specs.Option.{option_map_or}
use Rattle.std.proofs.lemmas.Option.{same_Some, none-some, slice_get-map, slice_get_within}
use Rattle.std.proofs.lemmas.Bool.{and_from, and_left, eq-eqb, ne_eqb, cases_eq}
use Rattle.std.proofs.lemmas.List.{length-map, drop-map, take-map}
use Rattle.labelled_disk.specs.declared.label.Label.{Label}
use Rattle.labelled_disk.specs.Label.{is_file, is_file_id, is_free, leader_page}
use Rattle.labelled_disk.specs.Layout.{vam, vfm}
use Rattle.labelled_disk.specs.Root.{page_in}
use Rattle.labelled_disk.specs.Sectors.{Sector}
use Rattle.labelled_disk.specs.File.{File, Page, file_at}
use Rattle.labelled_disk.proofs.AscendingLemmas.{at_id}
use Rattle.alloc_map.specs.Bits.{is_used}
use Rattle.file_map.specs.InSectors.{map_bytes}
use Rattle.flat_machine.specs.declared.call.Call.TheVariants.{MakePermanent, MakeImmutable}
use Rattle.flat_machine.specs.Machine.{Machine}
use Rattle.flat_machine.specs.IsMachine.{IsMachine}
use Rattle.flat_machine.specs.Next.{next, change_file}
use Rattle.flat_machine.proofs.FileLemmas.{look_up_changed, one_id, changed_here, unchanged}
use Rattle.flat_machine.specs.Refusal.{no_file, file_mapped}
use Rattle.flat_machine.proofs.TestLemmas.{one_none, two_none, file_there}
use Rattle.flat_machine.proofs.NextLemmas.{next_keeps_machine}
use Rattle.label_laws.specs.Marks.{permanent_label, immutable_label}
use Rattle.swapper_kernel.specs.Stands.{labels_of}
use Rattle.session_words.specs.Volume.{volume_page}
use Rattle.swapper_kernel.specs.Kinds.{kind_of}
use Rattle.session_words.specs.Parts.{Shape, shape_of, shapes_of, HasRoot, HasLabels, HasLeaders, HasMapLabels, MarksFit, HasTriples, IsLeader, TablesMeaning, is_owned, is_marked}
use Rattle.session_words.specs.StandsFor.{IsForBy, IsFor, StandsFor}
use Rattle.session_words.specs.MarkLaws.{marked_label, pages_of, Marks, MarkLaws}
use Rattle.swapper_kernel.specs.DiffersLaws.{label_here}
use Rattle.session_words.proofs.KnownLemmas.{frames_brought}
use Rattle.session_words.proofs.FoundLemmas.{above_reserved}
use Rattle.session_words.proofs.MapLemmas.{names_alike}
use Rattle.session_words.proofs.LooseLemmas.{volume_loose, names_id, goes_stands}
use Rattle.session_words.proofs.ShapeLemmas.{changed_from}
use Rattle.session_words.proofs.CellLemmas.{unrefused}
use Rattle.session_words.proofs.CallLemmas.{kind_tables}
use Rattle.session_words.proofs.SettledLemmas.{machine_shapes, shape_at}
use Rattle.session_words.proofs.MarkedLabelLemmas.{has_from, id_from, page_from, pages_marked, map_labels_marked, bits_marked, triples_marked, IsMark, either_label, is_immutable_mark, is_permanent_mark, leader_file}

-- the pages of sectors
page_here : (xs : List Sector) (k : ℕ) (s : Sector) → slice_get xs k ≡ Some s → slice_get (pages_of xs) k ≡ Some s.1
page_here xs k s at = slice_get-map (λ (t : Sector). t.1) xs k ∙ ap (option_map (λ (t : Sector). t.1)) at

page_in_pages : (xs : List Sector) (k : ℕ) → page_in (slice_get xs k) ≡ option_map_or (λ p. p) (slice_get (pages_of xs) k) []
page_in_pages xs k = either (slice_get xs k) ∙ sym (ap (λ (o : Option (List ℕ)). option_map_or (λ p. p) o []) (slice_get-map (λ (t : Sector). t.1) xs k))
  where
    either : (o : Option Sector) → page_in o ≡ option_map_or (λ p. p) (option_map (λ t. t.1) o) []
    either None = refl
    either (Some s) = refl

same_marks : (x y : List Sector) → pages_of y ≡ pages_of x → (i : ℕ) → is_marked y i ≡ is_marked x i
same_marks x y same i =
    ap (λ (p : List ℕ). is_used p (i % 4096))
    (page_in_pages y (1 + i / 4096) ∙ ap (λ (l : List (List ℕ)). option_map_or (λ p. p) (slice_get l (1 + i / 4096)) []) same ∙ sym (page_in_pages x (1 + i / 4096)))

same_long : (x y : List Sector) → pages_of y ≡ pages_of x → length y ≡ length x
same_long x y same = sym (length-map y (λ s. s.1)) ∙ ap (λ (l : List (List ℕ)). length l) same ∙ length-map x (λ s. s.1)

same_map_bytes : (x y : List Sector) → pages_of y ≡ pages_of x → map_bytes y ≡ map_bytes x
same_map_bytes x y same =
    taken y ∙ ap (λ (n : ℕ). flat_map (λ (p : List ℕ). p) (take (vfm n) (drop (1 + vam n) (pages_of y)))) (same_long x y same)
    ∙ ap (λ (l : List (List ℕ)). flat_map (λ (p : List ℕ). p) (take (vfm (length x)) (drop (1 + vam (length x)) l))) same ∙ sym (taken x)
  where
    joined : (ss : List Sector) → flat_map (λ (s : Sector). s.1) ss ≡ flat_map (λ (p : List ℕ). p) (pages_of ss)
    joined [] = refl
    joined (s ∷ ss) = ap (λ (l : List ℕ). s.1 ++ l) (joined ss)

    taken : (xs : List Sector) → map_bytes xs ≡ flat_map (λ (p : List ℕ). p) (take (vfm (length xs)) (drop (1 + vam (length xs)) (pages_of xs)))
    taken xs =
        joined (take (vfm (length xs)) (drop (1 + vam (length xs)) xs))
        ∙ ap (flat_map (λ (p : List ℕ). p))
        (sym (take-map (λ (s : Sector). s.1) (vfm (length xs)) (drop (1 + vam (length xs)) xs))
        ∙ ap (take (vfm (length xs))) (sym (drop-map (λ (s : Sector). s.1) (1 + vam (length xs)) xs)))

module _ (spaces_of : TablesMeaning) (id : ℕ) (mark : Label → Label) (change : File → File) (is : IsMark mark change) (x y : List Sector) (m : Machine) (f : File)
    (found : file_at m.files id ≡ Some f) (d : Marks id mark x y) (after_machine : IsMachine (record m { files = change_file id change m.files })) (h : IsFor spaces_of x m) where
  given : is_file_id id ≡ true
  given = (machine_shapes m h.by.machine (length x) (slice_get x 0) h.by.root).given id (shape_of f) (ap (λ (o : Option File). option_map shape_of o) found)

  long_y : length y ≡ length x
  long_y = same_long x y d.pages

  ids : (w : File) → (if w.id == id then change w else w).id ≡ w.id
  ids = one_id id change is.id_kept

  pages_same : (w : File) → (if w.id == id then change w else w).pages ≡ w.pages
  pages_same w = by (w.id == id)
    where
      by : (b : Bool) → (if b then change w else w).pages ≡ w.pages
      by true = is.pages_kept w
      by false = refl

  -- each sector, as it was
  was_there : (k : ℕ) (t : Sector) → slice_get y k ≡ Some t → (s : Sector) × (slice_get x k ≡ Some s) × (marked_label id mark s.0 ≡ t.0) × (s.1 ≡ t.1)
  was_there k t at = either (slice_get x k) refl
    where
      labels : option_map (marked_label id mark) (slice_get (labels_of x) k) ≡ Some t.0
      labels = sym (slice_get-map (marked_label id mark) (labels_of x) k) ∙ ap (λ (l : List Label). slice_get l k) (sym d.labels) ∙ label_here y k t at

      pages : slice_get (pages_of x) k ≡ Some t.1
      pages = ap (λ (l : List (List ℕ)). slice_get l k) (sym d.pages) ∙ page_here y k t at

      either : (o : Option Sector) → slice_get x k ≡ o → (s : Sector) × (slice_get x k ≡ Some s) × (marked_label id mark s.0 ≡ t.0) × (s.1 ≡ t.1)
      either None e = absurd (none-some t.1 (sym (ap (option_map (λ (s : Sector). s.1)) e) ∙ sym (slice_get-map (λ (s : Sector). s.1) x k) ∙ pages))
      either (Some s) e = (
        s,
        e,
        same_Some (marked_label id mark s.0) t.0 (sym (ap (option_map (marked_label id mark)) (label_here x k s e)) ∙ labels),
        same_Some s.1 t.1 (sym (page_here x k s e) ∙ pages),
      )

  -- a sector whose label is no leader's of this file
  same_sector : (k : ℕ) (t : Sector) → slice_get y k ≡ Some t → ((t.0.id ≢ id) ⊎ (t.0.page ≢ leader_page)) → slice_get x k ≡ Some t
  same_sector k t at other =
      let s = was_there k t at in
      let same : s.0.0 ≡ t.0 = elim (either_label id mark change is given s.0.0) [
        | inl kept ↦ sym kept ∙ s.2
        | inr (own, leader, new) ↦ absurd (⊎_elim (λ (q : t.0.id ≢ id). q (sym (id_from id mark change is given (labels_of x) s.0.0 t.0 s.2) ∙ own))
            (λ (q : t.0.page ≢ leader_page). q (sym (page_from id mark change is given (labels_of x) s.0.0 t.0 s.2) ∙ leader)) other)
      ] in
      s.1 ∙ (λ i. Some (same i, s.3 i))

  low_id : (n : ℕ) → n < 16 → n ≢ id
  low_id n low e = let a = above_reserved id given in omega (arith, low, e, a)

  root_kept : HasRoot (length y) (slice_get y 0) m.serial m.counter m.capacity
  root_kept = subst (λ (n : ℕ). HasRoot n (slice_get y 0) m.serial m.counter m.capacity) (sym long_y) (either (slice_get x 0) refl h.by.root)
    where
      either : (o : Option Sector) → slice_get x 0 ≡ o → HasRoot (length x) o m.serial m.counter m.capacity → HasRoot (length x) (slice_get y 0) m.serial m.counter m.capacity
      either None e r = absurd r.valid.label
      either (Some s) e r = subst (λ (o : Option Sector). HasRoot (length x) o m.serial m.counter m.capacity) (sym (back (slice_get y 0) refl)) r
        where
          back : (o : Option Sector) → slice_get y 0 ≡ o → slice_get y 0 ≡ Some s
          back None q = absurd (none-some s.1 (sym (ap (option_map (λ (t : Sector). t.1)) q) ∙ sym (slice_get-map (λ (t : Sector). t.1) y 0) ∙ ap (λ (l : List (List ℕ)). slice_get l 0) d.pages ∙ page_here x 0 s e))
          back (Some t) q =
              let w = was_there 0 t q in
              let ws : w.0 ≡ s = same_Some w.0 s (sym w.1 ∙ e) in
              let four : w.0.0.id ≡ 4 = ap (λ (z : Sector). z.0.id) ws ∙ names_id s.0 (record { id = 4; page = 0 }) r.valid.label in
              let t_id : t.0.id ≡ 4 = sym (id_from id mark change is given (labels_of x) w.0.0 t.0 w.2) ∙ four in
              let own = same_sector 0 t q (inl (λ z. low_id 4 (omega arith) (sym t_id ∙ z))) in
              q ∙ sym own ∙ e

  shape_at_id : (i : ℕ) → shapes_of (change_file id change m.files) i ≡ option_map (λ w. shape_of (if w.id == id then change w else w)) (file_at m.files i)
  shape_at_id i = ap (λ (o : Option File). option_map shape_of o) (look_up_changed (λ w. if w.id == id then change w else w) ids m.files i) ∙ twice (file_at m.files i)
    where
      twice : (o : Option File) → option_map shape_of (option_map (λ w. if w.id == id then change w else w) o) ≡ option_map (λ w. shape_of (if w.id == id then change w else w)) o
      twice None = refl
      twice (Some w) = refl

  owned_same : (i p : ℕ) → is_owned (shapes_of (change_file id change m.files)) i p ≡ is_owned (shapes_of m.files) i p
  owned_same i p = ap (λ (o : Option Shape). (i == 3 && nat_lt p 96) || option_map_or (λ (s : Shape). p == leader_page || nat_lt p s.size) o false) (shape_at_id i) ∙ by (file_at m.files i)
    where
      by : (o : Option File) → ((i == 3 && nat_lt p 96) || option_map_or (λ (s : Shape). p == leader_page || nat_lt p s.size) (option_map (λ w. shape_of (if w.id == id then change w else w)) o) false)
          ≡ ((i == 3 && nat_lt p 96) || option_map_or (λ (s : Shape). p == leader_page || nat_lt p s.size) (option_map shape_of o) false)
      by None = refl
      by (Some w) = ap (λ (ps : List Page). (i == 3 && nat_lt p 96) || (p == leader_page || nat_lt p (length ps))) (pages_same w)

  leaders_marked : HasLeaders (map (marked_label id mark) (labels_of x)) (shapes_of (change_file id change m.files))
  leaders_marked = record {
    reveal = λ k l sh has revealed leader.
        let w = has_from id mark change is given (labels_of x) k l has in
        let file = shape_at (change_file id change m.files) l.id sh revealed in
        let before = changed_from (λ v. if v.id == id then change v else v) ids m.files l.id file.0 file.1 in
        let old_id : w.0.id ≡ l.id = id_from id mark change is given (labels_of x) w.0 l w.2 in
        let old_page : w.0.page ≡ l.page = page_from id mark change is given (labels_of x) w.0 l w.2 in
        let lead : IsLeader w.0 (shape_of before.0) =
        h.by.labels.leaders.reveal k w.0 (shape_of before.0) w.1 (ap (shapes_of m.files) old_id ∙ ap (λ (o : Option File). option_map shape_of o) before.1) (old_page ∙ leader) in
        let at : before.0.id ≡ l.id = at_id m.files l.id before.0 before.1 in
        subst (IsLeader l) (ap shape_of (sym before.2) ∙ file.2)
        (⊎_elim
        (λ (q : l.id ≡ id).
        let here : (w.0.id == id && w.0.page == leader_page) ≡ true = and_from (w.0.id == id) (w.0.page == leader_page) (eq-eqb w.0.id id (old_id ∙ q)) (eq-eqb w.0.page leader_page (old_page ∙ leader)) in
        let new : mark w.0 ≡ l = sym (ap (λ (b : Bool). if b then mark w.0 else w.0) here) ∙ w.2 in
        let taken : is_free w.0 ≡ false = ne_eqb w.0.id 0 (λ z. low_id 0 (omega arith) (sym z ∙ old_id ∙ q)) in
        let file_label : is_file w.0 ≡ true = leader_file id mark change is given w.0 (old_id ∙ q) (h.by.labels.pages.only k w.0 w.1 taken).named in
        subst (λ (z : Label). IsLeader z (shape_of (if before.0.id == id then change before.0 else before.0))) new
        (subst (λ (z : File). IsLeader (mark w.0) (shape_of z)) (sym (changed_here id change before.0 (at ∙ q))) (is.leads w.0 before.0 file_label lead)))
        (λ (q : l.id ≢ id).
        let here : (w.0.id == id && w.0.page == leader_page) ≡ false = and_left (w.0.id == id) (w.0.page == leader_page) (ne_eqb w.0.id id (λ z. q (sym old_id ∙ z))) in
        let same : w.0 ≡ l = sym (ap (λ (b : Bool). if b then mark w.0 else w.0) here) ∙ w.2 in
        subst (λ (z : Label). IsLeader z (shape_of (if before.0.id == id then change before.0 else before.0))) same
        (subst (λ (z : File). IsLeader w.0 (shape_of z)) (sym (unchanged id change before.0 (λ z. q (sym at ∙ z)))) lead))
        (cases_eq l.id id));
  }

  by_marked : IsForBy spaces_of (is_marked y) h.named y (record m { files = change_file id change m.files })
  by_marked = record {
    machine = after_machine;
    sectors = d.sectors;
    root = root_kept;
    map_labels = subst HasMapLabels (sym d.labels) (map_labels_marked id mark change is given (labels_of x) h.by.map_labels);
    labels = subst (λ (l : List Label). HasLabels l (shapes_of (change_file id change m.files))) (sym d.labels)
        (record { pages = pages_marked id mark change is given (labels_of x) (is_owned (shapes_of m.files)) (is_owned (shapes_of (change_file id change m.files))) owned_same h.by.labels.pages; leaders = leaders_marked });
    bits = subst (MarksFit (is_marked y)) (sym d.labels) (bits_marked id mark change is given (labels_of x) (is_marked y) (subst (λ (b : ℕ → Bool). MarksFit b (labels_of x)) (λ i k. sym (same_marks x y d.pages k) i) h.by.bits));
    triples = subst (HasTriples h.named) (sym d.labels) (triples_marked id mark change is given (labels_of x) h.named h.by.triples);
    cells = record {
      agrees = λ k t w p has now page firm.
          let before = changed_from (λ v. if v.id == id then change v else v) ids m.files t.0.id w now in
          let was_page : slice_get before.0.pages t.0.page ≡ Some p = ap (λ (ps : List Page). slice_get ps t.0.page) (sym (ap (λ (v : File). v.pages) before.2 ∙ pages_same before.0)) ∙ page in
          let short = (machine_shapes m h.by.machine (length x) (slice_get x 0) h.by.root).short t.0.id (shape_of before.0) (ap (λ (o : Option File). option_map shape_of o) before.1) in
          let within = slice_get_within before.0.pages t.0.page p was_page in
          h.by.cells.agrees k t before.0 p
          (record { here = same_sector k t has.here (inr (λ q. omega (arith, q, short, within))); is = ap (λ (n : ℕ). kind_of n k t.0) (sym long_y) ∙ has.is })
          before.1 was_page firm;
    };
    tables = record {
      pages = h.by.tables.pages;
      revealed = h.by.tables.revealed;
      count = h.by.tables.count;
      each = λ k t has.
          let three = kind_tables (length y) k t.0 has.is in
          h.by.tables.each k t (record { here = same_sector k t has.here (inl (λ q. low_id 3 (omega arith) (sym three ∙ q))); is = ap (λ (n : ℕ). kind_of n k t.0) (sym long_y) ∙ has.is });
    };
  }

  all_marked : IsFor spaces_of y (record m { files = change_file id change m.files })
  all_marked = record { named = h.named; map = names_alike x y long_y (same_map_bytes x y d.pages) h.named h.map; by = by_marked }

module _ (spaces_of : TablesMeaning) where
  pub mark_laws : MarkLaws spaces_of
  mark_laws = record {
    permanent = λ id run old new before after m accepted goes known h.
        let becomes : next m (MakePermanent id) ≡ record m { files = change_file id (λ f. record f { permanent = true }) m.files } = unrefused m (MakePermanent id) accepted in
        let machine = subst IsMachine becomes (next_keeps_machine m (MakePermanent id) tt h.is.by.machine) in
        let there = file_there m id (one_none (no_file m id) accepted) in
        subst (λ (n : Machine). StandsFor spaces_of new after n) (sym becomes)
        (goes_stands spaces_of (Marks id permanent_label) volume_page run old new before after m (record m { files = change_file id (λ f. record f { permanent = true }) m.files }) (frames_brought before after m.spaces known)
        (λ x y marks k. all_marked spaces_of id permanent_label (λ f. record f { permanent = true }) is_permanent_mark x y m there.0 there.1 marks machine k)
        (λ i page l. l) (λ i page own. volume_loose m.unforced i page own) goes h);
    immutable = λ id run old new before after m accepted goes known h.
        let becomes : next m (MakeImmutable id) ≡ record m { files = change_file id (λ f. record f { immutable = true }) m.files } = unrefused m (MakeImmutable id) accepted in
        let machine = subst IsMachine becomes (next_keeps_machine m (MakeImmutable id) tt h.is.by.machine) in
        let there = file_there m id (two_none (no_file m id) (file_mapped m id (λ w. w.writable)) accepted).0 in
        subst (λ (n : Machine). StandsFor spaces_of new after n) (sym becomes)
        (goes_stands spaces_of (Marks id immutable_label) volume_page run old new before after m (record m { files = change_file id (λ f. record f { immutable = true }) m.files }) (frames_brought before after m.spaces known)
        (λ x y marks k. all_marked spaces_of id immutable_label (λ f. record f { immutable = true }) is_immutable_mark x y m there.0 there.1 marks machine k)
        (λ i page l. l) (λ i page own. volume_loose m.unforced i page own) goes h);
  }
