-- A file is cut.
use Rattle.std.proofs.Common.{◌≡◌, ◌≢◌, inr, ⊎_elim, ℕ, zero, suc, ◌<◌, ◌≤◌, Bool, true, false, ◌&&◌, ◌||◌, not, List, [], ◌∷◌, map, length, take, Option, Some, None, refl, sym, ◌∙◌, ap, subst, arith}
use Rattle.std.specs.Prelude.{slice_get, option_map, nat_lt, nat_le, ◌==◌, if◌then◌else◌}
use Rattle.std.specs.Option.{option_map_or}
use Rattle.std.proofs.lemmas.Option.{same_Some, none-some}
use Rattle.std.proofs.lemmas.Bool.{and_parts, eq-eqb, ne_eqb, eqb-true, eqb-false, cases_eq, cases_lt}
use Rattle.std.proofs.lemmas.List.{length-take-le}
use Rattle.labelled_disk.specs.declared.label.Label.{Label}
use Rattle.labelled_disk.specs.Label.{leader_page}
use Rattle.labelled_disk.specs.Sectors.{Sector}
use Rattle.labelled_disk.specs.File.{File, Page, size, file_at}
use Rattle.labelled_disk.proofs.AscendingLemmas.{at_id}
use Rattle.flat_machine.specs.Machine.{Machine}
use Rattle.flat_machine.specs.IsMachine.{IsMachine}
use Rattle.flat_machine.specs.Next.{change_file}
use Rattle.flat_machine.proofs.FileLemmas.{look_up_changed, one_id, changed_here, unchanged}
use Rattle.swapper_kernel.specs.Stands.{labels_of}
use Rattle.swapper_kernel.specs.Kinds.{the_tables, a_file}
use Rattle.session_words.specs.Parts.{Shape, Shapes, shape_of, shapes_of, HasLabels, HasMapLabels, HasCells, TablesMeaning, is_owned, is_marked, but_none}
use Rattle.session_words.specs.PlaceLaws.{with_shape, sized}
use Rattle.session_words.specs.StandsFor.{IsForBy, IsFor}
use Rattle.session_words.specs.FreeLaws.{free_where, AreOfFiles, Frees, cut_pages, cut, FreeLaws}
use Rattle.session_words.proofs.FoundLemmas.{above_reserved, file_id_of}
use Rattle.session_words.proofs.LooseLemmas.{kind_file}
use Rattle.session_words.proofs.ShapeLemmas.{changed_from}
use Rattle.session_words.proofs.CallLemmas.{kind_tables}
use Rattle.session_words.proofs.PlaceLemmas.{same_pages}
use Rattle.session_words.proofs.SettledLemmas.{machine_shapes}
use Rattle.session_words.proofs.FreeLemmas.{map_labels_gone, bits_freed, bits_gone, leaders_gone, pages_gone, root_kept, sector_kept, triples_freed, triples_gone}

-- A file is cut.

module _ (spaces_of : TablesMeaning) (x y : List Sector) (m : Machine) (id n : ℕ) (f : File) (found : file_at m.files id ≡ Some f) (few : n ≤ size f)
    (d : Frees (cut_pages id n) x y) (after_machine : IsMachine (record m { files = change_file id (cut n) m.files })) (h : IsFor spaces_of x m) where
  here : shapes_of m.files id ≡ Some (shape_of f)
  here = ap (λ (o : Option File). option_map shape_of o) found

  high : 16 ≤ id
  high = above_reserved id ((machine_shapes m h.by.machine (length x) (slice_get x 0) h.by.root).given id (shape_of f) here)

  short : size f < leader_page
  short = (machine_shapes m h.by.machine (length x) (slice_get x 0) h.by.root).short id (shape_of f) here

  reserved : AreOfFiles (cut_pages id n)
  reserved i p e = let own = eqb-true i id (and_parts (i == id) (nat_le n p && not (p == leader_page)) e).0 in let low = high in inr (omega arith)

  shapes_cut : (j : ℕ) → shapes_of (change_file id (cut n) m.files) j ≡ with_shape (shapes_of m.files) id (sized n (shape_of f)) j
  shapes_cut j = each (j == id) refl
    where
      each : (b : Bool) → (j == id) ≡ b → shapes_of (change_file id (cut n) m.files) j ≡ (if b then Some (sized n (shape_of f)) else shapes_of m.files j)
      each true e =
          let own : f.id ≡ id = at_id m.files id f found in
          let at : file_at m.files j ≡ Some f = ap (file_at m.files) (eqb-true j id e) ∙ found in
          ap (λ (o : Option File). option_map shape_of o) (look_up_changed (λ w. if w.id == id then cut n w else w) (one_id id (cut n) (λ w. refl)) m.files j
          ∙ ap (option_map (λ w. if w.id == id then cut n w else w)) at)
          ∙ ap (λ (w : File). Some (shape_of w)) (changed_here id (cut n) f own)
          ∙ (λ i. Some (record { kind = f.kind; permanent = f.permanent; immutable = f.immutable; size = length-take-le n f.pages few i }))
      each false e = ap (λ (o : Option File). option_map shape_of o) (look_up_changed (λ w. if w.id == id then cut n w else w) (one_id id (cut n) (λ w. refl)) m.files j) ∙ other (file_at m.files j) refl
        where
          other : (o : Option File) → file_at m.files j ≡ o → option_map shape_of (option_map (λ w. if w.id == id then cut n w else w) o) ≡ option_map shape_of o
          other None q = refl
          other (Some w) q = ap (λ (v : File). Some (shape_of v)) (unchanged id (cut n) w (λ r. eqb-false j id e (sym (at_id m.files j w q) ∙ r)))

  owned_cut : (i p : ℕ) → (not (cut_pages id n i p) && is_owned (shapes_of m.files) i p) ≡ is_owned (with_shape (shapes_of m.files) id (sized n (shape_of f))) i p
  owned_cut i p = each (i == id) refl
    where
      numbers : (not (nat_le n p && not (p == leader_page)) && ((p == leader_page) || nat_lt p (size f))) ≡ ((p == leader_page) || nat_lt p n)
      numbers = ⊎_elim
          (λ (q : p ≡ leader_page). let a : (p == leader_page) ≡ true = eq-eqb p leader_page q in rw a (ends (nat_le n p)))
          (λ (q : p ≢ leader_page).
          let a : (p == leader_page) ≡ false = ne_eqb p leader_page q in
          ⊎_elim
          (λ (l : p < n). let b : nat_le n p ≡ false = grind arith in let c : nat_lt p (size f) ≡ true = grind arith in let e : nat_lt p n ≡ true = grind arith in rw (a, b, c, e) refl)
          (λ (l : n ≤ p). let b : nat_le n p ≡ true = grind arith in let e : nat_lt p n ≡ false = grind arith in rw (a, b, e) refl)
          (cases_lt p n))
          (cases_eq p leader_page)
        where
          ends : (a : Bool) → (not (a && false) && true) ≡ true
          ends true = refl
          ends false = refl

      each : (b : Bool) → (i == id) ≡ b
          → (not (b && (nat_le n p && not (p == leader_page))) && ((i == 3 && nat_lt p 96) || option_map_or (λ g. p == leader_page || nat_lt p g.size) (shapes_of m.files i) false))
          ≡ ((i == 3 && nat_lt p 96) || option_map_or (λ g. p == leader_page || nat_lt p g.size) (if b then Some (sized n (shape_of f)) else shapes_of m.files i) false)
      each true e =
          let low = high in
          let three : (i == 3) ≡ false = ne_eqb i 3 (λ q. omega (arith, q, low, eqb-true i id e)) in
          (λ j. not (nat_le n p && not (p == leader_page)) && ((three j && nat_lt p 96) || option_map_or (λ (g : Shape). p == leader_page || nat_lt p g.size) ((ap (shapes_of m.files) (eqb-true i id e) ∙ here) j) false))
          ∙ numbers ∙ ap (λ (b : Bool). (b && nat_lt p 96) || ((p == leader_page) || nat_lt p n)) (sym three)
      each false e = refl

  get_take_some : (k j : ℕ) (ps : List Page) (p : Page) → slice_get (take k ps) j ≡ Some p → slice_get ps j ≡ Some p
  get_take_some zero j ps p at = absurd (none-some p at)
  get_take_some (suc k) j [] p at = absurd (none-some p at)
  get_take_some (suc k) zero (q ∷ ps) p at = at
  get_take_some (suc k) (suc j) (q ∷ ps) p at = get_take_some k j ps p at

  cells_cut : HasCells but_none y (change_file id (cut n) m.files)
  cells_cut = record {
    agrees = λ k t w p has now page none.
        let low = above_reserved t.0.id (file_id_of t.0 (kind_file (length y) k t.0 has.is)) in
        let was = sector_kept (cut_pages id n) reserved x y d a_file refl k t has (omega (arith, low)) in
        let v = changed_from (λ w. if w.id == id then cut n w else w) (one_id id (cut n) (λ v. refl)) m.files t.0.id w now in
        h.by.cells.agrees k t v.0 p was.0 v.1 (⊎_elim
        (λ (q : v.0.id ≡ id). get_take_some n t.0.page v.0.pages p (ap (λ (u : File). slice_get u.pages t.0.page) (sym (v.2 ∙ changed_here id (cut n) v.0 q)) ∙ page))
        (λ (q : v.0.id ≢ id). ap (λ (u : File). slice_get u.pages t.0.page) (sym (v.2 ∙ unchanged id (cut n) v.0 q)) ∙ page)
        (cases_eq v.0.id id)) refl;
  }

  leaders_from : (i : ℕ) (g : Shape) → with_shape (shapes_of m.files) id (sized n (shape_of f)) i ≡ Some g
      → (e : Shape) × (shapes_of m.files i ≡ Some e) × (e.kind ≡ g.kind) × (e.permanent ≡ g.permanent) × (e.immutable ≡ g.immutable)
  leaders_from i g = each (i == id) refl
    where
      each : (b : Bool) → (i == id) ≡ b → (if b then Some (sized n (shape_of f)) else shapes_of m.files i) ≡ Some g
          → (e : Shape) × (shapes_of m.files i ≡ Some e) × (e.kind ≡ g.kind) × (e.permanent ≡ g.permanent) × (e.immutable ≡ g.immutable)
      each true q is =
          let same = same_Some (sized n (shape_of f)) g is in
          (shape_of f, ap (shapes_of m.files) (eqb-true i id q) ∙ here, ap (λ (s : Shape). s.kind) same, ap (λ (s : Shape). s.permanent) same, ap (λ (s : Shape). s.immutable) same)
      each false q is = (g, is, refl, refl, refl)

  by_cut : IsForBy spaces_of (is_marked y) (λ i p s. not (cut_pages id n i p) && h.named i p s) y (record m { files = change_file id (cut n) m.files })
  by_cut = record {
    machine = after_machine;
    sectors = d.sectors;
    root = root_kept (cut_pages id n) reserved x y d m.serial m.counter m.capacity h.by.root;
    map_labels = subst HasMapLabels (sym d.labels) (map_labels_gone (labels_of x) (cut_pages id n) reserved h.by.map_labels);
    labels = subst (λ (l : List Label). HasLabels l (shapes_of (change_file id (cut n) m.files))) (sym d.labels)
        (subst (λ (s : Shapes). HasLabels (map (free_where (cut_pages id n)) (labels_of x)) s) (λ i j. sym (shapes_cut j) i)
        (record {
          pages = same_pages (map (free_where (cut_pages id n)) (labels_of x)) (λ i p. not (cut_pages id n i p) && is_owned (shapes_of m.files) i p) (is_owned (with_shape (shapes_of m.files) id (sized n (shape_of f)))) owned_cut
              (pages_gone (labels_of x) (cut_pages id n) (is_owned (shapes_of m.files)) h.by.labels.pages);
          leaders = leaders_gone (labels_of x) (cut_pages id n) (shapes_of m.files) (with_shape (shapes_of m.files) id (sized n (shape_of f))) leaders_from (λ i g at. above_reserved i ((machine_shapes m h.by.machine (length x) (slice_get x 0) h.by.root).given i g at)) h.by.labels.leaders;
        }));
    bits = bits_freed (cut_pages id n) reserved x y d h.by.bits;
    triples = triples_freed (cut_pages id n) reserved x y d h.named h.by.triples;
    cells = cells_cut;
    tables = record {
      pages = h.by.tables.pages;
      revealed = h.by.tables.revealed;
      count = h.by.tables.count;
      each = λ k t has.
          let three = kind_tables (length y) k t.0 has.is in
          h.by.tables.each k t (sector_kept (cut_pages id n) reserved x y d the_tables refl k t has (omega (arith, three))).0;
    };
  }

  pub all_cut : IsFor spaces_of y (record m { files = change_file id (cut n) m.files })
  all_cut = record { named = λ i p s. not (cut_pages id n i p) && h.named i p s; map = d.triples h.named h.map; by = by_cut }

pub free_laws : (spaces_of : TablesMeaning) → FreeLaws spaces_of
free_laws spaces_of = record {
  pages = λ labels gone owned h. pages_gone labels gone owned h;
  bits = λ labels gone marks later h says others. bits_gone labels gone marks later h says others;
  triples = λ labels gone named later h says. triples_gone labels gone named later h says;
  cut_file = λ x y m id n f found few d after h. all_cut spaces_of x y m id n f found few d after h;
}
