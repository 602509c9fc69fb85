-- A session's close.
use Rattle.std.proofs.Common.{◌≡◌, ◌≢◌, ◌⊎◌, inl, inr, ℕ, ◌+◌, ◌≤◌, Bool, true, false, ◌&&◌, ◌||◌, not, List, map, length, filter, Option, Some, None, refl, sym, ◌∙◌, ap, subst, arith}
use Rattle.std.specs.Prelude.{slice_get, option_map, nat_lt, ◌==◌, if◌then◌else◌}
use Rattle.std.specs.Option.{option_map_or}
use Rattle.std.proofs.lemmas.Option.{same_Some, none-some}
use Rattle.std.proofs.lemmas.Bool.{eqb-true, true≢false, false≢true}
use Rattle.labelled_disk.specs.declared.label.Label.{Label}
use Rattle.labelled_disk.specs.Label.{is_free, leader_page}
use Rattle.labelled_disk.specs.Layout.{data_sectors, first_data}
use Rattle.labelled_disk.specs.Lowest.{is_needed}
use Rattle.labelled_disk.specs.Sectors.{Sector}
use Rattle.labelled_disk.specs.File.{File, file_at}
use Rattle.labelled_disk.specs.FilesOn.{disk_file}
use Rattle.labelled_disk.specs.Ascending.{BothBy}
use Rattle.labelled_disk.specs.Root.{serial_of, counter_of}
use Rattle.labelled_disk.proofs.LowestLemmas as lowest
use Rattle.labelled_disk.proofs.AscendingLemmas.{at_id, each_at}
use Rattle.flat_machine.specs.declared.call.Call.TheVariants.{Close}
use Rattle.flat_machine.specs.Machine.{Machine, IsFileId}
use Rattle.flat_machine.specs.Next.{next}
use Rattle.flat_machine.proofs.NextLemmas.{next_keeps_machine}
use Rattle.label_laws.specs.AllPermanent.{if_permanent}
use Rattle.label_laws.proofs.PermanentLemmas.{at_permanents, one}
use Rattle.swapper_kernel.specs.Stands.{labels_of}
use Rattle.swapper_kernel.specs.Kinds.{a_file}
use Rattle.session_words.specs.Parts.{Shape, shape_of, shapes_of, HasLabelsUpto, HasMapLabels, TablesMeaning, is_owned, is_owned_upto}
use Rattle.session_words.specs.StandsFor.{IsFor, IsSettled}
use Rattle.session_words.specs.FreeLaws.{AreOfFiles, Frees, free_where}
use Rattle.session_words.specs.CloseLaws.{is_closing, IsClosed, Closed}
use Rattle.session_words.proofs.FoundLemmas.{above_reserved, file_id_of, file_label, owner_upto, from_data}
use Rattle.session_words.proofs.FreeLemmas.{pages_gone, leaders_gone, bits_freed, triples_freed, map_labels_gone, sector_kept, root_kept}
use Rattle.session_words.proofs.LooseLemmas.{kind_file}
use Rattle.session_words.proofs.PlaceLemmas.{same_pages}
use Rattle.session_words.proofs.SettledLemmas.{Reveals, both, right_all, settled_is_revealed, machine_shapes, shape_at}

module _ (spaces_of : TablesMeaning) (x y : List Sector) (m : Machine) (h : IsFor spaces_of x m) (d : Frees (is_closing m.files) x y) where
  high : (id : ℕ) (f : File) → file_at m.files id ≡ Some f → 16 ≤ id
  high id f found = let given = (each_at (λ w. IsFileId m.serial m.counter w.id) m.files h.by.machine.ids_given id f found).above_reserved in omega (arith, given, at_id m.files id f found)

  shape_high : (id : ℕ) (f : Shape) → shapes_of m.files id ≡ Some f → 16 ≤ id
  shape_high id f is = let g = shape_at m.files id f is in high id g.0 g.1

  reserved : AreOfFiles (is_closing m.files)
  reserved id page is = by (id == 3) refl (file_at m.files id) refl is
    where
      by : (b : Bool) → (id == 3) ≡ b → (o : Option File) → file_at m.files id ≡ o → (b || option_map_or (λ f. not f.permanent) o false) ≡ true → (id ≡ 3) ⊎ (16 ≤ id)
      by true e o q k = inl (eqb-true id 3 e)
      by false e None q k = absurd (false≢true k)
      by false e (Some f) q k = inr (high id f q)

  -- the permanent files, by identifier
  shape_after : (id : ℕ) → shapes_of (filter (λ f. f.permanent) m.files) id ≡ option_map shape_of (if_permanent (file_at m.files id))
  shape_after id = ap (λ (o : Option File). option_map shape_of o) (at_permanents m.files h.by.machine.ids_rise id)

  no_three : file_at m.files 3 ≡ None
  no_three = by (file_at m.files 3) refl
    where
      by : (o : Option File) → file_at m.files 3 ≡ o → file_at m.files 3 ≡ None
      by None e = e
      by (Some f) e = let low = high 3 f e in absurd (omega (arith, low))

  owned_after : (i p : ℕ) → (not (is_closing m.files i p) && is_owned (shapes_of m.files) i p) ≡ is_owned_upto 0 (shapes_of (filter (λ f. f.permanent) m.files)) i p
  owned_after i p =
      by (i == 3) refl (file_at m.files i) refl
      ∙ sym (ap (λ (o : Option Shape). (i == 3 && nat_lt p 0) || option_map_or (λ f. p == leader_page || nat_lt p f.size) o false) (shape_after i))
    where
      none : nat_lt p 0 ≡ false
      none = grind arith

      of : (f : File) (b : Bool) → f.permanent ≡ b
          → (not (not b) && (p == leader_page || nat_lt p (shape_of f).size)) ≡ option_map_or (λ (s : Shape). p == leader_page || nat_lt p s.size) (option_map shape_of (if b then Some f else None)) false
      of f true e = refl
      of f false e = refl

      by : (b : Bool) → (i == 3) ≡ b → (o : Option File) → file_at m.files i ≡ o
          → (not (b || option_map_or (λ f. not f.permanent) o false) && ((b && nat_lt p 96) || option_map_or (λ f. p == leader_page || nat_lt p f.size) (option_map shape_of o) false))
          ≡ ((b && nat_lt p 0) || option_map_or (λ f. p == leader_page || nat_lt p f.size) (option_map shape_of (if_permanent o)) false)
      by true e None q = sym (ap (λ (c : Bool). c || false) none)
      by true e (Some f) q = absurd (none-some f (sym no_three ∙ ap (file_at m.files) (sym (eqb-true i 3 e)) ∙ q))
      by false e None q = refl
      by false e (Some f) q = of f f.permanent refl

  -- a permanent file is one of all
  was_file : (id : ℕ) (f : File) → file_at (filter (λ f. f.permanent) m.files) id ≡ Some f → (file_at m.files id ≡ Some f) × (f.permanent ≡ true)
  was_file id f found = by (file_at m.files id) refl (sym (at_permanents m.files h.by.machine.ids_rise id) ∙ found)
    where
      of : (g : File) (b : Bool) → g.permanent ≡ b → (if b then Some g else None) ≡ Some f → (g ≡ f) × (f.permanent ≡ true)
      of g true e k = let same = same_Some g f k in (same, ap (λ (w : File). w.permanent) (sym same) ∙ e)
      of g false e k = absurd (none-some f k)

      by : (o : Option File) → file_at m.files id ≡ o → if_permanent o ≡ Some f → (file_at m.files id ≡ Some f) × (f.permanent ≡ true)
      by None e k = absurd (none-some f k)
      by (Some g) e k = let r = of g g.permanent refl k in (e ∙ ap (λ (w : File). Some w) r.0, r.1)

  leaders_from : (i : ℕ) (g : Shape) → shapes_of (filter (λ f. f.permanent) m.files) i ≡ Some g
      → (f : Shape) × (shapes_of m.files i ≡ Some f) × (f.kind ≡ g.kind) × (f.permanent ≡ g.permanent) × (f.immutable ≡ g.immutable)
  leaders_from i g is =
      let f = shape_at (filter (λ f. f.permanent) m.files) i g is in
      let was = was_file i f.0 f.1 in
      (g, ap (λ (o : Option File). option_map shape_of o) was.0 ∙ ap (λ (s : Shape). Some s) f.2, refl, refl, refl)

  settled_after : IsSettled y (next m Close)
  settled_after = record {
    machine = next_keeps_machine m Close tt h.by.machine;
    sectors = d.sectors;
    root = root_kept (is_closing m.files) reserved x y d m.serial m.counter m.capacity h.by.root;
    map_labels = subst HasMapLabels (sym d.labels) (map_labels_gone (labels_of x) (is_closing m.files) reserved h.by.map_labels);
    table_pages = 0;
    labels = subst (λ (l : List Label). HasLabelsUpto 0 l (shapes_of (filter (λ f. f.permanent) m.files))) (sym d.labels) (record {
      pages = same_pages (map (free_where (is_closing m.files)) (labels_of x)) (λ i p. not (is_closing m.files i p) && is_owned (shapes_of m.files) i p) (is_owned_upto 0 (shapes_of (filter (λ f. f.permanent) m.files))) owned_after
          (pages_gone (labels_of x) (is_closing m.files) (is_owned (shapes_of m.files)) h.by.labels.pages);
      leaders = leaders_gone (labels_of x) (is_closing m.files) (shapes_of m.files) (shapes_of (filter (λ f. f.permanent) m.files)) leaders_from shape_high h.by.labels.leaders;
    });
    cells = record {
      agrees = λ k t f p has found page firm.
          let low = above_reserved t.0.id (file_id_of t.0 (kind_file (length y) k t.0 has.is)) in
          let was = sector_kept (is_closing m.files) reserved x y d a_file refl k t has (λ z. omega (arith, z, low)) in
          h.by.cells.agrees k t f p was.0 (was_file t.0.id f found).0 page refl;
    };
  }

  free_or_needed : (i : ℕ) (s : Sector) → slice_get (data_sectors y) i ≡ Some s → (is_free s.0 ≡ true) ⊎ (is_needed false (data_sectors y) i ≡ true)
  unfolding settled_after
  free_or_needed i s here = by (is_free s.0) refl
    where
      by : (b : Bool) → is_free s.0 ≡ b → (is_free s.0 ≡ true) ⊎ (is_needed false (data_sectors y) i ≡ true)
      by true e = inl e
      by false e =
          let label = from_data 0 y (shapes_of (filter (λ f. f.permanent) m.files)) settled_after.labels (machine_shapes (next m Close) settled_after.machine (length y) (slice_get y 0) settled_after.root) i s here in
          let owns = settled_after.labels.pages.only (first_data (length y) + i) s.0 label e in
          let three : s.0.id ≢ 3 = λ q. true≢false (sym owns.is ∙ ap (λ (n : ℕ). is_owned_upto 0 (shapes_of (filter (λ f. f.permanent) m.files)) n s.0.page) q ∙ tables_gone s.0.page) in
          let f = owner_upto 0 (shapes_of (filter (λ f. f.permanent) m.files)) s.0.id s.0.page three owns.is in
          let file = shape_at (filter (λ f. f.permanent) m.files) s.0.id f.0 f.1 in
          let given = (machine_shapes (next m Close) settled_after.machine (length y) (slice_get y 0) settled_after.root).given s.0.id f.0 f.1 in
          let g = on_disk s.0.id file.0 file.1 in
          inr (lowest.right_are_needed false (serial_of y) (counter_of y) y i s g.0 (settled_is_revealed y (next m Close) settled_after).right.files here (file_label s.0 given owns.named) g.1)
        where
          tables_gone : (p : ℕ) → is_owned_upto 0 (shapes_of (filter (λ f. f.permanent) m.files)) 3 p ≡ false
          tables_gone p =
              ap (λ (c : Bool). c || option_map_or (λ (f : Shape). p == leader_page || nat_lt p f.size) (shapes_of (filter (λ f. f.permanent) m.files) 3) false) (let a : nat_lt p 0 ≡ false = grind arith in a)
              ∙ ap (λ (o : Option Shape). option_map_or (λ (f : Shape). p == leader_page || nat_lt p f.size) o false) (shape_after 3 ∙ ap (λ (o : Option File). option_map shape_of (if_permanent o)) no_three)

          on_disk : (id : ℕ) (f : File) → file_at (filter (λ f. f.permanent) m.files) id ≡ Some f → (g : File) × (disk_file false y id ≡ Some g)
          on_disk id f found = of (disk_file true y id) refl (subst (λ (o : Option File). BothBy (Reveals y (next m Close) settled_after) (disk_file true y id) o) found (both y (next m Close) settled_after id))
            where
              of : (o : Option File) → disk_file true y id ≡ o → BothBy (Reveals y (next m Close) settled_after) o (Some f) → (g : File) × (disk_file false y id ≡ Some g)
              of None q k = absurd k
              of (Some g) q k =
                  let mark : g.permanent ≡ true = ap (λ (s : Shape). s.permanent) k.same_shape ∙ (was_file id f found).1 in
                  (g, one m.serial m.counter y (right_all y (next m Close) settled_after) id ∙ ap if_permanent q ∙ ap (λ (b : Bool). if b then Some g else None) mark)

  pub closed : IsClosed m y
  closed = record {
    can_open = record {
      sectors = d.sectors;
      right = (settled_is_revealed y (next m Close) settled_after).right;
      free_or_needed = free_or_needed;
      bits = bits_freed (is_closing m.files) reserved x y d h.by.bits;
      named = λ i p s. not (is_closing m.files i p) && h.named i p s;
      map = d.triples h.named h.map;
      triples = triples_freed (is_closing m.files) reserved x y d h.named h.by.triples;
    };
    root = settled_after.root;
    revealed = settled_is_revealed y (next m Close) settled_after;
  }

pub closed_law : (spaces_of : TablesMeaning) → Closed spaces_of
closed_law spaces_of x y m h d = closed spaces_of x y m h d
