-- A session's start on a closed volume.
use Rattle.std.proofs.Common.{◌≡◌, ◌≢◌, inl, inr, ℕ, suc, ◌+◌, ◌*◌, ◌/◌, ◌%◌, ◌<◌, ◌≤◌, Bool, true, false, ◌&&◌, ◌||◌, List, [], ◌∷◌, map, length, drop, take, Option, Some, None, refl, sym, ◌∙◌, ap, subst, arith}
use Rattle.std.specs.Prelude.{slice_get, slice_set, option_map, nat_lt, ◌==◌, IsTrue, IsSomeAnd}
use Rattle.std.specs.List.{flat_map}
use Rattle.std.specs.Option.{option_map_or}
use Rattle.std.proofs.lemmas.Option.{same_Some, none-some, slice_get-map, slice_get_within}
use Rattle.std.proofs.lemmas.Bool.{and_from, eq-eqb, ne_eqb, true≢false, false≢true}
use Rattle.std.proofs.lemmas.List.{length-map}
use Rattle.labelled_disk.specs.declared.label.Label.{Label}
use Rattle.labelled_disk.specs.declared.label.Wanted.{Wanted}
use Rattle.labelled_disk.specs.Label.{is_file, is_free, names, leader_page, page_label}
use Rattle.labelled_disk.specs.Layout.{first_data, vam, vfm}
use Rattle.labelled_disk.specs.Root.{page_in, serial_of, counter_of}
use Rattle.labelled_disk.specs.Sectors.{Sector}
use Rattle.labelled_disk.specs.File.{byte}
use Rattle.labelled_disk.specs.FilesOn.{files_on, disk_file}
use Rattle.labelled_disk.proofs.LowestLemmas.{files_are_as_revealed}
use Rattle.labelled_disk.proofs.WriteLemmas as laws
use Rattle.alloc_map.specs.Bits.{is_used}
use Rattle.file_map.specs.FileMap.{Triples}
use Rattle.file_map.specs.InSectors.{map_bytes}
use Rattle.flat_machine.specs.Settled.{PageAgrees}
use Rattle.flat_machine.specs.Start.{start}
use Rattle.flat_machine.proofs.StartMachine.{start_is_machine}
use Rattle.label_laws.proofs.FileLemmas.{reserved_have_none}
use Rattle.label_laws.proofs.MixedLemmas.{page_stands}
use Rattle.swapper_kernel.specs.Stands.{labels_of}
use Rattle.swapper_kernel.specs.Kinds.{kind_of, HasKind, a_file, files_alone, tables_alone, maps_alone}
use Rattle.swapper_kernel.specs.DiffersLaws.{label_here, sector_of_label}
use Rattle.swapper_kernel.proofs.KindLemmas.{root_kind, kind_is_data}
use Rattle.session_words.specs.Parts.{is_owned_upto, Shape, Shapes, shapes_of, HasRoot, HasLabel, HasPages, HasLeaders, HasMapLabels, MarksFit, HasTriples, HasCells, TablesMeaning, is_marked, but_none}
use Rattle.session_words.specs.PlaceLaws.{IsMade}
use Rattle.session_words.specs.GrowLaws.{AreFree, grown_labels, grown_marks, grown_names}
use Rattle.session_words.specs.StartLaws.{table_label}
use Rattle.session_words.specs.StandsFor.{IsFor}
use Rattle.session_words.specs.OpenLaws.{CanOpen, FlagCleared, TablesMade, TablesBegun, Opened}
use Rattle.session_words.proofs.BitLemmas.{bits_alike}
use Rattle.session_words.proofs.GrownLemmas.{page_label_named, grown_get, grown_long, free_are_data, map_labels_grown}
use Rattle.session_words.proofs.LooseLemmas.{kind_file}
use Rattle.session_words.proofs.MapLemmas.{names_alike}
use Rattle.session_words.proofs.PlaceLemmas.{label_set}
use Rattle.session_words.proofs.BookLemmas.{bits_set, triples_made}
use Rattle.session_words.proofs.SettledLemmas.{shape_at}
use Rattle.session_words.proofs.StartLemmas.{start_laws}
use Rattle.session_words.proofs.StayLemmas.{stays}

-- The tables' pages, one by one.

record Tabled (n : ℕ) (shapes : Shapes) (labels : List Label) (marks : ℕ → Bool) (named : Triples) : Type 0 where
  pages : HasPages labels (is_owned_upto n shapes)
  leaders : HasLeaders labels shapes
  bits : MarksFit marks labels
  triples : HasTriples named labels

tables_grown : (is : List ℕ) (n m : ℕ) (shapes : Shapes) (labels : List Label) (marks : ℕ → Bool) (named : Triples) → n + length is ≡ m → shapes 3 ≡ None → AreFree 3 0 n is labels → Tabled n shapes labels marks named
    → Tabled m shapes (grown_labels 3 0 n is labels) (grown_marks is marks) (grown_names 3 n is named)
tables_grown [] n m shapes labels marks named long none free h = let same : n ≡ m = omega (arith, long) in subst (λ (k : ℕ). Tabled k shapes labels marks named) same h
tables_grown (i ∷ is) n m shapes labels marks named long none free h =
    let taken : is_free (page_label 3 0 n) ≡ false = refl in
    tables_grown is (n + 1) m shapes (slice_set labels i (page_label 3 0 n)) (λ k. k == i || marks k) (λ j p s. (j == 3 && p == n && s == i) || named j p s) (omega (arith, long)) none free.1
    (record {
      pages = subst (λ (k : ℕ). HasPages (slice_set labels i (page_label 3 0 n)) (is_owned_upto k shapes)) (let z : suc n ≡ n + 1 = omega arith in z) (start_laws.table labels i n shapes h.pages made);
      leaders = record {
        reveal = λ k l f has found leader. elim (label_set labels i free.0.label (page_label 3 0 n) free.0.there k l has) [
          | inl (at, same) ↦ absurd (none-some f (sym none ∙ ap (λ (x : Label). shapes x.id) same ∙ found))
          | inr (other, was) ↦ h.leaders.reveal k l f was found leader
        ];
      };
      bits = bits_set labels marks (λ k. k == i || marks k) i (page_label 3 0 n) free.0.label h.bits free.0.there
          (ap (λ (b : Bool). b || marks i) (eq-eqb i i refl))
          (λ k below other. ap (λ (b : Bool). b || marks k) (ne_eqb k i other));
      triples = triples_made labels named (λ j p s. (j == 3 && p == n && s == i) || named j p s) i free.0.label (page_label 3 0 n) h.triples free.0.there free.0.free taken (λ j p s. refl);
    })
  where
    fresh : is_owned_upto n shapes 3 n ≡ false
    fresh =
        ap (λ (b : Bool). b || option_map_or (λ (f : Shape). n == leader_page || nat_lt n f.size) (shapes 3) false) (let a : nat_lt n n ≡ false = grind arith in a)
        ∙ ap (λ (o : Option Shape). option_map_or (λ (f : Shape). n == leader_page || nat_lt n f.size) o false) none

    made : IsMade labels i (table_label n) (is_owned_upto n shapes)
    made = record { old = free.0.label; there = free.0.there; free = free.0.free; taken = refl; named = page_label_named 3 0 n; fresh = fresh }

-- Another root, and the same after it.

module _ (d x : List Sector) (c : FlagCleared d x) where
  label_same : (k : ℕ) → k ≢ 0 → slice_get (labels_of x) k ≡ slice_get (labels_of d) k
  label_same k some = slice_get-map (λ (s : Sector). s.0) x k ∙ ap (λ (o : Option Sector). option_map (λ (s : Sector). s.0) o) (c.others k some) ∙ sym (slice_get-map (λ (s : Sector). s.0) d k)

  labels_long : length (labels_of x) ≡ length (labels_of d)
  labels_long = length-map x (λ s. s.0) ∙ c.long ∙ sym (length-map d (λ s. s.0))

  not_root : (n k : ℕ) → first_data n ≤ k → k ≢ 0
  not_root n k above e = let low = laws.first_positive false 0 0 n in omega (arith, low, above, e)

  back : (k : ℕ) (l : Label) → HasLabel (labels_of x) k l → HasLabel (labels_of d) k l
  back k l has = record {
    is_data = subst (λ (n : ℕ). first_data n ≤ k) labels_long has.is_data;
    here = sym (label_same k (not_root (length (labels_of x)) k has.is_data)) ∙ has.here;
  }

  forth : (k : ℕ) (l : Label) → HasLabel (labels_of d) k l → HasLabel (labels_of x) k l
  forth k l has = record {
    is_data = subst (λ (n : ℕ). first_data n ≤ k) (sym labels_long) has.is_data;
    here = label_same k (not_root (length (labels_of d)) k has.is_data) ∙ has.here;
  }

  pages_too : (owned : ℕ → ℕ → Bool) → HasPages (labels_of d) owned → HasPages (labels_of x) owned
  pages_too owned h = record {
    only = λ k l has taken. h.only k l (back k l has) taken;
    all = λ i p is. let place = h.all i p is in record { place = place.place; label = place.label; there = forth place.place place.label place.there; taken = place.taken; same_id = place.same_id; same_page = place.same_page };
    once = λ i j a b at_a at_b taken ids pages. h.once i j a b (back i a at_a) (back j b at_b) taken ids pages;
  }

  same_marks : (i : ℕ) → is_marked x i ≡ is_marked d i
  same_marks i = ap (λ (o : Option Sector). is_used (page_in o) (i % 4096)) (c.others (1 + i / 4096) (λ e. omega (arith, e)))

  bits_too : MarksFit (is_marked d) (labels_of d) → MarksFit (is_marked x) (labels_of x)
  bits_too h = record {
    low = λ k below. same_marks k ∙ h.low k (subst (λ (n : ℕ). k < first_data n) labels_long below);
    bits = λ k l has. same_marks k ∙ h.bits k l (back k l has);
    past = λ k end below. same_marks k ∙ h.past k (omega (arith, end, labels_long)) (subst (λ (n : ℕ). k < 4096 * vam n) labels_long below);
  }

  triples_too : (named : Triples) → HasTriples named (labels_of d) → HasTriples named (labels_of x)
  triples_too named h = record {
    only = λ i p s revealed. let q = h.only i p s revealed in record { label = q.label; there = forth s q.label q.there; taken = q.taken; same_id = q.same_id; same_page = q.same_page };
    all = λ i p s q. h.all i p s (record { label = q.label; there = back s q.label q.there; taken = q.taken; same_id = q.same_id; same_page = q.same_page });
  }

  same_after : (a b : List Sector) → length b ≡ length a → ((k : ℕ) → k ≢ 0 → slice_get b k ≡ slice_get a k) → (n : ℕ) → drop (suc n) b ≡ drop (suc n) a
  same_after [] [] long same n = refl
  same_after [] (t ∷ b) long same n = absurd (omega arith)
  same_after (s ∷ a) [] long same n = absurd (omega arith)
  same_after (s ∷ a) (t ∷ b) long same n = ap (drop n) (all_same a b (omega arith) (λ k. same (suc k) (λ e. omega (arith, e))))
    where
      all_same : (a b : List Sector) → length b ≡ length a → ((k : ℕ) → slice_get b k ≡ slice_get a k) → b ≡ a
      all_same [] [] long same = refl
      all_same [] (t ∷ b) long same = absurd (omega arith)
      all_same (s ∷ a) [] long same = absurd (omega arith)
      all_same (s ∷ a) (t ∷ b) long same = (λ i. same_Some t s (same 0) i ∷ all_same a b (omega arith) (λ k. same (suc k)) i)

  pub same_map_bytes : map_bytes x ≡ map_bytes d
  same_map_bytes =
      let one : (n : ℕ) → 1 + n ≡ suc n = λ n. omega arith in
      ap (λ (n : ℕ). flat_map (λ (s : Sector). s.1) (take (vfm n) (drop (1 + vam n) x))) c.long
      ∙ ap (λ (n : ℕ). flat_map (λ (s : Sector). s.1) (take (vfm (length d)) (drop n x))) (one (vam (length d)))
      ∙ ap (λ (l : List Sector). flat_map (λ (s : Sector). s.1) (take (vfm (length d)) l)) (same_after d x c.long c.others (vam (length d)))
      ∙ ap (λ (n : ℕ). flat_map (λ (s : Sector). s.1) (take (vfm (length d)) (drop n d))) (sym (one (vam (length d))))

bytes_agree : (bs : List ℕ) → PageAgrees (map byte bs) (map byte bs)
bytes_agree [] = tt
bytes_agree (b ∷ bs) = (refl, bytes_agree bs)

module _ (spaces_of : TablesMeaning) (d x y z : List Sector) (is : List ℕ) (o : CanOpen d) (c : FlagCleared d x) (t : TablesMade is x y) (b : TablesBegun spaces_of y z) where
  long_y : length y ≡ length x
  long_y = sym (length-map y (λ s. s.0)) ∙ ap (λ (l : List Label). length l) t.grown.labels ∙ grown_long 3 0 0 is (labels_of x) ∙ length-map x (λ s. s.0)

  none : shapes_of (files_on d) 3 ≡ None
  none = either (shapes_of (files_on d) 3) refl
    where
      either : (q : Option Shape) → shapes_of (files_on d) 3 ≡ q → shapes_of (files_on d) 3 ≡ None
      either None e = e
      either (Some f) e =
          let g = shape_at (files_on d) 3 f e in
          absurd (none-some g.0 (sym (reserved_have_none false d 3 refl) ∙ sym (laws.look_up false 0 0 d 3) ∙ g.1))

  tabled : Tabled 96 (shapes_of (files_on d)) (labels_of y) (is_marked y) (grown_names 3 0 is o.named)
  tabled =
      let files = start_laws.files d o.right o.free_or_needed in
      let began : Tabled 0 (shapes_of (files_on d)) (labels_of x) (is_marked x) o.named = record {
        pages = pages_too d x c (is_owned_upto 0 (shapes_of (files_on d))) files.pages;
        leaders = record { reveal = λ k l f has found leader. files.leaders.reveal k l f (back d x c k l has) found leader };
        bits = bits_too d x c o.bits;
        triples = triples_too d x c o.named o.triples;
      } in
      let grown = tables_grown is 0 96 (shapes_of (files_on d)) (labels_of x) (is_marked x) o.named (omega (arith, t.count)) none t.grown.free began in
      record {
        pages = subst (λ (l : List Label). HasPages l (is_owned_upto 96 (shapes_of (files_on d)))) (sym t.grown.labels) grown.pages;
        leaders = subst (λ (l : List Label). HasLeaders l (shapes_of (files_on d))) (sym t.grown.labels) grown.leaders;
        bits = subst (MarksFit (is_marked y)) (sym t.grown.labels)
            (bits_alike (grown_labels 3 0 0 is (labels_of x)) (grown_marks is (is_marked x)) (is_marked y) (omega (arith, long_labels, c.root_open.valid.accepted))
            (λ k below. t.bits k (subst (λ (n : ℕ). k < 4096 * vam n) long_labels below)) grown.bits);
        triples = subst (HasTriples (grown_names 3 0 is o.named)) (sym t.grown.labels) grown.triples;
      }
    where
      long_labels : length (grown_labels 3 0 0 is (labels_of x)) ≡ length x
      long_labels = grown_long 3 0 0 is (labels_of x) ∙ length-map x (λ s. s.0)

  root_here : HasRoot (length y) (slice_get y 0) (start d).serial (start d).counter (start d).capacity
  root_here = subst (λ (n : ℕ). HasRoot n (slice_get y 0) (start d).serial (start d).counter (start d).capacity) (sym long_y) (either (slice_get x 0) refl c.root_open)
    where
      either : (q : Option Sector) → slice_get x 0 ≡ q → HasRoot (length x) q (start d).serial (start d).counter (start d).capacity → HasRoot (length x) (slice_get y 0) (start d).serial (start d).counter (start d).capacity
      either None e r = absurd r.valid.label
      either (Some s) e r =
          let nowhere : (j : ℕ) → slice_get is j ≢ Some 0 = λ j at.
          let above : first_data (length (labels_of x)) ≤ 0 = free_are_data 3 0 0 is (labels_of x) j 0 t.grown.free at in
          let some = laws.first_positive false 0 0 (length (labels_of x)) in omega (arith, above, some) in
          subst (λ (q : Option Sector). HasRoot (length x) q (start d).serial (start d).counter (start d).capacity) (sym (t.grown.pages 0 s e nowhere (ap maps_alone (root_kind (length x) s.0)))) r

  map_labels_here : HasMapLabels (labels_of y)
  map_labels_here = subst HasMapLabels (sym t.grown.labels) (map_labels_grown 3 0 0 is (labels_of x) t.grown.free (record {
    allocation = λ k below. label_at (1 + k) (record { id = 1; page = k }) (λ e. omega (arith, e))
        (o.right.has_maps.allocation k (subst (λ (n : ℕ). k < vam n) (length-map x (λ s. s.0) ∙ c.long) below));
    file_map = λ k below.
        subst (λ (n : ℕ). IsSomeAnd (slice_get (labels_of x) (1 + vam n + k)) (λ l. IsTrue (names l (record { id = 2; page = k })))) (sym (length-map x (λ s. s.0) ∙ c.long))
        (label_at (1 + vam (length d) + k) (record { id = 2; page = k }) (λ e. omega (arith, e)) (o.right.has_maps.file_map k (subst (λ (n : ℕ). k < vfm n) (length-map x (λ s. s.0) ∙ c.long) below)));
  }))
    where
      label_at : (k : ℕ) (w : Wanted) → k ≢ 0 → IsSomeAnd (slice_get d k) (λ s. IsTrue (names s.0 w)) → IsSomeAnd (slice_get (labels_of x) k) (λ l. IsTrue (names l w))
      label_at k w some named = subst (λ (q : Option Label). IsSomeAnd q (λ l. IsTrue (names l w))) (sym (slice_get-map (λ (s : Sector). s.0) x k ∙ ap (λ (q : Option Sector). option_map (λ (s : Sector). s.0) q) (c.others k some))) (either (slice_get d k) named)
        where
          either : (q : Option Sector) → IsSomeAnd q (λ s. IsTrue (names s.0 w)) → IsSomeAnd (option_map (λ (s : Sector). s.0) q) (λ l. IsTrue (names l w))
          either None n = n
          either (Some s) n = n

  -- the sector of a file, as it was on the disk
  was_there : (k : ℕ) (s : Sector) → HasKind y k s a_file → slice_get d k ≡ Some s
  was_there k s has = elim (grown_get 3 0 0 is (labels_of x) k s.0 (ap (λ (l : List Label). slice_get l k) (sym t.grown.labels) ∙ label_here y k s has.here)) [
    | inr (j, at, new) ↦ absurd (false≢true (ap is_file (sym new) ∙ kind_file (length y) k s.0 has.is))
    | inl (was, nowhere) ↦
        let q = sector_of_label x k s.0 was in
        let same_kind : kind_of (length x) k s.0 ≡ a_file = ap (λ (n : ℕ). kind_of n k s.0) (sym long_y) ∙ has.is in
        let same : q.0 ≡ s = same_Some q.0 s (sym (t.grown.pages k q.0 q.1 nowhere (ap (λ (l : Label). maps_alone (kind_of (length x) k l)) q.2 ∙ ap maps_alone same_kind)) ∙ has.here) in
        let after = kind_is_data (length x) k s.0 a_file (λ e. true≢false (ap files_alone e)) (λ e. true≢false (ap files_alone e)) (λ e. true≢false (ap files_alone e)) same_kind in
        sym (c.others k (not_root d x c (length x) k after)) ∙ q.1 ∙ ap (λ (v : Sector). Some v) same
  ]

  cells_here : HasCells but_none y (files_on d)
  cells_here = record {
    agrees = λ k s f p has found page firm.
        let here = was_there k s has in
        let file : is_file s.0 ≡ true = kind_file (length y) k s.0 has.is in
        let on : disk_file false d s.0.id ≡ Some f = sym (laws.look_up false 0 0 d s.0.id) ∙ found in
        let revealed = (files_are_as_revealed false d).revealed s.0.id f on in
        let within = slice_get_within f.pages s.0.page p page in
        let after : first_data (length d) ≤ k =
        subst (λ (n : ℕ). first_data n ≤ k) (long_y ∙ c.long) (kind_is_data (length y) k s.0 a_file (λ e. true≢false (ap files_alone e)) (λ e. true≢false (ap files_alone e)) (λ e. true≢false (ap files_alone e)) has.is) in
        let stands = page_stands false (serial_of d) (counter_of d) d k s s.0.id s.0.page f o.right.files (record { is_data = after; here = here })
        (and_from (is_file s.0 && s.0.id == s.0.id) (s.0.page == s.0.page) (and_from (is_file s.0) (s.0.id == s.0.id) file (eq-eqb s.0.id s.0.id refl)) (eq-eqb s.0.page s.0.page refl))
        (λ e. omega (arith, e, within, revealed.0.numbered)) on in
        subst (PageAgrees (map byte s.1)) (same_Some (map byte s.1) p (sym stands ∙ page)) (bytes_agree s.1);
  }

  pub opened : IsFor spaces_of z (start d)
  opened =
      let kept = stays spaces_of y z tables_alone b.same in
      record {
        named = grown_names 3 0 is o.named;
        map = kept.map (grown_names 3 0 is o.named) refl (t.triples o.named (names_alike d x c.long (same_map_bytes d x c) o.named o.map));
        by = record {
          machine = start_is_machine d o.sectors o.right;
          sectors = b.sectors;
          root = kept.root (start d).serial (start d).counter (start d).capacity refl root_here;
          map_labels = kept.map_labels map_labels_here;
          labels = kept.labels (shapes_of (files_on d)) (record { pages = tabled.pages; leaders = tabled.leaders });
          bits = kept.bits refl tabled.bits;
          triples = kept.triples (grown_names 3 0 is o.named) tabled.triples;
          cells = kept.cells but_none (files_on d) refl cells_here;
          tables = b.tables;
        };
      }

pub opened_laws : (spaces_of : TablesMeaning) → Opened spaces_of
opened_laws spaces_of d x y z is o c t b = opened spaces_of d x y z is o c t b
