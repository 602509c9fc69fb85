-- A file is made.
use Rattle.std.proofs.Common.{◌≡◌, ◌≢◌, ◌⊎◌, inl, inr, ℕ, zero, suc, ◌+◌, ◌*◌, ◌<◌, ◌≤◌, Bool, true, false, cond, ◌&&◌, ◌||◌, not, List, [], ◌∷◌, length, Option, Some, None, refl, sym, ◌∙◌, ap, subst, arith, length-set}
use Rattle.std.specs.Prelude.{slice_get, slice_set, option_map, nat_lt, ◌==◌, if◌then◌else◌}
use Rattle.std.specs.Option.{option_map_or}
use Rattle.std.proofs.lemmas.Option.{same_Some, none-some}
use Rattle.std.proofs.lemmas.Bool.{eq-eqb, ne_eqb, eqb-true, eqb-false, true≢false, le-ltb, ltb-false}
use Rattle.std.proofs.lemmas.List.{length-map}
use Rattle.labelled_disk.specs.declared.label.Label.{Label}
use Rattle.labelled_disk.specs.Label.{is_free, leader_page, root_label, page_label}
use Rattle.labelled_disk.specs.Layout.{first_data, vam}
use Rattle.labelled_disk.specs.Sectors.{Sector}
use Rattle.labelled_disk.specs.File.{File, file_at}
use Rattle.labelled_disk.specs.FilesOn.{put_file}
use Rattle.labelled_disk.specs.Runs.{lengthened}
use Rattle.labelled_disk.proofs.AscendingLemmas.{at_id, at_put, ascending_put, same_by_look_up}
use Rattle.labelled_disk.proofs.WriteLemmas.{first_positive}
use Rattle.file_map.specs.FileMap.{Triples}
use Rattle.flat_machine.specs.declared.call.Call.TheVariants.{Create}
use Rattle.flat_machine.specs.declared.call.Refusal.TheVariants as why
use Rattle.flat_machine.specs.Machine.{Machine, used}
use Rattle.flat_machine.specs.IsMachine.{IsMachine}
use Rattle.flat_machine.specs.Refusal.{refusal, no_room, no_ids}
use Rattle.flat_machine.specs.Next.{next, new_id, new_file, with_new_file, change_file}
use Rattle.flat_machine.proofs.FileLemmas.{look_up_changed, one_id, changed_here, unchanged}
use Rattle.flat_machine.proofs.KeepNew.{none_new}
use Rattle.flat_machine.proofs.Lists.{ascending_map}
use Rattle.flat_machine.proofs.NextLemmas.{next_keeps_machine}
use Rattle.flat_machine.proofs.TestLemmas.{two_none, then_none}
use Rattle.swapper_kernel.specs.Stands.{labels_of}
use Rattle.session_words.specs.Volume.{volume_page}
use Rattle.swapper_kernel.specs.Kinds.{Kind, kind_of, HasKind, the_tables, a_file, files_alone, tables_alone, maps_alone}
use Rattle.session_words.specs.Parts.{Shape, Shapes, shape_of, shapes_of, HasLabel, HasLabels, HasMapLabels, MarksFit, HasTriples, TablesMeaning, is_owned, is_marked}
use Rattle.session_words.specs.PlaceLaws.{IsMade, with_shape, shape_by}
use Rattle.session_words.specs.StandsFor.{IsForBy, StandsFor}
use Rattle.session_words.specs.GrowLaws.{IsFree, grown_names}
use Rattle.session_words.specs.CreateLaws.{LeaderMade, Creates, CreateStands}
use Rattle.swapper_kernel.specs.DiffersLaws.{label_here, sector_of_label}
use Rattle.swapper_kernel.proofs.KindLemmas.{kind_is_data}
use Rattle.session_words.proofs.KnownLemmas.{frames_brought}
use Rattle.session_words.proofs.FoundLemmas.{owner, above_reserved, file_id_of, file_not_free}
use Rattle.session_words.proofs.LooseLemmas.{volume_loose, kind_file, goes_stands}
use Rattle.session_words.proofs.CellLemmas.{unrefused}
use Rattle.session_words.proofs.CallLemmas.{kind_tables}
use Rattle.session_words.proofs.GrownLemmas.{page_label_named, grown_get, map_labels_grown}
use Rattle.session_words.proofs.GrowLemmas.{all_grown}
use Rattle.session_words.proofs.PlaceLemmas.{labels_created}
use Rattle.session_words.proofs.RootLabelLemmas.{after_root, free_then, labels_then, map_labels_then, bits_then, triples_then}
use Rattle.session_words.proofs.BookLemmas.{bits_set, triples_made}
use Rattle.session_words.proofs.SettledLemmas.{machine_shapes}

-- The leader is made.
module _ (spaces_of : TablesMeaning) (marks : ℕ → Bool) (named : Triples) (x y : List Sector) (m : Machine) (kind leader : ℕ)
    (g : LeaderMade m.serial (m.counter + 1) m.capacity (new_id m) kind leader x y) (h : IsForBy spaces_of marks named x m) (after_machine : IsMachine (with_new_file m 0 kind)) where
  label : Label
  label = page_label (new_id m) kind leader_page

  none : file_at m.files (new_id m) ≡ None
  none = none_new m h.machine

  no_shape : shapes_of m.files (new_id m) ≡ None
  no_shape = ap (λ (o : Option File). option_map shape_of o) none

  here : file_at (put_file (new_file m 0 kind) m.files) (new_id m) ≡ Some (new_file m 0 kind)
  here = at_put (new_file m 0 kind) m.files (new_id m) ∙ ap (λ (b : Bool). cond b (Some (new_file m 0 kind)) (file_at m.files (new_id m))) (eq-eqb (new_id m) (new_id m) refl)

  high : 16 ≤ new_id m
  high = above_reserved (new_id m) ((machine_shapes (with_new_file m 0 kind) after_machine (length y) (slice_get y 0) g.root).given (new_id m) (shape_of (new_file m 0 kind)) (ap (λ (o : Option File). option_map shape_of o) here))

  shapes_made : shapes_of (put_file (new_file m 0 kind) m.files) ≡ with_shape (shapes_of m.files) (new_id m) (shape_by (page_label (new_id m) kind leader_page))
  shapes_made = λ i j. each j (new_id m == j) refl i
    where
      each : (j : ℕ) (b : Bool) → (new_id m == j) ≡ b → shapes_of (put_file (new_file m 0 kind) m.files) j ≡ with_shape (shapes_of m.files) (new_id m) (shape_by (page_label (new_id m) kind leader_page)) j
      each j true e =
          ap (λ (o : Option File). option_map shape_of o) (at_put (new_file m 0 kind) m.files j ∙ ap (λ (b : Bool). cond b (Some (new_file m 0 kind)) (file_at m.files j)) e)
          ∙ sym (ap (λ (b : Bool). if b then Some (shape_by (page_label (new_id m) kind leader_page)) else shapes_of m.files j) (eq-eqb j (new_id m) (sym (eqb-true (new_id m) j e))))
      each j false e =
          ap (λ (o : Option File). option_map shape_of o) (at_put (new_file m 0 kind) m.files j ∙ ap (λ (b : Bool). cond b (Some (new_file m 0 kind)) (file_at m.files j)) e)
          ∙ sym (ap (λ (b : Bool). if b then Some (shape_by (page_label (new_id m) kind leader_page)) else shapes_of m.files j) (ne_eqb j (new_id m) (λ q. eqb-false (new_id m) j e (sym q))))

  taken : is_free (page_label (new_id m) kind leader_page) ≡ false
  taken = let low = high in ne_eqb (new_id m) 0 (omega (arith, low))

  not_three : new_id m ≢ 3
  not_three e = let low = high in omega (arith, low, e)

  free : IsFree (slice_set (labels_of x) 0 root_label) leader
  free = free_then (labels_of x) root_label leader g.free

  made : IsMade (slice_set (labels_of x) 0 root_label) leader (page_label (new_id m) kind leader_page) (is_owned (shapes_of m.files))
  made = record {
    old = free.label;
    there = free.there;
    free = free.free;
    taken = taken;
    named = page_label_named (new_id m) kind leader_page;
    fresh = ap (λ (b : Bool). (b && nat_lt leader_page 96) || option_map_or (λ (f : Shape). leader_page == leader_page || nat_lt leader_page f.size) (shapes_of m.files (new_id m)) false) (ne_eqb (new_id m) 3 not_three)
        ∙ ap (λ (o : Option Shape). option_map_or (λ (f : Shape). leader_page == leader_page || nat_lt leader_page f.size) o false) no_shape;
  }

  long_y : length y ≡ length x
  long_y = sym (length-map y (λ s. s.0)) ∙ ap (λ (l : List Label). length l) g.labels ∙ length-set (slice_set (labels_of x) 0 root_label) leader (page_label (new_id m) kind leader_page)
      ∙ length-set (labels_of x) 0 root_label ∙ length-map x (λ s. s.0)

  -- a data sector that is no leader is as before
  kept : (kind_is : Kind) → maps_alone kind_is ≡ false → (k : ℕ) (t : Sector) → first_data (length y) ≤ k → HasKind y k t kind_is → HasKind x k t kind_is ⊎ (t.0 ≡ page_label (new_id m) kind leader_page)
  kept kind_is other k t beyond has = elim (grown_get (new_id m) kind leader_page (leader ∷ []) (slice_set (labels_of x) 0 root_label) k t.0 (ap (λ (l : List Label). slice_get l k) (sym g.labels) ∙ label_here y k t has.here)) [
    | inr (j, at, new) ↦ inr (only_leader j t.0 at new)
    | inl (was, nowhere) ↦
        let s = sector_of_label x k t.0 (sym (after_root (labels_of x) root_label k (λ e. let low = first_positive false 0 0 (length y) in omega (arith, e, beyond, low))) ∙ was) in
        let same_kind : kind_of (length x) k t.0 ≡ kind_is = ap (λ (n : ℕ). kind_of n k t.0) (sym long_y) ∙ has.is in
        let low = first_positive false 0 0 (length y) in
        let same : s.0 ≡ t = same_Some s.0 t (sym (g.pages k s.0 s.1 (λ e. omega (arith, e, beyond, low)) (λ e. nowhere 0 (ap (λ (n : ℕ). Some n) (sym e))) (ap (λ (l : Label). maps_alone (kind_of (length x) k l)) s.2 ∙ ap maps_alone same_kind ∙ other)) ∙ has.here) in
        inl (record { here = s.1 ∙ ap (λ (z : Sector). Some z) same; is = same_kind })
  ]
    where
      only_leader : (j : ℕ) (l : Label) → slice_get (leader ∷ []) j ≡ Some k → l ≡ page_label (new_id m) kind (leader_page + j) → l ≡ page_label (new_id m) kind leader_page
      only_leader zero l at new = new
      only_leader (suc j) l at new = absurd (none-some k at)

  old_file : (k : ℕ) (t : Sector) (w : File) → HasKind x k t a_file → file_at (put_file (new_file m 0 kind) m.files) t.0.id ≡ Some w → file_at m.files t.0.id ≡ Some w
  old_file k t w has now =
      let file = kind_file (length x) k t.0 has.is in
      let low = above_reserved t.0.id (file_id_of t.0 file) in
      let at : HasLabel (labels_of x) k t.0 = record {
        is_data = subst (λ (n : ℕ). first_data n ≤ k) (sym (length-map x (λ s. s.0))) (kind_is_data (length x) k t.0 a_file (λ e. true≢false (ap files_alone e)) (λ e. true≢false (ap files_alone e)) (λ e. true≢false (ap files_alone e)) has.is);
        here = label_here x k t has.here;
      } in
      let o = owner (shapes_of m.files) t.0.id t.0.page (omega (arith, low)) (h.labels.pages.only k t.0 at (file_not_free t.0 file)).is in
      let other : (new_id m == t.0.id) ≡ false = ne_eqb (new_id m) t.0.id (λ q. none-some o.0 (sym no_shape ∙ ap (shapes_of m.files) q ∙ o.1)) in
      sym (at_put (new_file m 0 kind) m.files t.0.id ∙ ap (λ (b : Bool). cond b (Some (new_file m 0 kind)) (file_at m.files t.0.id)) other) ∙ now

  pub leader_made : IsForBy spaces_of (λ k. k == leader || marks k) (λ j p s. (j == new_id m && p == leader_page && s == leader) || named j p s) y (with_new_file m 0 kind)
  leader_made = record {
    machine = after_machine;
    sectors = g.sectors;
    root = g.root;
    map_labels = subst HasMapLabels (sym g.labels) (map_labels_grown (new_id m) kind leader_page (leader ∷ []) (slice_set (labels_of x) 0 root_label) (free, tt) (map_labels_then (labels_of x) root_label h.map_labels));
    labels = subst (λ (l : List Label). HasLabels l (shapes_of (put_file (new_file m 0 kind) m.files))) (sym g.labels)
        (subst (λ (s : Shapes). HasLabels (slice_set (slice_set (labels_of x) 0 root_label) leader (page_label (new_id m) kind leader_page)) s) (sym shapes_made)
        (labels_created (slice_set (labels_of x) 0 root_label) leader (page_label (new_id m) kind leader_page) (shapes_of m.files) (labels_then (labels_of x) root_label 96 (shapes_of m.files) h.labels) made not_three no_shape refl));
    bits = subst (MarksFit (λ k. k == leader || marks k)) (sym g.labels)
        (bits_set (slice_set (labels_of x) 0 root_label) marks (λ k. k == leader || marks k) leader (page_label (new_id m) kind leader_page) free.label (bits_then (labels_of x) root_label marks h.bits) free.there
        (ap (λ (b : Bool). b || marks leader) (eq-eqb leader leader refl) ∙ ap not (sym taken))
        (λ k below other. ap (λ (b : Bool). b || marks k) (ne_eqb k leader other)));
    triples = subst (HasTriples (λ j p s. (j == new_id m && p == leader_page && s == leader) || named j p s)) (sym g.labels)
        (triples_made (slice_set (labels_of x) 0 root_label) named (λ j p s. (j == new_id m && p == leader_page && s == leader) || named j p s) leader free.label (page_label (new_id m) kind leader_page) (triples_then (labels_of x) root_label named h.triples) free.there free.free taken (λ j p s. refl));
    cells = record {
      agrees = λ k t w p has now page firm.
          let beyond = kind_is_data (length y) k t.0 a_file (λ e. true≢false (ap files_alone e)) (λ e. true≢false (ap files_alone e)) (λ e. true≢false (ap files_alone e)) has.is in
          elim (kept a_file refl k t beyond has) [
            | inr new ↦
                let is_new : new_file m 0 kind ≡ w = same_Some (new_file m 0 kind) w (sym here ∙ ap (file_at (put_file (new_file m 0 kind) m.files)) (ap (λ (l : Label). l.id) (sym new)) ∙ now) in
                absurd (none-some p (ap (λ (f : File). slice_get f.pages t.0.page) is_new ∙ page))
            | inl was ↦ h.cells.agrees k t w p was (old_file k t w was now) page firm
          ];
    };
    tables = record {
      pages = h.tables.pages;
      revealed = h.tables.revealed;
      count = h.tables.count;
      each = λ k t has.
          let beyond = kind_is_data (length y) k t.0 the_tables (λ e. true≢false (ap tables_alone e)) (λ e. true≢false (ap tables_alone e)) (λ e. true≢false (ap tables_alone e)) has.is in
          elim (kept the_tables refl k t beyond has) [
            | inr new ↦ absurd (not_three (sym (ap (λ (l : Label). l.id) new) ∙ kind_tables (length y) k t.0 has.is))
            | inl was ↦ h.tables.each k t was
          ];
    };
  }

-- with its pages, the new file is the one that the call makes
created_files : (m : Machine) (n kind : ℕ) → IsMachine m → change_file (new_id m) (lengthened n) (put_file (new_file m 0 kind) m.files) ≡ put_file (new_file m n kind) m.files
created_files m n kind is =
    same_by_look_up (change_file (new_id m) (lengthened n) (put_file (new_file m 0 kind) m.files)) (put_file (new_file m n kind) m.files)
    (ascending_map (λ w. w.id) (λ w. if w.id == new_id m then lengthened n w else w) (one_id (new_id m) (lengthened n) (λ w. refl)) (put_file (new_file m 0 kind) m.files) (ascending_put (new_file m 0 kind) m.files is.ids_rise))
    (ascending_put (new_file m n kind) m.files is.ids_rise)
    (λ j. look_up_changed (λ w. if w.id == new_id m then lengthened n w else w) (one_id (new_id m) (lengthened n) (λ w. refl)) (put_file (new_file m 0 kind) m.files) j
    ∙ ap (option_map (λ w. if w.id == new_id m then lengthened n w else w)) (at_put (new_file m 0 kind) m.files j) ∙ either j (new_id m == j) refl ∙ sym (at_put (new_file m n kind) m.files j))
  where
    others : (j : ℕ) (o : Option File) → file_at m.files j ≡ o → new_id m ≢ j → option_map (λ w. if w.id == new_id m then lengthened n w else w) o ≡ o
    others j None e apart = refl
    others j (Some w) e apart = ap (λ (v : File). Some v) (unchanged (new_id m) (lengthened n) w (λ q. apart (sym q ∙ at_id m.files j w e)))

    either : (j : ℕ) (b : Bool) → (new_id m == j) ≡ b
        → option_map (λ w. if w.id == new_id m then lengthened n w else w) (cond b (Some (new_file m 0 kind)) (file_at m.files j)) ≡ cond b (Some (new_file m n kind)) (file_at m.files j)
    either j true e = ap (λ (v : File). Some v) (changed_here (new_id m) (lengthened n) (new_file m 0 kind) refl)
    either j false e = others j (file_at m.files j) refl (eqb-false (new_id m) j e)

-- where a file can be made, one without pages can
empty_accepted : (m : Machine) (pages kind : ℕ) → refusal m (Create pages kind) ≡ None → refusal m (Create 0 kind) ≡ None
empty_accepted m pages kind accepted =
    let tests = two_none (no_room m (pages + 1)) (no_ids m) accepted in
    let room = ltb-false m.capacity (used m + (pages + 1)) (then_none (nat_lt m.capacity (used m + (pages + 1))) why.Full tests.0) in
    let enough : nat_lt m.capacity (used m + (0 + 1)) ≡ false = le-ltb m.capacity (used m + (0 + 1)) (omega (arith, room)) in
    let ids = tests.1 in
    rw (enough, ids) refl

module _ (spaces_of : TablesMeaning) where
  pub create_stands : CreateStands spaces_of
  create_stands kind leader is run old new before after m typed accepted goes known h =
      let becomes : next m (Create (length is) kind) ≡ with_new_file m (length is) kind = unrefused m (Create (length is) kind) accepted in
      let machine : IsMachine (with_new_file m (length is) kind) = subst IsMachine becomes (next_keeps_machine m (Create (length is) kind) typed h.is.by.machine) in
      let empty = empty_accepted m (length is) kind accepted in
      let first : IsMachine (with_new_file m 0 kind) = subst IsMachine (unrefused m (Create 0 kind) empty) (next_keeps_machine m (Create 0 kind) typed h.is.by.machine) in
      let files = created_files m (length is) kind h.is.by.machine in
      let same : record (with_new_file m 0 kind) { files = change_file (new_id m) (lengthened (length is)) (put_file (new_file m 0 kind) m.files) } ≡ with_new_file m (length is) kind =
      ap (λ (fs : List File). record (with_new_file m 0 kind) { files = fs }) files in
      subst (λ (n : Machine). StandsFor spaces_of new after n) (sym becomes)
      (goes_stands spaces_of (Creates m.serial (m.counter + 1) m.capacity (new_id m) kind leader is) volume_page run old new before after m (with_new_file m (length is) kind) (frames_brought before after m.spaces known)
      (λ x y creates k.
      let led = leader_made spaces_of (is_marked x) k.named x creates.middle m kind leader creates.led k.by first in
      let long : length creates.middle ≡ length x = long_y spaces_of (is_marked x) k.named x creates.middle m kind leader creates.led k.by first in
      record {
        named = grown_names (new_id m) 0 is (λ j p s. (j == new_id m && p == leader_page && s == leader) || k.named j p s);
        map = creates.triples k.named k.map;
        by = subst (λ (n : Machine). IsForBy spaces_of (is_marked y) (grown_names (new_id m) 0 is (λ j p s. (j == new_id m && p == leader_page && s == leader) || k.named j p s)) y n) same
            (all_grown spaces_of (λ i. i == leader || is_marked x i) (is_marked y) (λ j p s. (j == new_id m && p == leader_page && s == leader) || k.named j p s) creates.middle y
            (with_new_file m 0 kind) (new_id m) (new_file m 0 kind) is
            (at_put (new_file m 0 kind) m.files (new_id m) ∙ ap (λ (b : Bool). cond b (Some (new_file m 0 kind)) (file_at m.files (new_id m))) (eq-eqb (new_id m) (new_id m) refl))
            creates.grown (λ i below. creates.bits i (subst (λ (n : ℕ). i < 4096 * vam n) long below)) led (subst IsMachine (sym same) machine));
      })
      (λ i page l. l) (λ i page own. volume_loose m.unforced i page own) goes h)
