-- A file that is copied, step by step.
use Rattle.std.proofs.Common.{◌≡◌, ◌≢◌, inl, inr, ℕ, ◌+◌, ◌<◌, ◌≤◌, Bool, true, false, List, map, length, Option, Some, None, refl, sym, ◌∙◌, ap, subst, arith, length-set}
use Rattle.std.specs.Prelude.{slice_get, option_map, ◌==◌, if◌then◌else◌}
use Rattle.std.proofs.lemmas.Bool.{and_left, cases_eq, ne_eqb}
use Rattle.std.proofs.lemmas.List.{length-map}
use Rattle.std.proofs.lemmas.Option.{none-some, same_Some, slice_get-map, slice_get_within}
use Rattle.labelled_disk.specs.declared.label.Label.{Label}
use Rattle.labelled_disk.specs.declared.layout.Layout.{Layout}
use Rattle.labelled_disk.specs.File.{File, byte}
use Rattle.labelled_disk.specs.Label.{is_file, is_file_id, is_free, leader_page}
use Rattle.labelled_disk.specs.Layout.{first_data}
use Rattle.labelled_disk.specs.Sectors.{Sector}
use Rattle.labelled_disk.proofs.Finds.{get_set_other, get_set_same}
use Rattle.labelled_disk.proofs.WriteLemmas.{first_positive}
use Rattle.file_map.specs.declared.run.Run.{Run}
use Rattle.swapper_kernel.specs.DiffersLaws.{label_here, names_id, names_page, sector_of_label, set_labels}
use Rattle.swapper_kernel.specs.Kinds.{kind_of, maps_alone, the_tables, a_file, unused}
use Rattle.swapper_kernel.specs.Stands.{labels_of}
use Rattle.swapper_kernel.proofs.KindLemmas.{data_kind, root_kind}
use Rattle.session_words.specs.GrowLaws.{Grows}
use Rattle.session_words.specs.MarkLaws.{Marks, marked_label, pages_of}
use Rattle.session_words.specs.Parts.{IsTriple, Shapes}
use Rattle.session_words.proofs.FoundLemmas.{above_reserved, file_id_of}
use Rattle.session_words.proofs.GrownLemmas.{free_are_data, grown_get}
use Rattle.session_words.proofs.MarkedLabelLemmas.{IsMark, either_label}
use Rattle.file_manager.specs.Book.{IsBookedUpto}
use Rattle.file_manager.proofs.GrowSteps.{long_grown}
use Rattle.file_manager.proofs.RunStages.{there_is}
use Rattle.volume_pair.specs.Copied.{KeepsOthers, PutsInFile}
use Rattle.volume_pair.specs.Sides.{HasPageBytes}
use Rattle.volume_pair.proofs.MarkedLemmas.{same_long}

pub keeps_itself : (id : ℕ) (x : List Sector) → KeepsOthers id x x
keeps_itself id x = record { long = refl; root = refl; others = λ k s here above file other. here }

pub keeps_then : {id : ℕ} {x y z : List Sector} → KeepsOthers id x y → KeepsOthers id y z → KeepsOthers id x z
keeps_then h k = record {
  long = k.long ∙ h.long;
  root = k.root ∙ h.root;
  others = λ i s here above file other. h.others i s (k.others i s here above file other) (subst (λ (n : ℕ). first_data n ≤ i) k.long above) file other;
}

not_root : (n k : ℕ) → first_data n ≤ k → k ≢ 0
not_root n k above e = let low = first_positive false 0 0 n in omega (arith, low, above, e)

-- ---- Sectors that were free have the file's labels.

module _ (id kind page : ℕ) (is : List ℕ) (x y : List Sector) (some : 1 ≤ length x) (g : Grows id kind page is x y) where
  long_y : length y ≡ length x
  long_y = long_grown id kind page is x y g.grown.labels

  nowhere_root : (j : ℕ) → slice_get is j ≢ Some 0
  nowhere_root j at =
      let above : first_data (length (labels_of x)) ≤ 0 = free_are_data id kind page is (labels_of x) j 0 g.grown.free at in
      let some = first_positive false 0 0 (length (labels_of x)) in
      omega (arith, above, some)

  pub keeps_grown : KeepsOthers id x y
  keeps_grown = record {
    long = long_y;
    root = let first = there_is x 0 some in g.grown.pages 0 first.0 first.1 nowhere_root (ap maps_alone (root_kind (length x) first.0.0)) ∙ sym first.1;
    others = λ k s here above file other. elim (grown_get id kind page is (labels_of x) k s.0 (ap (λ (l : List Label). slice_get l k) (sym g.grown.labels) ∙ label_here y k s here)) [
      | inr (j, at, new) ↦ absurd (other (ap (λ (l : Label). l.id) new))
      | inl (was, nowhere) ↦
          let q = sector_of_label x k s.0 was in
          let three : (s.0.id == 3) ≡ false = ne_eqb s.0.id 3 (λ e. not_three s.0 file e) in
          let kind_is : kind_of (length x) k s.0 ≡ a_file =
          data_kind (length x) k s.0 (subst (λ (n : ℕ). first_data n ≤ k) long_y above)
          ∙ ap (λ (c : Bool). if c then the_tables else (if is_file s.0 then a_file else unused)) three ∙ ap (λ (c : Bool). if c then a_file else unused) file in
          let same : q.0 ≡ s = same_Some q.0 s (sym (g.grown.pages k q.0 q.1 nowhere (ap (λ (l : Label). maps_alone (kind_of (length x) k l)) q.2 ∙ ap maps_alone kind_is)) ∙ here) in
          q.1 ∙ ap (λ (v : Sector). Some v) same
    ];
  }
    where
      not_three : (l : Label) → is_file l ≡ true → l.id ≡ 3 → ⊥
      not_three l file e = let high = above_reserved l.id (file_id_of l file) in omega (arith, high, e)

-- ---- A page gets its bytes.

module _ (layout : Layout) (shapes : Shapes) (y z : List Sector) {runs : List Run} (b : IsBookedUpto 0 layout runs shapes y) (id page : ℕ) (bytes : List ℕ) (p : PutsInFile id page bytes y z) where
  named_id : p.put.0.0.id ≡ id
  named_id = names_id p.put.0.0 (record { id = id; page = page }) p.put.2

  above : first_data (length y) ≤ p.sector
  above = subst (λ (n : ℕ). first_data n ≤ p.sector) (length-map y (λ s. s.0)) p.triple.there.is_data

  pub keeps_put : KeepsOthers id y z
  keeps_put = record {
    long = ap (λ (l : List Sector). length l) p.put.3 ∙ length-set y p.sector (p.put.0.0, bytes);
    root = ap (λ (l : List Sector). slice_get l 0) p.put.3 ∙ get_set_other y p.sector 0 (p.put.0.0, bytes) (λ e. not_root (length y) p.sector above (sym e));
    others = λ k s here past file other. elim (cases_eq k p.sector) [
      | inr apart ↦ sym (ap (λ (l : List Sector). slice_get l k) p.put.3 ∙ get_set_other y p.sector k (p.put.0.0, bytes) apart) ∙ here
      | inl same ↦ absurd (other (label_id k s same here))
    ];
  }
    where
      label_id : (k : ℕ) (s : Sector) → k ≡ p.sector → slice_get z k ≡ Some s → s.0.id ≡ id
      label_id k s same here =
          let is : (p.put.0.0, bytes) ≡ s = same_Some {A = Sector} (p.put.0.0, bytes) s (sym (ap (λ (l : List Sector). slice_get l p.sector) p.put.3 ∙ get_set_same y p.sector (p.put.0.0, bytes) (slice_get_within y p.sector p.put.0 p.put.1)) ∙ ap (slice_get z) (sym same) ∙ here) in
          ap (λ (u : Sector). u.0.id) (sym is) ∙ named_id

  -- the pages before it have their cells still, and this one has its own
  pub cells_put : (f : File) → ((q : ℕ) (bs : List ℕ) → HasPageBytes y id q bs → q < page → slice_get f.pages q ≡ Some (map byte bs)) → slice_get f.pages page ≡ Some (map byte bytes) → (q : ℕ) (bs : List ℕ) → HasPageBytes z id q bs → q < page + 1
      → slice_get f.pages q ≡ Some (map byte bs)
  cells_put f before own q bs t below = elim (cases_eq t.sector p.sector) [
    | inl same ↦
        let is : (p.put.0.0, bytes) ≡ (t.label, bs) =
        same_Some {A = Sector} (p.put.0.0, bytes) (t.label, bs) (sym (ap (λ (l : List Sector). slice_get l p.sector) p.put.3 ∙ get_set_same y p.sector (p.put.0.0, bytes) (slice_get_within y p.sector p.put.0 p.put.1)) ∙ ap (slice_get z) (sym same) ∙ t.here) in
        let label : t.triple.label ≡ t.label = same_Some t.triple.label t.label (sym t.triple.there.here ∙ label_here z t.sector (t.label, bs) t.here) in
        let number : q ≡ page = sym t.triple.same_page ∙ ap (λ (l : Label). l.page) label ∙ sym (ap (λ (u : Sector). u.0.page) is) ∙ names_page p.put.0.0 (record { id = id; page = page }) p.put.2 in
        ap (slice_get f.pages) number ∙ own ∙ ap (λ (u : Sector). Some (map byte u.1)) is
    | inr apart ↦
        let was : HasPageBytes y id q bs = record {
          sector = t.sector;
          label = t.label;
          here = sym (ap (λ (l : List Sector). slice_get l t.sector) p.put.3 ∙ get_set_other y p.sector t.sector (p.put.0.0, bytes) apart) ∙ t.here;
          triple = subst (λ (l : List Label). IsTriple l id q t.sector) labels_same t.triple;
        } in
        let other : q ≢ page = λ number. apart (b.labels.pages.once t.sector p.sector was.triple.label p.triple.label was.triple.there p.triple.there was.triple.taken (was.triple.same_id ∙ sym p.triple.same_id) (was.triple.same_page ∙ number ∙ sym p.triple.same_page)) in
        before q bs was (omega (arith, below, other))
  ]
    where
      labels_same : labels_of z ≡ labels_of y
      labels_same = ap labels_of p.put.3 ∙ set_labels y p.sector p.put.0 bytes p.put.1

-- ---- The leader gets a mark.

sector_by : (xs : List Sector) (k : ℕ) (l : Label) (p : List ℕ) → slice_get (labels_of xs) k ≡ Some l → slice_get (pages_of xs) k ≡ Some p → slice_get xs k ≡ Some (l, p)
sector_by xs k l p label page = either (slice_get xs k) refl (sym (slice_get-map (λ (s : Sector). s.0) xs k) ∙ label) (sym (slice_get-map (λ (s : Sector). s.1) xs k) ∙ page)
  where
    either : (o : Option Sector) → slice_get xs k ≡ o → option_map (λ (s : Sector). s.0) (slice_get xs k) ≡ Some l → option_map (λ (s : Sector). s.1) (slice_get xs k) ≡ Some p → slice_get xs k ≡ Some (l, p)
    either None e a c = absurd (none-some l (sym (ap (option_map (λ (s : Sector). s.0)) e) ∙ a))
    either (Some s) e a c =
        let first : s.0 ≡ l = same_Some s.0 l (sym (ap (option_map (λ (s : Sector). s.0)) e) ∙ a) in
        let second : s.1 ≡ p = same_Some s.1 p (sym (ap (option_map (λ (s : Sector). s.1)) e) ∙ c) in
        e ∙ (λ i. Some (first i, second i))

page_of_sector : (xs : List Sector) (k : ℕ) (s : Sector) → slice_get xs k ≡ Some s → slice_get (pages_of xs) k ≡ Some s.1
page_of_sector xs k s here = slice_get-map (λ (t : Sector). t.1) xs k ∙ ap (option_map (λ (t : Sector). t.1)) here

module _ (y z : List Sector) (id : ℕ) (mark : Label → Label) (change : File → File) (is : IsMark mark change) (given : is_file_id id ≡ true) (d : Marks id mark y z) where
  from : (k : ℕ) (l : Label) → slice_get (labels_of z) k ≡ Some l → (w : Label) × (slice_get (labels_of y) k ≡ Some w) × (marked_label id mark w ≡ l)
  from k l at = either (slice_get (labels_of y) k) refl
    where
      now : slice_get (map (marked_label id mark) (labels_of y)) k ≡ Some l
      now = ap (λ (ls : List Label). slice_get ls k) (sym d.labels) ∙ at

      either : (o : Option Label) → slice_get (labels_of y) k ≡ o → (w : Label) × (slice_get (labels_of y) k ≡ Some w) × (marked_label id mark w ≡ l)
      either None e = absurd (none-some l (sym (ap (option_map (marked_label id mark)) e) ∙ sym (slice_get-map (marked_label id mark) (labels_of y) k) ∙ now))
      either (Some w) e = (w, e, same_Some (marked_label id mark w) l (sym (ap (option_map (marked_label id mark)) e) ∙ sym (slice_get-map (marked_label id mark) (labels_of y) k) ∙ now))

  -- a label that is no leader's of the file was there
  label_was : (k : ℕ) (l : Label) → slice_get (labels_of z) k ≡ Some l → (l.id ≡ id → l.page ≡ leader_page → ⊥) → slice_get (labels_of y) k ≡ Some l
  label_was k l at other =
      let w = from k l at in
      elim (either_label id mark change is given w.0) [
        | inl same ↦ w.1 ∙ ap (λ (v : Label). Some v) (sym same ∙ w.2)
        | inr (own, leader, new) ↦ absurd (other (sym (ap (λ (v : Label). v.id) (sym new ∙ w.2)) ∙ is.same_id w.0 ∙ own) (sym (ap (λ (v : Label). v.page) (sym new ∙ w.2)) ∙ is.same_page w.0 ∙ leader))
      ]

  sector_was : (k : ℕ) (s : Sector) → slice_get z k ≡ Some s → (s.0.id ≡ id → s.0.page ≡ leader_page → ⊥) → slice_get y k ≡ Some s
  sector_was k s here other =
      sector_by y k s.0 s.1 (label_was k s.0 (label_here z k s here) other) (ap (λ (ps : List (List ℕ)). slice_get ps k) (sym d.pages) ∙ page_of_sector z k s here)

  -- the root, whose label is no file's
  root_was : (l : Label) → slice_get (labels_of y) 0 ≡ Some l → l.id ≢ id → slice_get z 0 ≡ slice_get y 0
  root_was l at other =
      let u = sector_of_label y 0 l at in
      let label : slice_get (labels_of z) 0 ≡ Some l =
      ap (λ (ls : List Label). slice_get ls 0) d.labels ∙ slice_get-map (marked_label id mark) (labels_of y) 0 ∙ ap (option_map (marked_label id mark)) at
      ∙ ap (λ (c : Bool). Some (if c then mark l else l)) (and_left (l.id == id) (l.page == leader_page) (ne_eqb l.id id other)) in
      sector_by z 0 l u.0.1 label (ap (λ (ps : List (List ℕ)). slice_get ps 0) d.pages ∙ page_of_sector y 0 u.0 u.1) ∙ (λ i. Some (sym u.2 i, u.0.1)) ∙ sym u.1

  pub keeps_marked : (l : Label) → slice_get (labels_of y) 0 ≡ Some l → l.id ≢ id → KeepsOthers id y z
  keeps_marked l at apart = record {
    long = same_long y z d.pages;
    root = root_was l at apart;
    others = λ k s here above file other. sector_was k s here (λ own leader. other own);
  }

  pub cells_marked : (q : ℕ) (bs : List ℕ) → q ≢ leader_page → HasPageBytes z id q bs → HasPageBytes y id q bs
  cells_marked q bs page t =
      let label : t.triple.label ≡ t.label = same_Some t.triple.label t.label (sym t.triple.there.here ∙ label_here z t.sector (t.label, bs) t.here) in
      let number : t.label.page ≡ q = sym (ap (λ (l : Label). l.page) label) ∙ t.triple.same_page in
      let here = sector_was t.sector (t.label, bs) t.here (λ own leader. page (sym number ∙ leader)) in
      let long : length (labels_of z) ≡ length (labels_of y) = ap (λ (ls : List Label). length ls) d.labels ∙ length-map (labels_of y) (marked_label id mark) in
      record {
        sector = t.sector;
        label = t.label;
        here = here;
        triple = record {
          label = t.label;
          there = record { is_data = subst (λ (n : ℕ). first_data n ≤ t.sector) long t.triple.there.is_data; here = label_here y t.sector (t.label, bs) here };
          taken = sym (ap is_free label) ∙ t.triple.taken;
          same_id = sym (ap (λ (l : Label). l.id) label) ∙ t.triple.same_id;
          same_page = number;
        };
      }
