-- A growth after a growth.
use Rattle.std.proofs.Common.{◌≡◌, ◌≢◌, ◌⊎◌, inl, inr, ℕ, zero, suc, ◌+◌, ◌*◌, ◌<◌, ◌≤◌, Bool, true, false, List, [], ◌∷◌, ◌++◌, length, Some, refl, sym, ◌∙◌, ap, subst, arith}
use Rattle.std.specs.Prelude.{slice_get, slice_set, ◌==◌, ◌&&◌, ◌||◌, if◌then◌else◌}
use Rattle.std.proofs.lemmas.Option.{same_Some, none-some, slice_get_within}
use Rattle.std.proofs.lemmas.List.{length-map}
use Rattle.labelled_disk.specs.declared.disk.DiskWrite.{DiskWrite}
use Rattle.labelled_disk.specs.declared.disk.DiskWrite.TheVariants as write
use Rattle.labelled_disk.specs.declared.label.Label.{Label}
use Rattle.labelled_disk.specs.Layout.{first_data, vam}
use Rattle.labelled_disk.specs.Label.{is_file, page_label}
use Rattle.labelled_disk.specs.Runs.{growth, zero_bytes}
use Rattle.labelled_disk.specs.Sectors.{Sector, AreSectors}
use Rattle.file_map.specs.FileMap.{Triples}
use Rattle.file_map.specs.InSectors.{MapNames}
use Rattle.swapper_kernel.specs.Stands.{labels_of}
use Rattle.swapper_kernel.specs.Kinds.{kind_of, maps_alone, the_tables, a_file, unused}
use Rattle.swapper_kernel.proofs.KindLemmas.{data_kind}
use Rattle.session_words.specs.Parts.{is_marked}
use Rattle.session_words.specs.GrowLaws.{AreFree, GrowsPages, Grows, grown_labels, grown_marks, grown_names}
use Rattle.session_words.proofs.GrownLemmas.{grown_long, free_are_data}
use Rattle.file_manager.proofs.RowLemmas.{is_in}

-- a list after a list: where its elements come from
pub get_either : (is js : List ℕ) (j k : ℕ) → slice_get (is ++ js) j ≡ Some k → ((i : ℕ) × (slice_get is i ≡ Some k)) ⊎ ((i : ℕ) × (slice_get js i ≡ Some k))
get_either [] js j k at = inr (j, at)
get_either (i ∷ is) js zero k at = inl (zero, at)
get_either (i ∷ is) js (suc j) k at = elim (get_either is js j k at) [ inl (n, here) ↦ inl (suc n, here) | inr there ↦ inr there ]

pub get_first : (is js : List ℕ) (i k : ℕ) → slice_get is i ≡ Some k → slice_get (is ++ js) i ≡ Some k
get_first [] js i k at = absurd (none-some k at)
get_first (x ∷ is) js zero k at = at
get_first (x ∷ is) js (suc i) k at = get_first is js i k at

pub get_second : (is js : List ℕ) (i k : ℕ) → slice_get js i ≡ Some k → (j : ℕ) × (slice_get (is ++ js) j ≡ Some k)
get_second [] js i k at = (i, at)
get_second (x ∷ is) js i k at = let rest = get_second is js i k at in (suc rest.0, rest.1)

pub growth_append : (id kind page : ℕ) (is js : List ℕ) → growth id kind page (is ++ js) ≡ growth id kind page is ++ growth id kind (page + length is) js
growth_append id kind page [] js = let z : page ≡ page + 0 = omega arith in ap (λ (n : ℕ). growth id kind n js) z
growth_append id kind page (i ∷ is) js =
    let z : page + 1 + length is ≡ page + suc (length is) = omega arith in
    ap (λ (ws : List DiskWrite). write.Whole i (page_label id kind page) zero_bytes ∷ ws) (growth_append id kind (page + 1) is js ∙ ap (λ (n : ℕ). growth id kind (page + 1) is ++ growth id kind n js) z)

labels_append : (id kind page : ℕ) (is js : List ℕ) (labels : List Label) → grown_labels id kind page (is ++ js) labels ≡ grown_labels id kind (page + length is) js (grown_labels id kind page is labels)
labels_append id kind page [] js labels = let z : page ≡ page + 0 = omega arith in ap (λ (n : ℕ). grown_labels id kind n js labels) z
labels_append id kind page (i ∷ is) js labels =
    let z : page + 1 + length is ≡ page + suc (length is) = omega arith in
    labels_append id kind (page + 1) is js (slice_set labels i (page_label id kind page)) ∙ ap (λ (n : ℕ). grown_labels id kind n js (grown_labels id kind (page + 1) is (slice_set labels i (page_label id kind page)))) z

marks_append : (is js : List ℕ) (marks : ℕ → Bool) (k : ℕ) → grown_marks (is ++ js) marks k ≡ grown_marks js (grown_marks is marks) k
marks_append [] js marks k = refl
marks_append (i ∷ is) js marks k = marks_append is js (λ k. k == i || marks k) k

-- the same bits before are the same afterwards
pub marks_alike : (is : List ℕ) (marks later : ℕ → Bool) (k : ℕ) → marks k ≡ later k → grown_marks is marks k ≡ grown_marks is later k
marks_alike [] marks later k same = same
marks_alike (i ∷ is) marks later k same = marks_alike is (λ j. j == i || marks j) (λ j. j == i || later j) k (ap (λ (b : Bool). k == i || b) same)

names_append : (id page : ℕ) (is js : List ℕ) (named : Triples) (i p s : ℕ) → grown_names id page (is ++ js) named i p s ≡ grown_names id (page + length is) js (grown_names id page is named) i p s
names_append id page [] js named i p s = let z : page ≡ page + 0 = omega arith in ap (λ (n : ℕ). grown_names id n js named i p s) z
names_append id page (k ∷ is) js named i p s =
    let z : page + 1 + length is ≡ page + suc (length is) = omega arith in
    names_append id (page + 1) is js (λ j p s. (j == id && p == page && s == k) || named j p s) i p s
    ∙ ap (λ (n : ℕ). grown_names id n js (grown_names id (page + 1) is (λ j p s. (j == id && p == page && s == k) || named j p s)) i p s) z

pub free_append : (id kind page : ℕ) (is js : List ℕ) (labels : List Label) → AreFree id kind page is labels → AreFree id kind (page + length is) js (grown_labels id kind page is labels) → AreFree id kind page (is ++ js) labels
free_append id kind page [] js labels first next = let z : page + 0 ≡ page = omega arith in subst (λ (n : ℕ). AreFree id kind n js labels) z next
free_append id kind page (i ∷ is) js labels first next =
    let z : page + suc (length is) ≡ page + 1 + length is = omega arith in (
      first.0,
      free_append id kind (page + 1) is js (slice_set labels i (page_label id kind page)) first.1
          (subst (λ (n : ℕ). AreFree id kind n js (grown_labels id kind (page + 1) is (slice_set labels i (page_label id kind page)))) z next),
    )

-- other words for the same triples
pub renamed : (m : List Sector) (named also : Triples) → ((id page sector : ℕ) → also id page sector ≡ named id page sector) → MapNames m named → MapNames m also
renamed m named also same h = record { runs = h.runs; listed = h.listed; form = h.form; few = h.few; are = λ id page sector. same id page sector ∙ h.are id page sector }

-- a data sector is none of a map
pub data_no_map : (n k : ℕ) (l : Label) → first_data n ≤ k → maps_alone (kind_of n k l) ≡ false
data_no_map n k l is = ap maps_alone (data_kind n k l is) ∙ either (l.id == 3) (is_file l)
  where
    either : (a b : Bool) → maps_alone (if a then the_tables else (if b then a_file else unused)) ≡ false
    either true b = refl
    either false true = refl
    either false false = refl

pub long_grown : (id kind page : ℕ) (is : List ℕ) (x y : List Sector) → labels_of y ≡ grown_labels id kind page is (labels_of x) → length y ≡ length x
long_grown id kind page is x y labels = sym (length-map y (λ s. s.0)) ∙ ap (λ (l : List Label). length l) labels ∙ grown_long id kind page is (labels_of x) ∙ length-map x (λ s. s.0)

pages_then : (id kind page : ℕ) (is js : List ℕ) (x y z : List Sector) → GrowsPages id kind page is x y → GrowsPages id kind (page + length is) js y z → GrowsPages id kind page (is ++ js) x z
pages_then id kind page is js x y z g h = record {
  free = free_append id kind page is js (labels_of x) g.free (subst (AreFree id kind (page + length is) js) g.labels h.free);
  labels = h.labels ∙ ap (grown_labels id kind (page + length is) js) g.labels ∙ sym (labels_append id kind page is js (labels_of x));
  pages = λ k s here none other.
      let now = g.pages k s here (λ i at. none i (get_first is js i k at)) other in
      h.pages k s now (λ i at. let there = get_second is js i k at in none there.0 there.1) (ap (λ (n : ℕ). maps_alone (kind_of n k s.0)) long ∙ other);
  fresh = λ j k s at here. elim (is_in js k) [
    | inl (i, later) ↦ h.fresh i k s later here
    | inr none ↦ elim (get_either is js j k at) [
      | inr (i, later) ↦ absurd (none i later)
      | inl (i, first) ↦ made i k s first none here
    ]
  ];
  sectors = h.sectors;
}
  where
    long : length y ≡ length x
    long = long_grown id kind page is x y g.labels

    made : (i k : ℕ) (s : Sector) → slice_get is i ≡ Some k → ((j : ℕ) → slice_get js j ≢ Some k) → slice_get z k ≡ Some s → s.1 ≡ zero_bytes
    made i k s at none here =
        let long_z : length z ≡ length y = long_grown id kind (page + length is) js y z h.labels in
        let within = slice_get_within z k s here in
        let there = there_is y k (omega (arith, within, long_z)) in
        let is_data : first_data (length y) ≤ k = subst (λ (n : ℕ). first_data n ≤ k) (length-map x (λ s. s.0) ∙ sym long) (free_are_data id kind page is (labels_of x) i k g.free at) in
        let same : there.0 ≡ s = same_Some there.0 s (sym (h.pages k there.0 there.1 none (data_no_map (length y) k there.0.0 is_data)) ∙ here) in
        ap (λ (t : Sector). t.1) (sym same) ∙ g.fresh i k there.0 at there.1
      where
        there_is : (ys : List Sector) (k : ℕ) → k < length ys → (t : Sector) × (slice_get ys k ≡ Some t)
        there_is [] k below = absurd (omega (arith, below))
        there_is (y ∷ ys) zero below = (y, refl)
        there_is (y ∷ ys) (suc k) below = there_is ys k (omega (arith, below))

pub grows_then : (id kind page : ℕ) (is js : List ℕ) (x y z : List Sector) → Grows id kind page is x y → Grows id kind (page + length is) js y z → Grows id kind page (is ++ js) x z
grows_then id kind page is js x y z g h = record {
  grown = pages_then id kind page is js x y z g.grown h.grown;
  bits = λ k below.
      let long : length y ≡ length x = long_grown id kind page is x y g.grown.labels in
      h.bits k (subst (λ (n : ℕ). k < 4096 * vam n) (sym long) below) ∙ marks_alike js (is_marked y) (grown_marks is (is_marked x)) k (g.bits k below) ∙ sym (marks_append is js (is_marked x) k);
  triples = λ named map. renamed z (grown_names id (page + length is) js (grown_names id page is named)) (grown_names id page (is ++ js) named) (names_append id page is js named) (h.triples (grown_names id page is named) (g.triples named map));
}

-- no page yet
pub grows_none : (id kind page : ℕ) (x : List Sector) → AreSectors x → Grows id kind page [] x x
grows_none id kind page x sectors = record {
  grown = record { free = tt; labels = refl; pages = λ k s here none other. here; fresh = λ j k s at here. absurd (none-some k at); sectors = sectors };
  bits = λ k below. refl;
  triples = λ named map. map;
}
