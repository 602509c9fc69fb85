-- Labels, bits and triples of a file that grows.
use Rattle.std.proofs.Common.{◌≡◌, ◌≢◌, ◌⊎◌, inl, inr, ⊎_elim, ℕ, zero, suc, ◌+◌, ◌<◌, ◌≤◌, Bool, true, false, ◌&&◌, ◌||◌, not, List, [], ◌∷◌, length, Option, Some, None, refl, sym, ◌∙◌, ap, subst, arith, length-set}
use Rattle.std.specs.Prelude.{slice_get, slice_set, ◌==◌, if◌then◌else◌, IsTrue, IsSomeAnd}
use Rattle.std.proofs.lemmas.Option.{same_Some, none-some, slice_get_within}
use Rattle.std.proofs.lemmas.Bool.{eq-eqb, ne_eqb, eqb-true, true≢false, cases_eq}
use Rattle.labelled_disk.specs.declared.label.Label.{Label}
use Rattle.labelled_disk.specs.declared.label.Wanted.{Wanted}
use Rattle.labelled_disk.specs.Label.{is_file_id, is_free, names, leader_page, page_label}
use Rattle.labelled_disk.specs.Layout.{first_data, vam, vfm}
use Rattle.labelled_disk.specs.File.{size}
use Rattle.labelled_disk.proofs.Finds.{get_set_same, get_set_other}
use Rattle.file_map.specs.FileMap.{Triples}
use Rattle.session_words.specs.Parts.{Shape, Shapes, HasLabelsUpto, HasMapLabels, is_owned_upto}
use Rattle.session_words.specs.Found.{AreShapes}
use Rattle.session_words.specs.PlaceLaws.{IsMade, with_shape, sized}
use Rattle.session_words.specs.GrowLaws.{IsBookUpto, grown_labels, grown_marks, grown_names, AreFree}
use Rattle.session_words.proofs.FoundLemmas.{owner_upto, above_reserved}
use Rattle.session_words.proofs.LooseLemmas.{names_id}
use Rattle.session_words.proofs.PlaceLemmas.{labels_grown}
use Rattle.session_words.proofs.BookLemmas.{bits_set, triples_made}

-- a label of a page names it
pub page_label_named : (id kind page : ℕ) → names (page_label id kind page) (record { id = id; page = page }) ≡ true
page_label_named id kind page = let a : (id == id) ≡ true = eq-eqb id id refl in let b : (page == page) ≡ true = eq-eqb page page refl in rw (a, b) refl

with_twice : (shapes : Shapes) (id : ℕ) (f g : Shape) → with_shape (with_shape shapes id f) id g ≡ with_shape shapes id g
with_twice shapes id f g = λ i j. each j (j == id) i
  where
    each : (j : ℕ) (b : Bool) → (if b then Some g else (if b then Some f else shapes j)) ≡ (if b then Some g else shapes j)
    each j true = refl
    each j false = refl

pub with_here : (shapes : Shapes) (id : ℕ) (f : Shape) → with_shape shapes id f id ≡ Some f
with_here shapes id f = let a : (id == id) ≡ true = eq-eqb id id refl in ap (λ (b : Bool). if b then Some f else shapes id) a

with_are : (shapes : Shapes) (id : ℕ) (f g : Shape) → AreShapes shapes → shapes id ≡ Some f → g.size < leader_page → AreShapes (with_shape shapes id g)
with_are shapes id f g are is short = record {
  given = λ i h found. given i h (i == id) refl found;
  short = λ i h found. shorter i h (i == id) found;
}
  where
    given : (i : ℕ) (h : Shape) (b : Bool) → (i == id) ≡ b → (if b then Some g else shapes i) ≡ Some h → is_file_id i ≡ true
    given i h true e found = are.given i f (ap shapes (eqb-true i id e) ∙ is)
    given i h false e found = are.given i h found

    shorter : (i : ℕ) (h : Shape) (b : Bool) → (if b then Some g else shapes i) ≡ Some h → h.size < leader_page
    shorter i h true found = let s : g.size ≡ h.size = ap (λ (x : Shape). x.size) (same_Some g h found) in omega (arith, s, short)
    shorter i h false found = are.short i h found

-- page by page
pub book_grown : {tables : ℕ} (id kind : ℕ) (is : List ℕ) (labels : List Label) (shapes : Shapes) (marks : ℕ → Bool) (named : Triples) (f : Shape) (page : ℕ) → f.size ≡ page → AreShapes shapes → shapes id ≡ Some f
    → page + length is < leader_page → AreFree id kind page is labels → IsBookUpto tables labels shapes marks named
    → IsBookUpto tables (grown_labels id kind page is labels) (with_shape shapes id (sized (page + length is) f)) (grown_marks is marks) (grown_names id page is named)
book_grown {tables = tables} id kind [] labels shapes marks named f page size are found short free h =
    let z : page + 0 ≡ f.size = omega arith in
    let same : with_shape shapes id (sized (page + 0) f) ≡ shapes = λ i j. each (ap (λ (n : ℕ). sized n f) z) j (j == id) refl i in
    subst (λ (s : Shapes). IsBookUpto tables labels s marks named) (sym same) h
  where
    each : sized (page + 0) f ≡ f → (j : ℕ) (b : Bool) → (j == id) ≡ b → (if b then Some (sized (page + 0) f) else shapes j) ≡ shapes j
    each same j true e = ap (λ (x : Shape). Some x) same ∙ sym found ∙ ap shapes (sym (eqb-true j id e))
    each same j false e = refl
book_grown {tables = tables} id kind (i ∷ is) labels shapes marks named f page size are found short free h =
    let new : Label = page_label id kind page in
    let high = above_reserved id (are.given id f found) in
    let taken : is_free (page_label id kind page) ≡ false = ne_eqb id 0 (omega arith) in
    let made : IsMade labels i (page_label id kind page) (is_owned_upto tables shapes) = record {
      old = free.0.label;
      there = free.0.there;
      free = free.0.free;
      taken = taken;
      named = page_label_named id kind page;
      fresh = unowned (is_owned_upto tables shapes id page) refl;
    } in
    let z : suc f.size ≡ page + 1 = omega arith in
    let once : IsBookUpto tables (slice_set labels i (page_label id kind page)) (with_shape shapes id (sized (page + 1) f)) (λ k. k == i || marks k) (λ j p s. (j == id && p == page && s == i) || named j p s) = record {
      labels_right = subst (λ (n : ℕ). HasLabelsUpto tables (slice_set labels i (page_label id kind page)) (with_shape shapes id (sized n f))) z (labels_grown labels i (page_label id kind page) shapes f h.labels_right are made found (sym size));
      bits = bits_set labels marks (λ k. k == i || marks k) i (page_label id kind page) free.0.label h.bits free.0.there
          ((let a : (i == i) ≡ true = eq-eqb i i refl in ap (λ (b : Bool). b || marks i) a) ∙ ap not (sym taken))
          (λ k below other. let a : (k == i) ≡ false = ne_eqb k i other in ap (λ (b : Bool). b || marks k) a);
      triples = triples_made labels named (λ j p s. (j == id && p == page && s == i) || named j p s) i free.0.label (page_label id kind page) h.triples free.0.there free.0.free taken (λ j p s. refl);
    } in
    let rest = book_grown {tables = tables} id kind is (slice_set labels i (page_label id kind page)) (with_shape shapes id (sized (page + 1) f)) (λ k. k == i || marks k) (λ j p s. (j == id && p == page && s == i) || named j p s)
    (sized (page + 1) f) (page + 1) refl (with_are shapes id f (sized (page + 1) f) are found (omega (arith, short))) (with_here shapes id (sized (page + 1) f)) (omega (arith, short)) free.1 once in
    let y : page + 1 + length is ≡ page + suc (length is) = omega arith in
    subst (λ (s : Shapes). IsBookUpto tables (grown_labels id kind (page + 1) is (slice_set labels i (page_label id kind page))) s (grown_marks is (λ k. k == i || marks k)) (grown_names id (page + 1) is (λ j p s. (j == id && p == page && s == i) || named j p s)))
    (with_twice shapes id (sized (page + 1) f) (sized (page + 1 + length is) f) ∙ ap (λ (n : ℕ). with_shape shapes id (sized n f)) y) rest
  where
    unowned : (b : Bool) → is_owned_upto tables shapes id page ≡ b → is_owned_upto tables shapes id page ≡ false
    unowned false e = e
    unowned true e =
        let high = above_reserved id (are.given id f found) in
        let g = owner_upto tables shapes id page (omega arith) e in
        let same : f ≡ g.0 = same_Some f g.0 (sym found ∙ g.1) in
        let sizes : f.size ≡ g.0.size = ap (λ (x : Shape). x.size) same in
        absurd (⊎_elim (λ (l : page ≡ leader_page). omega (arith, l, short)) (λ (l : page < g.0.size). omega (arith, l, size, sizes)) g.2)

-- a label after a growth is one of before, elsewhere, or that of a new page
pub grown_get : (id kind page : ℕ) (is : List ℕ) (labels : List Label) (k : ℕ) (l : Label) → slice_get (grown_labels id kind page is labels) k ≡ Some l
    → ((slice_get labels k ≡ Some l) × ((j : ℕ) → slice_get is j ≢ Some k)) ⊎ ((j : ℕ) × (slice_get is j ≡ Some k) × (l ≡ page_label id kind (page + j)))
grown_get id kind page [] labels k l here = inl (here, λ j e. none-some k e)
grown_get id kind page (i ∷ is) labels k l here = elim (grown_get id kind (page + 1) is (slice_set labels i (page_label id kind page)) k l here) [
  | inr (j, at, label) ↦ inr (suc j, at, label ∙ (let z : page + 1 + j ≡ page + suc j = omega arith in ap (λ (n : ℕ). page_label id kind n) z))
  | inl (was, none) ↦ ⊎_elim
      (λ (q : k ≡ i).
      let within = slice_get_within (slice_set labels i (page_label id kind page)) k l was in
      let inside : i < length labels = omega (arith, within, q, length-set labels i (page_label id kind page)) in
      let same : page_label id kind page ≡ l = same_Some (page_label id kind page) l (sym (get_set_same labels i (page_label id kind page) inside) ∙ ap (slice_get (slice_set labels i (page_label id kind page))) (sym q) ∙ was) in
      inr (0, ap (λ (n : ℕ). Some n) (sym q), sym same ∙ (let z : page ≡ page + 0 = omega arith in ap (λ (n : ℕ). page_label id kind n) z)))
      (λ (q : k ≢ i). inl (sym (get_set_other labels i k (page_label id kind page) q) ∙ was, λ j e. nowhere j q none e))
      (cases_eq k i)
]
  where
    nowhere : (j : ℕ) → k ≢ i → ((j : ℕ) → slice_get is j ≢ Some k) → slice_get (i ∷ is) j ≢ Some k
    nowhere zero q none e = q (sym (same_Some i k e))
    nowhere (suc j) q none e = none j e

pub grown_long : (id kind page : ℕ) (is : List ℕ) (labels : List Label) → length (grown_labels id kind page is labels) ≡ length labels
grown_long id kind page [] labels = refl
grown_long id kind page (i ∷ is) labels = grown_long id kind (page + 1) is (slice_set labels i (page_label id kind page)) ∙ length-set labels i (page_label id kind page)

-- a label that isn't free stays
grown_stays : (id kind page : ℕ) (is : List ℕ) (labels : List Label) (k : ℕ) (l : Label) → AreFree id kind page is labels → is_free l ≡ false → slice_get labels k ≡ Some l
    → (slice_get (grown_labels id kind page is labels) k ≡ Some l) × ((j : ℕ) → slice_get is j ≢ Some k)
grown_stays id kind page [] labels k l free taken here = (here, λ j e. none-some k e)
grown_stays id kind page (i ∷ is) labels k l free taken here =
    let other : k ≢ i = λ q. true≢false (sym free.0.free ∙ ap is_free (same_Some free.0.label l (sym free.0.there.here ∙ ap (slice_get labels) (sym q) ∙ here)) ∙ taken) in
    let rest = grown_stays id kind (page + 1) is (slice_set labels i (page_label id kind page)) k l free.1 taken (get_set_other labels i k (page_label id kind page) other ∙ here) in
    (rest.0, λ j e. nowhere j other rest.1 e)
  where
    nowhere : (j : ℕ) → k ≢ i → ((j : ℕ) → slice_get is j ≢ Some k) → slice_get (i ∷ is) j ≢ Some k
    nowhere zero q none e = q (sym (same_Some i k e))
    nowhere (suc j) q none e = none j e

-- a free sector that is taken is a data sector, and so are all
pub free_are_data : (id kind page : ℕ) (is : List ℕ) (labels : List Label) (j k : ℕ) → AreFree id kind page is labels → slice_get is j ≡ Some k → first_data (length labels) ≤ k
free_are_data id kind page [] labels j k free at = absurd (none-some k at)
free_are_data id kind page (i ∷ is) labels zero k free at = let z : i ≡ k = same_Some i k at in subst (λ (n : ℕ). first_data (length labels) ≤ n) z free.0.there.is_data
free_are_data id kind page (i ∷ is) labels (suc j) k free at =
    subst (λ (n : ℕ). first_data n ≤ k) (length-set labels i (page_label id kind page)) (free_are_data id kind (page + 1) is (slice_set labels i (page_label id kind page)) j k free.1 at)

-- labels of the reserved identifiers stay
pub map_labels_grown : (id kind page : ℕ) (is : List ℕ) (labels : List Label) → AreFree id kind page is labels → HasMapLabels labels → HasMapLabels (grown_labels id kind page is labels)
map_labels_grown id kind page is labels free h = record {
  allocation = λ k below. named_stays (1 + k) (record { id = 1; page = k }) (omega arith) (h.allocation k (subst (λ (n : ℕ). k < vam n) (grown_long id kind page is labels) below));
  file_map = λ k below.
      subst (λ (n : ℕ). IsSomeAnd (slice_get (grown_labels id kind page is labels) (1 + vam n + k)) (λ l. IsTrue (names l (record { id = 2; page = k })))) (sym (grown_long id kind page is labels))
      (named_stays (1 + vam (length labels) + k) (record { id = 2; page = k }) (omega arith) (h.file_map k (subst (λ (n : ℕ). k < vfm n) (grown_long id kind page is labels) below)));
}
  where
    named_stays : (k : ℕ) (w : Wanted) → 0 < w.id → IsSomeAnd (slice_get labels k) (λ l. IsTrue (names l w)) → IsSomeAnd (slice_get (grown_labels id kind page is labels) k) (λ l. IsTrue (names l w))
    named_stays k w some is_named = either (slice_get labels k) refl is_named
      where
        either : (o : Option Label) → slice_get labels k ≡ o → IsSomeAnd o (λ l. IsTrue (names l w)) → IsSomeAnd (slice_get (grown_labels id kind page is labels) k) (λ l. IsTrue (names l w))
        either None e a = absurd a
        either (Some l) e a =
            let own = names_id l w a in
            subst (λ (o : Option Label). IsSomeAnd o (λ l. IsTrue (names l w))) (sym (grown_stays id kind page is labels k l free (ne_eqb l.id 0 (omega (arith, own, some))) e).0) a
