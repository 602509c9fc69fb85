-- A set of pages goes.
use Rattle.std.proofs.Common.{◌≡◌, ◌≢◌, inl, inr, ⊎_elim, ℕ, ◌+◌, ◌*◌, ◌<◌, ◌≤◌, Bool, true, false, ◌&&◌, not, List, map, length, Option, Some, None, refl, sym, ◌∙◌, ap, subst, arith}
use Rattle.std.specs.Prelude.{slice_get, option_map, ◌==◌, if◌then◌else◌, IsTrue, IsSomeAnd}
use Rattle.std.proofs.lemmas.Option.{same_Some, none-some, slice_get-map}
use Rattle.std.proofs.lemmas.Bool.{and_parts, ne_eqb, eqb-false, false≢true, cases_eq}
use Rattle.std.proofs.lemmas.List.{length-map}
use Rattle.labelled_disk.specs.declared.label.Label.{Label}
use Rattle.labelled_disk.specs.declared.label.Wanted.{Wanted}
use Rattle.labelled_disk.specs.Label.{is_free, names}
use Rattle.labelled_disk.specs.Layout.{first_data, vam, vfm}
use Rattle.labelled_disk.specs.Sectors.{Sector, free_label}
use Rattle.file_map.specs.FileMap.{Triples}
use Rattle.swapper_kernel.specs.Stands.{labels_of}
use Rattle.swapper_kernel.specs.Kinds.{Kind, kind_of, HasKind, maps_alone}
use Rattle.session_words.specs.Parts.{Shape, Shapes, HasRoot, HasLabel, HasPages, HasLeaders, HasMapLabels, MarksFit, HasTriples, IsBesideData, is_marked}
use Rattle.session_words.specs.FreeLaws.{free_where, AreOfFiles, Frees}
use Rattle.swapper_kernel.specs.DiffersLaws.{label_here, sector_of_label}
use Rattle.swapper_kernel.proofs.KindLemmas.{root_kind}
use Rattle.session_words.proofs.LooseLemmas.{names_id}

module _ (labels : List Label) (gone : ℕ → ℕ → Bool) where
  long : length (map (free_where gone) labels) ≡ length labels
  long = length-map labels (free_where gone)

  stays_label : (l : Label) → gone l.id l.page ≡ false → free_where gone l ≡ l
  stays_label l e = ap (λ (b : Bool). if b then free_label else l) e

  goes_label : (l : Label) → gone l.id l.page ≡ true → free_where gone l ≡ free_label
  goes_label l e = ap (λ (b : Bool). if b then free_label else l) e

  -- a label that isn't free is as before, and didn't go
  label_kept : (k : ℕ) (l : Label) → slice_get (map (free_where gone) labels) k ≡ Some l → l.id ≢ 0 → (slice_get labels k ≡ Some l) × (gone l.id l.page ≡ false)
  label_kept k l here taken = either (slice_get labels k) refl
    where
      mapped : option_map (free_where gone) (slice_get labels k) ≡ Some l
      mapped = sym (slice_get-map (free_where gone) labels k) ∙ here

      by : (was : Label) → slice_get labels k ≡ Some was → free_where gone was ≡ l → (b : Bool) → gone was.id was.page ≡ b → (slice_get labels k ≡ Some l) × (gone l.id l.page ≡ false)
      by was e is true g = absurd (taken (ap (λ (x : Label). x.id) (sym is ∙ goes_label was g)))
      by was e is false g = let same : was ≡ l = sym (stays_label was g) ∙ is in (e ∙ ap (λ (x : Label). Some x) same, ap (λ (x : Label). gone x.id x.page) (sym same) ∙ g)

      either : (o : Option Label) → slice_get labels k ≡ o → (slice_get labels k ≡ Some l) × (gone l.id l.page ≡ false)
      either None e = absurd (none-some l (sym (ap (option_map (free_where gone)) e) ∙ mapped))
      either (Some was) e = by was e (same_Some (free_where gone was) l (sym (ap (option_map (free_where gone)) e) ∙ mapped)) (gone was.id was.page) refl

  label_stays : (k : ℕ) (l : Label) → slice_get labels k ≡ Some l → gone l.id l.page ≡ false → slice_get (map (free_where gone) labels) k ≡ Some l
  label_stays k l here g = slice_get-map (free_where gone) labels k ∙ ap (option_map (free_where gone)) here ∙ ap (λ (x : Label). Some x) (stays_label l g)

  has_kept : (k : ℕ) (l : Label) → HasLabel (map (free_where gone) labels) k l → is_free l ≡ false → HasLabel labels k l × (gone l.id l.page ≡ false)
  has_kept k l has taken =
      let r = label_kept k l has.here (eqb-false l.id 0 taken) in
      (record { is_data = subst (λ (n : ℕ). first_data n ≤ k) long has.is_data; here = r.0 }, r.1)

  has_stays : (k : ℕ) (l : Label) → HasLabel labels k l → gone l.id l.page ≡ false → HasLabel (map (free_where gone) labels) k l
  has_stays k l has g = record { is_data = subst (λ (n : ℕ). first_data n ≤ k) (sym long) has.is_data; here = label_stays k l has.here g }

  pub pages_gone : (owned : ℕ → ℕ → Bool) → HasPages labels owned → HasPages (map (free_where gone) labels) (λ i p. not (gone i p) && owned i p)
  pages_gone owned h = record {
    only = λ k l has taken.
        let was = has_kept k l has taken in
        let o = h.only k l was.0 taken in
        record { is = ap (λ (b : Bool). not b && owned l.id l.page) was.1 ∙ o.is; named = o.named };
    all = λ i p both.
        let parts = and_parts (not (gone i p)) (owned i p) both in
        let place = h.all i p parts.1 in
        record {
          place = place.place;
          label = place.label;
          there = has_stays place.place place.label place.there ((λ j. gone (place.same_id j) (place.same_page j)) ∙ not_false (gone i p) parts.0);
          taken = place.taken;
          same_id = place.same_id;
          same_page = place.same_page;
        };
    once = λ i j a b at_a at_b taken same_id same_page.
        h.once i j a b (has_kept i a at_a taken).0 (has_kept j b at_b (ap (λ (n : ℕ). n == 0) (sym same_id) ∙ taken)).0 taken same_id same_page;
  }
    where
      not_false : (b : Bool) → not b ≡ true → b ≡ false
      not_false true e = absurd (false≢true e)
      not_false false e = refl

  -- leaders that reveal of the files what they revealed
  pub leaders_gone : (shapes later : Shapes) → ((i : ℕ) (g : Shape) → later i ≡ Some g → (f : Shape) × (shapes i ≡ Some f) × (f.kind ≡ g.kind) × (f.permanent ≡ g.permanent) × (f.immutable ≡ g.immutable))
      → ((i : ℕ) (f : Shape) → shapes i ≡ Some f → 16 ≤ i) → HasLeaders labels shapes → HasLeaders (map (free_where gone) labels) later
  leaders_gone shapes later from given h = record {
    reveal = λ k l g has found leader.
        let f = from l.id g found in
        ⊎_elim
        (λ (z : l.id ≡ 0). let low = given l.id f.0 f.1 in absurd (omega (arith, z, low)))
        (λ (z : l.id ≢ 0).
        let t = h.reveal k l f.0 (has_kept k l has (ne_eqb l.id 0 z)).0 f.1 leader in
        record { kind = t.kind ∙ f.2; permanent = t.permanent ∙ f.3; immutable = t.immutable ∙ f.4 })
        (cases_eq l.id 0);
  }

  pub bits_gone : (marks later : ℕ → Bool) → MarksFit marks labels → ((k : ℕ) (l : Label) → HasLabel labels k l → later k ≡ (not (gone l.id l.page) && marks k)) → ((k : ℕ) → IsBesideData (length labels) k → later k ≡ marks k)
      → MarksFit later (map (free_where gone) labels)
  bits_gone marks later h says others = record {
    low = λ k below.
        let low : k < first_data (length labels) = subst (λ (n : ℕ). k < first_data n) long below in
        others k (inl low) ∙ h.low k low;
    bits = λ k l has. either k l has (slice_get labels k) refl;
    past = λ k end below.
        let far : length labels ≤ k = omega (arith, end, long) in
        let bit : k < 4096 * vam (length labels) = subst (λ (n : ℕ). k < 4096 * vam n) long below in
        others k (inr (far, bit)) ∙ h.past k far bit;
  }
    where
      by : (k : ℕ) (l was : Label) → HasLabel labels k was → free_where gone was ≡ l → (b : Bool) → gone was.id was.page ≡ b → later k ≡ not (is_free l)
      by k l was there is true g = says k was there ∙ ap (λ (b : Bool). not b && marks k) g ∙ ap (λ (x : Label). not (is_free x)) (sym (goes_label was g) ∙ is)
      by k l was there is false g = says k was there ∙ ap (λ (b : Bool). not b && marks k) g ∙ h.bits k was there ∙ ap (λ (x : Label). not (is_free x)) (sym (stays_label was g) ∙ is)

      either : (k : ℕ) (l : Label) → HasLabel (map (free_where gone) labels) k l → (o : Option Label) → slice_get labels k ≡ o → later k ≡ not (is_free l)
      either k l has None e = absurd (none-some l (sym (ap (option_map (free_where gone)) e) ∙ sym (slice_get-map (free_where gone) labels k) ∙ has.here))
      either k l has (Some was) e =
          by k l was (record { is_data = subst (λ (n : ℕ). first_data n ≤ k) long has.is_data; here = e })
          (same_Some (free_where gone was) l (sym (ap (option_map (free_where gone)) e) ∙ sym (slice_get-map (free_where gone) labels k) ∙ has.here)) (gone was.id was.page) refl

  pub triples_gone : (named later : Triples) → HasTriples named labels → ((i p s : ℕ) → later i p s ≡ (not (gone i p) && named i p s)) → HasTriples later (map (free_where gone) labels)
  triples_gone named later h says = record {
    only = λ i p s is.
        let both = and_parts (not (gone i p)) (named i p s) (sym (says i p s) ∙ is) in
        let t = h.only i p s both.1 in
        record {
          label = t.label;
          there = has_stays s t.label t.there ((λ j. gone (t.same_id j) (t.same_page j)) ∙ not_false (gone i p) both.0);
          taken = t.taken;
          same_id = t.same_id;
          same_page = t.same_page;
        };
    all = λ i p s t.
        let was = has_kept s t.label t.there t.taken in
        let stays_there : gone i p ≡ false = (λ j. gone (sym t.same_id j) (sym t.same_page j)) ∙ was.1 in
        says i p s ∙ ap (λ (b : Bool). not b && named i p s) stays_there ∙ h.all i p s (record { label = t.label; there = was.0; taken = t.taken; same_id = t.same_id; same_page = t.same_page });
  }
    where
      not_false : (b : Bool) → not b ≡ true → b ≡ false
      not_false true e = absurd (false≢true e)
      not_false false e = refl

  module _ (reserved : AreOfFiles gone) where
    kept_reserved : (l : Label) → l.id ≢ 3 → l.id < 16 → gone l.id l.page ≡ false
    kept_reserved l three low = by (gone l.id l.page) refl
      where
        by : (b : Bool) → gone l.id l.page ≡ b → gone l.id l.page ≡ false
        by false e = e
        by true e = absurd (⊎_elim (λ (q : l.id ≡ 3). three q) (λ (q : 16 ≤ l.id). omega arith) (reserved l.id l.page e))

    named_stays : (k : ℕ) (w : Wanted) → w.id < 3 → IsSomeAnd (slice_get labels k) (λ l. IsTrue (names l w)) → IsSomeAnd (slice_get (map (free_where gone) labels) k) (λ l. IsTrue (names l w))
    named_stays k w low is = either (slice_get labels k) refl is
      where
        either : (o : Option Label) → slice_get labels k ≡ o → IsSomeAnd o (λ l. IsTrue (names l w)) → IsSomeAnd (slice_get (map (free_where gone) labels) k) (λ l. IsTrue (names l w))
        either None e a = absurd a
        either (Some l) e a =
            let same = names_id l w a in
            subst (λ (o : Option Label). IsSomeAnd o (λ l. IsTrue (names l w))) (sym (label_stays k l e (kept_reserved l (λ q. omega (arith, same, q, low)) (omega (arith, same, low))))) a

    pub map_labels_gone : HasMapLabels labels → HasMapLabels (map (free_where gone) labels)
    map_labels_gone h = record {
      allocation = λ k below. named_stays (1 + k) (record { id = 1; page = k }) (omega arith) (h.allocation k (subst (λ (n : ℕ). k < vam n) long below));
      file_map = λ k below. subst (λ (n : ℕ). IsSomeAnd (slice_get (map (free_where gone) labels) (1 + vam n + k)) (λ l. IsTrue (names l (record { id = 2; page = k })))) (sym long)
          (named_stays (1 + vam (length labels) + k) (record { id = 2; page = k }) (omega arith) (h.file_map k (subst (λ (n : ℕ). k < vfm n) long below)));
    }

module _ (gone : ℕ → ℕ → Bool) (reserved : AreOfFiles gone) (x y : List Sector) (d : Frees gone x y) where
  long_y : length y ≡ length x
  long_y = sym (length-map y (λ s. s.0)) ∙ ap (λ (l : List Label). length l) d.labels ∙ length-map (labels_of x) (free_where gone) ∙ length-map x (λ s. s.0)

  pub sector_kept : (kind : Kind) → maps_alone kind ≡ false → (k : ℕ) (t : Sector) → HasKind y k t kind → t.0.id ≢ 0 → HasKind x k t kind × (gone t.0.id t.0.page ≡ false)
  sector_kept kind other k t has taken =
      let was = label_kept (labels_of x) gone k t.0 (ap (λ (l : List Label). slice_get l k) (sym d.labels) ∙ label_here y k t has.here) taken in
      let s = sector_of_label x k t.0 was.0 in
      let is : kind_of (length x) k t.0 ≡ kind = ap (λ (n : ℕ). kind_of n k t.0) (sym long_y) ∙ has.is in
      let same : s.0 ≡ t = same_Some s.0 t (sym (d.pages k s.0 s.1 (ap (λ (l : Label). gone l.id l.page) s.2 ∙ was.1) (ap (λ (l : Label). maps_alone (kind_of (length x) k l)) s.2 ∙ ap maps_alone is ∙ other)) ∙ has.here) in
      (record { here = s.1 ∙ ap (λ (z : Sector). Some z) same; is = is }, was.1)

  -- the bits, by the labels
  pub bits_freed : MarksFit (is_marked x) (labels_of x) → MarksFit (is_marked y) (labels_of y)
  bits_freed h = subst (MarksFit (is_marked y)) (sym d.labels)
      (bits_gone (labels_of x) gone (is_marked x) (is_marked y) h d.bits (λ k beside. d.others k (subst (λ (n : ℕ). IsBesideData n k) (length-map x (λ s. s.0)) beside)))

  -- and the triples
  pub triples_freed : (named : Triples) → HasTriples named (labels_of x) → HasTriples (λ i p s. not (gone i p) && named i p s) (labels_of y)
  triples_freed named h = subst (HasTriples (λ i p s. not (gone i p) && named i p s)) (sym d.labels) (triples_gone (labels_of x) gone named (λ i p s. not (gone i p) && named i p s) h (λ i p s. refl))

  pub root_kept : (serial counter room : ℕ) → HasRoot (length x) (slice_get x 0) serial counter room → HasRoot (length y) (slice_get y 0) serial counter room
  root_kept serial counter room h = subst (λ (n : ℕ). HasRoot n (slice_get y 0) serial counter room) (sym long_y) (either (slice_get x 0) refl h)
    where
      either : (o : Option Sector) → slice_get x 0 ≡ o → HasRoot (length x) o serial counter room → HasRoot (length x) (slice_get y 0) serial counter room
      either None e r = absurd r.valid.label
      either (Some s) e r =
          let four = names_id s.0 (record { id = 4; page = 0 }) r.valid.label in
          let stays_there = d.pages 0 s e (kept_reserved (labels_of x) gone reserved s.0 (λ q. omega (arith, four, q)) (omega (arith, four))) (ap maps_alone (root_kind (length x) s.0)) in
          subst (λ (o : Option Sector). HasRoot (length x) o serial counter room) (sym stays_there) r
