-- Labels under a mark.
use Rattle.std.proofs.Common.{◌≡◌, ◌⊎◌, inl, inr, ℕ, ◌+◌, ◌*◌, ◌<◌, ◌≤◌, Bool, true, false, ◌&&◌, not, List, map, length, Option, Some, None, refl, sym, ◌∙◌, ap, subst, arith}
use Rattle.std.specs.Prelude.{slice_get, option_map, nat_lt, ◌==◌, if◌then◌else◌, IsTrue, IsSomeAnd}
use Rattle.std.proofs.lemmas.Option.{same_Some, none-some, slice_get-map}
use Rattle.std.proofs.lemmas.Bool.{and_parts, and_from, and_left, eq-eqb, ne_eqb, eqb-true}
use Rattle.std.proofs.lemmas.List.{length-map}
use Rattle.labelled_disk.specs.declared.label.Label.{Label}
use Rattle.labelled_disk.specs.declared.label.Wanted.{Wanted}
use Rattle.labelled_disk.specs.Label.{is_file, is_file_id, is_free, names, leader_page}
use Rattle.labelled_disk.specs.Layout.{first_data, vam, vfm}
use Rattle.labelled_disk.specs.File.{File}
use Rattle.file_map.specs.FileMap.{Triples}
use Rattle.label_laws.specs.Marks.{permanent_label, immutable_label}
use Rattle.label_laws.proofs.FileLemmas.{marks_are_added}
use Rattle.session_words.specs.Parts.{shape_of, HasLabel, HasPages, HasMapLabels, MarksFit, HasTriples, IsLeader, IsOwned}
use Rattle.session_words.specs.MarkLaws.{marked_label}
use Rattle.session_words.proofs.FoundLemmas.{above_reserved}
use Rattle.session_words.proofs.LooseLemmas.{names_id}

-- A mark of labels, and what it is of files.
pub record IsMark (mark : Label → Label) (change : File → File) : Type 0 where
  pub same_id : (l : Label) → (mark l).id ≡ l.id
  pub same_page : (l : Label) → (mark l).page ≡ l.page
  pub file : (l : Label) → is_file l ≡ true → is_file (mark l) ≡ true
  pub leads : (l : Label) (f : File) → is_file l ≡ true → IsLeader l (shape_of f) → IsLeader (mark l) (shape_of (change f))
  pub id_kept : (f : File) → (change f).id ≡ f.id
  pub pages_kept : (f : File) → (change f).pages ≡ f.pages

pub is_permanent_mark : IsMark permanent_label (λ f. record f { permanent = true })
is_permanent_mark = record {
  same_id = λ l. refl;
  same_page = λ l. refl;
  file = λ l is. (marks_are_added l is).file;
  leads = λ l f is lead. let marks = marks_are_added l is in record { kind = lead.kind; permanent = marks.is_now_permanent; immutable = marks.immutable_as_before ∙ lead.immutable };
  id_kept = λ f. refl;
  pages_kept = λ f. refl;
}

pub is_immutable_mark : IsMark immutable_label (λ f. record f { immutable = true })
is_immutable_mark = record {
  same_id = λ l. refl;
  same_page = λ l. refl;
  file = λ l is. (marks_are_added l is).file_too;
  leads = λ l f is lead. let marks = marks_are_added l is in record { kind = lead.kind; permanent = marks.permanent_as_before ∙ lead.permanent; immutable = marks.is_now_immutable };
  id_kept = λ f. refl;
  pages_kept = λ f. refl;
}

-- a label that names its page
named_parts : (l : Label) → names l (record { id = l.id; page = l.page }) ≡ true → (nat_lt l.flags 4 ≡ true) × ((l.last == 0) ≡ true)
named_parts l is =
    let a = and_parts ((l.id == l.id) && (l.page == l.page) && nat_lt l.flags 4) (l.last == 0) is in
    ((and_parts ((l.id == l.id) && (l.page == l.page)) (nat_lt l.flags 4) a.0).1, a.1)

is_named : (l : Label) → nat_lt l.flags 4 ≡ true → (l.last == 0) ≡ true → names l (record { id = l.id; page = l.page }) ≡ true
is_named l flags last =
    let c : (l.id == l.id) ≡ true = eq-eqb l.id l.id refl in
    let e : (l.page == l.page) ≡ true = eq-eqb l.page l.page refl in
    rw (c, e, flags, last) refl

module _ (id : ℕ) (mark : Label → Label) (change : File → File) (is : IsMark mark change) (given : is_file_id id ≡ true) where
  -- a label is as it was, or it is the leader's
  pub either_label : (l : Label) → (marked_label id mark l ≡ l) ⊎ ((l.id ≡ id) × (l.page ≡ leader_page) × (marked_label id mark l ≡ mark l))
  either_label l = by (l.id == id && l.page == leader_page) refl
    where
      by : (b : Bool) → (l.id == id && l.page == leader_page) ≡ b → ((if b then mark l else l) ≡ l) ⊎ ((l.id ≡ id) × (l.page ≡ leader_page) × ((if b then mark l else l) ≡ mark l))
      by true e = let parts = and_parts (l.id == id) (l.page == leader_page) e in inr (eqb-true l.id id parts.0, eqb-true l.page leader_page parts.1, refl)
      by false e = inl refl

  id_same : (l : Label) → (marked_label id mark l).id ≡ l.id
  id_same l = by (l.id == id && l.page == leader_page)
    where
      by : (b : Bool) → (if b then mark l else l).id ≡ l.id
      by true = is.same_id l
      by false = refl

  page_same : (l : Label) → (marked_label id mark l).page ≡ l.page
  page_same l = by (l.id == id && l.page == leader_page)
    where
      by : (b : Bool) → (if b then mark l else l).page ≡ l.page
      by true = is.same_page l
      by false = refl

  free_same : (l : Label) → is_free (marked_label id mark l) ≡ is_free l
  free_same l = ap (λ (n : ℕ). n == 0) (id_same l)

  -- a leader that names its page has a file's label
  pub leader_file : (l : Label) → l.id ≡ id → names l (record { id = l.id; page = l.page }) ≡ true → is_file l ≡ true
  leader_file l own named =
      let parts = named_parts l named in
      and_from (is_file_id l.id && nat_lt l.flags 4) (l.last == 0) (and_from (is_file_id l.id) (nat_lt l.flags 4) (ap is_file_id own ∙ given) parts.0) parts.1

  named_still : (l : Label) → names l (record { id = l.id; page = l.page }) ≡ true → names (marked_label id mark l) (record { id = (marked_label id mark l).id; page = (marked_label id mark l).page }) ≡ true
  named_still l named = elim (either_label l) [
    | inl same ↦ subst (λ (x : Label). names x (record { id = x.id; page = x.page }) ≡ true) (sym same) named
    | inr (own, leader, new) ↦ subst (λ (x : Label). names x (record { id = x.id; page = x.page }) ≡ true) (sym new)
        (let a = and_parts (is_file_id (mark l).id && nat_lt (mark l).flags 4) ((mark l).last == 0) (is.file l (leader_file l own named)) in
        is_named (mark l) (and_parts (is_file_id (mark l).id) (nat_lt (mark l).flags 4) a.0).1 a.1)
  ]

  high : 16 ≤ id
  high = above_reserved id given

  -- a reserved label stays
  reserved_still : (l : Label) → l.id < 16 → marked_label id mark l ≡ l
  reserved_still l low = ap (λ (b : Bool). if b then mark l else l) (and_left (l.id == id) (l.page == leader_page) (ne_eqb l.id id (λ e. let h = high in omega (arith, e, low, h))))

  module _ (labels : List Label) where
    long : length (map (marked_label id mark) labels) ≡ length labels
    long = length-map labels (marked_label id mark)

    from : (k : ℕ) (l : Label) → slice_get (map (marked_label id mark) labels) k ≡ Some l → (w : Label) × (slice_get labels k ≡ Some w) × (marked_label id mark w ≡ l)
    from k l at = either (slice_get labels k) refl
      where
        either : (o : Option Label) → slice_get labels k ≡ o → (w : Label) × (slice_get labels k ≡ Some w) × (marked_label id mark w ≡ l)
        either None e = absurd (none-some l (sym (ap (option_map (marked_label id mark)) e) ∙ sym (slice_get-map (marked_label id mark) labels k) ∙ at))
        either (Some w) e = (w, e, same_Some (marked_label id mark w) l (sym (ap (option_map (marked_label id mark)) e) ∙ sym (slice_get-map (marked_label id mark) labels k) ∙ at))

    to : (k : ℕ) (w : Label) → slice_get labels k ≡ Some w → slice_get (map (marked_label id mark) labels) k ≡ Some (marked_label id mark w)
    to k w at = slice_get-map (marked_label id mark) labels k ∙ ap (option_map (marked_label id mark)) at

    pub has_from : (k : ℕ) (l : Label) → HasLabel (map (marked_label id mark) labels) k l → (w : Label) × HasLabel labels k w × (marked_label id mark w ≡ l)
    has_from k l has = let w = from k l has.here in (w.0, record { is_data = subst (λ (n : ℕ). first_data n ≤ k) long has.is_data; here = w.1 }, w.2)

    has_to : (k : ℕ) (w : Label) → HasLabel labels k w → HasLabel (map (marked_label id mark) labels) k (marked_label id mark w)
    has_to k w has = record { is_data = subst (λ (n : ℕ). first_data n ≤ k) (sym long) has.is_data; here = to k w has.here }

    free_from : (w l : Label) → marked_label id mark w ≡ l → is_free w ≡ is_free l
    free_from w l e = sym (free_same w) ∙ ap is_free e

    pub id_from : (w l : Label) → marked_label id mark w ≡ l → w.id ≡ l.id
    id_from w l e = sym (id_same w) ∙ ap (λ (x : Label). x.id) e

    pub page_from : (w l : Label) → marked_label id mark w ≡ l → w.page ≡ l.page
    page_from w l e = sym (page_same w) ∙ ap (λ (x : Label). x.page) e

    pub pages_marked : (owned later : ℕ → ℕ → Bool) → ((i p : ℕ) → later i p ≡ owned i p) → HasPages labels owned → HasPages (map (marked_label id mark) labels) later
    pages_marked owned later same h = record {
      only = λ k l has taken.
          let w = has_from k l has in
          let o = h.only k w.0 w.1 (free_from w.0 l w.2 ∙ taken) in
          subst (IsOwned later) w.2 (record { is = ap (λ (i : ℕ). later i (marked_label id mark w.0).page) (id_same w.0) ∙ ap (later w.0.id) (page_same w.0) ∙ same w.0.id w.0.page ∙ o.is; named = named_still w.0 o.named });
      all = λ i p owns.
          let place = h.all i p (sym (same i p) ∙ owns) in
          record {
            place = place.place;
            label = marked_label id mark place.label;
            there = has_to place.place place.label place.there;
            taken = free_same place.label ∙ place.taken;
            same_id = id_same place.label ∙ place.same_id;
            same_page = page_same place.label ∙ place.same_page;
          };
      once = λ i j a b at_a at_b taken same_id same_page.
          let v = has_from i a at_a in
          let w = has_from j b at_b in
          h.once i j v.0 w.0 v.1 w.1 (free_from v.0 a v.2 ∙ taken) (id_from v.0 a v.2 ∙ same_id ∙ sym (id_from w.0 b w.2)) (page_from v.0 a v.2 ∙ same_page ∙ sym (page_from w.0 b w.2));
    }

    pub map_labels_marked : HasMapLabels labels → HasMapLabels (map (marked_label id mark) labels)
    map_labels_marked h = record {
      allocation = λ k below. stays (1 + k) (record { id = 1; page = k }) (omega arith) (h.allocation k (subst (λ (n : ℕ). k < vam n) long below));
      file_map = λ k below. subst (λ (n : ℕ). IsSomeAnd (slice_get (map (marked_label id mark) labels) (1 + vam n + k)) (λ l. IsTrue (names l (record { id = 2; page = k })))) (sym long)
          (stays (1 + vam (length labels) + k) (record { id = 2; page = k }) (omega arith) (h.file_map k (subst (λ (n : ℕ). k < vfm n) long below)));
    }
      where
        stays : (k : ℕ) (w : Wanted) → w.id < 16 → IsSomeAnd (slice_get labels k) (λ l. IsTrue (names l w)) → IsSomeAnd (slice_get (map (marked_label id mark) labels) k) (λ l. IsTrue (names l w))
        stays k w low named = either (slice_get labels k) refl named
          where
            either : (o : Option Label) → slice_get labels k ≡ o → IsSomeAnd o (λ l. IsTrue (names l w)) → IsSomeAnd (slice_get (map (marked_label id mark) labels) k) (λ l. IsTrue (names l w))
            either None e a = absurd a
            either (Some l) e a =
                let own = names_id l w a in
                subst (λ (o : Option Label). IsSomeAnd o (λ l. IsTrue (names l w))) (sym (to k l e ∙ ap (λ (x : Label). Some x) (reserved_still l (omega (arith, own, low))))) a

    pub bits_marked : (marks : ℕ → Bool) → MarksFit marks labels → MarksFit marks (map (marked_label id mark) labels)
    bits_marked marks h = record {
      low = λ k below. h.low k (subst (λ (n : ℕ). k < first_data n) long below);
      bits = λ k l has. let w = has_from k l has in h.bits k w.0 w.1 ∙ ap not (free_from w.0 l w.2);
      past = λ k end below. h.past k (omega (arith, end, long)) (subst (λ (n : ℕ). k < 4096 * vam n) long below);
    }

    pub triples_marked : (named : Triples) → HasTriples named labels → HasTriples named (map (marked_label id mark) labels)
    triples_marked named h = record {
      only = λ i p s revealed.
          let t = h.only i p s revealed in
          record { label = marked_label id mark t.label; there = has_to s t.label t.there; taken = free_same t.label ∙ t.taken; same_id = id_same t.label ∙ t.same_id; same_page = page_same t.label ∙ t.same_page };
      all = λ i p s t.
          let w = has_from s t.label t.there in
          h.all i p s (record { label = w.0; there = w.1; taken = free_from w.0 t.label w.2 ∙ t.taken; same_id = id_from w.0 t.label w.2 ∙ t.same_id; same_page = page_from w.0 t.label w.2 ∙ t.same_page });
    }
