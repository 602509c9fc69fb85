-- One data sector gets another label: bits and triples.
use Rattle.std.proofs.Common.{◌≡◌, ◌≢◌, inl, inr, ⊎_elim, ℕ, ◌*◌, ◌<◌, ◌≤◌, Bool, true, false, ◌&&◌, ◌||◌, not, List, length, refl, sym, ◌∙◌, ap, subst, arith, length-set}
use Rattle.std.specs.Prelude.{slice_get, slice_set, ◌==◌}
use Rattle.std.proofs.lemmas.Option.{same_Some, slice_get_within}
use Rattle.std.proofs.lemmas.Bool.{and_parts, eq-eqb, eqb-true, true≢false, false≢true, cases_eq}
use Rattle.labelled_disk.specs.declared.label.Label.{Label}
use Rattle.labelled_disk.specs.Label.{is_free}
use Rattle.labelled_disk.specs.Layout.{first_data, vam}
use Rattle.labelled_disk.proofs.Finds.{get_set_same, get_set_other}
use Rattle.session_words.specs.Parts.{HasLabel, MarksFit, HasTriples, IsTriple}
use Rattle.session_words.specs.PlaceLaws.{PlaceLaws}
use Rattle.session_words.proofs.BitLemmas.{inside_has_bit, low_has_bit}
use Rattle.session_words.proofs.PlaceLemmas.{and_not, label_new, label_old, label_other, label_set, labels_created, labels_grown, labels_shrunk, or_right, page_freed, page_made}

-- Bits and triples.

module _ (labels : List Label) (marks later : ℕ → Bool) (k : ℕ) (new : Label) where
  pub bits_set : (old : Label) → MarksFit marks labels → HasLabel labels k old → later k ≡ not (is_free new) → ((i : ℕ) → i < 4096 * vam (length labels) → i ≢ k → later i ≡ marks i) → MarksFit later (slice_set labels k new)
  bits_set old h there own others = record {
    low = λ j below.
        let low : j < first_data (length labels) = subst (λ (n : ℕ). j < first_data n) long below in
        others j (low_has_bit (length labels) j (omega (arith, inside)) low) (λ q. omega (arith, q, low, there.is_data)) ∙ h.low j low;
    bits = λ j l has.
        let below : j < length labels = omega (arith, slice_get_within (slice_set labels k new) j l has.here, long) in
        ⊎_elim
        (λ (q : j ≡ k).
        let same : new ≡ l = same_Some new l (sym (get_set_same labels k new inside) ∙ ap (slice_get (slice_set labels k new)) (sym q) ∙ has.here) in
        ap later q ∙ own ∙ ap (λ (x : Label). not (is_free x)) same)
        (λ (q : j ≢ k). others j (inside_has_bit (length labels) j below) q
        ∙ h.bits j l (record { is_data = subst (λ (n : ℕ). first_data n ≤ j) long has.is_data; here = sym (get_set_other labels k j new q) ∙ has.here }))
        (cases_eq j k);
    past = λ j end below.
        let far : length labels ≤ j = omega (arith, end, long) in
        let bit : j < 4096 * vam (length labels) = subst (λ (n : ℕ). j < 4096 * vam n) long below in
        others j bit (λ q. omega (arith, q, far, inside)) ∙ h.past j far bit;
  }
    where
      long : length (slice_set labels k new) ≡ length labels
      long = length-set labels k new

      inside : k < length labels
      inside = slice_get_within labels k old there.here

two_true : (a b : Bool) → a ≡ true → b ≡ true → (a && b) ≡ true
two_true true b p q = q
two_true false b p q = absurd (false≢true p)

three_true : (a b c : Bool) → a ≡ true → b ≡ true → c ≡ true → (a && b && c) ≡ true
three_true true true c p q r = r
three_true true false c p q r = absurd (false≢true q)
three_true false b c p q r = absurd (false≢true p)

or_left : (a b : Bool) → a ≡ true → (a || b) ≡ true
or_left true b h = refl
or_left false b h = absurd (false≢true h)

pub triples_made : (labels : List Label) (named later : ℕ → ℕ → ℕ → Bool) (k : ℕ) (old new : Label) → HasTriples named labels → HasLabel labels k old → is_free old ≡ true → is_free new ≡ false
    → ((i p s : ℕ) → later i p s ≡ (i == new.id && p == new.page && s == k) || named i p s) → HasTriples later (slice_set labels k new)
triples_made labels named later k old new h there free taken more = record {
  only = λ i p s is. from i p s (i == new.id && p == new.page && s == k) refl (sym (more i p s) ∙ is);
  all = λ i p s t. more i p s ∙ (elim (label_set labels k old new there s t.label t.there) [
    | inl (at, same) ↦ or_left (i == new.id && p == new.page && s == k) (named i p s)
        (three_true (i == new.id) (p == new.page) (s == k) (eq-eqb i new.id (sym t.same_id ∙ ap (λ (l : Label). l.id) (sym same))) (eq-eqb p new.page (sym t.same_page ∙ ap (λ (l : Label). l.page) (sym same))) (eq-eqb s k at))
    | inr (other, was) ↦ or_right (i == new.id && p == new.page && s == k) (named i p s)
        (h.all i p s (record { label = t.label; there = was; taken = t.taken; same_id = t.same_id; same_page = t.same_page }))
  ]);
}
  where
    from : (i p s : ℕ) (b : Bool) → (i == new.id && p == new.page && s == k) ≡ b → (b || named i p s) ≡ true → IsTriple (slice_set labels k new) i p s
    from i p s true e is =
        let a = and_parts (i == new.id && p == new.page) (s == k) e in
        let b = and_parts (i == new.id) (p == new.page) a.0 in
        record {
          label = new;
          there = subst (λ (n : ℕ). HasLabel (slice_set labels k new) n new) (sym (eqb-true s k a.1)) (label_new labels k old new there);
          taken = taken;
          same_id = sym (eqb-true i new.id b.0);
          same_page = sym (eqb-true p new.page b.1);
        }
    from i p s false e is =
        let t = h.only i p s is in
        record {
          label = t.label;
          there = label_other labels k old new there s t.label (λ at. true≢false (sym free ∙ ap is_free (label_old labels k old new there t.label s at t.there) ∙ t.taken)) t.there;
          taken = t.taken;
          same_id = t.same_id;
          same_page = t.same_page;
        }

pub triples_freed : (labels : List Label) (named later : ℕ → ℕ → ℕ → Bool) (k : ℕ) (old new : Label) → HasTriples named labels → HasLabel labels k old → is_free old ≡ false → is_free new ≡ true
    → ((i p s : ℕ) → later i p s ≡ not (i == old.id && p == old.page && s == k) && named i p s) → HasTriples later (slice_set labels k new)
triples_freed labels named later k old new h there taken free fewer = record {
  only = λ i p s is.
      let both = and_parts (not (i == old.id && p == old.page && s == k)) (named i p s) (sym (fewer i p s) ∙ is) in
      let t = h.only i p s both.1 in
      record {
        label = t.label;
        there = label_other labels k old new there s t.label (λ at.
            let same = label_old labels k old new there t.label s at t.there in
            and_not (i == old.id && p == old.page) (s == k)
            (two_true (i == old.id) (p == old.page) (eq-eqb i old.id (sym t.same_id ∙ ap (λ (l : Label). l.id) (sym same))) (eq-eqb p old.page (sym t.same_page ∙ ap (λ (l : Label). l.page) (sym same))))
            (eq-eqb s k at) both.0) t.there;
        taken = t.taken;
        same_id = t.same_id;
        same_page = t.same_page;
      };
  all = λ i p s t. fewer i p s ∙ (elim (label_set labels k old new there s t.label t.there) [
    | inl (at, same) ↦ absurd (true≢false (sym free ∙ ap is_free same ∙ t.taken))
    | inr (other, was) ↦ keeps i p s other (s == k) refl (h.all i p s (record { label = t.label; there = was; taken = t.taken; same_id = t.same_id; same_page = t.same_page }))
  ]);
}
  where
    keeps : (i p s : ℕ) → s ≢ k → (b : Bool) → (s == k) ≡ b → named i p s ≡ true → (not (i == old.id && p == old.page && b) && named i p s) ≡ true
    keeps i p s other true e is = absurd (other (eqb-true s k e))
    keeps i p s other false e is = ap (λ (b : Bool). not b && named i p s) (ends_false (i == old.id && p == old.page)) ∙ is
      where
        ends_false : (a : Bool) → (a && false) ≡ false
        ends_false true = refl
        ends_false false = refl

pub place_laws : PlaceLaws
place_laws = record {
  made = page_made;
  freed = page_freed;
  grown = labels_grown {tables = 96};
  shrunk = labels_shrunk;
  created = labels_created {tables = 96};
  bits_made = λ labels marks later k old new h there taken own others. bits_set labels marks later k new old h there (own ∙ ap not (sym taken)) others;
  bits_freed = λ labels marks later k old new h there free own others. bits_set labels marks later k new old h there (own ∙ ap not (sym free)) others;
  triple_made = triples_made;
  triple_freed = triples_freed;
}
