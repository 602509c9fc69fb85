-- Labels that are the same but for that of sector 0 say the same of files, tables and maps.
use Rattle.std.proofs.Common.{◌≡◌, ◌≢◌, ℕ, ◌+◌, ◌*◌, ◌<◌, ◌≤◌, Bool, true, false, List, length, Option, Some, sym, ◌∙◌, ap, subst, arith, length-set}
use Rattle.std.specs.Prelude.{slice_get, slice_set, IsSomeAnd, IsTrue}
use Rattle.labelled_disk.specs.declared.label.Label.{Label}
use Rattle.labelled_disk.specs.Label.{names}
use Rattle.labelled_disk.specs.Layout.{first_data, vam, vfm}
use Rattle.labelled_disk.proofs.Finds.{get_set_other}
use Rattle.labelled_disk.proofs.WriteLemmas.{first_positive}
use Rattle.file_map.specs.FileMap.{Triples}
use Rattle.session_words.specs.Parts.{Shapes, HasLabel, HasPages, HasLabelsUpto, HasMapLabels, MarksFit, HasTriples, IsTriple}
use Rattle.session_words.specs.GrowLaws.{IsFree}

-- with another label in sector 0
module _ (labels : List Label) (root : Label) where
  long : length (slice_set labels 0 root) ≡ length labels
  long = length-set labels 0 root

  pub after_root : (k : ℕ) → k ≢ 0 → slice_get (slice_set labels 0 root) k ≡ slice_get labels k
  after_root k other = get_set_other labels 0 k root other

  not_root : (n k : ℕ) → first_data n ≤ k → k ≢ 0
  not_root n k above e = let low = first_positive false 0 0 n in omega (arith, low, above, e)

  -- a data label of the one is one of the other
  pub has_then : (k : ℕ) (l : Label) → HasLabel labels k l → HasLabel (slice_set labels 0 root) k l
  has_then k l has = record {
    is_data = subst (λ (n : ℕ). first_data n ≤ k) (sym long) has.is_data;
    here = after_root k (not_root (length labels) k has.is_data) ∙ has.here;
  }

  pub has_before : (k : ℕ) (l : Label) → HasLabel (slice_set labels 0 root) k l → HasLabel labels k l
  has_before k l has =
      let above : first_data (length labels) ≤ k = subst (λ (n : ℕ). first_data n ≤ k) long has.is_data in
      record { is_data = above; here = sym (after_root k (not_root (length labels) k above)) ∙ has.here }

  pub free_then : (k : ℕ) → IsFree labels k → IsFree (slice_set labels 0 root) k
  free_then k free = record { label = free.label; there = has_then k free.label free.there; free = free.free }

  pub free_before : (k : ℕ) → IsFree (slice_set labels 0 root) k → IsFree labels k
  free_before k free = record { label = free.label; there = has_before k free.label free.there; free = free.free }

  pages_then : (owned : ℕ → ℕ → Bool) → HasPages labels owned → HasPages (slice_set labels 0 root) owned
  pages_then owned h = record {
    only = λ k l has taken. h.only k l (has_before k l has) taken;
    all = λ id page is.
        let p = h.all id page is in
        record { place = p.place; label = p.label; there = has_then p.place p.label p.there; taken = p.taken; same_id = p.same_id; same_page = p.same_page };
    once = λ i j a b one two. h.once i j a b (has_before i a one) (has_before j b two);
  }

  pub labels_then : (n : ℕ) (shapes : Shapes) → HasLabelsUpto n labels shapes → HasLabelsUpto n (slice_set labels 0 root) shapes
  labels_then n shapes h = record {
    pages = pages_then _ h.pages;
    leaders = record { reveal = λ k l f has. h.leaders.reveal k l f (has_before k l has) };
  }

  pub map_labels_then : HasMapLabels labels → HasMapLabels (slice_set labels 0 root)
  map_labels_then h = record {
    allocation = λ k below.
        let some : 1 + k ≢ 0 = λ e. omega (arith, e) in
        subst (λ (o : Option Label). IsSomeAnd o (λ l. IsTrue (names l (record { id = 1; page = k })))) (sym (after_root (1 + k) some)) (h.allocation k (subst (λ (n : ℕ). k < vam n) long below));
    file_map = λ k below.
        let some : 1 + vam (length labels) + k ≢ 0 = λ e. omega (arith, e) in
        subst (λ (n : ℕ). IsSomeAnd (slice_get (slice_set labels 0 root) (1 + vam n + k)) (λ l. IsTrue (names l (record { id = 2; page = k })))) (sym long)
        (subst (λ (o : Option Label). IsSomeAnd o (λ l. IsTrue (names l (record { id = 2; page = k })))) (sym (after_root (1 + vam (length labels) + k) some)) (h.file_map k (subst (λ (n : ℕ). k < vfm n) long below)));
  }

  pub bits_then : (marks : ℕ → Bool) → MarksFit marks labels → MarksFit marks (slice_set labels 0 root)
  bits_then marks h = record {
    low = λ k below. h.low k (subst (λ (n : ℕ). k < first_data n) long below);
    bits = λ k l has. h.bits k l (has_before k l has);
    past = λ k end below. h.past k (subst (λ (n : ℕ). n ≤ k) long end) (subst (λ (n : ℕ). k < 4096 * vam n) long below);
  }

  triple_then : (id page sector : ℕ) → IsTriple labels id page sector → IsTriple (slice_set labels 0 root) id page sector
  triple_then id page sector t = record { label = t.label; there = has_then sector t.label t.there; taken = t.taken; same_id = t.same_id; same_page = t.same_page }

  triple_before : (id page sector : ℕ) → IsTriple (slice_set labels 0 root) id page sector → IsTriple labels id page sector
  triple_before id page sector t = record { label = t.label; there = has_before sector t.label t.there; taken = t.taken; same_id = t.same_id; same_page = t.same_page }

  pub triples_then : (named : Triples) → HasTriples named labels → HasTriples named (slice_set labels 0 root)
  triples_then named h = record {
    only = λ id page sector is. triple_then id page sector (h.only id page sector is);
    all = λ id page sector t. h.all id page sector (triple_before id page sector t);
  }
