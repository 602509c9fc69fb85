-- Each part stays where no page of its kind differs.
use Rattle.std.proofs.Common.{◌≡◌, ℕ, zero, suc, ◌+◌, ◌*◌, ◌/◌, ◌%◌, ◌<◌, ◌≤◌, Bool, false, List, [], ◌∷◌, length, take, drop, Option, None, refl, sym, ◌∙◌, ap, subst, arith, ⊎_elim}
use Rattle.std.specs.Prelude.{slice_get}
use Rattle.std.specs.List.{flat_map}
use Rattle.std.proofs.lemmas.Bool.{cases_lt}
use Rattle.std.proofs.lemmas.List.{length-map}
use Rattle.labelled_disk.specs.declared.label.Label.{Label}
use Rattle.labelled_disk.specs.Layout.{vam, vfm, first_data}
use Rattle.labelled_disk.specs.Sectors.{Sector}
use Rattle.labelled_disk.specs.Root.{page_in}
use Rattle.labelled_disk.proofs.WriteLemmas.{get_drop, same_elements}
use Rattle.alloc_map.specs.Bits.{is_used}
use Rattle.file_map.specs.InSectors.{map_bytes}
use Rattle.swapper_kernel.specs.Stands.{labels_of}
use Rattle.swapper_kernel.specs.Kinds.{Kind, SameBut, of_kinds, the_root, the_allocation_map, the_file_map, the_tables, a_file}
use Rattle.session_words.specs.Parts.{HasRoot, MarksFit, HasTriples, HasLabels, HasMapLabels, is_marked, TablesMeaning}
use Rattle.session_words.specs.KindLaws.{Stays}
use Rattle.session_words.proofs.BitLemmas.{bits_alike}
use Rattle.session_words.proofs.MapLemmas.{names_alike}
use Rattle.swapper_kernel.specs.DiffersLaws.{same_length, same_place}
use Rattle.swapper_kernel.proofs.KindLemmas.{kind_back, root_kind, allocation_kind, map_kind}

-- an element of a piece of a list
pub get_take : {X : Type 0} (n : ℕ) (xs : List X) (k : ℕ) → k < n → slice_get (take n xs) k ≡ slice_get xs k
get_take zero xs k below = absurd (omega arith)
get_take (suc n) [] k below = refl
get_take (suc n) (x ∷ xs) zero below = refl
get_take (suc n) (x ∷ xs) (suc k) below = get_take n xs k (omega arith)

pub get_take_past : {X : Type 0} (n : ℕ) (xs : List X) (k : ℕ) → n ≤ k → slice_get (take n xs) k ≡ None
get_take_past zero xs k past = refl
get_take_past (suc n) [] k past = refl
get_take_past (suc n) (x ∷ xs) zero past = absurd (omega arith)
get_take_past (suc n) (x ∷ xs) (suc k) past = get_take_past n xs k (omega arith)

-- two lists have the same piece
pub same_piece : {X : Type 0} (n base : ℕ) (xs ys : List X) → ((k : ℕ) → k < n → slice_get xs (base + k) ≡ slice_get ys (base + k)) → take n (drop base xs) ≡ take n (drop base ys)
same_piece n base xs ys same = same_elements false 0 0 (take n (drop base xs)) (take n (drop base ys)) (λ k. ⊎_elim
    (λ (l : k < n). get_take n (drop base xs) k l ∙ get_drop base xs k ∙ same k l ∙ sym (get_drop base ys k) ∙ sym (get_take n (drop base ys) k l))
    (λ (l : n ≤ k). get_take_past n (drop base xs) k l ∙ sym (get_take_past n (drop base ys) k l))
    (cases_lt k n))

module _ (m n : List Sector) (kinds : Kind → Bool) (same : SameBut kinds m n) where
  long : length n ≡ length m
  long = same_length m n same.labels

  root_place : kinds the_root ≡ false → slice_get n 0 ≡ slice_get m 0
  root_place other = same_place (of_kinds (length m) kinds) m n same 0 (λ s here. ap kinds (root_kind (length m) s.0) ∙ other)

  marks_place : kinds the_allocation_map ≡ false → (k : ℕ) → k < vam (length m) → slice_get n (1 + k) ≡ slice_get m (1 + k)
  marks_place other k below = same_place (of_kinds (length m) kinds) m n same (1 + k) (λ s here. ap kinds (allocation_kind (length m) (1 + k) s.0 (omega arith) (omega arith)) ∙ other)

  same_mark : kinds the_allocation_map ≡ false → (k : ℕ) → k < 4096 * vam (length m) → is_marked n k ≡ is_marked m k
  same_mark other k below = ap (λ (p : Option Sector). is_used (page_in p) (k % 4096)) (marks_place other (k / 4096) (omega (arith, below)))

  pub bits_stay : kinds the_allocation_map ≡ false → MarksFit (is_marked m) (labels_of m) → MarksFit (is_marked n) (labels_of n)
  bits_stay other h = ⊎_elim
      (λ (none : length m < 1). subst (λ (z : List Sector). MarksFit (is_marked z) (labels_of z)) (both_empty m n none long) h)
      (λ (some : 1 ≤ length m). subst (MarksFit (is_marked n)) (sym same.labels)
      (bits_alike (labels_of m) (is_marked m) (is_marked n) (omega (arith, some, labels_long))
      (λ k below. same_mark other k (subst (λ (i : ℕ). k < 4096 * vam i) labels_long below)) h))
      (cases_lt (length m) 1)
    where
      labels_long : length (labels_of m) ≡ length m
      labels_long = length-map m (λ s. s.0)

      both_empty : (a b : List Sector) → length a < 1 → length b ≡ length a → a ≡ b
      both_empty [] [] none same = refl
      both_empty [] (t ∷ b) none same = absurd (omega arith)
      both_empty (s ∷ a) b none same = absurd (omega arith)

  same_map_bytes : kinds the_file_map ≡ false → map_bytes n ≡ map_bytes m
  unfolding first_data
  same_map_bytes other =
      ap (λ (i : ℕ). flat_map (λ (s : Sector). s.1) (take (vfm i) (drop (1 + vam i) n))) long
      ∙ ap (flat_map (λ (s : Sector). s.1)) (same_piece (vfm (length m)) (1 + vam (length m)) n m (λ k below.
      same_place (of_kinds (length m) kinds) m n same (1 + vam (length m) + k) (λ s here. ap kinds (map_kind (length m) (1 + vam (length m) + k) s.0 (omega arith) (omega arith)) ∙ other)))

module _ (spaces_of : TablesMeaning) (m n : List Sector) (kinds : Kind → Bool) (same : SameBut kinds m n) where
  pub stays : Stays spaces_of m n kinds same
  stays = record {
    labels = λ shapes. subst (λ (l : List Label). HasLabels l shapes) (sym same.labels);
    map_labels = subst HasMapLabels (sym same.labels);
    root = λ serial counter room other h.
        subst (λ (o : Option Sector). HasRoot (length n) o serial counter room) (sym (root_place m n kinds same other)) (subst (λ (i : ℕ). HasRoot i (slice_get m 0) serial counter room) (sym (long m n kinds same)) h);
    bits = bits_stay m n kinds same;
    map = λ named other. names_alike m n (long m n kinds same) (same_map_bytes m n kinds same other) named;
    triples = λ named. subst (HasTriples named) (sym same.labels);
    cells = λ but files other h. record { agrees = λ k s f p has. h.agrees k s f p (kind_back kinds a_file m n same other k s has) };
    tables = λ spaces other h. record { pages = h.pages; revealed = h.revealed; count = h.count; each = λ k s has. h.each k s (kind_back kinds the_tables m n same other k s has) };
  }
