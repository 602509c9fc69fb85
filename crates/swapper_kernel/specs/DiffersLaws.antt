-- Memories that differ in the pages of some sectors.
use Rattle.std.proofs.Common.{◌≡◌, ℕ, zero, suc, Bool, true, false, List, [], ◌∷◌, length, Option, Some, None, refl, sym, ◌∙◌, ap, arith}
use Rattle.std.specs.Prelude.{slice_get, slice_set, option_map}
use Rattle.std.proofs.lemmas.Option.{same_Some, none-some, slice_get-map}
use Rattle.std.proofs.lemmas.List.{length-map}
use Rattle.std.proofs.lemmas.Bool.Decides.{nat_tests}
use Rattle.labelled_disk.specs.declared.label.Label.{Label}
use Rattle.labelled_disk.specs.declared.label.Wanted.{Wanted}
use Rattle.labelled_disk.specs.Label.{names}
use Rattle.labelled_disk.specs.Sectors.{Sector}
use Rattle.swapper_kernel.specs.Stands.{labels_of}
use Rattle.swapper_kernel.specs.Differs.{Differs}

-- as many labels as sectors
pub same_length : (m n : List Sector) → labels_of n ≡ labels_of m → length n ≡ length m
same_length m n labels = sym (length-map n (λ s. s.0)) ∙ ap (λ (l : List Label). length l) labels ∙ length-map m (λ s. s.0)

-- the label of a sector is one of the labels
pub label_here : (m : List Sector) (k : ℕ) (s : Sector) → slice_get m k ≡ Some s → slice_get (labels_of m) k ≡ Some s.0
label_here m k s here = slice_get-map (λ (x : Sector). x.0) m k ∙ ap (λ (o : Option Sector). option_map (λ x. x.0) o) here

-- a label is that of a sector
pub sector_of_label : (m : List Sector) (k : ℕ) (l : Label) → slice_get (labels_of m) k ≡ Some l → (s : Sector) × (slice_get m k ≡ Some s) × (s.0 ≡ l)
sector_of_label m k l here = either (slice_get m k) refl
  where
    either : (o : Option Sector) → slice_get m k ≡ o → (s : Sector) × (slice_get m k ≡ Some s) × (s.0 ≡ l)
    either None e = absurd (none-some l (sym (ap (λ (o : Option Sector). option_map (λ x. x.0) o) e) ∙ sym (slice_get-map (λ (x : Sector). x.0) m k) ∙ here))
    either (Some s) e = (s, e, same_Some s.0 l (sym (label_here m k s e) ∙ here))

-- where the labels are the same, a sector of the one has its label in the other
pub other_sector : (m n : List Sector) → labels_of n ≡ labels_of m → (k : ℕ) (t : Sector) → slice_get n k ≡ Some t → (s : Sector) × (slice_get m k ≡ Some s) × (s.0 ≡ t.0)
other_sector m n labels k t here = sector_of_label m k t.0 (ap (λ (l : List Label). slice_get l k) (sym labels) ∙ label_here n k t here)

module _ (test : ℕ → Label → Bool) (m n : List Sector) (differs : Differs test m n) where
  -- a sector that doesn't pass is the same backwards
  pub same_back : (k : ℕ) (t : Sector) → slice_get n k ≡ Some t → test k t.0 ≡ false → slice_get m k ≡ Some t
  same_back k t here fails =
      let o = other_sector m n differs.labels k t here in
      let stays = differs.pages k o.0 o.1 (ap (test k) o.2 ∙ fails) in
      let same : o.0 ≡ t = same_Some o.0 t (sym stays ∙ here) in
      o.1 ∙ ap (λ (s : Sector). Some s) same

  -- where each sector of a place fails, what is there is the same
  pub same_place : (k : ℕ) → ((s : Sector) → slice_get m k ≡ Some s → test k s.0 ≡ false) → slice_get n k ≡ slice_get m k
  same_place k fails = either (slice_get m k) refl (slice_get n k) refl
    where
      either : (o : Option Sector) → slice_get m k ≡ o → (p : Option Sector) → slice_get n k ≡ p → slice_get n k ≡ slice_get m k
      either (Some s) e p q = differs.pages k s e (fails s e) ∙ sym e
      either None e None q = q ∙ sym e
      either None e (Some t) q = let o = other_sector m n differs.labels k t q in absurd (none-some o.0 (sym e ∙ o.1))

pub differs_itself : (test : ℕ → Label → Bool) (m : List Sector) → Differs test m m
differs_itself test m = record { labels = refl; pages = λ k s here fails. here }

pub differs_then : (test : ℕ → Label → Bool) (m n o : List Sector) → Differs test m n → Differs test n o → Differs test m o
differs_then test m n o first next = record {
  labels = next.labels ∙ first.labels;
  pages = λ k s here fails. next.pages k s (first.pages k s here fails) fails;
}

-- more may differ
pub differs_wider : (test more : ℕ → Label → Bool) (m n : List Sector) → ((k : ℕ) (s : Sector) → slice_get m k ≡ Some s → more k s.0 ≡ false → test k s.0 ≡ false) → Differs test m n → Differs more m n
differs_wider test more m n less h = record { labels = h.labels; pages = λ k s here fails. h.pages k s here (less k s here fails) }

-- another page under the same label
pub set_labels : (xs : List Sector) (i : ℕ) (s : Sector) (page : List ℕ) → slice_get xs i ≡ Some s → labels_of (slice_set xs i (s.0, page)) ≡ labels_of xs
set_labels [] i s page here = refl
set_labels (x ∷ xs) zero s page here = ap (λ (l : Label). l ∷ labels_of xs) (ap (λ (t : Sector). t.0) (sym (same_Some x s here)))
set_labels (x ∷ xs) (suc i) s page here = ap (λ (ls : List Label). x.0 ∷ ls) (set_labels xs i s page here)

-- a label that names a page reveals it
pub names_id : (l : Label) (w : Wanted) → names l w ≡ true → l.id ≡ w.id
names_id l w named = grind (arith, nat_tests)

pub names_page : (l : Label) (w : Wanted) → names l w ≡ true → l.page ≡ w.page
names_page l w named = grind (arith, nat_tests)
