-- Lists of sectors with the same labels.
use Rattle.std.proofs.Common.{◌≡◌, ◌⊎◌, inl, inr, ℕ, zero, suc, ◌+◌, Bool, true, false, List, [], ◌∷◌, length, drop, Option, Some, None, refl, sym, ◌∙◌, ap, subst, arith, eqb}
use Rattle.std.specs.Prelude.{slice_get, find}
use Rattle.std.specs.List.{AllZip}
use Rattle.std.proofs.lemmas.Option.{same_Some, none-some}
use Rattle.labelled_disk.specs.declared.label.Label.{Label}
use Rattle.labelled_disk.specs.Layout.{data_sectors, first_data}
use Rattle.labelled_disk.specs.Sectors.{Sector}
use Rattle.labelled_disk.specs.File.{File, Page, file_at}
use Rattle.labelled_disk.specs.FilesOn.{pages_from}
use Rattle.labelled_disk.specs.Ascending.{BothBy}
use Rattle.labelled_disk.proofs.Pages.{pages_more, pages_end, pages_zero}
use Rattle.swapper_kernel.specs.Stands.{labels_of}
use Rattle.swapper_kernel.specs.DiffersLaws.{same_length}

-- Files of disks with the same labels.

-- what is found by its label in lists with the same labels stands at one place
pub record FoundBoth (t : Label → Bool) (xs ys : List Sector) : Type 0 where
  pub place : ℕ
  pub x : Sector
  pub y : Sector
  pub at_x : slice_get xs place ≡ Some x
  pub at_y : slice_get ys place ≡ Some y
  pub label : x.0 ≡ y.0
  pub passes : t x.0 ≡ true
  pub in_x : find (λ s. t s.0) xs ≡ Some x
  pub in_y : find (λ s. t s.0) ys ≡ Some y

pub found_both : (t : Label → Bool) (xs ys : List Sector) → labels_of ys ≡ labels_of xs → ((find (λ s. t s.0) xs ≡ None) × (find (λ s. t s.0) ys ≡ None)) ⊎ FoundBoth t xs ys
found_both t [] [] labels = inl (refl, refl)
found_both t [] (y ∷ ys) labels = absurd (none-some y.0 (sym (ap (λ (l : List Label). slice_get l 0) labels)))
found_both t (x ∷ xs) [] labels = absurd (none-some x.0 (ap (λ (l : List Label). slice_get l 0) labels))
found_both t (x ∷ xs) (y ∷ ys) labels = either (t x.0) refl (found_both t xs ys (ap (λ (l : List Label). drop 1 l) labels))
  where
    label : y.0 ≡ x.0
    label = same_Some y.0 x.0 (ap (λ (l : List Label). slice_get l 0) labels)

    either : (b : Bool) → t x.0 ≡ b → ((find (λ s. t s.0) xs ≡ None) × (find (λ s. t s.0) ys ≡ None)) ⊎ FoundBoth t xs ys
        → ((find (λ s. t s.0) (x ∷ xs) ≡ None) × (find (λ s. t s.0) (y ∷ ys) ≡ None)) ⊎ FoundBoth t (x ∷ xs) (y ∷ ys)
    either true e more = let q : t y.0 ≡ true = ap t label ∙ e in inr (record { place = 0; x = x; y = y; at_x = refl; at_y = refl; label = sym label; passes = e; in_x = rw e refl; in_y = rw q refl })
    either false e (inl none) = let q : t y.0 ≡ false = ap t label ∙ e in inl (rw e none.0, rw q none.1)
    either false e (inr f) =
        let q : t y.0 ≡ false = ap t label ∙ e in
        inr (record { place = suc f.place; x = f.x; y = f.y; at_x = f.at_x; at_y = f.at_y; label = f.label; passes = f.passes; in_x = rw e f.in_x; in_y = rw q f.in_y })

-- as many pages, where the same numbers are missing
pub pages_long : (page other : ℕ → Option Page) (k n : ℕ) → ((j : ℕ) → ((page j ≡ None) × (other j ≡ None)) ⊎ ((p : Page) × (q : Page) × (page j ≡ Some p) × (other j ≡ Some q)))
    → length (pages_from other k n) ≡ length (pages_from page k n)
pages_long page other k zero same = ap (λ (l : List Page). length l) (pages_zero other k ∙ sym (pages_zero page k))
pages_long page other k (suc n) same = elim (same k) [
  | inl (a, b) ↦ ap (λ (l : List Page). length l) (pages_end other k (suc n) b ∙ sym (pages_end page k (suc n) a))
  | inr (p, q, a, b) ↦ ap (λ (l : List Page). length l) (pages_more other k n q b) ∙ ap suc (pages_long page other (k + 1) n same) ∙ sym (ap (λ (l : List Page). length l) (pages_more page k n p a))
]

pub zip_by_place : {A B : Type 0} (R : A → B → Type 0) (xs : List A) (ys : List B) → length xs ≡ length ys → ((k : ℕ) (x : A) (y : B) → slice_get xs k ≡ Some x → slice_get ys k ≡ Some y → R x y) → AllZip R xs ys
zip_by_place R [] [] long each = tt
zip_by_place R [] (y ∷ ys) long each = absurd (omega arith)
zip_by_place R (x ∷ xs) [] long each = absurd (omega arith)
zip_by_place R (x ∷ xs) (y ∷ ys) long each = (each 0 x y refl refl, zip_by_place R xs ys (omega arith) (λ k a b at bt. each (suc k) a b at bt))

pub zip_long : {A B : Type 0} (R : A → B → Type 0) (xs : List A) (ys : List B) → AllZip R xs ys → length xs ≡ length ys
zip_long R [] [] all = refl
zip_long R [] (y ∷ ys) all = absurd all
zip_long R (x ∷ xs) [] all = absurd all
zip_long R (x ∷ xs) (y ∷ ys) all = ap suc (zip_long R xs ys all.1)

pub zip_at : {A B : Type 0} (R : A → B → Type 0) (xs : List A) (ys : List B) → AllZip R xs ys → (k : ℕ) (x : A) (y : B) → slice_get xs k ≡ Some x → slice_get ys k ≡ Some y → R x y
zip_at R [] [] all k x y at bt = absurd (none-some x at)
zip_at R [] (b ∷ ys) all k x y at bt = absurd all
zip_at R (a ∷ xs) [] all k x y at bt = absurd all
zip_at R (a ∷ xs) (b ∷ ys) all zero x y at bt = subst (λ (c : _). R c y) (same_Some a x at) (subst (R a) (same_Some b y bt) all.0)
zip_at R (a ∷ xs) (b ∷ ys) all (suc k) x y at bt = zip_at R xs ys all.1 k x y at bt

-- two lists of files that agree one by one do so by identifiers
pub zip_looked : (R : File → File → Type 0) → ((f g : File) → R f g → f.id ≡ g.id) → (fs gs : List File) → AllZip R fs gs → (id : ℕ) → BothBy R (file_at fs id) (file_at gs id)
zip_looked R ids [] [] all id = tt
zip_looked R ids [] (g ∷ gs) all id = absurd all
zip_looked R ids (f ∷ fs) [] all id = absurd all
zip_looked R ids (f ∷ fs) (g ∷ gs) all id = either (eqb f.id id) refl (zip_looked R ids fs gs all.1 id)
  where
    either : (b : Bool) → eqb f.id id ≡ b → BothBy R (file_at fs id) (file_at gs id) → BothBy R (file_at (f ∷ fs) id) (file_at (g ∷ gs) id)
    either true e more = let q : eqb g.id id ≡ true = ap (λ (n : ℕ). eqb n id) (sym (ids f g all.0)) ∙ e in rw (e, q) all.0
    either false e more = let q : eqb g.id id ≡ false = ap (λ (n : ℕ). eqb n id) (sym (ids f g all.0)) ∙ e in rw (e, q) more

labels_drop : (n : ℕ) (xs : List Sector) → labels_of (drop n xs) ≡ drop n (labels_of xs)
labels_drop zero xs = refl
labels_drop (suc n) [] = refl
labels_drop (suc n) (x ∷ xs) = labels_drop n xs

pub same_data_labels : (d e : List Sector) → labels_of e ≡ labels_of d → labels_of (data_sectors e) ≡ labels_of (data_sectors d)
same_data_labels d e labels =
    ap (λ (n : ℕ). labels_of (drop (first_data n) e)) (same_length d e labels) ∙ labels_drop (first_data (length d)) e ∙ ap (drop (first_data (length d))) labels ∙ sym (labels_drop (first_data (length d)) d)
