-- What both maps say of a restored volume, page by page.
use Rattle.std.proofs.Common.{◌≡◌, ◌⊎◌, inl, inr, ℕ, zero, suc, ◌+◌, ◌-◌, ◌*◌, ◌<◌, ◌≤◌, Bool, true, false, not, ◌&&◌, ◌||◌, List, [], ◌∷◌, ◌++◌, length, take, drop, Option, Some, None, refl, sym, ◌∙◌, ap, subst, arith, leb, eqb, length-drop}
use Rattle.std.specs.Prelude.{slice_get, nat_lt, nat_le}
use Rattle.std.specs.List.{flat_map}
use Rattle.std.specs.Option.{option_map_or}
use Rattle.std.proofs.lemmas.Option.{same_Some, none-some, slice_get_within}
use Rattle.std.proofs.lemmas.Bool.{cases_lt, lt-ltb, le-ltb, le-leb, lt-leb, leb-true, true≢false, false≢true}
use Rattle.std.proofs.lemmas.List.{take-append-drop, drop-drop}
use Rattle.labelled_disk.specs.declared.label.Label.{Label}
use Rattle.labelled_disk.specs.Label.{is_file, is_free}
use Rattle.labelled_disk.specs.Layout.{data_sectors, first_data}
use Rattle.labelled_disk.specs.Sectors.{Sector}
use Rattle.page_tree.specs.Page.{page_at}

-- Bytes page by page.

drop_page : (b : List ℕ) (k : ℕ) → page_at (drop 512 b) k ≡ page_at b (suc k)
drop_page b k =
    let e : 512 + 512 * k ≡ 512 * suc k = omega arith in
    ap (take 512) (drop-drop (512 * k) 512 b) ∙ ap (λ (m : ℕ). take 512 (drop m b)) e

whole_page : (b : List ℕ) → page_at b 0 ++ drop 512 b ≡ b
whole_page b = let z : 512 * 0 ≡ 0 = omega arith in ap (λ (m : ℕ). take 512 (drop m b) ++ drop 512 b) z ∙ take-append-drop 512 b

-- the pages of these sectors are those of the bytes
pub gathered : (pages : ℕ) (xs : List Sector) (b : List ℕ) → length b ≡ 512 * pages
    → ((k : ℕ) → k < pages → (l : Label) × (slice_get xs k ≡ Some (l, page_at b k))) → flat_map (λ (s : Sector). s.1) (take pages xs) ≡ b
gathered zero xs b long each = no_bytes b (omega (arith, long))
  where
    no_bytes : (c : List ℕ) → length c ≡ 0 → [] ≡ c
    no_bytes [] none = refl
    no_bytes (x ∷ c) none = absurd (omega (arith, none))
gathered (suc pages) [] b long each = absurd (let first = each 0 (omega arith) in none-some (first.0, page_at b 0) first.1)
gathered (suc pages) (s ∷ xs) b long each =
    let first = each 0 (omega arith) in
    let here : s.1 ≡ page_at b 0 = ap (λ (t : Sector). t.1) (same_Some s (first.0, page_at b 0) first.1) in
    let rest = gathered pages xs (drop 512 b) (omega (arith, long, length-drop 512 b))
    (λ k low. let next = each (suc k) (omega (arith, low)) in (next.0, next.1 ∙ ap (λ (p : List ℕ). Some (next.0, p)) (sym (drop_page b k)))) in
    ap (λ (p : List ℕ). p ++ flat_map (λ (t : Sector). t.1) (take pages xs)) here
    ∙ ap (λ (r : List ℕ). page_at b 0 ++ r) rest
    ∙ whole_page b

-- One sector.

-- a label that is free or a file's, and is a file's where the sector is needed
pub taken_as_needed : (needed : Bool) (l : Label) → (is_free l ≡ true) ⊎ (needed ≡ true) → (needed ≡ true → is_file l ≡ true) → (is_file l ≡ true → is_free l ≡ false) → needed ≡ not (is_free l)
taken_as_needed true l either file apart = ap not (sym (apart (file refl)))
taken_as_needed false l (inl free) file apart = ap not (sym free)
taken_as_needed false l (inr never) file apart = absurd (false≢true never)

-- the labels of the sector before and after name the same pages, as far as it stays
pub named_alike : (is_data needed : Bool) (now was : Option Sector) (id page : ℕ)
    → (is_data ≡ true → needed ≡ true → now ≡ was)
    → (is_data ≡ true → (s : Sector) → now ≡ Some s → needed ≡ not (is_free s.0))
    → (is_data && option_map_or (λ (s : Sector). not (is_free s.0) && (eqb s.0.id id && eqb s.0.page page)) now false)
    ≡ (is_data && (needed && option_map_or (λ (s : Sector). eqb s.0.id id && eqb s.0.page page) was false))
named_alike false needed now was id page same taken = refl
named_alike true true None was id page same taken = ap (λ (o : Option Sector). option_map_or (λ (s : Sector). eqb s.0.id id && eqb s.0.page page) o false) (same refl refl)
named_alike true true (Some s) was id page same taken =
    ap (λ (b : Bool). b && (eqb s.0.id id && eqb s.0.page page)) (sym (taken refl s refl))
    ∙ ap (λ (o : Option Sector). option_map_or (λ (s : Sector). eqb s.0.id id && eqb s.0.page page) o false) (same refl refl)
named_alike true false None was id page same taken = refl
named_alike true false (Some s) was id page same taken = ap (λ (b : Bool). b && (eqb s.0.id id && eqb s.0.page page)) (sym (taken refl s refl))
