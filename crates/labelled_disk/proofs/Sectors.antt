-- A list of sectors after one was replaced.
use Rattle.std.proofs.Common.{◌≡◌, ◌≢◌, ℕ, zero, suc, ◌<◌, List, [], ◌∷◌, length, Option, Some, true, refl, sym, ◌∙◌, ap, subst, arith, get_or}
use Rattle.std.specs.Prelude.{slice_get, slice_set, option_map, if◌then◌else◌, Bool, replicate, ◌^◌}
use Rattle.std.proofs.lemmas.List.{get_or-replicate, length-replicate}
use Rattle.std.proofs.lemmas.List.Elements.{All-from_get_or}
use Rattle.std.specs.Option.{option_map_or}
use Rattle.std.proofs.lemmas.Option.{same_Some, slice_get_read, slice_get_within, get_or_from_slice_get}
use Rattle.labelled_disk.specs.declared.label.Label.{Label}
use Rattle.labelled_disk.specs.declared.label.Wanted.{Wanted}
use Rattle.labelled_disk.specs.declared.disk.DiskWrite.TheVariants.{Page}
use Rattle.labelled_disk.specs.Label.{names}
use Rattle.labelled_disk.specs.Sectors.{Sector, IsSector, AreSectors, free_label, zero_sector}
use Rattle.labelled_disk.specs.CrashState.{written}

pub slice_get-set_same : {X : Type 0} → (xs : List X) (i : ℕ) (a : X) → i < length xs → slice_get (slice_set xs i a) i ≡ Some a
slice_get-set_same [] i a below = absurd (omega arith)
slice_get-set_same (x ∷ xs) zero a below = refl
slice_get-set_same (x ∷ xs) (suc i) a below = slice_get-set_same xs i a (omega arith)

pub slice_get-set_other : {X : Type 0} → (xs : List X) (i k : ℕ) (a : X) → k ≢ i → slice_get (slice_set xs i a) k ≡ slice_get xs k
slice_get-set_other [] i k a other = refl
slice_get-set_other (x ∷ xs) zero zero a other = absurd (other refl)
slice_get-set_other (x ∷ xs) zero (suc k) a other = refl
slice_get-set_other (x ∷ xs) (suc i) zero a other = refl
slice_get-set_other (x ∷ xs) (suc i) (suc k) a other = slice_get-set_other xs i k a (omega arith)

-- what holds of each, and of the new one, holds of each afterwards
pub each-set : {X : Type 0} → (P : X → Type 0) (xs : List X) (i : ℕ) (a : X) → ((k : ℕ) (s : X) → slice_get xs k ≡ Some s → P s) → P a
    → (k : ℕ) (s : X) → slice_get (slice_set xs i a) k ≡ Some s → P s
each-set P [] i a each new k s is = each k s is
each-set P (x ∷ xs) zero a each new zero s is = subst P (same_Some a s is) new
each-set P (x ∷ xs) zero a each new (suc k) s is = each (suc k) s is
each-set P (x ∷ xs) (suc i) a each new zero s is = each zero s is
each-set P (x ∷ xs) (suc i) a each new (suc k) s is = each-set P xs i a (λ k s is. each (suc k) s is) new k s is

module _ (sectors : List Sector) (i : ℕ) (cell : Sector) (below : i < length sectors) (is : cell ≡ get_or sectors i cell) where
  here : slice_get sectors i ≡ Some cell
  here = slice_get_read sectors (length sectors) i cell refl below is

  module _ (wanted : Wanted) (named : names cell.0 wanted ≡ true) where
    pub names_there : (all : List Sector) → Some sectors ≡ Some all → option_map (λ (s : Sector). names s.0 wanted) (slice_get all i) ≡ Some true
    names_there all same =
        ap (λ (l : List Sector). option_map (λ (s : Sector). names s.0 wanted) (slice_get l i)) (sym (same_Some sectors all same))
        ∙ ap (λ (o : Option Sector). option_map (λ (s : Sector). names s.0 wanted) o) here
        ∙ ap (λ (b : Bool). Some b) named

    pub written-page : (page : List ℕ) → written (Page i wanted page) sectors ≡ slice_set sectors i (cell.0, page)
    written-page page =
        ap (λ (o : Option Sector). option_map_or (λ (old : Sector). if names old.0 wanted then slice_set sectors i (old.0, page) else sectors) o sectors) here
        ∙ ap (λ (b : Bool). if b then slice_set sectors i (cell.0, page) else sectors) named

-- a label whose fields fit, and 512 bytes
pub fits : (label : Label) (page : List ℕ) → label.id < 2 ^ 64 → label.page < 2 ^ 32 → label.kind < 2 ^ 16 → label.flags < 256 → label.last < 256
    → length page ≡ 512 → ((k : ℕ) → get_or page k 0 < 256) → IsSector (label, page)
fits label page id number kind flags last whole bytes = record {
  id_fits = id;
  page_fits = number;
  kind_fits = kind;
  flags_fit = flags;
  last_fits = last;
  whole_page = whole;
  bytes = All-from_get_or (λ b. b < 256) page 0 (λ k below. bytes k);
}

-- zero sectors are sectors
pub zero_sectors_fit : (n : ℕ) → AreSectors (replicate n zero_sector)
zero_sectors_fit n k s is =
    let below : k < n = subst (λ (m : ℕ). k < m) (length-replicate n zero_sector) (slice_get_within (replicate n zero_sector) k s is) in
    let same : zero_sector ≡ s = sym (get_or-replicate n k zero_sector s below) ∙ get_or_from_slice_get (replicate n zero_sector) k s s is in
    subst IsSector same (fits free_label (replicate 512 0) (omega arith) (omega arith) (omega arith) (omega arith) (omega arith) refl
    (λ k. zero_byte 512 k))
  where
    zero_byte : (n k : ℕ) → get_or (replicate n 0) k 0 < 256
    zero_byte zero k = omega arith
    zero_byte (suc n) zero = omega arith
    zero_byte (suc n) (suc k) = zero_byte n k
