-- Of which part of a volume a sector is.
use Rattle.std.proofs.Common.{◌≡◌, ◌≢◌, ℕ, ◌<◌, ◌≤◌, Bool, true, false, List, length, refl, sym, ◌∙◌, ap, arith, ⊎_elim, eqb, leb, ltb}
use Rattle.std.specs.Prelude.{◌==◌, if◌then◌else◌}
use Rattle.std.proofs.lemmas.Bool.{ne_eqb, cases_lt}
use Rattle.labelled_disk.specs.declared.label.Label.{Label}
use Rattle.labelled_disk.specs.Label.{is_file}
use Rattle.labelled_disk.specs.Layout.{vam, first_data}
use Rattle.labelled_disk.specs.Sectors.{Sector}
use Rattle.swapper_kernel.specs.Kinds.{Kind, kind_of, HasKind, SameBut, of_kinds, the_root, the_allocation_map, the_file_map, the_tables, a_file, unused}
use Rattle.swapper_kernel.specs.DiffersLaws.{same_length, same_back}

pub root_kind : (n : ℕ) (l : Label) → kind_of n 0 l ≡ the_root
unfolding kind_of
root_kind n l = refl

pub allocation_kind : (n k : ℕ) (l : Label) → 0 < k → k ≤ vam n → kind_of n k l ≡ the_allocation_map
unfolding kind_of
allocation_kind n k l above below =
    let a : eqb k 0 ≡ false = ne_eqb k 0 (omega arith) in
    let b : leb k (vam n) ≡ true = grind arith in
    rw (a, b) refl

pub map_kind : (n k : ℕ) (l : Label) → vam n < k → k < first_data n → kind_of n k l ≡ the_file_map
unfolding kind_of
map_kind n k l above below =
    let a : eqb k 0 ≡ false = ne_eqb k 0 (omega arith) in
    let b : leb k (vam n) ≡ false = grind arith in
    let c : ltb k (first_data n) ≡ true = grind arith in
    rw (a, b, c) refl

-- of data sectors the label decides
pub data_kind : (n k : ℕ) (l : Label) → first_data n ≤ k → kind_of n k l ≡ (if l.id == 3 then the_tables else (if is_file l then a_file else unused))
unfolding kind_of first_data
data_kind n k l above =
    let a : eqb k 0 ≡ false = ne_eqb k 0 (omega arith) in
    let b : leb k (vam n) ≡ false = grind arith in
    let c : ltb k (first_data n) ≡ false = grind arith in
    rw (a, b, c) refl

-- a sector of a file, or of the space tables, is a data sector
pub kind_is_data : (n k : ℕ) (l : Label) (kind : Kind) → kind ≢ the_root → kind ≢ the_allocation_map → kind ≢ the_file_map → kind_of n k l ≡ kind → first_data n ≤ k
kind_is_data n k l kind a b c is = ⊎_elim
    (λ (low : k < first_data n). absurd (low_place low))
    (λ (high : first_data n ≤ k). high)
    (cases_lt k (first_data n))
  where
    low_place : k < first_data n → ⊥
    low_place low = ⊎_elim
        (λ (r : k < 1). let z : k ≡ 0 = omega arith in a (sym is ∙ ap (λ (i : ℕ). kind_of n i l) z ∙ root_kind n l))
        (λ (r : 1 ≤ k). ⊎_elim
        (λ (v : vam n < k). c (sym is ∙ map_kind n k l v low))
        (λ (v : k ≤ vam n). b (sym is ∙ allocation_kind n k l (omega arith) v))
        (cases_lt (vam n) k))
        (cases_lt k 1)

-- such a sector is one of the other memory too
pub kind_back : (kinds : Kind → Bool) (kind : Kind) (m n : List Sector) → SameBut kinds m n → kinds kind ≡ false → (k : ℕ) (t : Sector) → HasKind n k t kind → HasKind m k t kind
kind_back kinds kind m n same other k t has =
    let is : kind_of (length m) k t.0 ≡ kind = ap (λ (i : ℕ). kind_of i k t.0) (sym (same_length m n same.labels)) ∙ has.is in
    record { here = same_back (of_kinds (length m) kinds) m n same k t has.here (ap kinds is ∙ other); is = is }
