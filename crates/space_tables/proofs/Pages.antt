-- The records of a page of the hierarchy.
use Rattle.std.proofs.Common.{◌≡◌, ℕ, zero, suc, ◌+◌, ◌-◌, ◌*◌, ◌/◌, ◌%◌, ◌<◌, ◌≤◌, List, [], ◌∷◌, get_or, Option, Some, None, refl, sym, ◌∙◌, ap, arith}
use Rattle.std.specs.Prelude.{slice_get, if◌then◌else◌}
use Rattle.std.proofs.lemmas.Bool.{eq-eqb}
use Rattle.std.proofs.lemmas.Option.{same_Some, none-some}
use Rattle.flat_mem.specs.Memory.{part}
use Rattle.flat_mem.specs.Parts.{part-part}
use Rattle.record_table.specs.Field.{field}
use Rattle.flat_machine.specs.declared.space.Space.{Space}
use Rattle.projection_laws.specs.Stored.{slot_in}
use Rattle.projection_laws.specs.Sight.{Interval}
use Rattle.space_tables.specs.Form.{slot_record, slot_page, interval_record, interval_page, is_slot_record}
use Rattle.space_tables.specs.Stored.{AreTables, AreReadable}
use Rattle.space_tables.proofs.ReadBack.{get_or_at, slot_read}

-- the record of a handle stands in the page that has it
pub record_on : (b : List ℕ) (h : ℕ) (page : List ℕ) → page ≡ slot_page b h → part page (h % 16 * 32) 32 ≡ slot_record b h
record_on b h page is =
    let inside : h % 16 * 32 + 32 ≤ 512 = omega arith in
    let at : 512 * (h / 16) + h % 16 * 32 ≡ 32 * h = omega arith in
    ap (λ (p : List ℕ). part p (h % 16 * 32) 32) is ∙ part-part b (512 * (h / 16)) 512 (h % 16 * 32) 32 inside ∙ ap (λ (n : ℕ). part b n 32) at

-- the record of an interval stands in the page that has it
pub interval_on_page : (b : List ℕ) (k : ℕ) (page : List ℕ) → page ≡ interval_page b k → part page (k % 16 * 32) 32 ≡ interval_record b k
interval_on_page b k page is =
    let inside : k % 16 * 32 + 32 ≤ 512 = omega arith in
    let at : 512 * (32 + k / 16) + k % 16 * 32 ≡ 32 * (512 + k) = omega arith in
    ap (λ (p : List ℕ). part p (k % 16 * 32) 32) is ∙ part-part b (512 * (32 + k / 16)) 512 (k % 16 * 32) 32 inside ∙ ap (λ (n : ℕ). part b n 32) at

-- indices of one page have that page
pub same_interval_page : (b : List ℕ) (from end k : ℕ) (page : List ℕ) → page ≡ interval_page b from → from ≤ k → k < end → end ≤ 16 * (from / 16) + 16 → page ≡ interval_page b k
same_interval_page b from end k page is above below whole =
    let same : from / 16 ≡ k / 16 = omega (arith, above, below, whole) in is ∙ ap (λ (n : ℕ). part b (512 * (32 + n)) 512) same

first_of : (page : List ℕ) (at : ℕ) → get_or (part page at 32) 0 0 ≡ get_or page at 0
first_of [] zero = refl
first_of [] (suc at) = refl
first_of (x ∷ xs) zero = refl
first_of (x ∷ xs) (suc at) = first_of xs at

-- its first byte is that of the record
pub first_byte : (page : List ℕ) (at : ℕ) → field 1 0 (part page at 32) ≡ get_or page at 0
first_byte page at = let same = first_of page at in omega (arith, same)

-- a record whose first byte is 0 reveals that no space stands there
pub none_there : (h : ℕ) (r : List ℕ) → field 1 0 r ≡ 0 → Some None ≡ (if is_slot_record r then Some (slot_in h r) else None)
none_there h r none = rw (eq-eqb (field 1 0 r) 0 none) refl

-- what the record of a handle reveals stands at the handle
pub revealed_at : (b : List ℕ) (slots : List (Option Space)) (xs : List Interval) → AreTables b slots xs → AreReadable slots xs → (h : ℕ) → h < 512 → (o : Option (Option Space))
    → o ≡ (if is_slot_record (slot_record b h) then Some (slot_in h (slot_record b h)) else None) → o ≡ slice_get slots h
revealed_at b slots xs are ok h below o is = is ∙ slot_read b slots xs are ok h (slot_record b h) below refl

-- handles of one page have that page
pub same_page : (b : List ℕ) (from h : ℕ) (page : List ℕ) → page ≡ slot_page b from → from ≤ h → h < from - from % 16 + 16 → page ≡ slot_page b h
same_page b from h page is above below = let same : from / 16 ≡ h / 16 = omega (arith, above, below) in is ∙ ap (λ (n : ℕ). part b (512 * n) 512) same

-- a record's first byte is 0 exactly where no space stands at the handle
pub first_reveals : (b : List ℕ) (slots : List (Option Space)) (xs : List Interval) (h : ℕ) (page : List ℕ) → page ≡ slot_page b h → AreTables b slots xs → h < 512
    → (get_or page (h % 16 * 32) 0 ≡ 0 → slice_get slots h ≡ Some None) × (slice_get slots h ≡ Some None → get_or page (h % 16 * 32) 0 ≡ 0)
first_reveals b slots xs h page is are below = by (get_or_at slots h (omega (arith, below, are.handles)))
  where
    by : (o : Option Space) × (slice_get slots h ≡ Some o) → (get_or page (h % 16 * 32) 0 ≡ 0 → slice_get slots h ≡ Some None) × (slice_get slots h ≡ Some None → get_or page (h % 16 * 32) 0 ≡ 0)
    by (None, e) =
        let zero_there : field 1 0 (slot_record b h) ≡ 0 = ap (field 1 0) (are.hierarchy h None e) in
        (λ none. e, λ none. sym (first_byte page (h % 16 * 32)) ∙ ap (field 1 0) (record_on b h page is) ∙ zero_there)
    by (Some s, e) =
        let one_there : field 1 0 (slot_record b h) ≡ 1 = ap (field 1 0) (are.hierarchy h (Some s) e) in (
          λ none. absurd (omega (arith, none, sym (first_byte page (h % 16 * 32)), ap (field 1 0) (record_on b h page is), one_there)),
          λ none. absurd (none-some s (same_Some None (Some s) (sym none ∙ e))),
        )
