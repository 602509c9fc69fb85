-- What a record of right tables reads back.
use Rattle.std.proofs.Common.{◌≡◌, ℕ, zero, suc, ◌+◌, ◌*◌, ◌^◌, ◌<◌, ◌≤◌, Bool, true, false, List, [], ◌∷◌, length, Option, Some, None, refl, sym, ◌∙◌, ap, subst, arith}
use Rattle.std.specs.Prelude.{nat_le, nat_lt, slice_get, is_some, if◌then◌else◌}
use Rattle.std.proofs.lemmas.Option.{same_Some, none-some}
use Rattle.std.proofs.lemmas.Bool.{and_from, and_parts}
use Rattle.std.proofs.lemmas.Bool.Decides.{nat_tests}
use Rattle.swap_units.specs.declared.mode.Mode.{Mode}
use Rattle.swap_units.specs.declared.mode.Mode.TheVariants.{Unmapped, Mapped}
use Rattle.swap_units.specs.Mode.{code_of, mode_in}
use Rattle.swap_units.specs.Unit.{Holds, has_page}
use Rattle.record_table.specs.Field.{field}
use Rattle.flat_machine.specs.declared.space.Space.{Space}
use Rattle.projection_laws.specs.Sight.{Interval, mode_through}
use Rattle.projection_laws.specs.Stored.{bytes_of, slot_bytes, slot_in, space_in, interval_in, IsTyped, IsTypedSpace}
use Rattle.projection_laws.proofs.Codes.{interval_reads_back, slot_reads_back}
use Rattle.projection_laws.proofs.SlotLemmas.{slot_handle}
use Rattle.space_tables.specs.Form.{in_form, space_in_form, is_interval_record, is_slot_record, has_plain_bytes, slot_record, interval_record}
use Rattle.space_tables.specs.Stored.{AreTables, HoldTables, AreReadable, IsReadable}

-- there is an element at each index below the length
pub get_or_at : {X : Type 0} → (xs : List X) (k : ℕ) → k < length xs → (x : X) × (slice_get xs k ≡ Some x)
get_or_at [] k below = absurd (omega (arith, below))
get_or_at (x ∷ xs) zero below = (x, refl)
get_or_at (x ∷ xs) (suc k) below = get_or_at xs k (omega (arith, below))

plain : (x : Interval) → field 2 30 (bytes_of x) ≡ 0
plain x = refl

one_byte : (n : ℕ) → n * 256 ^ 0 + 0 ≡ n
one_byte n = omega arith

coded : (mode : Mode) → is_some (mode_in (code_of mode)) ≡ true
coded Unmapped = refl
coded (Mapped true true) = refl
coded (Mapped true false) = refl
coded (Mapped false true) = refl
coded (Mapped false false) = refl

pub has_mode : (mode : Mode) → is_some (mode_in (code_of mode * 256 ^ 0 + 0)) ≡ true
has_mode mode = ap (λ (n : ℕ). is_some (mode_in n)) (one_byte (code_of mode)) ∙ coded mode

interval_back : (x : Interval) → in_form x ≡ true → IsTyped x → (is_interval_record (bytes_of x) ≡ true) × (interval_in (bytes_of x) ≡ x)
interval_back x form typed =
    let back = (interval_reads_back x typed).0 in
    (and_from _ _ (and_from _ _ (has_mode x.mode) (ap in_form back ∙ form)) refl, back)

slot_back : (h : ℕ) (s : Space) → s.handle ≡ h → space_in_form s ≡ true → IsTypedSpace s → (is_slot_record (slot_bytes (Some s)) ≡ true) × (slot_in h (slot_bytes (Some s)) ≡ Some s)
slot_back h s is form typed =
    let back : slot_in s.handle (slot_bytes (Some s)) ≡ Some s = (slot_reads_back s typed).0 in
    let inner : space_in s.handle (slot_bytes (Some s)) ≡ s = same_Some _ _ back in
    (and_from _ _ (and_from _ (has_plain_bytes (slot_bytes (Some s))) (has_mode (mode_through s.window)) refl) (ap space_in_form inner ∙ form), rw (← is) back)

-- an interval is read where one stands
pub one_read : (b : List ℕ) (slots : List (Option Space)) (xs : List Interval) → AreTables b slots xs → (k : ℕ) (r : List ℕ) (x : Interval) → slice_get xs k ≡ Some x → IsReadable x → r ≡ interval_record b k
    → (if is_interval_record r then Some (interval_in r) else None) ≡ Some x
one_read b slots xs are k r x e stands is =
    let back = interval_back x stands.0 stands.1 in
    let bytes : r ≡ bytes_of x = is ∙ are.projection k x e in
    ap (λ (q : List ℕ). if is_interval_record q then Some (interval_in q) else None) bytes
    ∙ ap (λ (t : Bool). if t then Some (interval_in (bytes_of x)) else None) back.0 ∙ ap Some back.1

pub interval_read : (b : List ℕ) (slots : List (Option Space)) (xs : List Interval) → AreTables b slots xs → AreReadable slots xs → (k : ℕ) (r : List ℕ) → k < length xs → r ≡ interval_record b k
    → (if is_interval_record r then Some (interval_in r) else None) ≡ slice_get xs k
interval_read b slots xs are ok k r below is = by (get_or_at xs k below)
  where
    by : (x : Interval) × (slice_get xs k ≡ Some x) → (if is_interval_record r then Some (interval_in r) else None) ≡ slice_get xs k
    by (x, e) = one_read b slots xs are k r x e (ok.intervals k x e) is ∙ sym e

-- and so is what stands at a handle
pub slot_read : (b : List ℕ) (slots : List (Option Space)) (xs : List Interval) → AreTables b slots xs → AreReadable slots xs → (h : ℕ) (r : List ℕ) → h < 512 → r ≡ slot_record b h
    → (if is_slot_record r then Some (slot_in h r) else None) ≡ slice_get slots h
slot_read b slots xs are ok h r below is = by (get_or_at slots h (omega (arith, below, are.handles)))
  where
    stands : (o : Option Space) → slice_get slots h ≡ Some o → (is_slot_record (slot_bytes o) ≡ true) × (slot_in h (slot_bytes o) ≡ o)
    stands None e = (refl, refl)
    stands (Some s) e = let at = ok.spaces h s e in let own = slot_handle 0 slots h s ok.numbered e in slot_back h s (omega (arith, own)) at.0 at.1

    by : (o : Option Space) × (slice_get slots h ≡ Some o) → (if is_slot_record r then Some (slot_in h r) else None) ≡ slice_get slots h
    by (o, e) =
        let back = stands o e in
        let bytes : r ≡ slot_bytes o = is ∙ are.hierarchy h o e in
        ap (λ (q : List ℕ). if is_slot_record q then Some (slot_in h q) else None) bytes
        ∙ ap (λ (t : Bool). if t then Some (slot_in h (slot_bytes o)) else None) back.0 ∙ ap Some back.1 ∙ sym e

pub none_of : {X : Type 0} → (t : Bool) (x : X) → None ≡ (if t then Some x else None) → t ≡ false
none_of true x e = absurd (none-some x e)
none_of false x e = refl

pub there : {X : Type 0} → (xs : List X) (k : ℕ) → k < length xs → None ≡ slice_get xs k → ⊥
there xs k below e = let at = get_or_at xs k below in none-some at.0 (e ∙ at.1)

pub some_of : {X : Type 0} → (t : Bool) (x y : X) → Some x ≡ (if t then Some y else None) → x ≡ y
some_of true x y e = same_Some x y e
some_of false x y e = absurd (none-some x (sym e))

-- a page that passes the test is held
pub held : (x : Interval) (page : ℕ) → has_page page x ≡ true → Holds x page
held x page e =
    let p = and_parts (nat_le x.first page) (nat_lt page (x.first + x.pages)) e in
    let low = p.0 in
    let high = p.1 in (grind (arith, nat_tests, low), grind (arith, nat_tests, high))
