-- What the record of a handle is read as, case by case.
use Rattle.std.proofs.Common.{◌≡◌, ◌≢◌, ℕ, ◌-◌, Bool, true, false, List, length, take, drop, Option, Some, None, refl, sym, ◌∙◌, ap}
use Rattle.std.specs.Prelude.{is_some, ◌&&◌, ◌||◌, ◌==◌, if◌then◌else◌}
use Rattle.std.proofs.lemmas.Bool.{ne_eqb}
use Rattle.std.proofs.lemmas.List.{take_rest}
use Rattle.std.proofs.lemmas.Option.{same_Some, none-some}
use Rattle.byteorder.specs.Endian.{big_number}
use Rattle.flat_machine.specs.declared.space.Space.{Space}
use Rattle.flat_machine.specs.declared.space.Window.{Window}
use Rattle.record_table.specs.Field.{field}
use Rattle.swap_units.specs.declared.mode.Mode.{Mode}
use Rattle.swap_units.specs.Mode.{mode_in}
use Rattle.projection_laws.specs.Sight.{Interval}
use Rattle.projection_laws.specs.Stored.{interval_in, space_in, slot_in, window_in}
use Rattle.space_tables.specs.Form.{has_plain_bytes, is_slot_record, space_in_form}

pub coded : (m : Bool) (s y : Space) → Some s ≡ (if m then Some y else None) → (m ≡ true) × (s ≡ y)
coded true s y e = (refl, same_Some s y e)
coded false s y e = absurd (none-some s (sym e))

uncoded : (m : Bool) (y : Space) → None ≡ (if m then Some y else None) → m ≡ false
uncoded true y e = absurd (none-some y e)
uncoded false y e = refl

found : (z m p f : Bool) (s y : Space) → z ≡ false → m ≡ true → p ≡ true → f ≡ true → s ≡ y → Some (Some s) ≡ (if z || (m && p && f) then Some (if z then None else Some y) else None)
found z m p f s y first mode plain form same = rw (first, mode, plain, form, same) refl

module _ (h : ℕ) (b : List ℕ) (some : field 1 0 b ≢ 0) where
  -- no mode has the byte of its mode
  pub uncoded_there : None ≡ (if is_some (mode_in (field 1 2 b)) then Some (space_in h b) else None) → None ≡ (if is_slot_record b then Some (slot_in h b) else None)
  uncoded_there e = rw (ne_eqb (field 1 0 b) 0 some, uncoded (is_some (mode_in (field 1 2 b))) (space_in h b) e) refl

  module _ (s : Space) (is : Some s ≡ (if is_some (mode_in (field 1 2 b)) then Some (space_in h b) else None)) where
    -- a space stands there
    pub space_there : has_plain_bytes b ≡ true → space_in_form s ≡ true → Some (Some s) ≡ (if is_slot_record b then Some (slot_in h b) else None)
    space_there plain form =
        let k = coded (is_some (mode_in (field 1 2 b))) s (space_in h b) is in
        found (field 1 0 b == 0) (is_some (mode_in (field 1 2 b))) (has_plain_bytes b) (space_in_form (space_in h b)) s (space_in h b) (ne_eqb (field 1 0 b) 0 some) k.0 plain (ap space_in_form (sym k.1) ∙ form) k.1

    -- a byte that may have one value only has another
    pub unplain_there : has_plain_bytes b ≡ false → None ≡ (if is_slot_record b then Some (slot_in h b) else None)
    unplain_there plain = broken (field 1 0 b == 0) (is_some (mode_in (field 1 2 b))) (has_plain_bytes b) (space_in_form (space_in h b)) (ne_eqb (field 1 0 b) 0 some) plain
      where
        broken : (z m p f : Bool) → z ≡ false → p ≡ false → None ≡ (if z || (m && p && f) then Some (if z then None else Some (space_in h b)) else None)
        broken z true p f first plain = rw (first, plain) refl
        broken z false p f first plain = rw first refl

    -- the space breaks its form
    pub unformed_there : space_in_form s ≡ false → None ≡ (if is_slot_record b then Some (slot_in h b) else None)
    unformed_there form =
        let k = coded (is_some (mode_in (field 1 2 b))) s (space_in h b) is in
        broken (field 1 0 b == 0) (is_some (mode_in (field 1 2 b))) (has_plain_bytes b) (space_in_form (space_in h b)) (ne_eqb (field 1 0 b) 0 some) (ap space_in_form (sym k.1) ∙ form)
      where
        broken : (z m p f : Bool) → z ≡ false → f ≡ false → None ≡ (if z || (m && p && f) then Some (if z then None else Some (space_in h b)) else None)
        broken z true true f first form = rw (first, form) refl
        broken z true false f first form = rw first refl
        broken z false p f first form = rw first refl

-- a field that is read from the rest of the bytes
pub read_at : (n k : ℕ) (b : List ℕ) (x : ℕ) → x ≡ big_number n (take (length b - k) (drop k b)) → x ≡ field n k b
read_at n k b x is = is ∙ ap (big_number n) (take_rest b k)

abbrev space_of : ℕ → ℕ → ℕ → ℕ → ℕ → Option Window → Space
space_of h parent first pages unit window = record { handle = h; parent = parent; first = first; pages = pages; unit = unit; window = window }

-- the fields of a space, read one by one
pub fields_read : (h : ℕ) (b : List ℕ) (mode : Mode) (parent first pages unit file page : ℕ) (window : Option Window)
    → parent ≡ field 2 4 b → first ≡ field 4 8 b → pages ≡ field 4 12 b → unit ≡ field 1 1 b → file ≡ field 8 16 b → page ≡ field 4 24 b → window ≡ window_in mode file page
    → space_of h parent first pages unit window ≡ record (space_in h b) { window = window_in mode (field 8 16 b) (field 4 24 b) }
fields_read h b mode parent first pages unit file page window a c d e f g w = λ i. space_of h (a i) (c i) (d i) (e i) ((w ∙ (λ j. window_in mode (f j) (g j))) i)

-- those of an interval
abbrev interval_as : ℕ → ℕ → ℕ → ℕ → Mode → ℕ → ℕ → ℕ → ℕ → Interval
interval_as first pages space unit mode start id page mapped =
    record { first = first; pages = pages; space = space; unit = unit; mode = mode; start = start; id = id; page = page; mapped = mapped }

pub interval_read : (b : List ℕ) (mode : Mode) (first pages space unit start id page mapped : ℕ) → first ≡ field 4 0 b → pages ≡ field 4 4 b → space ≡ field 2 8 b → unit ≡ field 1 10 b
    → start ≡ field 4 12 b → id ≡ field 8 16 b → page ≡ field 4 24 b → mapped ≡ field 2 28 b
    → interval_as first pages space unit mode start id page mapped ≡ record (interval_in b) { mode = mode }
interval_read b mode first pages space unit start id page mapped e1 e2 e3 e4 e5 e6 e7 e8 = λ i. interval_as (e1 i) (e2 i) (e3 i) (e4 i) mode (e5 i) (e6 i) (e7 i) (e8 i)
