-- What stands in the bytes of a record, where its mode's byte is that of one.
use Rattle.std.proofs.Common.{◌≡◌, ℕ, zero, suc, Bool, true, false, List, [], ◌∷◌, get_or, drop, Option, Some, None, refl, sym, ◌∙◌, ap, arith}
use Rattle.std.specs.Prelude.{is_some, unwrap_or, ◌&&◌, if◌then◌else◌}
use Rattle.std.proofs.lemmas.Option.{same_Some, none-some}
use Rattle.flat_machine.specs.declared.space.Space.{Space}
use Rattle.record_table.specs.Field.{field}
use Rattle.swap_units.specs.declared.mode.Mode.{Mode}
use Rattle.swap_units.specs.declared.mode.Mode.TheVariants.{Unmapped}
use Rattle.swap_units.specs.Mode.{mode_in}
use Rattle.projection_laws.specs.Sight.{Interval}
use Rattle.projection_laws.specs.Stored.{interval_in, space_in, window_in}

dropped : (b : List ℕ) (at : ℕ) → get_or (drop at b) 0 0 ≡ get_or b at 0
dropped [] zero = refl
dropped [] (suc at) = refl
dropped (x ∷ xs) zero = refl
dropped (x ∷ xs) (suc at) = dropped xs at

-- a field of one byte is that byte
pub byte_at : (b : List ℕ) (at : ℕ) → field 1 at b ≡ get_or b at 0
byte_at b at = let same = dropped b at in omega (arith, same)

pub decoded_is : (b : List ℕ) (m : Mode) (x : Interval) → mode_in (field 1 11 b) ≡ Some m → x ≡ record (interval_in b) { mode = m }
    → Some x ≡ (if is_some (mode_in (field 1 11 b)) then Some (interval_in b) else None)
decoded_is b m x has is =
    ap Some is ∙ (λ i. Some (record (interval_in b) { mode = unwrap_or (sym has i) Unmapped })) ∙ (λ i. if is_some (sym has i) then Some (interval_in b) else None)

pub space_is : (h : ℕ) (b : List ℕ) (m : Mode) (x : Space) → mode_in (field 1 2 b) ≡ Some m → x ≡ record (space_in h b) { window = window_in m (field 8 16 b) (field 4 24 b) }
    → Some x ≡ (if is_some (mode_in (field 1 2 b)) then Some (space_in h b) else None)
space_is h b m x has is =
    ap Some is ∙ (λ i. Some (record (space_in h b) { window = window_in (unwrap_or (sym has i) Unmapped) (field 8 16 b) (field 4 24 b) }))
    ∙ (λ i. if is_some (sym has i) then Some (space_in h b) else None)

module _ {X : Type 0} (form : X → Bool) (coded rest : Bool) (x y : X) (is : Some x ≡ (if coded then Some y else None)) where
  same : (coded ≡ true) × (x ≡ y)
  same = by coded is
    where
      by : (c : Bool) → Some x ≡ (if c then Some y else None) → (c ≡ true) × (x ≡ y)
      by true e = (refl, same_Some x y e)
      by false e = absurd (none-some x (sym e))

  -- it passes what is tested besides
  pub passes : form x ≡ true → rest ≡ true → Some x ≡ (if coded && form y && rest then Some y else None)
  passes has all = let has_y : form y ≡ true = ap form (sym same.1) ∙ has in rw (same.0, has_y, all) (ap Some same.1)

  -- it doesn't
  pub fails : (form x && rest) ≡ false → None ≡ (if coded && form y && rest then Some y else None)
  fails some = let fails_y : (form y && rest) ≡ false = ap (λ (z : X). form z && rest) (sym same.1) ∙ some in rw (same.0, fails_y) refl
