-- What a write of a record makes of the tables.
use Rattle.std.proofs.Common.{◌≡◌, ◌≢◌, ◌⊎◌, inl, inr, ℕ, ◌+◌, ◌*◌, ◌<◌, ◌≤◌, List, length, Option, Some, None, refl, sym, ◌∙◌, ap, arith}
use Rattle.std.specs.Prelude.{slice_get, slice_set}
use Rattle.std.proofs.lemmas.Bool.{cases_eq, cases_lt}
use Rattle.std.proofs.lemmas.Option.{same_Some, slice_get_within}
use Rattle.std.proofs.lemmas.List.{length-set}
use Rattle.labelled_disk.proofs.Finds.{get_set_same, get_set_other}
use Rattle.flat_mem.specs.Memory.{part, overwritten}
use Rattle.flat_mem.specs.Parts.{part-overwritten_below, part-overwritten_above, part-overwritten_same}
use Rattle.flat_machine.specs.declared.space.Space.{Space}
use Rattle.projection_laws.specs.Sight.{Interval}
use Rattle.projection_laws.specs.Stored.{bytes_of, slot_bytes}
use Rattle.space_tables.specs.Form.{slot_record, interval_record}
use Rattle.space_tables.specs.Stored.{AreTables}

-- another record of 32 bytes stays
pub other : (b r : List ℕ) (i j : ℕ) → length r ≡ 32 → 32 * i + 32 ≤ length b → i ≢ j → part (overwritten b (32 * i) r) (32 * j) 32 ≡ part b (32 * j) 32
other b r i j long fits apart = by (cases_lt j i)
  where
    by : (j < i) ⊎ (i ≤ j) → part (overwritten b (32 * i) r) (32 * j) 32 ≡ part b (32 * j) 32
    by (inl l) = part-overwritten_below b r (32 * i) (32 * j) 32 (omega (arith, l)) (omega (arith, long, fits))
    by (inr l) = part-overwritten_above b r (32 * i) (32 * j) 32 (omega (arith, long, l, apart)) (omega (arith, long, fits))

slot_long : (o : Option Space) → length (slot_bytes o) ≡ 32
slot_long None = refl
slot_long (Some s) = refl

interval_long : (x : Interval) → length (bytes_of x) ≡ 32
interval_long x = refl

pub slot_written : (b r : List ℕ) (slots : List (Option Space)) (xs : List Interval) → AreTables b slots xs → 49152 ≤ length b → (h : ℕ) (o : Option Space) → h < 512 → r ≡ slot_bytes o
    → AreTables (overwritten b (32 * h) r) (slice_set slots h o) xs
slot_written b r slots xs are fits h o below is =
    let long : length r ≡ 32 = ap length is ∙ slot_long o in record {
      handles = length-set slots h o ∙ are.handles;
      hierarchy = λ j p e. by long j p e (cases_eq j h);
      projection = λ k x e. other b r h (512 + k) long (omega (arith, below, fits)) (λ q. omega (arith, q, below)) ∙ are.projection k x e;
    }
  where
    by : length r ≡ 32 → (j : ℕ) (p : Option Space) → slice_get (slice_set slots h o) j ≡ Some p → (j ≡ h) ⊎ (j ≢ h) → slot_record (overwritten b (32 * h) r) j ≡ slot_bytes p
    by long j p e (inl same) =
        let there : slice_get (slice_set slots h o) h ≡ Some p = ap (slice_get (slice_set slots h o)) (sym same) ∙ e in
        let is_p : o ≡ p = same_Some o p (sym (get_set_same slots h o (omega (arith, below, are.handles))) ∙ there) in
        ap (λ (i : ℕ). part (overwritten b (32 * h) r) (32 * i) 32) same ∙ part-overwritten_same b r (32 * h) 32 long (omega (arith, long, below, fits)) ∙ is ∙ ap slot_bytes is_p
    by long j p e (inr apart) =
        other b r h j long (omega (arith, below, fits)) (λ q. apart (sym q)) ∙ are.hierarchy j p (sym (get_set_other slots h j o apart) ∙ e)

pub interval_written : (b : List ℕ) (slots : List (Option Space)) (xs : List Interval) → AreTables b slots xs → 49152 ≤ length b → (k : ℕ) (x : Interval) → k < length xs → k < 1024
    → AreTables (overwritten b (32 * (512 + k)) (bytes_of x)) slots (slice_set xs k x)
interval_written b slots xs are fits k x below small = record {
  handles = are.handles;
  hierarchy = λ j p e. let within = slice_get_within slots j p e in
      other b (bytes_of x) (512 + k) j (interval_long x) (omega (arith, small, fits)) (λ q. omega (arith, q, within, are.handles)) ∙ are.hierarchy j p e;
  projection = λ j y e. by j y e (cases_eq j k);
}
  where
    by : (j : ℕ) (y : Interval) → slice_get (slice_set xs k x) j ≡ Some y → (j ≡ k) ⊎ (j ≢ k) → interval_record (overwritten b (32 * (512 + k)) (bytes_of x)) j ≡ bytes_of y
    by j y e (inl same) =
        let there : slice_get (slice_set xs k x) k ≡ Some y = ap (slice_get (slice_set xs k x)) (sym same) ∙ e in
        let is_y : x ≡ y = same_Some x y (sym (get_set_same xs k x below) ∙ there) in
        ap (λ (i : ℕ). part (overwritten b (32 * (512 + k)) (bytes_of x)) (32 * (512 + i)) 32) same
        ∙ part-overwritten_same b (bytes_of x) (32 * (512 + k)) 32 (interval_long x) (omega (arith, interval_long x, small, fits)) ∙ ap bytes_of is_y
    by j y e (inr apart) =
        other b (bytes_of x) (512 + k) (512 + j) (interval_long x) (omega (arith, small, fits)) (λ q. apart (omega (arith, q))) ∙ are.projection j y (sym (get_set_other xs k j x apart) ∙ e)
