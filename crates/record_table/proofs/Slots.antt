-- Slots of a page that are moved by one.
use Rattle.std.proofs.Common.{◌≡◌, ℕ, ◌+◌, ◌-◌, ◌*◌, ◌<◌, ◌≤◌, List, length, arith, sym, ◌∙◌, ap}
use Rattle.std.proofs.lemmas.Nat.{mul-le, div-add-mod'}
use Rattle.flat_mem.specs.Memory.{part, overwritten}
use Rattle.flat_mem.specs.Parts.{length-part, length-overwritten, part-part, part-overwritten_below, part-overwritten_above, part-overwritten_same, part-overwritten_within}
use Rattle.record_table.specs.Table.{per_page}
use Rattle.record_table.specs.Pages.{IsPushed, IsPulled}

-- a piece put at o before the bytes up to the end, whose last e fall out
abbrev pub pushed : List ℕ → List ℕ → ℕ → ℕ → ℕ → List ℕ
pushed page piece o e end = overwritten (overwritten page (o + e) (part page o ((end - e) - o))) o piece

-- the e bytes from o on taken out, and the piece put after the others up to the end
abbrev pub pulled : List ℕ → List ℕ → ℕ → ℕ → ℕ → List ℕ
pulled page piece o e end = overwritten (overwritten page o (part page (o + e) (end - (o + e)))) (end - e) piece

module _ (page piece : List ℕ) (o e end : ℕ) (long : length page ≡ 512) (width : length piece ≡ e) (fits : end ≤ 512) (room : o + e ≤ end) where
  -- those from o on, without the last e
  abbrev early : List ℕ
  early = part page o ((end - e) - o)

  -- those after the first e from o on
  abbrev late : List ℕ
  late = part page (o + e) (end - (o + e))

  early_long : length early ≡ (end - e) - o
  early_long = length-part page o ((end - e) - o) (omega (arith, long, fits, room))

  late_long : length late ≡ end - (o + e)
  late_long = length-part page (o + e) (end - (o + e)) (omega (arith, long, fits, room))

  early_fits : (o + e) + length early ≤ length page
  early_fits = omega (arith, long, fits, room, early_long)

  late_fits : o + length late ≤ length page
  late_fits = omega (arith, long, fits, room, late_long)

  pushed_fits : o + length piece ≤ length (overwritten page (o + e) early)
  pushed_fits = omega (arith, long, fits, room, width, length-overwritten page early (o + e) early_fits)

  pulled_fits : (end - e) + length piece ≤ length (overwritten page o late)
  pulled_fits = omega (arith, long, fits, room, width, length-overwritten page late o late_fits)

  pub pushed_below : (x : ℕ) → x + e ≤ o → part (pushed page piece o e end) x e ≡ part page x e
  pushed_below x below =
      part-overwritten_below (overwritten page (o + e) early) piece o x e below pushed_fits ∙ part-overwritten_below page early (o + e) x e (omega (arith, below)) early_fits

  pub pushed_here : part (pushed page piece o e end) o e ≡ piece
  pushed_here = part-overwritten_same (overwritten page (o + e) early) piece o e width pushed_fits

  pub pushed_above : (x : ℕ) → o ≤ x → (x + e) + e ≤ end → part (pushed page piece o e end) (x + e) e ≡ part page x e
  pushed_above x above inside =
      let at : x + e ≡ (o + e) + (x - o) = omega (arith, above) in
      let back : o + (x - o) ≡ x = omega (arith, above) in
      part-overwritten_above (overwritten page (o + e) early) piece o (x + e) e (omega (arith, above, width)) pushed_fits
      ∙ ap (λ (y : ℕ). part (overwritten page (o + e) early) y e) at
      ∙ part-overwritten_within page early (o + e) (x - o) e (omega (arith, above, inside, early_long)) early_fits
      ∙ part-part page o ((end - e) - o) (x - o) e (omega (arith, above, inside))
      ∙ ap (λ (y : ℕ). part page y e) back

  pub pulled_below : (x : ℕ) → x + e ≤ o → part (pulled page piece o e end) x e ≡ part page x e
  pulled_below x below =
      part-overwritten_below (overwritten page o late) piece (end - e) x e (omega (arith, below, room)) pulled_fits ∙ part-overwritten_below page late o x e below late_fits

  pub pulled_moved : (x : ℕ) → o ≤ x → (x + e) + e ≤ end → part (pulled page piece o e end) x e ≡ part page (x + e) e
  pulled_moved x above inside =
      let at : x ≡ o + (x - o) = omega (arith, above) in
      let back : (o + e) + (x - o) ≡ x + e = omega (arith, above) in
      part-overwritten_below (overwritten page o late) piece (end - e) x e (omega (arith, inside)) pulled_fits
      ∙ ap (λ (y : ℕ). part (overwritten page o late) y e) at
      ∙ part-overwritten_within page late o (x - o) e (omega (arith, above, inside, late_long)) late_fits
      ∙ part-part page (o + e) (end - (o + e)) (x - o) e (omega (arith, above, inside))
      ∙ ap (λ (y : ℕ). part page y e) back

  pub pulled_last : part (pulled page piece o e end) (end - e) e ≡ piece
  pulled_last = part-overwritten_same (overwritten page o late) piece (end - e) e width pulled_fits

-- the same for slots of e bytes
module _ (e slot : ℕ) (page piece : List ℕ) (long : length page ≡ 512) (width : length piece ≡ e) (inside : slot < per_page e) where
  fits : e * per_page e ≤ 512
  fits = omega (arith, div-add-mod' 512 e)

  slot_before : (i j : ℕ) → i < j → e * i + e ≤ e * j
  slot_before i j less = omega (arith, mul-le e (i + 1) e j (omega arith) (omega (arith, less)))

  slot_from : (i j : ℕ) → i ≤ j → e * i ≤ e * j
  slot_from i j less = mul-le e i e j (omega arith) less

  next_slot : (i : ℕ) → e * (i + 1) ≡ e * i + e
  next_slot i = omega arith

  room : e * slot + e ≤ e * per_page e
  room = slot_before slot (per_page e) inside

  last_slot : (i : ℕ) → i + 1 ≡ per_page e → e * i ≡ e * per_page e - e
  last_slot i is = rw (← is) (omega arith)

  pub is_pushed : (taken : List ℕ) → taken ≡ part page (e * per_page e - e) e → IsPushed e slot page (pushed page piece (e * slot) e (e * per_page e)) piece taken
  is_pushed taken is = record {
    below = λ i less. pushed_below page piece (e * slot) e (e * per_page e) long width fits room (e * i) (slot_before i slot less);
    here = pushed_here page piece (e * slot) e (e * per_page e) long width fits room;
    above = λ i from more.
        let next : e * (i + 1) ≡ e * i + e = next_slot i in
        ap (λ (y : ℕ). part (pushed page piece (e * slot) e (e * per_page e)) y e) next
        ∙ pushed_above page piece (e * slot) e (e * per_page e) long width fits room (e * i) (slot_from slot i from) (omega (arith, next, slot_before (i + 1) (per_page e) more));
    out = λ i last. is ∙ ap (λ (y : ℕ). part page y e) (sym (last_slot i last));
  }

  pub is_pulled : (taken : List ℕ) → taken ≡ part page (e * slot) e → IsPulled e slot page (pulled page piece (e * slot) e (e * per_page e)) piece taken
  is_pulled taken is = record {
    below = λ i less. pulled_below page piece (e * slot) e (e * per_page e) long width fits room (e * i) (slot_before i slot less);
    moved = λ i from more.
        let next : e * (i + 1) ≡ e * i + e = next_slot i in
        pulled_moved page piece (e * slot) e (e * per_page e) long width fits room (e * i) (slot_from slot i from) (omega (arith, next, slot_before (i + 1) (per_page e) more))
        ∙ ap (λ (y : ℕ). part page y e) (sym next);
    last = λ i is_last.
        ap (λ (y : ℕ). part (pulled page piece (e * slot) e (e * per_page e)) y e) (last_slot i is_last)
        ∙ pulled_last page piece (e * slot) e (e * per_page e) long width fits room;
    out = is;
  }

-- a slot ends where the slots end
pub room_for : (e slot : ℕ) → slot < per_page e → e * slot + e ≤ e * per_page e
room_for e slot inside = omega (arith, mul-le e (slot + 1) e (per_page e) (omega arith) (omega (arith, inside)))
