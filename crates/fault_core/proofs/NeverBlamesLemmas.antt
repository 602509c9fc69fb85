-- Tables that are revealed and in form are reported as broken by no look-up, nor are their pages missing.
use Rattle.std.proofs.Common.{◌≡◌, inl, inr, ℕ, suc, Bool, ◌+◌, ◌*◌, ◌<◌, ◌≤◌, true, false, List, take, Some, refl, sym, ◌∙◌, ap, subst, arith}
use Rattle.std.specs.Prelude.{if◌then◌else◌, None, Option, nat_le, slice_get}
use Rattle.std.specs.Int.{w32, to_be_bytes}
use Rattle.std.proofs.lemmas.Bool.{true≢false, leb-true, and_from}
use Rattle.std.proofs.lemmas.Bool.Decides.{nat_tests}
use Rattle.std.proofs.lemmas.Option.{slice_get_within}
use Rattle.labelled_disk.specs.declared.evidence.Evidence.TheVariants.{Mismatch, Malformed, Missing}
use Rattle.labelled_disk.specs.StructureLaws.{map_or_tables}
use Rattle.labelled_disk.specs.declared.evidence.Halt.{Halt}
use Rattle.labelled_disk.specs.declared.evidence.Halt.TheVariants.{Disk, Damaged}
use Rattle.flat_mem.specs.Memory.{part}
use Rattle.flat_mem.specs.Order.{at_most}
use Rattle.flat_mem.specs.Parts.{part-part}
use Rattle.flat_machine.specs.declared.space.Space.{Space}
use Rattle.flat_machine.specs.Space.{root_pages}
use Rattle.swap_units.specs.declared.interval.Interval.{Interval}
use Rattle.swap_units.specs.Unit.{has_page}
use Rattle.projection_laws.specs.Slots.{listed}
use Rattle.projection_laws.specs.Sight.{end_of}
use Rattle.projection_laws.specs.Stored.{bytes_of, interval_in, slot_in}
use Rattle.projection_laws.proofs.Codes.{interval_reads_back}
use Rattle.projection_laws.proofs.Finds.{firsts_are_ascending, last_holds}
use Rattle.projection_laws.proofs.Keys.{key_order}
use Rattle.space_tables.specs.Form.{Breaks, BreaksHierarchy, BreaksInterval, BreaksLookUp, BreaksSlot, BeginsAfter, Misses, in_form, interval_record, is_interval_record, is_slot_record, key_in, slot_record}
use Rattle.space_tables.specs.Stored.{AreTables, IsReadable, RevealSpaces}
use Rattle.space_tables.proofs.ReadBack.{get_or_at, has_mode, slot_read, there}
use Rattle.space_tables.proofs.Right.{right_reads}
use Rattle.swapper_kernel.specs.Goes.{Pages}
use Rattle.fault_core.specs.Access.{BreaksFor}
use Rattle.fault_core.specs.Kill.{BreaksWithin}
use Rattle.fault_core.specs.Lack.{Sees}
use Rattle.fault_core.specs.Reach.{ReachHalts, TouchHalts}
use Rattle.fault_core.specs.ReachLaws.{touch_of_reach}
use Rattle.fault_core.specs.NeverBlames.{NeverBlamesTables}
use Rattle.fault_core.specs.Revealed.{BreaksTables}
use Rattle.fault_core.specs.Touch.{Touches}
use Rattle.filer_kernel.specs.View.{View, TablesAre}

plain_record : (x : Interval) → in_form x ≡ true → interval_in (bytes_of x) ≡ x → is_interval_record (bytes_of x) ≡ true
plain_record x form back = and_from _ _ (and_from _ _ (has_mode x.mode) (ap in_form back ∙ form)) refl

key_at_record : (b : List ℕ) (k : ℕ) → take 4 (interval_record b k) ≡ key_in b k
key_at_record b k = let at : 32 * (512 + k) + 0 ≡ 32 * (512 + k) = omega arith in part-part b (32 * (512 + k)) 32 0 4 (omega arith) ∙ ap (λ (n : ℕ). part b n 4) at

key_bytes : (x : Interval) → take 4 (bytes_of x) ≡ to_be_bytes w32 x.first
key_bytes x = refl

below_so : (a b : ℕ) → nat_le a b ≡ false → b < a
below_so a b e = grind (arith, nat_tests)

holds_so : (x : Interval) (page : ℕ) → x.first ≤ page → page < x.first + x.pages → has_page page x ≡ true
holds_so x page from below = grind (arith, nat_tests, from, below)

module _ {count : ℕ} {ss : List Space} {bytes : List ℕ} (t : RevealSpaces (λ b. b ≡ bytes) count ss) where
  -- an interval, and its record
  at : (k : ℕ) → k < count → (x : Interval) × (slice_get t.xs k ≡ Some x)
  at k below = let counted = t.counted in get_or_at t.xs k (omega (arith, below, counted))

  record_of : (k : ℕ) (x : Interval) → slice_get t.xs k ≡ Some x → interval_record bytes k ≡ bytes_of x
  record_of k x e = subst (λ (b : List ℕ). interval_record b k ≡ bytes_of x) t.hold.revealed (t.hold.are.projection k x e)

  reads : (k : ℕ) (x : Interval) → slice_get t.xs k ≡ Some x → IsReadable x
  reads = (right_reads t.slots t.xs t.right).intervals

  small : (k : ℕ) (x : Interval) → slice_get t.xs k ≡ Some x → x.first < 4294967296
  small k x e = (reads k x e).1.first

  back : (k : ℕ) (x : Interval) → slice_get t.xs k ≡ Some x → interval_in (bytes_of x) ≡ x
  back k x e = (interval_reads_back x (reads k x e).1).0

  compares : (k asked : ℕ) (x : Interval) → slice_get t.xs k ≡ Some x → asked < root_pages → at_most (key_in bytes k) (to_be_bytes w32 asked) ≡ nat_le x.first asked
  compares k asked x e inside =
      ap (λ (l : List ℕ). at_most l (to_be_bytes w32 asked)) (sym (key_at_record bytes k) ∙ ap (take 4) (record_of k x e) ∙ key_bytes x) ∙ key_order x.first asked (small k x e) (omega (arith, inside))

  none_breaks : (page k : ℕ) → BreaksInterval count bytes page k → ⊥
  none_breaks page k breaks =
      let own = at k breaks.counted in
      true≢false (sym (ap is_interval_record (record_of k own.0 own.1) ∙ plain_record own.0 (reads k own.0 own.1).0 (back k own.0 own.1)) ∙ breaks.breaks)

  -- what stands at a handle is read
  none_breaks_slot : (page h : ℕ) → BreaksSlot bytes page h → ⊥
  none_breaks_slot page h breaks =
      let are : AreTables bytes t.slots t.xs = subst (λ (b : List ℕ). AreTables b t.slots t.xs) t.hold.revealed t.hold.are in
      let within = breaks.handle in
      let handles = are.handles in
      let read = slot_read bytes t.slots t.xs are (right_reads t.slots t.xs t.right) h (slot_record bytes h) within refl in
      let fails : ◌≡◌ {A = Option (Option Space)} (if is_slot_record (slot_record bytes h) then Some (slot_in h (slot_record bytes h)) else None) None =
      ap (λ (b : Bool). if b then Some (slot_in h (slot_record bytes h)) else None) breaks.breaks in
      there t.slots h (omega (arith, within, handles)) (sym fails ∙ read)

  none_misses : (page k asked : ℕ) → asked < root_pages → Misses count bytes page k asked → ⊥
  none_misses page k asked inside m =
      let own = at k m.counted in
      let x = own.0 in
      let from : x.first ≤ asked = leb-true x.first asked (sym (compares k asked x own.1 inside) ∙ m.begins) in
      let low : asked < end_of x = last_holds (listed t.slots) t.xs k asked x t.right.intervals inside own.1 from (λ j e.
      let within = slice_get_within t.xs (suc k) j e in
      let counted = t.counted in
      let next : suc k ≡ k + 1 = omega arith in
      let there : slice_get t.xs (k + 1) ≡ Some j = ap (slice_get t.xs) (sym next) ∙ e in
      below_so j.first asked (sym (compares (k + 1) asked j there inside) ∙ m.ends (omega (arith, within, counted)))) in
      let same : interval_in (interval_record bytes k) ≡ x = ap interval_in (record_of k x own.1) ∙ back k x own.1 in
      true≢false (sym (ap (has_page asked) same ∙ holds_so x asked from low) ∙ m.misses)

  begins_there : (page asked : ℕ) → asked < root_pages → 1 ≤ count → BeginsAfter bytes page asked → ⊥
  begins_there page asked inside some after =
      let own = at 0 some in
      let first : own.0.first ≡ 0 = (firsts_are_ascending (listed t.slots) t.xs t.right.intervals).begins own.0 own.1 in
      let none : nat_le own.0.first asked ≡ false = sym (compares 0 asked own.0 own.1 inside) ∙ after.after in
      let past = below_so own.0.first asked none in
      absurd (omega (arith, past, first))

  -- no page breaks its form for a look-up
  pub look_up_is_right : (page asked : ℕ) → asked < root_pages → 1 ≤ count → BreaksLookUp asked count bytes page → ⊥
  look_up_is_right page asked inside some breaks = elim breaks [
    | inl one ↦ none_breaks page one.0 one.1
    | inr (inl miss) ↦ none_misses page miss.0 asked inside miss.1
    | inr (inr after) ↦ begins_there page asked inside some after
  ]

  pub hierarchy_is_right : (page : ℕ) → BreaksHierarchy bytes page → ⊥
  hierarchy_is_right page breaks = none_breaks_slot page breaks.0 breaks.1

  pub form_is_right : (page : ℕ) → Breaks count bytes page → ⊥
  form_is_right page breaks = elim breaks [ inl own ↦ hierarchy_is_right page own | inr one ↦ none_breaks page one.0 one.1 ]

module _ {v : View} {kept : List Interval} {count : ℕ} {ss : List Space} (s : Sees v kept count ss) (some : 1 ≤ count) where
  pub table_is_right : (asked page : ℕ) → BreaksTables v count asked page → ⊥
  table_is_right asked page h = look_up_is_right s.tables page asked h.in_root some (h.breaks s.bytes s.revealed)

  pub reference_is_right : (address bytes page : ℕ) → BreaksFor v count address bytes page → ⊥
  reference_is_right address bytes page h = table_is_right h.asked page h.breaks

  pub range_is_right : (from to page : ℕ) → BreaksWithin v count from to page → ⊥
  range_is_right from to page h = table_is_right h.asked page h.breaks

-- the halt of a call that finds pages, where the tables are revealed, and no page of them breaks its form
module _ {v : View} {b : List ℕ} (revealed : TablesAre v b) where
  pub touch_never_blames : (breaks : ℕ → Type 0) → ((page : ℕ) → breaks page → ⊥) → (w : View) (e : Halt) → TouchHalts breaks v w e → NeverBlamesTables e
  touch_never_blames breaks none w Disk h = tt
  touch_never_blames breaks none w (Damaged (Mismatch sector wanted found)) h = tt
  touch_never_blames breaks none w (Damaged (Malformed structure page)) h = λ three. elim h [
    | inl map ↦ absurd (map_or_tables structure map.0 three)
    | inr table ↦ none page table.1
  ]
  touch_never_blames breaks none w (Damaged (Missing id page)) h = λ three. elim h.0 [
    | inl own ↦
        let at = revealed.page page own.1 in
        let nowhere : revealed.triples 3 page at.sector ≡ false = subst (λ (i : ℕ). revealed.triples i page at.sector ≡ false) three (h.1 revealed.memory revealed.triples revealed.stands revealed.map at.sector) in
        true≢false (sym at.found ∙ nowhere)
    | inr client ↦ absurd (omega (arith, client, three))
  ]

  pub never_blames_revealed : (breaks : ℕ → Type 0) → ((page : ℕ) → breaks page → ⊥) → (w : View) (e : Halt) → ReachHalts breaks v w e → NeverBlamesTables e
  never_blames_revealed breaks none w e h = touch_never_blames breaks none w e (touch_of_reach breaks v w e h)

-- by the look-up of a page, of those of a reference, or of a range
module _ {v : View} {kept : List Interval} {count : ℕ} {ss : List Space} (s : Sees v kept count ss) (some : 1 ≤ count) (w : View) (e : Halt) where
  pub table_never_blames : (asked : ℕ) → TouchHalts (BreaksTables v count asked) v w e → NeverBlamesTables e
  table_never_blames asked h = touch_never_blames s.revealed (BreaksTables v count asked) (table_is_right s some asked) w e h

  pub reference_never_blames : (address bytes : ℕ) → TouchHalts (BreaksFor v count address bytes) v w e → NeverBlamesTables e
  reference_never_blames address bytes h = touch_never_blames s.revealed (BreaksFor v count address bytes) (reference_is_right s some address bytes) w e h

  pub range_never_blames : (from to : ℕ) → TouchHalts (BreaksWithin v count from to) v w e → NeverBlamesTables e
  range_never_blames from to h = touch_never_blames s.revealed (BreaksWithin v count from to) (range_is_right s some from to) w e h

-- tables that are revealed stay so where pages of clients are touched
pub sees_touched : {v : View} {kept : List Interval} {count : ℕ} {ss : List Space} → Sees v kept count ss → (pages : Pages) (w : View) → Touches pages v w → Sees w kept count ss
sees_touched s pages w h = record { bytes = s.bytes; revealed = h.revealed s.bytes s.revealed; tables = s.tables; cached = s.cached }
